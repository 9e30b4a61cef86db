-- Numbers, bytes and zeros are laid one after the other: the picture in its fixed layout.
use Rattle.std.proofs.Common.{◌≡◌, arith, refl}
use Rattle.order.specs.Icons.{parts_of}
use Rattle.picture.specs.Pictures.{head_at}
use Rattle.picture.proofs.PicturesWays.{HeadRoom, head_part, head_room_at, shown}
use Rattle.picture.proofs.show.Goals as goal

pub overflow_sub-from : goal.overflow_sub-from
overflow_sub-from c =
    let head_is : c.icon_parts-parts.result ≡ parts_of (head_at c.args.heads.now c.args.p) 0 = head_part c.args.heads.now c.args.p c.icon_parts-parts.ensures in
    let room : HeadRoom c.icon_parts-parts.result = head_room_at c.args.heads.now c.args.p (head_is) c.requires.3 in
    (room).low

pub overflow_sub-n : goal.overflow_sub-n
overflow_sub-n c =
    let head_is : c.icon_parts-parts.result ≡ parts_of (head_at c.args.heads.now c.args.p) 0 = head_part c.args.heads.now c.args.p c.icon_parts-parts.ensures in
    let room : HeadRoom c.icon_parts-parts.result = head_room_at c.args.heads.now c.args.p (head_is) c.requires.3 in
    (room).ends

pub copy_part-requires : goal.copy_part-requires
copy_part-requires c =
    let head_is : c.icon_parts-parts.result ≡ parts_of (head_at c.args.heads.now c.args.p) 0 = head_part c.args.heads.now c.args.p c.icon_parts-parts.ensures in
    let room : HeadRoom c.icon_parts-parts.result = head_room_at c.args.heads.now c.args.p (head_is) c.requires.3 in
    let r = room in
    (omega (arith, r.low, r.high, c.requires.0), omega (arith, r.low, r.high, c.requires.1))

pub read-requires : goal.read-requires
read-requires c =
    let head_is : c.icon_parts-parts.result ≡ parts_of (head_at c.args.heads.now c.args.p) 0 = head_part c.args.heads.now c.args.p c.icon_parts-parts.ensures in
    let room : HeadRoom c.icon_parts-parts.result = head_room_at c.args.heads.now c.args.p (head_is) c.requires.3 in
    let r = room in
    (omega (arith, r.low, r.high, r.few, c.requires.0, c.copy_part.auto.dst), r.few)

pub overflow_sub-done : goal.overflow_sub-done
overflow_sub-done c =
    let head_is : c.icon_parts-parts.result ≡ parts_of (head_at c.args.heads.now c.args.p) 0 = head_part c.args.heads.now c.args.p c.icon_parts-parts.ensures in
    let room : HeadRoom c.icon_parts-parts.result = head_room_at c.args.heads.now c.args.p (head_is) c.requires.3 in
    let r = room in
    omega (arith, r.low, r.high, r.few)

pub clear-requires : goal.clear-requires
clear-requires c =
    let head_is : c.icon_parts-parts.result ≡ parts_of (head_at c.args.heads.now c.args.p) 0 = head_part c.args.heads.now c.args.p c.icon_parts-parts.ensures in
    let room : HeadRoom c.icon_parts-parts.result = head_room_at c.args.heads.now c.args.p (head_is) c.requires.3 in
    let r = room in
    omega (arith, r.low, r.high, r.few, c.requires.0, c.read.auto.out, c.copy_part.auto.dst)

pub returns : goal.returns
returns c =
    let head_is : c.icon_parts-parts.result ≡ parts_of (head_at c.args.heads.now c.args.p) 0 = head_part c.args.heads.now c.args.p c.icon_parts-parts.ensures in
    let a = c.args in
    shown a.heads.now _ a.p (head_is) c.requires.3 c.requires.2 c.requires.1 a.out.now refl refl c.requires.0 c.copy_part.ensures c.read.ensures c.clear.ensures
