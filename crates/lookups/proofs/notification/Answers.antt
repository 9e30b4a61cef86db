-- The record at the start, its picture behind it, then its second mark.
use Rattle.std.proofs.Common.{arith}
use Rattle.wire.specs.Parts.{slice}
use Rattle.store.specs.Store.{five}
use Rattle.session.specs.Handing.{HandsOut}
use Rattle.session.specs.declared.LookupTarget.TheVariants.{Notification}
use Rattle.session.proofs.Handed.{notification_size_lem, notification_asks, notification_icon, notification_ready, notification_handed}
use Rattle.lookups.proofs.notification.Goals as goal

pub icon_number-own-requires : goal.icon_number-own-requires
unfolding slice
icon_number-own-requires c =
    let Hands : Type 0 = HandsOut (Notification c.args.w c.args.n) c.args.x.now c.args.bodies.now
    (five c.args.a.now c.args.b.now c.args.c.now c.args.d.now c.args.e.now) c.args.journal.now c.args.m.now c.args.out.now in
    let hands : Hands = c.requires in
    ((hands).long, omega arith)

pub slice_bounds-origins-start : goal.slice_bounds-origins-start
unfolding slice
slice_bounds-origins-start c =
    let Hands : Type 0 = HandsOut (Notification c.args.w c.args.n) c.args.x.now c.args.bodies.now
    (five c.args.a.now c.args.b.now c.args.c.now c.args.d.now c.args.e.now) c.args.journal.now c.args.m.now c.args.out.now in
    let hands : Hands = c.requires in
    omega (arith, notification_size_lem (hands))

pub slice_bounds-origins-end : goal.slice_bounds-origins-end
unfolding slice
slice_bounds-origins-end c =
    let Hands : Type 0 = HandsOut (Notification c.args.w c.args.n) c.args.x.now c.args.bodies.now
    (five c.args.a.now c.args.b.now c.args.c.now c.args.d.now c.args.e.now) c.args.journal.now c.args.m.now c.args.out.now in
    let hands : Hands = c.requires in
    omega (arith, notification_size_lem (hands))

pub slice_bounds-record-start : goal.slice_bounds-record-start
unfolding slice
slice_bounds-record-start c =
    let Hands : Type 0 = HandsOut (Notification c.args.w c.args.n) c.args.x.now c.args.bodies.now
    (five c.args.a.now c.args.b.now c.args.c.now c.args.d.now c.args.e.now) c.args.journal.now c.args.m.now c.args.out.now in
    let hands : Hands = c.requires in
    omega (arith, notification_size_lem (hands))

pub slice_bounds-record-end : goal.slice_bounds-record-end
unfolding slice
slice_bounds-record-end c =
    let Hands : Type 0 = HandsOut (Notification c.args.w c.args.n) c.args.x.now c.args.bodies.now
    (five c.args.a.now c.args.b.now c.args.c.now c.args.d.now c.args.e.now) c.args.journal.now c.args.m.now c.args.out.now in
    let hands : Hands = c.requires in
    omega (arith, notification_size_lem (hands))

pub record-requires : goal.record-requires
unfolding slice
record-requires c =
    let Hands : Type 0 = HandsOut (Notification c.args.w c.args.n) c.args.x.now c.args.bodies.now
    (five c.args.a.now c.args.b.now c.args.c.now c.args.d.now c.args.e.now) c.args.journal.now c.args.m.now c.args.out.now in
    let hands : Hands = c.requires in
    let all = notification_asks (hands) in
    record { low_le_high = all.0; slot_value = all.1 }

pub picture-requires : goal.picture-requires
unfolding slice
picture-requires c =
    let Hands : Type 0 = HandsOut (Notification c.args.w c.args.n) c.args.x.now c.args.bodies.now
    (five c.args.a.now c.args.b.now c.args.c.now c.args.d.now c.args.e.now) c.args.journal.now c.args.m.now c.args.out.now in
    let hands : Hands = c.requires in
    let h = hands in
    record {
      picture_size_in_bounds = (omega (arith, h.room, c.«record».auto.out), omega (arith, h.room, c.«record».auto.out), notification_icon h c.icon_number-own.ensures);
      ready = notification_ready h;
    }

pub write_u8-requires : goal.write_u8-requires
unfolding slice
write_u8-requires c =
    let Hands : Type 0 = HandsOut (Notification c.args.w c.args.n) c.args.x.now c.args.bodies.now
    (five c.args.a.now c.args.b.now c.args.c.now c.args.d.now c.args.e.now) c.args.journal.now c.args.m.now c.args.out.now in
    let hands : Hands = c.requires in
    omega (arith, (hands).room, c.«record».auto.out, c.picture.auto.out)

pub shape_of-out : goal.shape_of-out
unfolding slice
shape_of-out c = omega (arith, c.«record».auto.out, c.picture.auto.out, c.write_u8.auto.out)

pub returns : goal.returns
unfolding slice
returns c =
    let Hands : Type 0 = HandsOut (Notification c.args.w c.args.n) c.args.x.now c.args.bodies.now
    (five c.args.a.now c.args.b.now c.args.c.now c.args.d.now c.args.e.now) c.args.journal.now c.args.m.now c.args.out.now in
    let hands : Hands = c.requires in
    notification_handed (hands) c.icon_number-own.ensures c.«record».ensures c.picture.ensures c.write_u8.ensures
