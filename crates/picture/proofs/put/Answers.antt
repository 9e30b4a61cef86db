-- The numbers are copied into the head and the rest of the order into the place.
use Rattle.std.proofs.Common.{arith, length-drop, length-take}
use Rattle.picture.proofs.PicturesWays.{parts_room, head_put, bytes_put}
use Rattle.picture.proofs.put.Goals as goal

pub overflow_sub-mask : goal.overflow_sub-mask
overflow_sub-mask c = (parts_room _ _ c.icon_parts-parts.ensures c.requires.2 c.requires.3).low

pub copy_part-requires : goal.copy_part-requires
copy_part-requires c =
    let r = parts_room _ _ c.icon_parts-parts.ensures c.requires.2 c.requires.3 in
    (omega (arith, r.low, r.high, c.requires.0), omega (arith, r.low, r.within))

pub slice_bounds-put-count : goal.slice_bounds-put-count
slice_bounds-put-count c = (parts_room _ _ c.icon_parts-parts.ensures c.requires.2 c.requires.3).within

pub slice_bounds-put-start : goal.slice_bounds-put-start
slice_bounds-put-start c = (parts_room _ _ c.icon_parts-parts.ensures c.requires.2 c.requires.3).within

pub put-requires : goal.put-requires
put-requires c =
    let r = parts_room _ _ c.icon_parts-parts.ensures c.requires.2 c.requires.3 in
    simp (length-take, length-drop) (omega arith)

pub returns : goal.returns
returns c =
    let a = c.args in
    let e = c.icon_parts-parts.ensures in
    let r = parts_room a.s.now a.icon e c.requires.2 c.requires.3 in
    record {
      heads_after = head_put a.s.now a.icon a.p e a.heads.now c.copy_part.ensures;
      e_after = bytes_put a.s.now a.icon a.p e _ r.within c.put.ensures;
    }
