-- A memory of the size of what is followed.
use Rattle.std.proofs.Common.{ℕ, arith, length-drop, length-take}
use lib.ListN.{length-replicate}
use Rattle.session.proofs.Targets.{room_most}
use Rattle.lookups.proofs.look.Goals as goal

pub slice_bounds-m-end : goal.slice_bounds-m-end
slice_bounds-m-end c = omega (arith, c.room_of-room.ensures, room_most c.want_of-want.result, length-replicate {A = ℕ} 1520 0)

pub look_in-requires : goal.look_in-requires
look_in-requires c =
    (c.want_of-want.ensures, simp (length-take, length-drop) (omega (arith, c.room_of-room.ensures, room_most c.want_of-want.result, length-replicate {A = ℕ} 1520 0)))

pub returns : goal.returns
returns c = c.look_in.ensures
