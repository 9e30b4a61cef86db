use Rattle.std.proofs.Common.{◌-◌, ◌≡◌, length}
use Rattle.places.specs.Held.{HeldBelow}
use Rattle.slots.specs.Families.{index_length}
use Rattle.journal.specs.View.{memory, InEachStore}
use Rattle.update.proofs.Courses.{Going}
use Rattle.update_call.proofs.update.Given as goal

-- in each store that lends so many places
abbrev pub invariant-loop-n : goal.invariant-loop-n
invariant-loop-n l = (length l.journal ≡ length l.initial.journal) × InEachStore l.lent (λ store. Going (memory l.index l.bodies store l.initial.journal) l.limit l.s l.w l.n l.at l.d l.journal) × (length l.d ≡ index_length) × HeldBelow l.d l.held

abbrev pub decreases-loop-n : goal.decreases-loop-n
decreases-loop-n l = length l.s - l.at
