use Rattle.std.proofs.Common.{◌-◌, ◌≡◌, length}
use Rattle.store.specs.Store.{places_in, five}
use Rattle.journal.specs.View.{memory}
use Rattle.run.proofs.RunLoop.{Ran}
use Rattle.run.proofs.run_on.Given as goal

abbrev pub invariant-loop-ended : goal.invariant-loop-ended
invariant-loop-ended l = (length l.index ≡ length l.initial.index) × (length l.bodies ≡ length l.initial.bodies) × (length l.a ≡ length l.initial.a) × (length l.b ≡ length l.initial.b) × (length l.c ≡ length l.initial.c) × (length l.d ≡ length l.initial.d) × (length l.e ≡ length l.initial.e) × (length l.journal ≡ length l.initial.journal) × Ran (places_in (five l.initial.a l.initial.b l.initial.c l.initial.d l.initial.e)) l.script l.initial.out (memory l.initial.index l.initial.bodies (five l.initial.a l.initial.b l.initial.c l.initial.d l.initial.e) l.initial.journal) l.at l.to l.n l.ended (memory l.index l.bodies (five l.a l.b l.c l.d l.e) l.journal) l.out

abbrev pub decreases-loop-ended : goal.decreases-loop-ended
decreases-loop-ended l = length l.script - l.at
