use Rattle.places.specs.Memory.{pointer_at}
use Rattle.places.specs.Marks.{Most}
use Rattle.places_valid.proofs.most.Given as goal

abbrev pub invariant-loop-h : goal.invariant-loop-h
invariant-loop-h l = Most (pointer_at l.bytes) l.h l.m
