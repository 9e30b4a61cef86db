use Rattle.record.proofs.Writing.{Tabled}
use Rattle.record.proofs.write_table.Given as goal

-- the entries before i are written, and what is left completes the table
abbrev pub invariant-loop-i : goal.invariant-loop-i
invariant-loop-i l = Tabled l.journal l.count l.initial.out l.out l.p l.offset l.i
