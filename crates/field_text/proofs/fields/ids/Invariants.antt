use Rattle.std.proofs.Common.{◌-◌, ◌≡◌, ◌≤◌, length}
use Rattle.print.specs.Laid.{Laid}
use Rattle.field_text.specs.Fields.{ids_text}
use Rattle.field_text.proofs.fields.ids.Given as goal

abbrev pub invariant-loop-i : goal.invariant-loop-i
invariant-loop-i l = Laid l.initial.out l.at (ids_text l.list l.i) l.out l.n × (l.i ≤ l.k) × (length l.out ≡ length l.initial.out)

abbrev pub decreases-loop-i : goal.decreases-loop-i
decreases-loop-i l = l.k - l.i
