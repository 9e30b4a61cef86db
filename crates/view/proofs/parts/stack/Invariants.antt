use Rattle.std.proofs.Common.{◌+◌, ◌-◌, ◌≡◌, ◌≤◌}
use Rattle.wire.specs.Parts.{padded}
use Rattle.view.specs.Views.{window_id, each_of}
use Rattle.view.proofs.parts.stack.Given as goal

-- After i turns the first i ids stand before ids of 0.
abbrev pub invariant-loop-i : goal.invariant-loop-i
invariant-loop-i l = (l.i ≤ l.n) × (l.n ≤ 64) × (l.ids ≡ padded (window_id 0) 64 (each_of window_id 4 l.i l.s (l.at + 1)))

abbrev pub decreases-loop-i : goal.decreases-loop-i
decreases-loop-i l = l.n - l.i
