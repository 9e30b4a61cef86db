use Rattle.std.proofs.Common.{◌*◌, ◌≡◌, ◌≤◌, length}
use Rattle.area.specs.Area.{sum_below, one}
use Rattle.area.specs.Cutting.{most_points}
use Rattle.figure.specs.Figure.{shown_at, pixels_at}
use Rattle.figure.specs.Kept.{pixels_kept}
use Rattle.figure.proofs.keep.Given as goal

abbrev pub invariant-loop-i : goal.invariant-loop-i
invariant-loop-i l = (l.windows ≤ l.i) × (l.pixels ≤ most_points * l.i) × (l.windows ≡ sum_below l.i (λ k. one (shown_at l.initial.index l.bodies k))) × (l.pixels ≡ sum_below l.i (pixels_at l.initial.index l.bodies))
    × (l.index ≡ pixels_kept l.i l.initial.index l.bodies) × (length l.index ≡ length l.initial.index)
