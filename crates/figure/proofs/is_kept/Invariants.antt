use Rattle.std.proofs.Common.{◌*◌, ◌≡◌, ◌≤◌, true}
use lib.Dec.{eqb}
use Rattle.places.specs.Counts.{each_below}
use Rattle.area.specs.Area.{sum_below, one}
use Rattle.area.specs.Cutting.{most_points}
use Rattle.figure.specs.Figure.{shown_at, pixels_at}
use Rattle.figure.specs.Kept.{kept_pixels}
use Rattle.figure.proofs.is_kept.Given as goal

abbrev pub invariant-loop-i : goal.invariant-loop-i
invariant-loop-i l = (l.windows ≤ l.i) × (l.pixels ≤ most_points * l.i) × (l.windows ≡ sum_below l.i (λ k. one (shown_at l.index l.bodies k))) × (l.pixels ≡ sum_below l.i (pixels_at l.index l.bodies))
    × (each_below l.i (λ k. eqb (kept_pixels l.index k) (pixels_at l.index l.bodies k)) ≡ true)
