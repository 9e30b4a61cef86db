use Rattle.std.proofs.Common.{◌*◌, ◌-◌, ◌≡◌, ◌≤◌}
use Rattle.area.specs.Area.{sum_below}
use Rattle.area.specs.Cutting.{most_points}
use Rattle.figure.specs.Figure.{pixels_of}
use Rattle.present.specs.PresentFigure.{held_at, shown_one}
use Rattle.present_count.proofs.count_held.Given as goal

abbrev pub invariant-loop-i : goal.invariant-loop-i
invariant-loop-i l = (l.i ≤ 32) × (l.windows ≤ l.i) × (l.pixels ≤ most_points * l.i) × (l.windows ≡ sum_below l.i (held_at shown_one l.x l.index l.bodies l.journal l.count))
    × (l.pixels ≡ sum_below l.i (held_at pixels_of l.x l.index l.bodies l.journal l.count))

abbrev pub decreases-loop-i : goal.decreases-loop-i
decreases-loop-i l = 32 - l.i
