use Rattle.std.proofs.Common.{◌+◌, ◌-◌, ◌≡◌, ◌≤◌}
use Rattle.slots.specs.Sound.{each_from, slot_ok, Seen}
use Rattle.slots.proofs.sound.slots_ok.Given as goal

abbrev pub invariant-loop-i : goal.invariant-loop-i
invariant-loop-i l = (l.first ≤ l.i) × Seen l.seen l.index l.first l.i × (each_from l.count l.first (slot_ok l.index l.first l.count l.top) ≡ each_from (l.first + l.count - l.i) l.i (slot_ok l.index l.first l.count l.top))
