-- What the private functions answer: an order judged on its bytes, then on the index d of the present table and the extent w of the
-- journal. Assumes nothing.
use Rattle.std.specs.Prelude.{ℕ, ◌≤◌, ◌≡◌, true, List, eqb, Ok, Err}
use Rattle.wire.specs.Tests.{pick}
use Rattle.protocol.specs.Refusals.{number_of}
use Rattle.order.specs.Judge.{Judged, judge_of}
use Rattle.slots.specs.Sound.{sound_index}
use Rattle.index.specs.Plans.{plan_of, plan_number}
use Rattle.journal.specs.declared.JournalExtent.{JournalExtent}
use Rattle.journal.specs.Limits.{most_orders, log_start, journal_length}
use Rattle.session.specs.Delivery.{number_on}
use Rattle.explain.specs.declared.Explanation.{Explanation}

-- what a validation established
pub record Judgeable (d : List ℕ) (w : JournalExtent) : Type 0 where
  pub sound : sound_index d ≡ true
  pub few : w.count ≤ most_orders
  pub low : log_start ≤ w.end
  pub high : w.end ≤ journal_length

abbrev pub explanation : ℕ → ℕ → Explanation
explanation number at = record { number = number; at = at }

-- of an order that passes 2 to 8
unfoldable pub on_table : List ℕ → List ℕ → JournalExtent → Explanation
on_table d s w = explanation (number_on d w s) (pick (eqb (number_on d w s) 0) 0 7)

abbrev pub by_judged : Judged → Explanation → Explanation
by_judged (Ok o) e = e
by_judged (Err f) e = explanation (number_of f.refusal) f.at

unfoldable pub on_state : List ℕ → List ℕ → JournalExtent → Explanation
on_state d s w = by_judged (judge_of s) (on_table d s w)
