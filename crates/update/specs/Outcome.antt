-- What the call of a whole update states: its report, what the memory then describes, and each byte of it. Assumes nothing.
use Rattle.std.specs.Prelude.{ℕ, ◌+◌, ◌≡◌, List, [], ◌∷◌, length}
use Rattle.wire.specs.Numbers.{bytes_of}
use Rattle.wire.specs.Parts.{splice}
use Rattle.journal.specs.Limits.{log_start}
use Rattle.journal.specs.State.{bytes_in}
use Rattle.journal.specs.Journal.{count_of, end_from}
use Rattle.journal.specs.View.{Memory, memory, Past, View, short, unformed, formed, view_of}
use Rattle.update.specs.declared.Report.{Report}
use Rattle.update.specs.Update.{Course, orders_of, deliver_all}

-- the last number, the orders granted by this call and their bytes, and the orders that then stand after the mark and theirs
unfoldable pub report_of : Course → Report
report_of c =
    record {
      number = c.number;
      orders = length c.granted;
      granted = bytes_in c.granted;
      count = length c.state.log;
      bytes = bytes_in c.state.log;
    }

-- 1, and nothing is said of orders
abbrev pub unfit : Report
unfit = record { number = 1; orders = 0; granted = 0; count = 0; bytes = 0 }

-- ---- on any memory: 1 where it is too short or not well formed

unfoldable pub report_on : ℕ → List ℕ → View → Report
report_on limit s short = unfit
report_on limit s unformed = unfit
report_on limit s (formed st) = report_of (deliver_all limit (orders_of s) st)

unfoldable pub next_on : ℕ → List ℕ → View → View
next_on limit s short = short
next_on limit s unformed = unformed
next_on limit s (formed st) = formed (deliver_all limit (orders_of s) st).state

unfoldable pub granted_on : ℕ → List ℕ → View → List (List ℕ)
granted_on limit s short = []
granted_on limit s unformed = []
granted_on limit s (formed st) = (deliver_all limit (orders_of s) st).granted

-- ---- the bytes of a journal with orders more at its end

abbrev pub with_order : List ℕ → List ℕ → List ℕ
with_order j o = splice (splice j (end_from (count_of j) log_start j) o) 0 (bytes_of 2 (count_of j + 1))

unfoldable pub with_orders : List ℕ → List (List ℕ) → List ℕ
with_orders j [] = j
with_orders j (o ∷ os) = with_orders (with_order j o) os

-- m' is m but for the granted orders in the journal: the refused one changes no byte, nor do unfit memory, limit 0 and no bytes
pub record UpdateOutcome (limit : ℕ) (s : List ℕ) (m : Memory) (r : Report) (m' : Memory) : Type 0 where
  pub says : r ≡ report_on limit s (view_of m)
  pub holds : view_of m' ≡ next_on limit s (view_of m)
  pub bytes : m' ≡ memory m.index m.bodies m.store (with_orders m.journal (granted_on limit s (view_of m)))
  pub past : Past m m'
