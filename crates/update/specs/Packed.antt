-- A report as one number for C, or as two halves of 4 bytes in a block of `run`. Assumes nothing.
use Rattle.std.specs.Prelude.{ℕ, ◌+◌, ◌*◌, ◌/◌, ◌%◌, ◌≤◌, ◌<◌, ◌≡◌, List}
use Rattle.journal.specs.Limits.{most_orders, most_bytes}
use Rattle.journal.specs.View.{Memory, view_of}
use Rattle.session.specs.Packed.{packed_of}
use Rattle.update.specs.declared.Report.{Report}
use Rattle.update.specs.Outcome.{report_on}

-- as the reply of a single call is packed: the last number, and the count and the bytes that stand
abbrev pub standing_half : Report → ℕ
standing_half r = packed_of (record { number = r.number; count = r.count; bytes = r.bytes })

-- the orders granted, and 65,536 times their bytes
abbrev pub granted_half : Report → ℕ
granted_half r = r.orders % 65536 + 65536 * (r.granted % 65536)

unfoldable pub packed_report : Report → ℕ
packed_report r = standing_half r + 4294967296 * granted_half r

-- no value passes its place, whatever the memory, the limit and the bytes: no more is granted than stands
pub record Fits (r : Report) : Type 0 where
  pub count : r.count ≤ most_orders
  pub bytes : r.bytes ≤ most_bytes
  pub orders : r.orders ≤ r.count
  pub granted : r.granted ≤ r.bytes

unfoldable pub ReportsFit : Type 0
ReportsFit = (limit : ℕ) (s : List ℕ) (m : Memory) → Fits (report_on limit s (view_of m))

-- so a caller takes it apart again
pub record ReportUnpacked (r : Report) : Type 0 where
  pub number : packed_report r % 256 ≡ r.number
  pub count : packed_report r / 256 % 256 ≡ r.count
  pub bytes : packed_report r / 65536 % 65536 ≡ r.bytes
  pub orders : packed_report r / 4294967296 % 65536 ≡ r.orders
  pub granted : packed_report r / 281474976710656 ≡ r.granted

unfoldable pub ReportUnpacks : Type 0
ReportUnpacks = (r : Report) → r.number < 256 → Fits r → ReportUnpacked r
