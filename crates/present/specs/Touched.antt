-- Whether an order of the journal is for the window of an id. Where none is, the window is as it was at the mark. Assumes nothing.
use Rattle.std.specs.Prelude.{ℕ, zero, suc, ◌+◌, ◌-◌, Bool, true, false, List, eqb, ltb}
use Rattle.wire.specs.Tests.{pick, both}
use Rattle.wire.specs.Numbers.{num_at}
use Rattle.order.specs.Flags.{is_window}
use Rattle.journal.specs.Limits.{journal_length}
use Rattle.journal.specs.Journal.{size_at, order_at}

-- an order for the window of an id, by its bytes
abbrev pub is_order_for : ℕ → List ℕ → Bool
is_order_for id s = both (is_window (num_at 4 s 3)) (eqb (num_at 4 s 7) id)

-- one of the next n orders from index p on is, or is cut
unfoldable pub touched_from : ℕ → ℕ → ℕ → List ℕ → Bool
touched_from id zero p journal = false
touched_from id (suc n) p journal =
    pick (ltb (journal_length - p) (size_at journal p)) true
    (pick (is_order_for id (order_at journal p)) true
    (touched_from id n (p + size_at journal p) journal))
