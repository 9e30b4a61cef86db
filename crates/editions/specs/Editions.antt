-- Document 01's rules before request No. 12: on an order's bytes the same ladder with an earlier closed list of window bits, and the
-- rows of the table that this list has; on an index the same tests for records with two icons at most. Assumes nothing.
use Rattle.std.specs.Prelude.{ℕ, ◌≤◌, ◌≡◌, true, false, List, [], ◌∷◌}
use Rattle.wire.specs.Tests.{pick, both, has}
use Rattle.rows.specs.declared.Row.{Row}
use Rattle.rows.specs.declared.Fit.{Fit}
use Rattle.rows.specs.Rows.{window_rows, notification_rows, desktop_rows, walk_of}
use Rattle.order.specs.Flags.{is_window, is_notification, in_list, closed_in}
use Rattle.order.specs.Judge.{Judged, number_of, flags_of, judge_by, judge_of}
use Rattle.protocol.specs.Flags.{flag_big_icon}
use Rattle.places.specs.declared.Family.{Family}
use Rattle.places.specs.Sharing.{full}
use Rattle.places.specs.Holder.{Holder, cell, icon, same_holder}
use Rattle.index.specs.declared.RecordOrder.{RecordOrder}
use Rattle.index.specs.Orders.{on_judged, brings_icon, cell_at, sent_once}
use Rattle.index.specs.Index.{Index, not_there, no_room, no_picture, number_in}
use Rattle.body.specs.Bodies.{window_fields, first, rest, set_flagged, empty_fields}

-- the earlier closed list, and the bits that request No. 12 adds to it
abbrev pub earlier_flags : ℕ
earlier_flags = 0xF107FF1E

abbrev pub newer_flags : ℕ
newer_flags = 0x08F800C1

-- the rows whose flag is in a list
unfoldable pub rows_in : ℕ → List Row → List Row
rows_in list [] = []
rows_in list (r ∷ rs) = pick (in_list r.flag list) (r ∷ rows_in list rs) (rows_in list rs)

unfoldable pub earlier_fit : ℕ → List ℕ → Fit
earlier_fit flags s =
    walk_of (pick (is_window flags) (rows_in earlier_flags window_rows) (pick (is_notification flags) notification_rows desktop_rows)) flags s 7 0

unfoldable pub earlier_judge : List ℕ → Judged
earlier_judge s = judge_by (closed_in earlier_flags) earlier_fit s

-- of a window's fields, those whose rows are in a list
unfoldable pub fields_within : ℕ → List Row → List (List ℕ) → List (List ℕ)
fields_within list [] fields = []
fields_within list (r ∷ rs) fields =
    pick (in_list r.flag list) (first fields ∷ fields_within list rs (rest fields)) (fields_within list rs (rest fields))

abbrev pub earlier_fields : List (List ℕ) → List (List ℕ)
earlier_fields fields = fields_within earlier_flags window_fields fields

-- ---- on an index

-- a window's big icon, or else its small or only one: there was no third
abbrev pub earlier_pointer : RecordOrder → Holder
earlier_pointer o = icon o.family o.window.id o.notify.id (pick (has o.flags flag_big_icon) 1 0)

abbrev pub earlier_holders : List ℕ → RecordOrder → List Holder
earlier_holders s o = pick (sent_once s o.icon) (earlier_pointer o ∷ []) (cell (cell_at s o.icon) ∷ earlier_pointer o ∷ [])

-- 9, 10 and 11 are tested as they are; 17 by those holders
unfoldable pub earlier_record_number : Index → List ℕ → RecordOrder → ℕ
earlier_record_number d s o =
    pick (not_there d o) 9
    (pick (no_room d o) 10
    (pick (no_picture d s o) 11
    (pick (both (brings_icon o.flags) (full same_holder (earlier_holders s o) d.sharing)) 17
    0)))

unfoldable pub earlier_number_in : Index → List ℕ → ℕ
earlier_number_in d s = on_judged (earlier_judge s) (earlier_record_number d s) (λ flags. 0) (λ number. number)

-- two indexes that differ in who holds places alone, as one with overlay icons does from one without
pub record SameRecords (d e : Index) : Type 0 where
  pub listed : (f : Family) (a b : ℕ) → d.listed f a b ≡ e.listed f a b
  pub many : (f : Family) → d.many f ≡ e.many f
  pub cells : (c : ℕ) → d.sharing.shares (cell c) (cell c) ≡ e.sharing.shares (cell c) (cell c)

-- ---- the claim

-- an order that has none of the newer bits, or is no window's
abbrev pub Unchanged : List ℕ → Type 0
Unchanged s = both (is_window (flags_of s)) (has (flags_of s) newer_flags) ≡ false

-- a window order with a newer bit met 5 at the latest; every other order is judged as it was, whole: its number and the offset at
-- fault, or its ids, its flags and where its icon begins. What flags without a newer bit make of a window's fields is, of the earlier
-- fields, what they made of them; and a new window's are empty as they were. On one index such an order gets the number that it got,
-- 9, 10, 11 and 17 among them; where overlay icons hold places besides, every number but 17
pub record EditionsAgree : Type 0 where
  pub refused : (s : List ℕ) → is_window (flags_of s) ≡ true → has (flags_of s) newer_flags ≡ true → (2 ≤ number_of (earlier_judge s)) × (number_of (earlier_judge s) ≤ 5)
  pub same : (s : List ℕ) → Unchanged s → earlier_judge s ≡ judge_of s
  pub fields : (flags : ℕ) (s : List ℕ) (at : ℕ) (old : List (List ℕ)) → has flags newer_flags ≡ false
      → earlier_fields (set_flagged window_fields flags s at old) ≡ set_flagged (rows_in earlier_flags window_fields) flags s at (earlier_fields old)
  pub empty : earlier_fields (empty_fields window_fields) ≡ empty_fields (rows_in earlier_flags window_fields)
  pub number : (d : Index) (s : List ℕ) → Unchanged s → earlier_number_in d s ≡ number_in d s
  pub other : (d e : Index) (s : List ℕ) → Unchanged s → SameRecords d e → (earlier_number_in e s ≡ 17 → ⊥) → (number_in d s ≡ 17 → ⊥) → earlier_number_in e s ≡ number_in d s
