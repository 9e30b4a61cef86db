-- The table that a memory describes: its index, the bodies of 48 records and of the desktop state (slot 48) with the heads of the
-- pictures behind them, and the store of pictures; and the rule that it describes one. Assumes nothing.
use Rattle.std.specs.Prelude.{ℕ, ◌+◌, ◌-◌, Bool, true, false, not, List, [], eqb, ltb, length, get_or, drop}
use Rattle.std.proofs.Math.Option.{Option}
use Rattle.wire.specs.Tests.{pick, both}
use Rattle.wire.specs.Numbers.{num_at}
use Rattle.rows.specs.declared.Row.{Row}
use Rattle.places.specs.declared.Family.{Family}
use Rattle.places.specs.declared.Family.TheVariants.{Windows, Notifications}
use Rattle.places.specs.Sizes.{holder_count, most_places}
use Rattle.places.specs.Counts.{each_below, on_found}
use Rattle.places.specs.Memory.{places_of, pointer_at, shown}
use Rattle.places.specs.Holder.{Holder, number_of}
use Rattle.slots.specs.Families.{start, capacity}
use Rattle.slots.specs.Slots as slots
use Rattle.slots.specs.Sound.{each_from, sound_index}
use Rattle.index.specs.Memory.{index_of}
use Rattle.body.specs.Bodies.{desktop_fields, slot_of, fields_of, body_of, body_ok}
use Rattle.picture.specs.Pictures.{picture_at, head_ok}
use Rattle.table.specs.Table.{Table, field_rows}

-- the slots of the bodies end where the heads begin
abbrev pub heads_start : ℕ
heads_start = 60116

-- 64 heads of 14 bytes
abbrev pub bodies_length : ℕ
bodies_length = 61012

unfoldable pub heads_of : List ℕ → List ℕ
heads_of bodies = drop heads_start bodies

-- emptying fixes the number of places: those lent, at most 64
abbrev pub fixed_by : ℕ → ℕ
fixed_by lent = pick (ltb most_places lent) most_places lent

-- ---- the table

abbrev pub fields_in : List ℕ → List ℕ → Family → ℕ → ℕ → List (List ℕ)
fields_in index bodies f a b = on_found (slots.slot_of index f a b) [] (λ i. fields_of (field_rows f) 2 (slot_of bodies i))

-- what a holder shows, by the pictures at the places
abbrev pub shown_in : List ℕ → (ℕ → List ℕ) → Holder → Option (List ℕ)
shown_in index pictures h = shown index pictures (number_of (slots.slot_of index) h)

unfoldable pub decode : List ℕ → List ℕ → List (List ℕ) → Table
decode index bodies store =
    record {
      index = index_of index;
      fields = fields_in index bodies;
      shown = shown_in index (picture_at (heads_of bodies) store);
      desktop = body_of desktop_fields (slot_of bodies 48);
    }

-- ---- the rule

-- slot i is free or its body is in its sets; its two marks are unused
unfoldable pub record_ok : List Row → List ℕ → List ℕ → ℕ → Bool
record_ok rows index bodies i = pick (not (slots.is_used index i)) true (body_ok rows 0 0 (slot_of bodies i))

abbrev pub records_ok : Family → List ℕ → List ℕ → Bool
records_ok f index bodies = each_from (capacity f) (start f) (record_ok (field_rows f) index bodies)

-- the head of the place that holder h points at is in its sets
unfoldable pub holder_ok : List ℕ → List ℕ → ℕ → Bool
holder_ok index bodies h = pick (eqb (pointer_at index h) 0) true (head_ok (heads_of bodies) (pointer_at index h - 1))

-- so many places are lent
unfoldable pub sound_table : List ℕ → List ℕ → ℕ → Bool
sound_table index bodies lent =
    pick (ltb (length bodies) bodies_length) false
    (pick (not (sound_index index)) false
    (pick (ltb lent (places_of index)) false
    (pick (not (records_ok Windows index bodies)) false
    (pick (not (records_ok Notifications index bodies)) false
    (pick (not (body_ok desktop_fields 1 1 (slot_of bodies 48))) false
    (each_below holder_count (holder_ok index bodies)))))))

-- ---- for the contracts

-- the head of place p is in its sets, where the pointer at it has a mark
unfoldable pub marked_ok : List ℕ → List ℕ → ℕ → Bool
marked_ok marks bodies p = pick (eqb (get_or marks (p + 1) 0) 0) true (head_ok (heads_of bodies) p)

-- places whose heads are tested together
abbrev pub group_size : ℕ
group_size = 8

-- the marks of a group are all 0, four at a time
abbrev pub unmarked : List ℕ → Bool
unmarked s = both (eqb (num_at 4 s 0) 0) (eqb (num_at 4 s 4) 0)
