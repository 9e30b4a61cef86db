-- The conditions of the numbers that an order can meet, each by itself, in the order in which they are given. Assumes nothing.
use Rattle.std.specs.Prelude.{ℕ, ◌≡◌, Bool, true, false, not, List, [], ◌∷◌, eqb, ltb, length}
use Rattle.wire.specs.Tests.{pick, both, either}
use Rattle.wire.specs.Numbers.{num_at, Bytes}
use Rattle.order.specs.Flags.{is_window, is_notification, one_type, closed, clash}
use Rattle.order.specs.Judge.{flags_of}
use Rattle.places.specs.declared.Family.TheVariants.{Windows, Notifications}
use Rattle.index.specs.declared.RecordOrder.{RecordOrder}
use Rattle.index.specs.Index.{Index, not_there, no_room, no_picture, no_place}
use Rattle.journal.specs.State.{present}
use Rattle.journal.specs.View.{Memory, meets_rule, state_of}
use Rattle.session.specs.Calls.{over_full}
use Rattle.explain.specs.Fields.{fields_of, icon_at, end_of, all_fit, all_in}
use Rattle.explain.specs.Explain.{explain}

-- ---- of the bytes

-- 2: fewer than 7 bytes
abbrev pub too_few : List ℕ → Bool
too_few s = ltb (length s) 7

-- 3: OrderSize is not the number of bytes
abbrev pub other_size : List ℕ → Bool
other_size s = not (eqb (num_at 2 s 1) (length s))

-- 4: the first byte isn't 2E, or not exactly one of the three type bits is set
abbrev pub no_order : List ℕ → Bool
no_order s = either (not (eqb (num_at 1 s 0) 0x2E)) (not (one_type (flags_of s)))

-- 5: a flag bit outside the closed list of the kind
abbrev pub unlisted : List ℕ → Bool
unlisted s = not (closed (flags_of s))

-- 6: flags that clash
abbrev pub clashing : List ℕ → Bool
clashing s = clash (flags_of s)

-- 7: some field does not fit whole, or the last one does not end where the order does
unfoldable pub unfilled : List ℕ → Bool
unfilled s = either (not (all_fit (length s) 7 (fields_of s))) (not (eqb (end_of 7 (fields_of s)) (length s)))

-- 8: some field is not in its set
unfoldable pub outside : List ℕ → Bool
outside s = not (all_in (fields_of s))

-- ---- of the bytes and the present table

-- an order for a window or a notification icon, and its record
abbrev pub for_record : List ℕ → Bool
for_record s = either (is_window (flags_of s)) (is_notification (flags_of s))

abbrev pub record_named : List ℕ → RecordOrder
record_named s =
    record {
      family = pick (is_window (flags_of s)) Windows Notifications;
      window = record { id = num_at 4 s 7 };
      notify = record { id = pick (is_window (flags_of s)) 0 (num_at 4 s 11) };
      flags = flags_of s;
      icon = icon_at s;
    }

-- 9: a new record that is listed, any other that is not
abbrev pub wrong_id : Index → List ℕ → Bool
wrong_id d s = both (for_record s) (not_there d (record_named s))

-- 10: a new record, and its table is full
abbrev pub table_full : Index → List ℕ → Bool
table_full d s = both (for_record s) (no_room d (record_named s))

-- 11: a cached icon whose cell is empty
abbrev pub empty_cell : Index → List ℕ → Bool
empty_cell d s = both (for_record s) (no_picture d s (record_named s))

-- 17: an icon, and every place is still pointed at once its cell and its pointer have let go
abbrev pub places_full : Index → List ℕ → Bool
places_full d s = both (for_record s) (no_place d s (record_named s))

-- ---- all of them

pub record Condition : Type 0 where
  pub number : ℕ
  pub holds : Bool

abbrev pub condition : ℕ → Bool → Condition
condition number holds = record { number = number; holds = holds }

-- the index of the present table, which any memory describes
abbrev pub index_in : Memory → Index
index_in m = (present (state_of m)).index

abbrev pub conditions : Memory → List ℕ → List Condition
conditions m s =
    condition 1 (not (meets_rule m))
    ∷ condition 2 (too_few s)
    ∷ condition 3 (other_size s)
    ∷ condition 4 (no_order s)
    ∷ condition 5 (unlisted s)
    ∷ condition 6 (clashing s)
    ∷ condition 7 (unfilled s)
    ∷ condition 8 (outside s)
    ∷ condition 9 (wrong_id (index_in m) s)
    ∷ condition 10 (table_full (index_in m) s)
    ∷ condition 11 (empty_cell (index_in m) s)
    ∷ condition 17 (places_full (index_in m) s)
    ∷ condition 12 (over_full (state_of m).log s)
    ∷ []

-- a number names a condition: those before it are false and it is true; 0 where all are false
pub data Names : ℕ → List Condition → Type 0 where
  none : Names 0 []
  this : {n : ℕ} {cs : List Condition} → Names n (condition n true ∷ cs)
  later : {n k : ℕ} {cs : List Condition} → Names n cs → Names n (condition k false ∷ cs)

-- all are false
unfoldable pub NoneHolds : List Condition → Type 0
NoneHolds [] = Unit {0}
NoneHolds (c ∷ cs) = (c.holds ≡ false) × NoneHolds cs

pub record Told (m : Memory) (s : List ℕ) : Type 0 where
  pub names : Names (explain s m).number (conditions m s)
  pub accepted : (explain s m).number ≡ 0 → NoneHolds (conditions m s)
  pub refused : NoneHolds (conditions m s) → (explain s m).number ≡ 0

-- of every order on every memory
unfoldable pub Explained : Type 0
Explained = (m : Memory) (s : List ℕ) → Bytes s → Told m s
