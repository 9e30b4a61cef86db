-- What is wanted, as it is taken from a table at the mark. Assumes nothing.
use mathlib.Core.Path.{◌≡◌, refl, sym, ap, ◌∙◌, fun_ext}
use mathlib.Core.Bool.{true, false}
use mathlib.Core.List.{List}
use Prim.Native.Nat.{ℕ, ◌+◌, ◌≤◌}
use native.Mathlib.Omega.{arith}
use lib.ListN.{length, replicate, length-take, length-drop}
use Rattle.std.specs.Prelude.{Option, Some, None}
use Rattle.wire.specs.Parts.{slice, splice}
use Rattle.wire.proofs.Parts.{length_slice, length_splice, slice_last, slice_splice, slice_splice_before, length_zeros}
use Rattle.places.specs.declared.Family.{Family}
use Rattle.places.specs.Counts.{on_found}
use Rattle.places.proofs.Counting.{found}
use Rattle.slots.specs.Families.{start, capacity}
use Rattle.slots.specs.Slots.{is_used, is_at}
use Rattle.slots.specs.Slots as slots
use Rattle.slots.proofs.Soundness.{Within, found_within, at_has, used_is}
use Rattle.index.specs.Memory.{index_of}
use Rattle.body.specs.Bodies.{slot_start, slot_of, fields_of, body_ok}
use Rattle.picture.specs.Pictures.{picture_at, head_ok}
use Rattle.table.specs.Table.{field_rows}
use Rattle.table.specs.Memory.{heads_of, shown_in, decode}
use Rattle.table.proofs.Rule.{TableSound}
use Rattle.table.proofs.Heads.{desk_slot}
use Rattle.follow.specs.Follow.{slot_room, record_room, held_slot, origin_at, present_pictures, begin_slot, begin_record, PicturesHeld, RecordHeld}
use Rattle.follow.proofs.Rooms.{room_within, room_slot}
use Rattle.follow.proofs.Origins.{origin_cleared}
use Rattle.wire.proofs.Tests.{never}

-- a part is no longer than the room for it
part_short : (b : List ℕ) (k n : ℕ) → length (slice b k n) ≤ n
unfolding slice
part_short b k n = simp (length-take, length-drop) (omega arith)

-- ---- the pictures: all are those of the mark

pub pictures_begun : (x b : List ℕ) (p : List (List ℕ)) (lent : ℕ) (origins : List ℕ) (since : ℕ → List ℕ) → TableSound x b lent → ((k : ℕ) → origin_at origins k ≡ 0)
    → PicturesHeld (decode x b p) x origins (picture_at (heads_of b) p) since (head_ok (heads_of b))
unfolding decode present_pictures
pictures_begun x b p lent origins since sound none =
    record {
      shows = λ h. ap (λ (pictures : ℕ → List ℕ). shown_in x pictures h) (sym all);
      heads = λ h n z. sound.heads h n;
    }
  where
    all : present_pictures (picture_at (heads_of b) p) since origins ≡ picture_at (heads_of b) p
    all = fun_ext (λ k. rw (none k))

-- ---- a record

module _ (f : Family) (b m : List ℕ) (long : length m ≡ record_room f) where
  abbrev copied : Option ℕ → List ℕ
  copied w = begin_slot f w b m

  copied_length : (w : Option ℕ) → length (copied w) ≡ record_room f
  copied_length (Some i) = length_splice m 0 (slice b (slot_start i) (slot_room f)) (omega (arith, part_short b (slot_start i) (slot_room f))) ∙ long
  copied_length None = long

  fits : (w : Option ℕ) → slot_room f + length (replicate {A = ℕ} 128 0) ≤ length (copied w)
  fits w = let e = length_zeros 128 in omega (arith, copied_length w)

  pub record_length : (w : Option ℕ) → length (begin_record f w b m) ≡ record_room f
  record_length w = length_splice (copied w) (slot_room f) (replicate 128 0) (fits w) ∙ copied_length w

  pub record_origins : (w : Option ℕ) (k : ℕ) → origin_at (slice (begin_record f w b m) (slot_room f) 128) k ≡ 0
  record_origins w k = origin_cleared (copied w) (slot_room f) (omega (arith, copied_length w)) k

  pub slot_begun : (i : ℕ) → Within f i → 61012 ≤ length b → held_slot f (begin_record f (Some i) b m) ≡ slot_of b i
  slot_begun i n big =
      let part = slice b (slot_start i) (slot_room f) in
      let e = length_slice b (slot_start i) (slot_room f) (room_within f b i n big) in
      slice_splice_before (copied (Some i)) (slot_room f) (replicate 128 0) (fits (Some i)) 0 (slot_room f) (omega arith)
      ∙ ap (slice (splice m 0 part) 0) (sym e)
      ∙ slice_splice m 0 part (omega (arith, e))
      ∙ room_slot f b i n

pub record_begun : (x b : List ℕ) (p : List (List ℕ)) (lent : ℕ) (m : List ℕ) → TableSound x b lent → (f : Family) → length m ≡ record_room f → (c d : ℕ)
    → RecordHeld (decode x b p) f c d (begin_record f (slots.slot_of x f c d) b m)
unfolding decode index_of
record_begun x b p lent m sound f long c d = go (slots.slot_of x f c d) refl
  where
    go : (w : Option ℕ) → slots.slot_of x f c d ≡ w → RecordHeld (decode x b p) f c d (begin_record f w b m)
    go (Some i) e =
        let n = found_within f x c d i e in
        let u : is_used x i ≡ true = used_is x i (at_has x c d i (found (capacity f) (start f) (is_at x c d) i e).2).used in
        let k = slot_begun f b m long i n sound.big in
        record {
          fields = λ l. rw e (ap (fields_of (field_rows f) 2) k);
          ok = λ l. ap (body_ok (field_rows f) 0 0) k ∙ sound.records f i n u;
        }
    go None e =
        let no : on_found (slots.slot_of x f c d) false (λ i. true) ≡ false = rw e in
        record { fields = λ l. never (sym no ∙ l); ok = λ l. never (sym no ∙ l) }

-- ---- the desktop

module _ (b m : List ℕ) (big : 61012 ≤ length b) (long : length m ≡ 916) where
  desk_long : length (slot_of b 48) ≡ 916
  desk_long = desk_slot b (omega arith)

  pub desktop_length : length (splice m 0 (slot_of b 48)) ≡ 916
  desktop_length = length_splice m 0 (slot_of b 48) (omega (arith, desk_long)) ∙ long

  -- a memory that is written over whole
  pub desktop_copied : splice m 0 (slot_of b 48) ≡ slot_of b 48
  desktop_copied =
      let e = desk_long in
      sym (slice_last (splice m 0 (slot_of b 48)) 0 (length (slot_of b 48)) (omega (arith, desktop_length)))
      ∙ slice_splice m 0 (slot_of b 48) (omega arith)
