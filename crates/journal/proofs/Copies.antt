-- Memories that agree in their first 589 bytes describe the same index, and the same table. Assumes nothing.
use mathlib.Core.Path.{◌≡◌, refl, sym, ap, ◌∙◌, fun_ext}
use mathlib.Core.Bool.{Bool, true, false}
use mathlib.Core.List.{List, []}
use Prim.Native.Nat.{ℕ, ◌+◌, ◌*◌, ◌-◌, ◌≤◌, ◌<◌}
use native.Mathlib.Nat.{zero-add}
use native.Mathlib.Omega.{arith}
use lib.Dec.{ltb}
use borrow.Author.Tests.{ltb-true}
use lib.ListN.{length, get_or, take, drop}
use lib.Seq.{take_at}
use Rattle.std.specs.Prelude.{Option}
use Rattle.wire.specs.Tests.{pick}
use Rattle.wire.specs.Numbers.{num_at}
use Rattle.wire.specs.Parts.{slice, splice}
use Rattle.wire.proofs.Parts.{length_slice, length_splice, slice_cong, splice_start}
use Rattle.wire.proofs.Numbers.{num1_is, num_cong}
use Rattle.places.specs.declared.Family.{Family}
use Rattle.places.specs.Counts.{on_found}
use Rattle.places.specs.Memory.{places_of, pointer_at, shown_of, shown}
use Rattle.places.specs.Holder.{Holder, number_of}
use Rattle.places.proofs.Counting.{count_cong, first_cong}
use Rattle.places.proofs.Validity.{valid_has, valid_is}
use Rattle.slots.specs.Families.{start, capacity, highest}
use Rattle.slots.specs.Slots.{used_at, first_id, second_id, is_used, is_at, slot_of, many_in}
use Rattle.slots.specs.Sound.{no_pointers, slot_ok, sound_index}
use Rattle.slots.proofs.Soundness.{Within, within_slots, sound_has, sound_is}
use Rattle.index.specs.Memory.{index_of}
use Rattle.index.proofs.Memory.{Same, same_used, same_at, Still, still_decode}
use Rattle.index.proofs.After.{same_index}
use Rattle.body.specs.Bodies.{slot_of as Bodies·slotOf, fields_of}
use Rattle.picture.specs.Pictures.{picture_at}
use Rattle.table.specs.Table.{Table, field_rows}
use Rattle.table.specs.Memory.{heads_of, shown_in, decode, sound_table}
use Rattle.table.proofs.Rule.{table_has, table_is}
use Rattle.table.proofs.Joined.{same_table}
use Rattle.follow.specs.declared.Want.{Want}
use Rattle.std.specs.Prelude.{Option, Some, None}
use Rattle.follow.specs.declared.Want.TheVariants.{Window, Notification, Pictures, Desktop}
use Rattle.follow.specs.Follow.{held_origins, origin_at, present_pictures, PicturesHeld, Holds}

module _ (x y : List ℕ) (agree : take 589 x ≡ take 589 y) where
  num_same : (w i : ℕ) → i + w ≤ 589 → num_at w y i ≡ num_at w x i
  num_same w i h =
      ap (num_at w y) (sym (zero-add i))
      ∙ num_cong w y x 0 0 589 i h (slice_cong y x 0 589 589 (omega arith) (sym agree))
      ∙ ap (num_at w x) (zero-add i)

  byte_same : (i : ℕ) → i < 589 → get_or y i 0 ≡ get_or x i 0
  byte_same i h = num1_is y i ∙ num_same 1 i (omega arith) ∙ sym (num1_is x i)

  -- ---- the holders

  pub places_same : places_of y ≡ places_of x
  unfolding places_of
  places_same = byte_same 0 (omega arith)

  pub pointers_same : pointer_at y ≡ pointer_at x
  unfolding pointer_at
  pointers_same = fun_ext (λ h. go h (ltb h 156) refl)
    where
      go : (h : ℕ) (t : Bool) → ltb h 156 ≡ t → pick t (get_or y (h + 1) 0) 0 ≡ pick t (get_or x (h + 1) 0) 0
      go h true e =
          let l = ltb-true h 156 e in
          byte_same (h + 1) (omega arith)
      go h false e = refl

  still : Still x y
  still = record { places = places_same; pointers = pointers_same }

  -- ---- the slots

  slot_same : (j : ℕ) → j < 48 → Same x y j
  unfolding used_at first_id second_id
  slot_same j h =
      record {
        used = num_same 1 (157 + 9 * j) (omega arith);
        first = num_same 4 (157 + 9 * j + 1) (omega arith);
        second = num_same 4 (157 + 9 * j + 5) (omega arith);
      }

  family_slot : (f : Family) (j : ℕ) → start f ≤ j → j < start f + capacity f → Same x y j
  family_slot f j l u = slot_same j (within_slots f j (record { low = l; high = u }))

  slots_same : slot_of y ≡ slot_of x
  slots_same = fun_ext (λ f. fun_ext (λ a. fun_ext (λ b. first_cong (capacity f) (start f) (is_at y a b) (is_at x a b) (λ j l u. same_at x y j (family_slot f j l u) a b))))

  many_same : (f : Family) → many_in y f ≡ many_in x f
  many_same f =
      count_cong (capacity f) (λ k. is_used x (start f + k)) (λ k. is_used y (start f + k))
      (λ k l. same_used x y (start f + k) (family_slot f (start f + k) (omega arith) (omega arith)))

  -- ---- the index

  pub index_same : index_of y ≡ index_of x
  unfolding index_of
  index_same =
      same_index (index_of y) (index_of x) (λ f a b. ap (λ (s : Family → ℕ → ℕ → Option ℕ). on_found (s f a b) false (λ i. true)) slots_same) many_same
      (rw (slots_same, still_decode x y still))

  slot_ok_lem : (f : Family) (i : ℕ) → Within f i → slot_ok y (start f) (capacity f) (highest f) i ≡ slot_ok x (start f) (capacity f) (highest f) i
  unfolding slot_ok no_pointers
  slot_ok_lem f i w =
      let s = family_slot f i w.low w.high in
      let e : slot_of y f (first_id x i) (second_id x i) ≡ slot_of x f (first_id x i) (second_id x i) = ap (λ (s : Family → ℕ → ℕ → Option ℕ). s f (first_id x i) (second_id x i)) slots_same in
      rw (s.used, s.first, s.second, pointers_same, e)

  pub sound_same : 589 ≤ length y → sound_index x ≡ true → sound_index y ≡ true
  sound_same long h =
      let s = sound_has x h in
      let v = valid_has x s.holders in
      sound_is y
      (record {
        long = long;
        holders =
            valid_is y
            (record {
              long = omega arith;
              few = rw places_same v.few;
              many = rw places_same v.many;
              within = rw (places_same, pointers_same) v.within;
              apart = rw pointers_same v.apart;
            });
        slots = λ f i w. slot_ok_lem f i w ∙ s.slots f i w;
      })

  -- ---- what is shown

  shown_same : (pictures : ℕ → List ℕ) (h : Holder) → shown_in y pictures h ≡ shown_in x pictures h
  unfolding shown
  shown_same pictures h =
      ap (λ (s : Family → ℕ → ℕ → Option ℕ). shown_of (pointer_at y) pictures (number_of s h)) slots_same
      ∙ ap (λ (ptr : ℕ → ℕ). shown_of ptr pictures (number_of (slot_of x) h)) pointers_same

  held_same : (t : Table) (origins : List ℕ) (marked since : ℕ → List ℕ) (ok : ℕ → Bool) → PicturesHeld t x origins marked since ok → PicturesHeld t y origins marked since ok
  held_same t origins marked since ok p =
      record { shows = λ h. p.shows h ∙ sym (shown_same (present_pictures marked since origins) h); heads = λ h. go h (ap (λ (ptr : ℕ → ℕ). ptr h) pointers_same) }
    where
      go : (h : ℕ) → pointer_at y h ≡ pointer_at x h → (pointer_at y h ≡ 0 → ⊥) → origin_at origins (pointer_at y h - 1) ≡ 0 → ok (pointer_at y h - 1) ≡ true
      go h e n z = rw e (p.heads h (λ q. n (e ∙ q)) (ap (λ (k : ℕ). origin_at origins (k - 1)) (sym e) ∙ z))

  pub holds_same : (want : Option Want) (t : Table) (m : List ℕ) (marked since : ℕ → List ℕ) (ok : ℕ → Bool) → Holds want t x m marked since ok → Holds want t y m marked since ok
  unfolding Holds
  holds_same None t m marked since ok h = h
  holds_same (Some (Window w)) t m marked since ok h = (h.0, held_same t (held_origins (Some (Window w)) m) marked since ok h.1)
  holds_same (Some (Notification w n)) t m marked since ok h = (h.0, held_same t (held_origins (Some (Notification w n)) m) marked since ok h.1)
  holds_same (Some Pictures) t m marked since ok h = held_same t (held_origins (Some Pictures) m) marked since ok h
  holds_same (Some Desktop) t m marked since ok h = h

  -- ---- the table

  pub table_same : (b : List ℕ) (p : List (List ℕ)) → decode y b p ≡ decode x b p
  unfolding decode
  table_same b p =
      same_table (decode y b p) (decode x b p) index_same
      (λ f a c. ap (λ (s : Family → ℕ → ℕ → Option ℕ). on_found (s f a c) [] (λ i. fields_of (field_rows f) 2 (Bodies·slotOf b i))) slots_same)
      (shown_same (picture_at (heads_of b) p)) refl

  pub sound_table_same : 589 ≤ length y → (b : List ℕ) (lent : ℕ) → sound_table x b lent ≡ true → sound_table y b lent ≡ true
  sound_table_same long b lent h =
      let s = table_has x b lent h in
      table_is y b lent
      (record {
        big = s.big;
        index = sound_same long s.index;
        lends = rw places_same s.lends;
        records = λ f i w u. s.records f i w (sym (same_used x y i (family_slot f i w.low w.high)) ∙ u);
        desktop = s.desktop;
        heads = rw pointers_same s.heads;
      })

-- ---- a copy

module _ (d index : List ℕ) (room : length d ≡ 589) (long : 589 ≤ length index) where
  abbrev copy : List ℕ
  copy = splice d 0 (slice index 0 589)

  part_long : length (slice index 0 589) ≡ 589
  part_long = length_slice index 0 589 (omega (arith, long))

  copy_agrees : take 589 index ≡ take 589 copy
  unfolding slice
  copy_agrees =
      sym
      (ap (take 589) (splice_start d (slice index 0 589)) ∙ take_at (slice index 0 589) (drop (length (slice index 0 589)) d) 589 part_long)

  pub copy_long : length copy ≡ 589
  copy_long = length_splice d 0 (slice index 0 589) (omega (arith, part_long, room)) ∙ room

  pub copied_index : index_of copy ≡ index_of index
  copied_index = index_same index copy copy_agrees

  pub copied_places : places_of copy ≡ places_of index
  copied_places = places_same index copy copy_agrees

  pub copied_sound : sound_index index ≡ true → sound_index copy ≡ true
  copied_sound h = sound_same index copy copy_agrees (omega (arith, copy_long)) h

  pub copied_holds : (want : Option Want) (t : Table) (m : List ℕ) (marked since : ℕ → List ℕ) (ok : ℕ → Bool) → Holds want t index m marked since ok
      → Holds want t copy m marked since ok
  copied_holds = holds_same index copy copy_agrees
