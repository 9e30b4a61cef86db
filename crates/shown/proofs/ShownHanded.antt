-- The picture at a place, from the store or from the journal, and that of a holder. Assumes nothing.
use mathlib.Core.Path.{◌≡◌, sym, ap, ◌∙◌}
use mathlib.Core.Bool.{true, false}
use mathlib.Core.List.{List, [], ◌++◌, append-nil}
use mathlib.Core.Option.{none, some}
use Prim.Native.Nat.{ℕ, ◌+◌, ◌*◌, ◌-◌, ◌≤◌, ◌<◌}
use native.Mathlib.Omega.{arith}
use lib.ListN.{length, get_or, take, drop, replicate, length-take, length-drop, drop_of_length-le}
use lib.Seq.{take_all}
use borrow.Rule.Slice.PartMut.{put_mid}
use borrow.Author.Tests.{lt-ltb, ne_eqb}
use Rattle.wire.specs.Numbers.{num_at}
use Rattle.wire.specs.Parts.{slice, splice}
use Rattle.wire.proofs.Parts.{splice_start, part_back, length_padded, padded_nil}
use Rattle.places.specs.Sizes.{holder_count}
use Rattle.places.specs.Memory.{places_of, pointer_at, shown_of, shown}
use Rattle.places.proofs.Validity.{valid_has}
use Rattle.slots.proofs.Ways.{sound_long, sound_holders}
use Rattle.store.specs.Store.{places_in}
use Rattle.picture.specs.Pictures.{head_length, picture_at, head_ok}
use Rattle.layout.specs.Layouts.{picture_size, picture_bytes}
use Rattle.table.specs.Memory.{heads_start, heads_of}
use Rattle.follow.specs.Follow.{origin_at, carried_by, present_pictures}
use Rattle.journal.specs.Journal.{size_at, order_at}
use Rattle.shown.specs.Shown.{shows, shown_bytes, held_pictures, Ready}
use Rattle.shown.specs.Steps.{PlaceReady}

-- ---- at a place

-- the heads, as the code lends them
abbrev heads_part : List ℕ → List ℕ
heads_part bodies = take (length bodies - heads_start) (drop heads_start bodies)

heads_are : (bodies : List ℕ) → heads_part bodies ≡ heads_of bodies
unfolding heads_of
heads_are bodies = take_all (length bodies - heads_start) (drop heads_start bodies) (omega (arith, length-drop heads_start bodies))

heads_long : (bodies : List ℕ) → length (heads_part bodies) ≡ length bodies - heads_start
heads_long bodies = simp (length-take, length-drop) (omega arith)

module _ (bodies : List ℕ) (store : List (List ℕ)) (journal origins : List ℕ) (p : ℕ) {q : ℕ} (origin : q ≡ num_at 2 origins (2 * p)) where
  abbrev here : List ℕ
  here = held_pictures bodies store journal origins p

  origin_is : origin_at origins p ≡ q
  unfolding origin_at
  origin_is = sym origin

  pub store_asks : PlaceReady bodies store journal origins p → q ≡ 0
      → (head_length * p + head_length ≤ length (heads_part bodies)) × (p < places_in store) × (head_ok (heads_part bodies) p ≡ true)
  store_asks r z =
      (omega (arith, heads_long bodies, r.room, r.small), r.lent, ap (λ (x : List ℕ). head_ok x p) (heads_are bodies) ∙ r.head (origin_is ∙ z))

  held_store : q ≡ 0 → here ≡ picture_at (heads_of bodies) store p
  unfolding present_pictures
  held_store z = rw (origin_is, z)

  held_journal : (q ≡ 0 → ⊥) → here ≡ carried_by (order_at journal q)
  unfolding present_pictures
  held_journal n = rw (origin_is, ne_eqb q 0 n)

  pub from_store : q ≡ 0 → (out : List ℕ) {x : List ℕ} → x ≡ splice out 0 (picture_bytes (picture_at (heads_part bodies) store p)) → x ≡ splice out 0 (picture_bytes here)
  from_store z out e = e ∙ ap (λ (y : List ℕ). splice out 0 (picture_bytes y)) (ap (λ (x : List ℕ). picture_at x store p) (heads_are bodies) ∙ sym (held_store z))

  module _ (later : q ≡ 0 → ⊥) {n : ℕ} (size : n ≡ num_at 2 journal (q + 1)) where
    pub order_within : PlaceReady bodies store journal origins p → q + n ≤ length journal
    order_within r =
        let o = origin_is in
        let w : q + size_at journal q ≤ 32770 = rw o at (r.within (λ z. later (sym o ∙ z))) in
        omega (arith, r.long, w, size)

    order_is : take (q + n - q) (drop q journal) ≡ order_at journal q
    unfolding slice
    order_is = let m : q + n - q ≡ size_at journal q = omega (arith, size) in ap (λ (k : ℕ). take k (drop q journal)) m

    pub from_journal : (out : List ℕ) {x : List ℕ} → x ≡ splice out 0 (picture_bytes (carried_by (take (q + n - q) (drop q journal)))) → x ≡ splice out 0 (picture_bytes here)
    from_journal out e = e ∙ ap (λ (y : List ℕ). splice out 0 (picture_bytes y)) (ap carried_by order_is ∙ sym (held_journal later))

-- ---- of a holder

pub length_picture : (p : List ℕ) → length (picture_bytes p) ≡ picture_size
unfolding picture_bytes
length_picture p = length_padded {A = ℕ} 0 picture_size p

module _ (d bodies : List ℕ) (store : List (List ℕ)) (journal origins : List ℕ) (ready : Ready d bodies store journal origins) (h : ℕ) (is : h < holder_count) where
  pub pointer_within : h + 1 < length d
  pointer_within = omega (arith, sound_long d ready.sound)

  pub pointer_is : pointer_at d h ≡ get_or d (h + 1) 0
  unfolding pointer_at
  pointer_is = rw (lt-ltb h holder_count is)

  pub place_ready : (get_or d (h + 1) 0 ≡ 0 → ⊥) → PlaceReady bodies store journal origins (get_or d (h + 1) 0 - 1)
  place_ready n =
      let v = valid_has d (sound_holders d ready.sound) in
      let e = pointer_is in
      let l : get_or d (h + 1) 0 ≤ places_of d = rw e at (v.within h) in
      record {
        room = ready.room;
        long = ready.long;
        small = omega (arith, l, v.many, n);
        lent = omega (arith, l, ready.places, n);
        head = rw e at (ready.heads h (λ z. n (sym e ∙ z)));
        within = ready.within (get_or d (h + 1) 0 - 1);
      }

  abbrev pictures : ℕ → List ℕ
  pictures = held_pictures bodies store journal origins

  shows_none : get_or d (h + 1) 0 ≡ 0 → shown d pictures h ≡ none
  unfolding shown shown_of
  shows_none z = rw (pointer_is, z)

  shows_some : (get_or d (h + 1) 0 ≡ 0 → ⊥) → shown d pictures h ≡ some (pictures (get_or d (h + 1) 0 - 1))
  unfolding shown shown_of
  shows_some n = rw (pointer_is, ne_eqb (get_or d (h + 1) 0) 0 n)

  -- zeros for none
  no_picture_lem : replicate picture_size 0 ≡ picture_bytes []
  unfolding picture_bytes
  no_picture_lem = sym (padded_nil {A = ℕ} 0 picture_size)

  pub none_shown : get_or d (h + 1) 0 ≡ 0 → (out : List ℕ) (at : ℕ) {x : List ℕ} → x ≡ splice out at (replicate picture_size 0)
      → (false ≡ shows (shown d pictures h)) × (x ≡ splice out at (shown_bytes (shown d pictures h)))
  none_shown z out at e =
      let s = shows_none z in
      (sym (ap shows s), e ∙ ap (splice out at) (no_picture_lem ∙ sym (ap shown_bytes s)))

  -- the part of out becomes the picture
  pub some_shown : (get_or d (h + 1) 0 ≡ 0 → ⊥) → (out : List ℕ) (at : ℕ) → at + picture_size ≤ length out → {x : List ℕ}
      → x ≡ splice (take (at + picture_size - at) (drop at out)) 0 (picture_bytes (pictures (get_or d (h + 1) 0 - 1)))
      → (true ≡ shows (shown d pictures h)) × (put_mid at (at + picture_size - at) out x ≡ splice out at (shown_bytes (shown d pictures h)))
  some_shown n out at room {x = x} e =
      let s = shows_some n in
      (sym (ap shows s), ap (put_mid at (at + picture_size - at) out) whole ∙ part_back out bytes at (at + picture_size - at) (omega (arith, long)) ∙ ap (splice out at) (sym (ap shown_bytes s)))
    where
      bytes : List ℕ
      bytes = picture_bytes (pictures (get_or d (h + 1) 0 - 1))

      long : length bytes ≡ picture_size
      long = length_picture (pictures (get_or d (h + 1) 0 - 1))

      part : List ℕ
      part = take (at + picture_size - at) (drop at out)

      part_long : length part ≤ picture_size
      part_long = simp (length-take, length-drop) (omega arith)

      whole : x ≡ bytes
      whole =
          e
          ∙ splice_start part bytes
          ∙ ap (λ (y : List ℕ). bytes ++ y) (drop_of_length-le part {i = length bytes} (omega (arith, long, part_long)))
          ∙ append-nil bytes
