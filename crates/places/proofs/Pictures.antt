-- What holders show after each change. Assumes nothing.
use mathlib.Core.Path.{◌≡◌, refl}
use mathlib.Core.Bool.{Bool, true, false}
use mathlib.Core.List.{List}
use mathlib.Core.Option.{none, some}
use Prim.Native.Nat.{ℕ, ◌+◌, ◌-◌, ◌<◌}
use native.Mathlib.Omega.{arith}
use lib.Dec.{eqb}
use borrow.Author.Tests.{eqb-false, eq-eqb, ne_eqb}
use Rattle.std.specs.Prelude.{Some}
use Rattle.wire.specs.Tests.{pick}
use Rattle.places.specs.Sharing.{is_one}
use Rattle.places.specs.Memory.{is_cell, pointer_at, valid, shown_of, shown, with_picture}
use Rattle.places.specs.Changes.{point_all, free_place, take_of, share_of, release_of, release_records_of}
use Rattle.places.proofs.Bytes.{pointer_point, Holders, point_all_is, pointer_records}
use Rattle.places.proofs.Validity.{valid_has}
use Rattle.places.proofs.Meaning.{Free, found_free, found_alone}

-- a new picture at a place that only its holders have changes what no other holder shows
module _ (b : List ℕ) (ok : valid b ≡ true) (hs : List ℕ) (all : Holders hs) (p : ℕ) (at_p : free_place b hs ≡ Some p) (pictures : ℕ → List ℕ) (x : List ℕ) where
  free : Free b hs p
  free = found_free b hs p at_p

  taken : take_of b hs ≡ point_all b hs (p + 1)
  unfolding take_of
  taken = rw at_p

  pub take_shown : (g : ℕ) → shown (take_of b hs) (with_picture pictures p x) g ≡ pick (is_one eqb hs g) (some x) (shown b pictures g)
  unfolding shown shown_of with_picture
  take_shown g = rw (taken, point_all_is hs b (p + 1) all (valid_has b ok).long) (go (is_one eqb hs g) (eqb (pointer_at b g) 0) refl refl)
    where
      go : (t z : Bool) → is_one eqb hs g ≡ t → eqb (pointer_at b g) 0 ≡ z
          → pick (eqb (pick t (p + 1) (pointer_at b g)) 0) none
          (some (pick (eqb (pick t (p + 1) (pointer_at b g) - 1) p) x (pictures (pick t (p + 1) (pointer_at b g) - 1))))
          ≡ pick t (some x) (pick (eqb (pointer_at b g) 0) none (some (pictures (pointer_at b g - 1))))
      go true z e f = rw (ne_eqb (p + 1) 0 (λ y. omega arith), eq-eqb (p + 1 - 1) p (omega arith))
      go false true e f = rw f
      go false false e f =
          let ne = eqb-false (pointer_at b g) 0 f in
          let away : (pointer_at b g - 1 ≡ p → ⊥) = λ y. found_alone b hs p free g e (omega (arith, ne)) in
          rw (f, ne_eqb (pointer_at b g - 1) p away)

-- a cached icon shows what its cell shows
pub share_shown : (b : List ℕ) → valid b ≡ true → (q c : ℕ) → q < 156 → (pictures : ℕ → List ℕ) (g : ℕ)
    → shown (share_of b q c) pictures g ≡ pick (eqb g q) (shown b pictures c) (shown b pictures g)
unfolding share_of shown shown_of
share_shown b ok q c lq pictures g = rw (pointer_point b q (pointer_at b c) lq (valid_has b ok).long) (go (eqb g q))
  where
    go : (t : Bool) → pick (eqb (pick t (pointer_at b c) (pointer_at b g)) 0) none (some (pictures (pick t (pointer_at b c) (pointer_at b g) - 1)))
        ≡ pick t (pick (eqb (pointer_at b c) 0) none (some (pictures (pointer_at b c - 1)))) (pick (eqb (pointer_at b g) 0) none (some (pictures (pointer_at b g - 1))))
    go true = refl
    go false = refl

-- a holder that let go shows nothing
pub release_shown : (b : List ℕ) → valid b ≡ true → (h : ℕ) → h < 156 → (pictures : ℕ → List ℕ) (g : ℕ)
    → shown (release_of b h) pictures g ≡ pick (eqb g h) none (shown b pictures g)
unfolding release_of shown shown_of
release_shown b ok h l pictures g = rw (pointer_point b h 0 l (valid_has b ok).long) (go (eqb g h))
  where
    go : (t : Bool) → pick (eqb (pick t 0 (pointer_at b g)) 0) none (some (pictures (pick t 0 (pointer_at b g) - 1)))
        ≡ pick t none (pick (eqb (pointer_at b g) 0) none (some (pictures (pointer_at b g - 1))))
    go true = refl
    go false = refl

-- after desktop none only the cells show theirs
pub records_shown : (b : List ℕ) → valid b ≡ true → (pictures : ℕ → List ℕ) (g : ℕ)
    → shown (release_records_of b) pictures g ≡ pick (is_cell g) (shown b pictures g) none
unfolding shown shown_of
records_shown b ok pictures g = rw (pointer_records b (valid_has b ok).long) (go (is_cell g))
  where
    go : (t : Bool) → pick (eqb (pick t (pointer_at b g) 0) 0) none (some (pictures (pick t (pointer_at b g) 0 - 1)))
        ≡ pick t (pick (eqb (pointer_at b g) 0) none (some (pictures (pointer_at b g - 1)))) none
    go true = refl
    go false = refl
