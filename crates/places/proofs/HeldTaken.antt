-- The first places stay pointed at: once an icon has taken the first free place, that one and all before it are.
-- Assumes nothing.
use mathlib.Core.Path.{◌≡◌, refl, sym, ap, ◌∙◌}
use mathlib.Core.Bool.{Bool, true, false}
use mathlib.Core.List.{List, [], ◌∷◌}
use Prim.Native.Nat.{ℕ, ◌+◌, ◌<◌}
use native.Mathlib.Omega.{arith}
use lib.Dec.{eqb}
use borrow.Author.Tests.{eqb-true, eqb-false, eq-eqb, ne_eqb}
use Rattle.std.specs.Prelude.{Some}
use Rattle.wire.specs.Tests.{pick}
use Rattle.places.specs.Sizes.{holder_count}
use Rattle.places.specs.Sharing.{is_one}
use Rattle.places.specs.Memory.{places_of, pointer_at, count_at, is_free, valid}
use Rattle.places.specs.Changes.{let_go, point_all, free_place}
use Rattle.places.specs.Held.{HeldBelow}
use Rattle.places.proofs.Counting.{count_cong, found_first}
use Rattle.places.proofs.Pointers.{counted, taken_is}
use Rattle.places.proofs.Bytes.{let_go_is, point_all_is}
use Rattle.places.proofs.Validity.{valid_has}
use Rattle.places.proofs.Meaning.{holders}

pub held_none : (b : List ℕ) → HeldBelow b 0
held_none b p l = absurd (omega arith)

-- ---- an icon

-- some holders have pointer w, or pointer v: who has another than those two is the same
free_other : (m : ℕ) (some : ℕ → Bool) (ptr : ℕ → ℕ) (w v p : ℕ) → (w ≡ p + 1 → ⊥) → (v ≡ p + 1 → ⊥)
    → is_free m (λ g. pick (some g) w (ptr g)) p ≡ is_free m (λ g. pick (some g) v (ptr g)) p
unfolding is_free count_at
free_other m some ptr w v p nw nv = ap (λ (n : ℕ). eqb n 0) (count_cong m (λ g. eqb (pick (some g) v (ptr g)) (p + 1)) (λ g. eqb (pick (some g) w (ptr g)) (p + 1)) (λ g l. go (some g) (ptr g)))
  where
    go : (t : Bool) (x : ℕ) → eqb (pick t w x) (p + 1) ≡ eqb (pick t v x) (p + 1)
    go true x = ne_eqb w (p + 1) nw ∙ sym (ne_eqb v (p + 1) nv)
    go false x = refl

module _ (b : List ℕ) (cell pointer p : ℕ) (ok : valid b ≡ true) (lc : cell < holder_count) (lp : pointer < holder_count) where
  abbrev two : List ℕ
  two = cell ∷ pointer ∷ []

  abbrev after : List ℕ
  after = point_all b two (p + 1)

  after_is : pointer_at after ≡ (λ g. pick (is_one eqb two g) (p + 1) (pointer_at b g))
  after_is = point_all_is two b (p + 1) (holders cell pointer lc lp) (valid_has b ok).long

  cell_there : pointer_at after cell ≡ p + 1
  cell_there = ap (λ (r : ℕ → ℕ). r cell) after_is ∙ rw (eq-eqb cell cell refl)

  taken_held : is_free holder_count (pointer_at after) p ≡ false
  taken_held =
      let e = ap (count_at holder_count (pointer_at after)) cell_there in
      taken_is holder_count (pointer_at after) p (omega (arith, e, counted holder_count (pointer_at after) cell lc))

  -- before it, who has not let go points there as before
  before_held : free_place b two ≡ Some p → (j : ℕ) → j < p → is_free holder_count (pointer_at after) j ≡ false
  unfolding free_place
  before_held e j l =
      ap (λ (r : ℕ → ℕ). is_free holder_count r j) after_is
      ∙ free_other holder_count (is_one eqb two) (pointer_at b) (p + 1) 0 j (λ x. omega arith) (λ x. omega arith)
      ∙ ap (λ (r : ℕ → ℕ). is_free holder_count r j) (sym (let_go_is two (pointer_at b)))
      ∙ found_first (places_of b) 0 (is_free holder_count (let_go two (pointer_at b))) p e j (omega arith) l

  pub held_taken : free_place b (cell ∷ pointer ∷ []) ≡ Some p → HeldBelow (point_all b (cell ∷ pointer ∷ []) (p + 1)) (p + 1)
  held_taken e j l = go (eqb j p) refl
    where
      go : (t : Bool) → eqb j p ≡ t → is_free holder_count (pointer_at after) j ≡ false
      go true x = let y : j ≡ p = eqb-true j p x in rw y taken_held
      go false x = before_held e j (omega (arith, eqb-false j p x))
