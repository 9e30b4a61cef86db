-- Who shares by pointers of which only the cells' are left. Assumes nothing.
use mathlib.Core.Path.{◌≡◌, refl, sym, ◌∙◌}
use mathlib.Core.Bool.{Bool, true, false, not}
use Prim.Native.Nat.{ℕ, ◌≤◌, ◌<◌}
use native.Mathlib.Omega.{arith}
use lib.Dec.{eqb}
use borrow.Author.Tests.{eqb-false, eq-eqb, ne_eqb, lt-ltb, le-ltb, ltb-true}
use Rattle.wire.specs.Tests.{pick, both}
use Rattle.places.specs.Counts.{one, count_below}
use Rattle.places.specs.Sharing.{cells_only}
use Rattle.places.specs.Memory.{is_cell, count_at, used_of, shares_of, sharing_of}
use Rattle.places.proofs.Counting.{count_cong, count_none, count_single, count_front}
use Rattle.places.proofs.Pointers.{not_both, is_first, used_first}
use Rattle.places.proofs.Steps.{equal_sharing}

-- the cells' pointers alone
abbrev pub cut : (ℕ → ℕ) → ℕ → ℕ
cut ptr g = pick (is_cell g) (ptr g) 0

-- no two cells point at one place
abbrev pub Apart : (ℕ → ℕ) → Type 0
Apart ptr = (c d : ℕ) → c < 12 → d < 12 → (ptr c ≡ 0 → ⊥) → ptr c ≡ ptr d → c ≡ d

module _ (m n : ℕ) (ptr : ℕ → ℕ) (many : 12 ≤ m) (within : (h : ℕ) → ptr h ≤ n) (apart : Apart ptr) where
  cut_cell : (g : ℕ) → g < 12 → cut ptr g ≡ ptr g
  cut_cell g l = rw (lt-ltb g 12 l)

  cut_other : (g : ℕ) → 12 ≤ g → cut ptr g ≡ 0
  cut_other g l = rw (le-ltb g 12 l)

  cells_shares : (g k : ℕ) → shares_of (cut ptr) g k ≡ both (both (is_cell g) (is_cell k)) (shares_of ptr g k)
  cells_shares g k = go (is_cell g) (is_cell k)
    where
      go : (t u : Bool) → both (not (eqb (pick t (ptr g) 0) 0)) (eqb (pick t (ptr g) 0) (pick u (ptr k) 0)) ≡ both (both t u) (shares_of ptr g k)
      go true true = refl
      go true false = not_both (eqb (ptr g) 0)
      go false u = refl

  -- another holder is not at a cell's place
  elsewhere : (g : ℕ) → g < 12 → (ptr g ≡ 0 → ⊥) → (j : ℕ) → (j ≡ g → ⊥) → eqb (cut ptr j) (ptr g) ≡ false
  elsewhere g l pos j ne = go (is_cell j) refl
    where
      go : (t : Bool) → is_cell j ≡ t → eqb (pick t (ptr j) 0) (ptr g) ≡ false
      go true x = ne_eqb (ptr j) (ptr g) (λ e. ne (sym (apart g j l (ltb-true j 12 x) pos (sym e))))
      go false x = ne_eqb 0 (ptr g) (λ e. pos (sym e))

  cells_users : (g : ℕ) → pick (eqb (cut ptr g) 0) 0 (count_at m (cut ptr) (cut ptr g)) ≡ one (both (is_cell g) (shares_of ptr g g))
  unfolding count_at
  cells_users g = go (is_cell g) (eqb (ptr g) 0) refl refl
    where
      go : (t z : Bool) → is_cell g ≡ t → eqb (ptr g) 0 ≡ z
          → pick (eqb (pick t (ptr g) 0) 0) 0 (count_below m (λ k. eqb (cut ptr k) (pick t (ptr g) 0)))
          ≡ one (both t (both (not (eqb (ptr g) 0)) (eqb (ptr g) (ptr g))))
      go true true x e = rw e
      go true false x e =
          let l = ltb-true g 12 x in
          let own : eqb (cut ptr g) (ptr g) ≡ true = eq-eqb (cut ptr g) (ptr g) (cut_cell g l) in
          rw (e, eq-eqb (ptr g) (ptr g) refl)
          (count_single m (λ k. eqb (cut ptr k) (ptr g)) g (omega arith) own (λ j u ne. elsewhere g l (eqb-false (ptr g) 0 e) j ne))
      go false z x e = refl

  -- each filled cell is the first at its place
  first_cell : (j : ℕ) → j < 12 → is_first (cut ptr) j ≡ shares_of ptr j j
  unfolding count_at
  first_cell j l = rw (cut_cell j l) (go (eqb (ptr j) 0) refl)
    where
      go : (z : Bool) → eqb (ptr j) 0 ≡ z → both (not z) (eqb (count_below j (λ k. eqb (cut ptr k) (ptr j))) 0) ≡ both (not z) (eqb (ptr j) (ptr j))
      go true e = refl
      go false e =
          let r = count_none j (λ k. eqb (cut ptr k) (ptr j)) (λ k u. elsewhere j l (eqb-false (ptr j) 0 e) k (λ x. omega arith)) in
          eq-eqb (count_below j (λ k. eqb (cut ptr k) (ptr j))) 0 r ∙ sym (eq-eqb (ptr j) (ptr j) refl)

  cut_within : (h : ℕ) → cut ptr h ≤ n
  cut_within h = go (is_cell h)
    where
      go : (t : Bool) → pick t (ptr h) 0 ≤ n
      go true = within h
      go false = omega arith

  cells_used : used_of m (cut ptr) n ≡ count_below 12 (λ c. shares_of ptr c c)
  cells_used =
      used_first m n (cut ptr) (λ h l. cut_within h)
      ∙ count_front 12 m (is_first (cut ptr)) many (λ j l u. rw (cut_other j l))
      ∙ count_cong 12 (λ c. shares_of ptr c c) (is_first (cut ptr)) first_cell

  pub cells_sharing : sharing_of m (cut ptr) n ≡ cells_only is_cell (λ c. c) (sharing_of m ptr n)
  unfolding sharing_of cells_only
  cells_sharing = equal_sharing (sharing_of m (cut ptr) n) (cells_only is_cell (λ c. c) (sharing_of m ptr n)) cells_shares cells_users cells_used refl
