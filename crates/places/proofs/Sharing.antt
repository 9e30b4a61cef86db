-- There are no place numbers in it: which holders share decides all. Assumes nothing.
use mathlib.Core.Path.{◌≡◌, refl, sym, ap, ◌∙◌, fun_ext}
use mathlib.Core.Bool.{Bool, true, false, not}
use Prim.Native.Nat.{ℕ, ◌≤◌}
use lib.Dec.{eqb}
use borrow.Author.Tests.{eq-eqb}
use Rattle.wire.specs.Tests.{pick, both}
use Rattle.places.specs.Counts.{count_below}
use Rattle.places.specs.Memory.{count_at, shares_of, sharing_of}
use Rattle.places.proofs.Counting.{count_cong, count_none}
use Rattle.places.proofs.Pointers.{eqb_sym, is_first, used_first}
use Rattle.places.proofs.Steps.{equal_sharing}

-- of the first m holders, as many are at g's place as share with g
users_count : (m : ℕ) (ptr : ℕ → ℕ) (g : ℕ) → pick (eqb (ptr g) 0) 0 (count_at m ptr (ptr g)) ≡ count_below m (shares_of ptr g)
unfolding count_at
users_count m ptr g = go (eqb (ptr g) 0)
  where
    go : (z : Bool) → pick z 0 (count_below m (λ k. eqb (ptr k) (ptr g))) ≡ count_below m (λ k. both (not z) (eqb (ptr g) (ptr k)))
    go true = sym (count_none m (λ k. false) (λ j l. refl))
    go false = count_cong m (λ k. eqb (ptr g) (ptr k)) (λ k. eqb (ptr k) (ptr g)) (λ j l. eqb_sym (ptr j) (ptr g))

-- a place counts at its first holder
first_shares : (ptr : ℕ → ℕ) (h : ℕ) → is_first ptr h ≡ both (shares_of ptr h h) (eqb (count_below h (shares_of ptr h)) 0)
first_shares ptr h = rw (← users_count h ptr h, eq-eqb (ptr h) (ptr h) refl) (go (eqb (ptr h) 0))
  where
    go : (z : Bool) → both (not z) (eqb (count_at h ptr (ptr h)) 0) ≡ both (both (not z) true) (eqb (pick z 0 (count_at h ptr (ptr h))) 0)
    go true = refl
    go false = refl

pub same_sharing : (m n : ℕ) (ptr qtr : ℕ → ℕ) → ((h : ℕ) → ptr h ≤ n) → ((h : ℕ) → qtr h ≤ n)
    → ((g k : ℕ) → shares_of ptr g k ≡ shares_of qtr g k) → sharing_of m ptr n ≡ sharing_of m qtr n
unfolding sharing_of
same_sharing m n ptr qtr a b same =
    equal_sharing (sharing_of m ptr n) (sharing_of m qtr n) same
    (λ g. users_count m ptr g ∙ ap (count_below m) (whole g) ∙ sym (users_count m qtr g))
    (used_first m n ptr (λ h l. a h) ∙ count_cong m (is_first qtr) (is_first ptr) (λ h l. first h) ∙ sym (used_first m n qtr (λ h l. b h)))
    refl
  where
    whole : (g : ℕ) → shares_of ptr g ≡ shares_of qtr g
    whole g = fun_ext (same g)

    first : (h : ℕ) → is_first ptr h ≡ is_first qtr h
    first h = first_shares ptr h ∙ ap (λ (s : ℕ → Bool). both (s h) (eqb (count_below h s) 0)) (whole h) ∙ sym (first_shares qtr h)
