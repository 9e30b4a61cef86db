-- Fields one after the other, told by one walk: what fits, where the first is cut, and the first outside its set. Assumes nothing.
use mathlib.Core.Path.{◌≡◌, refl, sym, ap, ◌∙◌}
use mathlib.Core.Bool.{Bool, true, false}
use mathlib.Core.List.{List, [], ◌∷◌, ◌++◌}
use Prim.Native.Nat.{ℕ, ◌+◌, ◌-◌, ◌≤◌, ◌<◌}
use native.Mathlib.Omega.{arith}
use lib.Dec.{eqb, leb}
use borrow.Author.Tests.{le-leb, lt-leb, leb-true, leb-false, ne_eqb}
use Rattle.wire.specs.Tests.{pick, both}
use Rattle.rows.specs.declared.Fit.{Fit}
use Rattle.rows.specs.declared.Fit.TheVariants.{Ends, Short}
use Rattle.rows.specs.Rows.{first_bad, on_fit}
use Rattle.rows.proofs.Fields.{bad_zero}
use Rattle.explain.specs.Fields.{Field, end_of, all_fit, first_cut, all_in, first_outside}

pub leb_same : (a b c d : ℕ) → (a ≤ b → c ≤ d) → (c ≤ d → a ≤ b) → leb a b ≡ leb c d
leb_same a b c d f g = go (leb a b) refl
  where
    go : (t : Bool) → leb a b ≡ t → leb a b ≡ leb c d
    go true e = e ∙ sym (le-leb c d (f (leb-true a b e)))
    go false e = let l = leb-false a b e in e ∙ sym (back (leb c d) refl l)
      where
        back : (u : Bool) → leb c d ≡ u → b < a → leb c d ≡ false
        back true h l = let k = g (leb-true c d h) in absurd (omega arith)
        back false h l = h

-- the fields, as the walk over the rows tells them
unfoldable pub fit_of_lem : ℕ → ℕ → ℕ → List Field → Fit
fit_of_lem n at bad [] = Ends at bad
fit_of_lem n at bad (f ∷ fs) = pick (leb (at + f.width) n) (fit_of_lem n (at + f.width) (first_bad bad (pick f.in_set 0 at)) fs) (Short at)

pub fit_append : (n at bad : ℕ) (fs gs : List Field) → fit_of_lem n at bad (fs ++ gs) ≡ on_fit (fit_of_lem n at bad fs) (λ c. Short c) (λ q b. fit_of_lem n q b gs)
unfolding fit_of_lem
fit_append n at bad [] gs = refl
fit_append n at bad (f ∷ fs) gs = go (leb (at + f.width) n) (fit_append n (at + f.width) (first_bad bad (pick f.in_set 0 at)) fs gs)
  where
    go : (t : Bool)
        → fit_of_lem n (at + f.width) (first_bad bad (pick f.in_set 0 at)) (fs ++ gs)
        ≡ on_fit (fit_of_lem n (at + f.width) (first_bad bad (pick f.in_set 0 at)) fs) (λ c. Short c) (λ q b. fit_of_lem n q b gs)
        → pick t (fit_of_lem n (at + f.width) (first_bad bad (pick f.in_set 0 at)) (fs ++ gs)) (Short at)
        ≡ on_fit (pick t (fit_of_lem n (at + f.width) (first_bad bad (pick f.in_set 0 at)) fs) (Short at)) (λ c. Short c) (λ q b. fit_of_lem n q b gs)
    go true ih = ih
    go false ih = refl

-- ---- what it tells

bad_join : (bad at x : ℕ) (i : Bool) → 1 ≤ at → first_bad (first_bad bad (pick i 0 at)) x ≡ first_bad bad (pick i x at)
bad_join bad at x true l = ap (λ (k : ℕ). first_bad k x) (sym (bad_zero bad))
bad_join bad at x false l = go (eqb bad 0) refl
  where
    go : (t : Bool) → eqb bad 0 ≡ t → first_bad (pick t at bad) x ≡ pick t at bad
    go true e = rw (ne_eqb at 0 (λ z. omega (arith, z)))
    go false e = rw e

pub fit_told : (n at bad : ℕ) (fs : List Field) → 1 ≤ at
    → fit_of_lem n at bad fs ≡ pick (all_fit n at fs) (Ends (end_of at fs) (first_bad bad (first_outside at fs))) (Short (first_cut n at fs))
unfolding fit_of_lem all_fit end_of first_outside first_cut
fit_told n at bad [] l = ap (Ends at) (bad_zero bad)
fit_told n at bad (f ∷ fs) l = go (leb (at + f.width) n) (fit_told n (at + f.width) (first_bad bad (pick f.in_set 0 at)) fs (omega arith))
  where
    go : (t : Bool)
        → fit_of_lem n (at + f.width) (first_bad bad (pick f.in_set 0 at)) fs
        ≡ pick (all_fit n (at + f.width) fs) (Ends (end_of (at + f.width) fs) (first_bad (first_bad bad (pick f.in_set 0 at)) (first_outside (at + f.width) fs))) (Short (first_cut n (at + f.width) fs))
        → pick t (fit_of_lem n (at + f.width) (first_bad bad (pick f.in_set 0 at)) fs) (Short at)
        ≡ pick (both t (all_fit n (at + f.width) fs)) (Ends (end_of (at + f.width) fs) (first_bad bad (pick f.in_set (first_outside (at + f.width) fs) at))) (Short (pick t (first_cut n (at + f.width) fs) at))
    go true ih =
        ih ∙ ap (λ (k : ℕ). pick (all_fit n (at + f.width) fs) (Ends (end_of (at + f.width) fs) k) (Short (first_cut n (at + f.width) fs))) (bad_join bad at (first_outside (at + f.width) fs) f.in_set l)
    go false ih = refl

pub end_on : (at : ℕ) (fs : List Field) → at ≤ end_of at fs
unfolding end_of
end_on at [] = omega arith
end_on at (f ∷ fs) = omega (arith, end_on (at + f.width) fs)

-- each fits where the last one ends within
pub fit_end : (n at : ℕ) (fs : List Field) → at ≤ n → all_fit n at fs ≡ leb (end_of at fs) n
unfolding all_fit end_of
fit_end n at [] l = sym (le-leb at n l)
fit_end n at (f ∷ fs) l = go (leb (at + f.width) n) refl (fit_end n (at + f.width) fs)
  where
    go : (t : Bool) → leb (at + f.width) n ≡ t → (at + f.width ≤ n → all_fit n (at + f.width) fs ≡ leb (end_of (at + f.width) fs) n)
        → both t (all_fit n (at + f.width) fs) ≡ leb (end_of (at + f.width) fs) n
    go true e ih = ih (leb-true (at + f.width) n e)
    go false e ih =
        let h = leb-false (at + f.width) n e in
        sym (lt-leb (end_of (at + f.width) fs) n (omega (arith, end_on (at + f.width) fs)))

-- where each fits, the first byte left over
pub cut_none : (n at : ℕ) (fs : List Field) → all_fit n at fs ≡ true → first_cut n at fs ≡ end_of at fs
unfolding all_fit end_of first_cut
cut_none n at [] e = refl
cut_none n at (f ∷ fs) e = go (leb (at + f.width) n) e (cut_none n (at + f.width) fs)
  where
    go : (t : Bool) → both t (all_fit n (at + f.width) fs) ≡ true → (all_fit n (at + f.width) fs ≡ true → first_cut n (at + f.width) fs ≡ end_of (at + f.width) fs)
        → pick t (first_cut n (at + f.width) fs) at ≡ end_of (at + f.width) fs
    go true e ih = ih e
    go false e ih = let z : ◌≡◌ {A = ℕ} 0 1 = cc in absurd (omega arith)

-- each is in its set where none is the first outside
pub in_none : (at : ℕ) (fs : List Field) → 1 ≤ at → all_in fs ≡ eqb (first_outside at fs) 0
unfolding all_in first_outside
in_none at [] l = refl
in_none at (f ∷ fs) l = go f.in_set (in_none (at + f.width) fs (omega arith))
  where
    go : (t : Bool) → all_in fs ≡ eqb (first_outside (at + f.width) fs) 0 → both t (all_in fs) ≡ eqb (pick t (first_outside (at + f.width) fs) at) 0
    go true ih = ih
    go false ih = sym (ne_eqb at 0 (λ z. omega (arith, z)))

-- a field that fits leads on, and one that does not is cut
pub cut_step : (n at w x : ℕ) {rest : ℕ} → (at + w ≤ n → rest ≡ x) → (n < at + w → at ≡ x) → pick (leb (at + w) n) rest at ≡ x
cut_step n at w x {rest} f g = go (leb (at + w) n) refl
  where
    go : (t : Bool) → leb (at + w) n ≡ t → pick t rest at ≡ x
    go true e = f (leb-true (at + w) n e)
    go false e = g (leb-false (at + w) n e)
