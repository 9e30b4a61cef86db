-- Two changes that do not meet, over any kind of table and any kind of order: what is asked of numbers and changes, and that the
-- numbers and the table at the end are then the same in either order. Then what gives it for tables by keys. Assumes nothing.
use Prim.Native.Nat.{ℕ, ◌+◌, ◌-◌, ◌≤◌}
use mathlib.Core.Path.{◌≡◌, refl, sym, ap₂, ◌∙◌}
use mathlib.Core.Bool.{Bool, true, false}
use native.Mathlib.Omega.{arith}
use lib.Dec.{eqb, leb}
use borrow.Author.Tests.{eqb-true, lt-leb}
use Rattle.wire.specs.Tests.{pick, both}
use Rattle.wire.proofs.Tests.{never}

-- a refused order changes nothing
abbrev pub step : {T O : Type 0} (number : T → O → ℕ) (change : T → O → T) → T → O → T
step number change t o = pick (eqb (number t o) 0) (change t o) t

-- where the other is accepted its change does not move this one's number, and where both are the changes commute
pub record Apart {T O : Type 0} (number : T → O → ℕ) (change : T → O → T) (t : T) (a b : O) : Type 0 where
  pub first : number t b ≡ 0 → number (change t b) a ≡ number t a
  pub second : number t a ≡ 0 → number (change t a) b ≡ number t b
  pub changes : number t a ≡ 0 → number t b ≡ 0 → change (change t a) b ≡ change (change t b) a

module _ {T O : Type 0} (number : T → O → ℕ) (change : T → O → T) where
  -- a number that the change of an accepted order leaves, any order leaves
  left : (t : T) (a b : O) → (number t b ≡ 0 → number (change t b) a ≡ number t a) → number (step number change t b) a ≡ number t a
  left t a b e = go (eqb (number t b) 0) refl
    where
      go : (u : Bool) → eqb (number t b) 0 ≡ u → number (pick u (change t b) t) a ≡ number t a
      go true x = e (eqb-true (number t b) 0 x)
      go false x = refl

  module _ (t : T) (a b : O) (p : Apart number change t a b) where
    pub first_number_lem : number (step number change t b) a ≡ number t a
    first_number_lem = left t a b p.first

    pub second_number : number (step number change t a) b ≡ number t b
    second_number = left t b a p.second

    pub same_end : step number change (step number change t a) b ≡ step number change (step number change t b) a
    same_end =
        rw (first_number_lem, second_number) (go (eqb (number t a) 0) (eqb (number t b) 0) refl refl)
      where
        go : (u v : Bool) → eqb (number t a) 0 ≡ u → eqb (number t b) 0 ≡ v
            → pick v (change (pick u (change t a) t) b) (pick u (change t a) t) ≡ pick u (change (pick v (change t b) t) a) (pick v (change t b) t)
        go true true x y = p.changes (eqb-true (number t a) 0 x) (eqb-true (number t b) 0 y)
        go true false x y = refl
        go false true x y = refl
        go false false x y = refl

-- ---- the number of an order that asks whether its key is listed and whether the table is full

pub keyed_number : {T : Type 0} (listed : T → Bool) (many : T → ℕ) (most : ℕ) (verdict : Bool → Bool → ℕ) (number : T → ℕ)
    → ((u : T) → number u ≡ verdict (listed u) (leb most (many u)))
    -- after another key's change, on a table with room for two
    → (t u : T) → listed u ≡ listed t → many u ≤ many t + 1 → many t + 2 ≤ most → number u ≡ number t
keyed_number listed many most verdict number is t u same more room =
    let a : leb most (many u) ≡ false = lt-leb most (many u) (omega arith) in
    let b : leb most (many t) ≡ false = lt-leb most (many t) (omega arith) in
    is u ∙ ap₂ verdict same (a ∙ sym b) ∙ sym (is t)

-- ---- what stands by keys, each changed as what stood there says

abbrev pub edit : {K A : Type 0} (same : K → K → Bool) (k : K) (change : A → A) → (K → A) → K → A
edit same k change r = λ j. pick (same k j) (change (r k)) (r j)

pub edit_other : {K A : Type 0} (same : K → K → Bool) (k : K) (change : A → A) (r : K → A) (j : K) → same k j ≡ false → edit same k change r j ≡ r j
edit_other same k change r j e = rw e

-- two tests of which one fails at most
swap_sides : {A : Type 0} (u v : Bool) (x y r : A) → both u v ≡ false → pick v y (pick u x r) ≡ pick u x (pick v y r)
swap_sides false v x y r e = refl
swap_sides true false x y r e = refl
swap_sides true true x y r e = never (sym e)

-- one thing put where a test holds
pub none_swap : {A : Type 0} (x : A) (u v : Bool) (r : A) → pick v x (pick u x r) ≡ pick u x (pick v x r)
none_swap x true true r = refl
none_swap x true false r = refl
none_swap x false v r = refl

pub edits_commute : {K A : Type 0} (same : K → K → Bool) (k h : K) (f g : A → A) (r : K → A) → same k h ≡ false → same h k ≡ false
    → (j : K) → both (same k j) (same h j) ≡ false → edit same h g (edit same k f r) j ≡ edit same k f (edit same h g r) j
edits_commute same k h f g r a b j e = rw (a, b) (swap_sides (same k j) (same h j) (f (r k)) (g (r h)) (r j) e)

-- ---- the count: a deletion takes one, a new record adds one

abbrev pub count_by : (deleted fresh : Bool) → ℕ → ℕ
count_by deleted fresh n = pick deleted (n - 1) (pick fresh (n + 1) n)

pub count_next : (d x : Bool) (n : ℕ) → count_by d x n ≤ n + 1
count_next true x n = omega arith
count_next false true n = omega arith
count_next false false n = omega arith

-- what is deleted must be counted: else a deletion before a new record takes nothing
pub counts_commute : (n : ℕ) (da xa db xb : Bool) → (da ≡ true → 1 ≤ n) → (db ≡ true → 1 ≤ n)
    → count_by db xb (count_by da xa n) ≡ count_by da xa (count_by db xb n)
counts_commute n true xa true xb f g = refl
counts_commute n true xa false true f g = let h : 1 ≤ n = f refl in omega arith
counts_commute n true xa false false f g = refl
counts_commute n false true true xb f g = let h : 1 ≤ n = g refl in omega arith
counts_commute n false false true xb f g = refl
counts_commute n false true false true f g = refl
counts_commute n false true false false f g = refl
counts_commute n false false false true f g = refl
counts_commute n false false false false f g = refl
