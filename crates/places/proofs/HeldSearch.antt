-- The search where the first places are known to be pointed at: with a cell and a pointer let go, of those places only the
-- ones that these two point at can be free. Assumes nothing.
use mathlib.Core.Path.{◌≡◌, refl, sym, ap, ◌∙◌}
use mathlib.Core.Bool.{Bool, true, false, not, ◌&&◌}
use mathlib.Core.List.{List, [], ◌∷◌}
use Prim.Native.Nat.{ℕ, ◌+◌, ◌-◌, ◌≤◌, ◌<◌}
use native.Mathlib.Omega.{arith}
use lib.Dec.{eqb, leb, ltb}
use lib.ListN.{get_or}
use mir.Val.{bool_byte}
use borrow.Author.Tests.{eqb-true, eqb-false, eq-eqb, ne_eqb, ltb-true, ltb-false, le-leb}
use Rattle.std.specs.Prelude.{Some}
use Rattle.wire.specs.Tests.{pick}
use Rattle.places.specs.Sizes.{holder_count}
use Rattle.places.specs.Counts.{one, count_below}
use Rattle.places.specs.Memory.{places_of, pointer_at, count_at, is_free, valid}
use Rattle.places.specs.Changes.{put, let_go, free_place}
use Rattle.places.specs.Held.{HeldBelow}
use Rattle.places.proofs.Counting.{count_last, first_is}
use Rattle.places.proofs.Pointers.{eqb_sym, count_put, count_other, free_same}
use Rattle.places.proofs.Bytes.{inside}
use Rattle.places.proofs.Validity.{valid_has}

-- ---- tests of two parts

pub first_part : (t u : Bool) → (t && u) ≡ true → t ≡ true
first_part true u e = refl
first_part false u e = e

pub second_part : (t u : Bool) → (t && u) ≡ true → u ≡ true
second_part true u e = e
second_part false u e = let z : ◌≡◌ {A = ℕ} 0 1 = cc in absurd (omega arith)

-- ---- who has a pointer

pub bit_most : (t : Bool) → bool_byte t ≤ 1
bit_most true = omega arith
bit_most false = omega arith

bit_one : (t : Bool) → bool_byte t ≡ one t
bit_one true = refl
bit_one false = refl

pub users_none : (ptr : ℕ → ℕ) (v : ℕ) → 0 ≡ count_at 0 ptr v
unfolding count_at count_below
users_none ptr v = refl

pub users_next : (b : List ℕ) (h n v : ℕ) → h < holder_count → n ≡ count_at h (pointer_at b) v → n + bool_byte (eqb (get_or b (h + 1) 0) v) ≡ count_at (h + 1) (pointer_at b) v
unfolding count_at
users_next b h n v l e =
    let x = bit_one (eqb (get_or b (h + 1) 0) v) in
    let y = count_last h (λ k. eqb (pointer_at b k) v) in
    let z = ap (λ (p : ℕ). one (eqb p v)) (inside b h l) in
    omega arith

-- ---- who has it but two

-- the pointers once the two have let go
abbrev left : List ℕ → ℕ → ℕ → ℕ → ℕ
left b c q = let_go (c ∷ q ∷ []) (pointer_at b)

-- all are its own exactly where the rest is none
rest_none : (rest own all : ℕ) → rest + own ≡ all → eqb all own ≡ eqb rest 0
rest_none rest own all e = go (eqb rest 0) refl
  where
    go : (t : Bool) → eqb rest 0 ≡ t → eqb all own ≡ t
    go true x = let y = eqb-true rest 0 x in eq-eqb all own (omega arith)
    go false x = let y = eqb-false rest 0 x in ne_eqb all own (λ z. y (omega arith))

module _ (b : List ℕ) (c q v : ℕ) (lc : c < holder_count) (lq : q < holder_count) (pos : 0 < v) where
  abbrev ptr : ℕ → ℕ
  ptr = pointer_at b

  -- once the first has let go, the second has it still, unless it is the first
  second : one (eqb (put ptr c 0 q) v) ≡ bool_byte (eqb (ptr q) v && not (eqb c q))
  second = rw (eqb_sym q c) (go (eqb c q) (eqb (ptr q) v) refl)
    where
      go : (t x : Bool) → eqb (ptr q) v ≡ x → one (eqb (pick t 0 (ptr q)) v) ≡ bool_byte (x && not t)
      go true true e = rw (ne_eqb 0 v (λ z. omega arith))
      go true false e = rw (ne_eqb 0 v (λ z. omega arith))
      go false true e = rw e
      go false false e = rw e

  -- letting go takes the two's own pointers away
  left_count : count_at holder_count (left b c q) v + (bool_byte (eqb (ptr c) v) + bool_byte (eqb (ptr q) v && not (eqb c q))) ≡ count_at holder_count ptr v
  left_count =
      let z = ap one (ne_eqb 0 v (λ e. omega arith)) in
      let x = count_put holder_count ptr c 0 lc v in
      let y = count_put holder_count (put ptr c 0) q 0 lq v in
      omega (arith, x, y, z, second, bit_one (eqb (ptr c) v))

  pub theirs_free : {u : ℕ} → u ≡ count_at holder_count ptr v
      → eqb u (bool_byte (eqb (get_or b (c + 1) 0) v) + bool_byte (eqb (get_or b (q + 1) 0) v && not (eqb c q))) ≡ is_free holder_count (left b c q) (v - 1)
  unfolding is_free
  theirs_free {u} e =
      let s : v - 1 + 1 ≡ v = omega arith in
      rw (s, e, ← inside b c lc, ← inside b q lq) (rest_none (count_at holder_count (left b c q) v) (bool_byte (eqb (ptr c) v) + bool_byte (eqb (ptr q) v && not (eqb c q))) (count_at holder_count ptr v) left_count)

-- ---- the search

module _ (b : List ℕ) (c q held : ℕ) where
  -- place v - 1 is not free, if it is one of the first
  abbrev pub Passed : ℕ → Type 0
  Passed v = 0 < v → v ≤ held → is_free holder_count (left b c q) (v - 1) ≡ false

  -- tried, and somebody else points there
  pub passed : (v : ℕ) {r : Bool} → r ≡ is_free holder_count (left b c q) (v - 1) → r ≡ false → Passed v
  passed v e f pos l = sym e ∙ f

  -- no place, or a later one
  pub passed_none : (v : ℕ) → (not (eqb v 0) && leb v held) ≡ false → Passed v
  passed_none v e pos l =
      let f : true ≡ false = rw (ne_eqb v 0 (λ z. omega arith), le-leb v held l) at e in
      let z : ◌≡◌ {A = ℕ} 0 1 = cc in
      absurd (omega arith)

  -- the one that was tried, or a later one
  pub passed_same : (x y : ℕ) → Passed x → (not (eqb x y) && leb y held) ≡ false → Passed y
  passed_same x y before e pos l = go (eqb x y) refl (rw (le-leb y held l) at e)
    where
      go : (t : Bool) → eqb x y ≡ t → (not t && true) ≡ false → is_free holder_count (left b c q) (y - 1) ≡ false
      go true s f = let z : x ≡ y = eqb-true x y s in rw (← z) (before (omega arith) (omega arith))
      go false s f = let z : ◌≡◌ {A = ℕ} 0 1 = cc in absurd (omega arith)

module _ (b : List ℕ) (ok : valid b ≡ true) (c q : ℕ) (lc : c < holder_count) (lq : q < holder_count) (held : ℕ) (known : HeldBelow b held) where
  -- a place at which neither of the two points is as before
  others_hold : (p : ℕ) → p < held → (pointer_at b c ≡ p + 1 → ⊥) → (pointer_at b q ≡ p + 1 → ⊥) → is_free holder_count (left b c q) p ≡ false
  others_hold p l nc nq =
      free_same holder_count holder_count (left b c q) (pointer_at b) p
      (count_other holder_count (put (pointer_at b) c 0) q 0 lq (p + 1) (λ e. go (eqb q c) refl e) (λ e. omega arith)
      ∙ count_other holder_count (pointer_at b) c 0 lc (p + 1) nc (λ e. omega arith))
      ∙ known p l
    where
      go : (t : Bool) → eqb q c ≡ t → pick t 0 (pointer_at b q) ≡ p + 1 → ⊥
      go true x e = omega arith
      go false x e = nq e

  -- a free place with none before it is the one that the search finds
  found_at : (p : ℕ) → p < places_of b → is_free holder_count (left b c q) p ≡ true → ((j : ℕ) → j < p → is_free holder_count (left b c q) j ≡ false) → Some p ≡ free_place b (c ∷ q ∷ [])
  unfolding free_place
  found_at p l t before = sym (first_is (places_of b) 0 (is_free holder_count (left b c q)) p (omega arith) (omega arith) t (λ j u. before j))

  -- x is the lower of the two's pointers, y the higher
  module _ (x y : ℕ) (lower : x ≡ pick (ltb (get_or b (c + 1) 0) (get_or b (q + 1) 0)) (get_or b (c + 1) 0) (get_or b (q + 1) 0))
      (higher : y ≡ pick (ltb (get_or b (c + 1) 0) (get_or b (q + 1) 0)) (get_or b (q + 1) 0) (get_or b (c + 1) 0)) where
    record Ordered : Type 0 where
      order : x ≤ y
      most : y ≤ places_of b
      alone : (v : ℕ) → (x ≡ v → ⊥) → (y ≡ v → ⊥) → (pointer_at b c ≡ v → ⊥) × (pointer_at b q ≡ v → ⊥)

    ordered : Ordered
    ordered = go (ltb (pointer_at b c) (pointer_at b q)) refl (rw (inside b c lc, inside b q lq) lower) (rw (inside b c lc, inside b q lq) higher)
      where
        go : (t : Bool) → ltb (pointer_at b c) (pointer_at b q) ≡ t → x ≡ pick t (pointer_at b c) (pointer_at b q) → y ≡ pick t (pointer_at b q) (pointer_at b c) → Ordered
        go true t e f = record {
          order = omega (arith, ltb-true (pointer_at b c) (pointer_at b q) t);
          most = omega (arith, (valid_has b ok).within q);
          alone = λ v nx ny. (λ z. nx (e ∙ z), λ z. ny (f ∙ z));
        }
        go false t e f = record {
          order = omega (arith, ltb-false (pointer_at b c) (pointer_at b q) t);
          most = omega (arith, (valid_has b ok).within c);
          alone = λ v nx ny. (λ z. ny (f ∙ z), λ z. nx (e ∙ z));
        }

    -- of the first places only those of x and y can be free
    only_two : (j : ℕ) → j < held → (x ≡ j + 1 → is_free holder_count (left b c q) j ≡ false) → (y ≡ j + 1 → is_free holder_count (left b c q) j ≡ false) → is_free holder_count (left b c q) j ≡ false
    only_two j l fx fy = go (eqb x (j + 1)) refl (eqb y (j + 1)) refl
      where
        go : (t : Bool) → eqb x (j + 1) ≡ t → (u : Bool) → eqb y (j + 1) ≡ u → is_free holder_count (left b c q) j ≡ false
        go true s u w = fx (eqb-true x (j + 1) s)
        go false s true w = fy (eqb-true y (j + 1) w)
        go false s false w =
            let a = ordered.alone (j + 1) (eqb-false x (j + 1) s) (eqb-false y (j + 1) w) in
            others_hold j l a.0 a.1

    passed-at : (v j : ℕ) → Passed b c q held v → j < held → v ≡ j + 1 → is_free holder_count (left b c q) j ≡ false
    passed-at v j before l e =
        let s : j ≡ v - 1 = omega arith in
        rw s (before (omega arith) (omega arith))

    pub first_lower : 0 < x → x ≤ held → {r : Bool} → r ≡ is_free holder_count (left b c q) (x - 1) → r ≡ true → Some (x - 1) ≡ free_place b (c ∷ q ∷ [])
    first_lower pos l e t =
        found_at (x - 1) (omega (arith, ordered.order, ordered.most)) (sym e ∙ t)
        (λ j u. only_two j (omega arith) (λ z. absurd (omega arith)) (λ z. absurd (omega (arith, ordered.order))))

    pub first_higher : 0 < y → y ≤ held → Passed b c q held x → {r : Bool} → r ≡ is_free holder_count (left b c q) (y - 1) → r ≡ true → Some (y - 1) ≡ free_place b (c ∷ q ∷ [])
    first_higher pos l px e t =
        found_at (y - 1) (omega (arith, ordered.most)) (sym e ∙ t)
        (λ j u. only_two j (omega arith) (passed-at x j px (omega arith)) (λ z. absurd (omega arith)))

    pub first_after : held < get_or b 0 0 → Passed b c q held x → Passed b c q held y → {r : Bool} → r ≡ is_free holder_count (left b c q) (held + 1 - 1) → r ≡ true → Some held ≡ free_place b (c ∷ q ∷ [])
    unfolding places_of
    first_after l px py e t =
        let s : held + 1 - 1 ≡ held = omega arith in
        found_at held l (rw s at (sym e ∙ t)) (λ j u. only_two j u (passed-at x j px u) (passed-at y j py u))

    -- the higher of two that differ points at a place
    pub apart_points : (x ≡ y → ⊥) → 0 < y
    apart_points n = omega (arith, n, ordered.order)
