-- Who shares by pointers after each change of them: a holder lets go, joins another, takes a free place. Assumes nothing.
use mathlib.Core.Path.{◌≡◌, refl, sym, ap, ◌∙◌}
use mathlib.Core.Bool.{Bool, true, false, not}
use mathlib.Core.List.{List, [], ◌∷◌}
use Prim.Native.Nat.{ℕ, ◌+◌, ◌-◌, ◌≤◌, ◌<◌}
use native.Mathlib.Nat.{add-zero}
use native.Mathlib.Omega.{arith}
use lib.Dec.{eqb, leb}
use borrow.Author.Tests.{eqb-true, eqb-false, eq-eqb, ne_eqb, leb-true, leb-false}
use Rattle.wire.specs.Tests.{pick, both, either}
use Rattle.places.specs.Counts.{one}
use Rattle.places.specs.Sharing.{Sharing, is_one, drop, drop_all, via, join, fresh}
use Rattle.places.specs.Memory.{count_at, is_free, used_of, shares_of, sharing_of}
use Rattle.places.specs.Changes.{put, let_go}
use Rattle.places.proofs.Pointers.{not_both, put_same, put_own, put_put, count_other, count_to, count_from, free_has, free_is, taken_is, counted, absent, used_more, used_same}
use Rattle.wire.proofs.Tests.{both_false}

-- equal when all that they say is
pub equal_sharing : {H : Type 0} (t u : Sharing H) → ((g k : H) → t.shares g k ≡ u.shares g k) → ((g : H) → t.users g ≡ u.users g) → t.used ≡ u.used → t.places ≡ u.places → t ≡ u
equal_sharing t u s r d p = λ i. record { shares = λ g k. s g k i; users = λ g. r g i; used = d i; places = p i }

-- ---- a holder lets go

module _ (m n : ℕ) (ptr : ℕ → ℕ) (h : ℕ) (below : h < m) (within : ptr h ≤ n) where
  drop_shares : (g k : ℕ) → shares_of (put ptr h 0) g k ≡ pick (either (eqb g h) (eqb k h)) false (shares_of ptr g k)
  drop_shares g k = go (eqb g h) (eqb k h)
    where
      go : (t u : Bool)
          → both (not (eqb (pick t 0 (ptr g)) 0)) (eqb (pick t 0 (ptr g)) (pick u 0 (ptr k))) ≡ pick (either t u) false (shares_of ptr g k)
      go true u = refl
      go false true = not_both (eqb (ptr g) 0)
      go false false = refl

  drop_count : (x : ℕ) → (x ≡ 0 → ⊥) → count_at m (put ptr h 0) x ≡ count_at m ptr x - one (eqb x (ptr h))
  drop_count x pos = go (eqb x (ptr h)) refl
    where
      go : (t : Bool) → eqb x (ptr h) ≡ t → count_at m (put ptr h 0) x ≡ count_at m ptr x - one t
      go true e =
          let y : x ≡ ptr h = eqb-true x (ptr h) e in
          let c = count_from m ptr h 0 below (λ z. pos (y ∙ sym z)) in
          rw y (omega arith)
      go false e = omega (arith, count_other m ptr h 0 below x (λ y. eqb-false x (ptr h) e (sym y)) (λ y. pos (sym y)))

  drop_users : (g : ℕ) → pick (eqb (put ptr h 0 g) 0) 0 (count_at m (put ptr h 0) (put ptr h 0 g))
      ≡ pick (eqb g h) 0 (pick (eqb (ptr g) 0) 0 (count_at m ptr (ptr g)) - one (shares_of ptr g h))
  drop_users g = go (eqb g h) (eqb (ptr g) 0) refl
    where
      go : (t z : Bool) → eqb (ptr g) 0 ≡ z → pick (eqb (pick t 0 (ptr g)) 0) 0 (count_at m (put ptr h 0) (pick t 0 (ptr g)))
          ≡ pick t 0 (pick (eqb (ptr g) 0) 0 (count_at m ptr (ptr g)) - one (both (not (eqb (ptr g) 0)) (eqb (ptr g) (ptr h))))
      go true z e = refl
      go false true e = rw e
      go false false e = rw e (drop_count (ptr g) (eqb-false (ptr g) 0 e))

  drop_used : used_of m (put ptr h 0) n ≡ used_of m ptr n - one (eqb (pick (eqb (ptr h) 0) 0 (count_at m ptr (ptr h))) 1)
  drop_used = go (eqb (ptr h) 0) refl
    where
      -- h pointed at place p
      at : (p : ℕ) → ptr h ≡ p + 1 → used_of m (put ptr h 0) n ≡ used_of m ptr n - one (eqb (count_at m ptr (ptr h)) 1)
      at p e = last (eqb (count_at m ptr (ptr h)) 1) refl
        where
          back : put (put ptr h 0) h (p + 1) ≡ ptr
          back = put_put ptr h 0 (p + 1) ∙ put_own ptr h (p + 1) e

          fewer : count_at m (put ptr h 0) (p + 1) + 1 ≡ count_at m ptr (ptr h)
          fewer = rw (← e) (count_from m ptr h 0 below (λ z. omega arith))

          last : (t : Bool) → eqb (count_at m ptr (ptr h)) 1 ≡ t → used_of m (put ptr h 0) n ≡ used_of m ptr n - one t
          last true x =
              let y = eqb-true (count_at m ptr (ptr h)) 1 x in
              let r = used_more m n (put ptr h 0) h p below (omega arith) (put_same ptr h 0) (free_is m (put ptr h 0) p (omega (arith, fewer))) in
              let s : used_of m ptr n ≡ used_of m (put ptr h 0) n + 1 = rw back at r in
              omega arith
          last false x =
              let y = eqb-false (count_at m ptr (ptr h)) 1 x in
              let c = counted m ptr h below in
              let r = used_same m n (put ptr h 0) h p below (omega arith) (put_same ptr h 0) (taken_is m (put ptr h 0) p (omega (arith, fewer, y))) in
              let s : used_of m ptr n ≡ used_of m (put ptr h 0) n = rw back at r in
              omega arith

      go : (t : Bool) → eqb (ptr h) 0 ≡ t → used_of m (put ptr h 0) n ≡ used_of m ptr n - one (eqb (pick t 0 (count_at m ptr (ptr h))) 1)
      go true x =
          let e = ap (λ (q : ℕ → ℕ). used_of m q n) (put_own ptr h 0 (eqb-true (ptr h) 0 x)) in
          omega (arith, e)
      go false x =
          let ne = eqb-false (ptr h) 0 x in
          at (ptr h - 1) (omega (arith, ne))

  pub drop_sharing : sharing_of m (put ptr h 0) n ≡ drop eqb h (sharing_of m ptr n)
  unfolding sharing_of drop
  drop_sharing = equal_sharing (sharing_of m (put ptr h 0) n) (drop eqb h (sharing_of m ptr n)) drop_shares drop_users drop_used refl

-- ---- a holder that points at none joins another

module _ (m n : ℕ) (ptr : ℕ → ℕ) (h c : ℕ) (below : h < m) (none : ptr h ≡ 0) (other : c < m) (within : ptr c ≤ n) where
  joined : (g : ℕ) → put ptr h (ptr c) g ≡ ptr (via eqb h c g)
  joined g = go (eqb g h)
    where
      go : (t : Bool) → pick t (ptr c) (ptr g) ≡ ptr (pick t c g)
      go true = refl
      go false = refl

  join_count : (x : ℕ) → (x ≡ 0 → ⊥) → count_at m (put ptr h (ptr c)) x ≡ count_at m ptr x + one (eqb x (ptr c))
  join_count x pos = go (eqb x (ptr c)) refl
    where
      go : (t : Bool) → eqb x (ptr c) ≡ t → count_at m (put ptr h (ptr c)) x ≡ count_at m ptr x + one t
      go true e =
          let y : x ≡ ptr c = eqb-true x (ptr c) e in
          rw y (count_to m ptr h (ptr c) below (λ z. pos (y ∙ sym z ∙ none)))
      go false e = omega (arith, count_other m ptr h (ptr c) below x (λ y. pos (sym y ∙ none)) (λ y. eqb-false x (ptr c) e (sym y)))

  join_users : (g : ℕ) → pick (eqb (put ptr h (ptr c) g) 0) 0 (count_at m (put ptr h (ptr c)) (put ptr h (ptr c) g))
      ≡ pick (eqb (ptr (via eqb h c g)) 0) 0 (count_at m ptr (ptr (via eqb h c g))) + one (shares_of ptr (via eqb h c g) c)
  join_users g =
      ap (λ (x : ℕ). pick (eqb x 0) 0 (count_at m (put ptr h (ptr c)) x)) (joined g)
      ∙ go (ptr (via eqb h c g)) (eqb (ptr (via eqb h c g)) 0) refl
    where
      go : (x : ℕ) (z : Bool) → eqb x 0 ≡ z → pick (eqb x 0) 0 (count_at m (put ptr h (ptr c)) x)
          ≡ pick (eqb x 0) 0 (count_at m ptr x) + one (both (not (eqb x 0)) (eqb x (ptr c)))
      go x true e = rw e
      go x false e = rw e (join_count x (eqb-false x 0 e))

  join_used : used_of m (put ptr h (ptr c)) n ≡ used_of m ptr n
  join_used = go (eqb (ptr c) 0) refl
    where
      at : (p : ℕ) → ptr c ≡ p + 1 → used_of m (put ptr h (ptr c)) n ≡ used_of m ptr n
      at p e =
          let k : 1 ≤ count_at m ptr (p + 1) = rw (← e) (counted m ptr c other) in
          rw e (used_same m n ptr h p below (omega arith) none (taken_is m ptr p k))

      go : (t : Bool) → eqb (ptr c) 0 ≡ t → used_of m (put ptr h (ptr c)) n ≡ used_of m ptr n
      go true x =
          let y = eqb-true (ptr c) 0 x in
          ap (λ (q : ℕ → ℕ). used_of m q n) (put_own ptr h (ptr c) (none ∙ sym y))
      go false x =
          let ne = eqb-false (ptr c) 0 x in
          at (ptr c - 1) (omega (arith, ne))

  pub join_sharing : sharing_of m (put ptr h (ptr c)) n ≡ join eqb h c (sharing_of m ptr n)
  unfolding sharing_of join
  join_sharing =
      equal_sharing (sharing_of m (put ptr h (ptr c)) n) (join eqb h c (sharing_of m ptr n)) (λ g k. rw (joined g, joined k)) join_users join_used refl

-- ---- a holder that points at none takes a place that nobody points at

module _ (m n : ℕ) (ptr : ℕ → ℕ) (h p : ℕ) (below : h < m) (none : ptr h ≡ 0) (small : p < n) (free : is_free m ptr p ≡ true) (outside : (k : ℕ) → m ≤ k → ptr k ≡ 0) where
  nobody : (k : ℕ) → ptr k ≡ p + 1 → ⊥
  nobody k e = go (leb m k) refl
    where
      go : (t : Bool) → leb m k ≡ t → ⊥
      go true x = let z = outside k (leb-true m k x) in omega arith
      go false x = absent m ptr (p + 1) (free_has m ptr p free) k (leb-false m k x) e

  fresh_shares : (g k : ℕ) → shares_of (put ptr h (p + 1)) g k
      ≡ pick (either (is_one eqb (h ∷ []) g) (is_one eqb (h ∷ []) k)) (both (is_one eqb (h ∷ []) g) (is_one eqb (h ∷ []) k)) (shares_of ptr g k)
  fresh_shares g k = go (eqb g h) (eqb k h)
    where
      pos : eqb (p + 1) 0 ≡ false
      pos = ne_eqb (p + 1) 0 (λ e. omega arith)

      go : (t u : Bool) → both (not (eqb (pick t (p + 1) (ptr g)) 0)) (eqb (pick t (p + 1) (ptr g)) (pick u (p + 1) (ptr k)))
          ≡ pick (either (either t false) (either u false)) (both (either t false) (either u false)) (shares_of ptr g k)
      go true true = rw (pos, eq-eqb (p + 1) (p + 1) refl)
      go true false = rw (pos, ne_eqb (p + 1) (ptr k) (λ e. nobody k (sym e)))
      go false true = rw (ne_eqb (ptr g) (p + 1) (nobody g)) (both_false (not (eqb (ptr g) 0)))
      go false false = refl

  fresh_users : (g : ℕ) → pick (eqb (put ptr h (p + 1) g) 0) 0 (count_at m (put ptr h (p + 1)) (put ptr h (p + 1) g))
      ≡ pick (is_one eqb (h ∷ []) g) 1 (pick (eqb (ptr g) 0) 0 (count_at m ptr (ptr g)))
  fresh_users g = go (eqb g h) (eqb (ptr g) 0) refl
    where
      go : (t z : Bool) → eqb (ptr g) 0 ≡ z → pick (eqb (pick t (p + 1) (ptr g)) 0) 0 (count_at m (put ptr h (p + 1)) (pick t (p + 1) (ptr g)))
          ≡ pick (either t false) 1 (pick (eqb (ptr g) 0) 0 (count_at m ptr (ptr g)))
      go true z e =
          let a = count_to m ptr h (p + 1) below (λ x. omega arith) in
          let b = free_has m ptr p free in
          rw (ne_eqb (p + 1) 0 (λ x. omega arith)) (omega arith)
      go false true e = rw e
      go false false e =
          let ne = eqb-false (ptr g) 0 e in
          rw e (count_other m ptr h (p + 1) below (ptr g) (λ x. ne (sym x ∙ none)) (λ x. nobody g (sym x)))

  pub fresh_sharing : sharing_of m (put ptr h (p + 1)) n ≡ fresh eqb (h ∷ []) (sharing_of m ptr n)
  unfolding sharing_of fresh
  fresh_sharing =
      equal_sharing (sharing_of m (put ptr h (p + 1)) n) (fresh eqb (h ∷ []) (sharing_of m ptr n)) fresh_shares fresh_users
      (used_more m n ptr h p below small none free) refl

-- a second holder that joins the first has taken the place with it
module _ (c q : ℕ) (t : Sharing ℕ) where
  in_via : (g : ℕ) → is_one eqb (c ∷ []) (via eqb q c g) ≡ is_one eqb (c ∷ q ∷ []) g
  in_via g = go (eqb g q) (eqb g c) refl
    where
      go : (a b : Bool) → eqb g c ≡ b → either (eqb (pick a c g) c) false ≡ either b (either a false)
      go true true e = rw (eq-eqb c c refl)
      go true false e = rw (eq-eqb c c refl)
      go false true e = rw e
      go false false e = rw e

  via_out : (g : ℕ) → is_one eqb (c ∷ q ∷ []) g ≡ false → via eqb q c g ≡ g
  via_out g = go (eqb g c) (eqb g q)
    where
      go : (a b : Bool) → either a (either b false) ≡ false → pick b c g ≡ g
      go true b e = let z : ◌≡◌ {A = ℕ} 0 1 = cc in absurd (omega arith)
      go false true e = let z : ◌≡◌ {A = ℕ} 0 1 = cc in absurd (omega arith)
      go false false e = refl

  two_shares : (g k : ℕ) → (join eqb q c (fresh eqb (c ∷ []) t)).shares g k ≡ (fresh eqb (c ∷ q ∷ []) t).shares g k
  unfolding join fresh
  two_shares g k = rw (in_via g, in_via k) (go (is_one eqb (c ∷ q ∷ []) g) (is_one eqb (c ∷ q ∷ []) k) refl refl)
    where
      go : (x y : Bool) → is_one eqb (c ∷ q ∷ []) g ≡ x → is_one eqb (c ∷ q ∷ []) k ≡ y
          → pick (either x y) (both x y) (t.shares (via eqb q c g) (via eqb q c k)) ≡ pick (either x y) (both x y) (t.shares g k)
      go true y a b = refl
      go false true a b = refl
      go false false a b = rw (via_out g a, via_out k b)

  two_users : (g : ℕ) → (join eqb q c (fresh eqb (c ∷ []) t)).users g ≡ (fresh eqb (c ∷ q ∷ []) t).users g
  unfolding join fresh
  two_users g = rw (in_via g, eq-eqb c c refl) (go (is_one eqb (c ∷ q ∷ []) g) refl)
    where
      go : (x : Bool) → is_one eqb (c ∷ q ∷ []) g ≡ x
          → pick x 1 (t.users (via eqb q c g)) + one (pick (either x true) (both x true) (t.shares (via eqb q c g) c)) ≡ pick x 2 (t.users g)
      go true a = refl
      go false a = rw (via_out g a) (add-zero (t.users g))

  pub fresh_two : join eqb q c (fresh eqb (c ∷ []) t) ≡ fresh eqb (c ∷ q ∷ []) t
  unfolding join fresh
  fresh_two = equal_sharing (join eqb q c (fresh eqb (c ∷ []) t)) (fresh eqb (c ∷ q ∷ []) t) two_shares two_users refl refl

-- ---- holders let go one after the other

pub go_sharing : (m n : ℕ) (hs : List ℕ) (ptr : ℕ → ℕ) → ((h : ℕ) → is_one eqb hs h ≡ true → h < m) → ((h : ℕ) → ptr h ≤ n)
    → sharing_of m (let_go hs ptr) n ≡ drop_all eqb hs (sharing_of m ptr n)
go_sharing m n [] ptr below within = refl
go_sharing m n (h ∷ hs) ptr below within =
    go_sharing m n hs (put ptr h 0) (λ g e. below g (later g e)) (λ g. put-within g (eqb g h))
    ∙ ap (drop_all eqb hs) (drop_sharing m n ptr h (below h (rw (eq-eqb h h refl))) (within h))
  where
    later : (g : ℕ) → is_one eqb hs g ≡ true → either (eqb g h) (is_one eqb hs g) ≡ true
    later g e = go (eqb g h)
      where
        go : (t : Bool) → either t (is_one eqb hs g) ≡ true
        go true = refl
        go false = e

    put-within : (g : ℕ) (t : Bool) → pick t 0 (ptr g) ≤ n
    put-within g true = omega arith
    put-within g false = within g
