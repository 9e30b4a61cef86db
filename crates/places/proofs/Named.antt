-- Holders by ids: no two listed ones have one number, so that the changes of the memory are those of the definitions. Assumes nothing.
use mathlib.Core.Path.{◌≡◌, refl, sym, ap, ◌∙◌}
use mathlib.Core.Bool.{Bool, true, false}
use mathlib.Core.List.{List, [], ◌∷◌, map}
use mathlib.Core.Option.{some}
use Prim.Native.Nat.{ℕ, ◌+◌, ◌*◌, ◌≤◌, ◌<◌}
use native.Mathlib.Omega.{arith}
use lib.Dec.{eqb, ltb}
use borrow.Author.Tests.{eqb-true, eq-eqb, ne_eqb, lt-ltb, ltb-true}
use Rattle.std.specs.Prelude.{Option, Some, None}
use Rattle.wire.specs.Tests.{pick, both}
use Rattle.wire.proofs.Tests.{both_left, both_right}
use Rattle.places.specs.Counts.{on_found}
use Rattle.places.specs.Sharing.{is_one, drop, join, full, taken}
use Rattle.places.specs.Memory.{decode, valid, shown, with_picture}
use Rattle.places.specs.Changes.{free_place, take_of, share_of, release_of}
use Rattle.places.specs.Keyed.{keyed}
use Rattle.places.specs.declared.Family.{Family}
use Rattle.places.specs.declared.Family.TheVariants.{Windows, Notifications}
use Rattle.places.specs.Holder.{Holder, cell, icon, same_family, same_holder, number_of}
use Rattle.places.proofs.Keyed.{Own, Owns, keyed_drop, keyed_join, keyed_one, keyed_full, keyed_taken}
use Rattle.places.proofs.Meaning.{holder, holders, take_one_means, take_means, full_means, share_means, release_means}
use Rattle.places.proofs.Pictures.{take_shown}

-- ---- sameness

pub same_family_lem : (f g : Family) → same_family f g ≡ true → f ≡ g
same_family_lem Windows Windows e = refl
same_family_lem Windows Notifications e = let z : ◌≡◌ {A = ℕ} 0 1 = cc in absurd (omega arith)
same_family_lem Notifications Windows e = let z : ◌≡◌ {A = ℕ} 0 1 = cc in absurd (omega arith)
same_family_lem Notifications Notifications e = refl

pub family_same : (f : Family) → same_family f f ≡ true
family_same Windows = refl
family_same Notifications = refl

pub holder_same : (h : Holder) → same_holder h h ≡ true
holder_same (cell c) = eq-eqb c c refl
holder_same (icon f a b w) = rw (family_same f, eq-eqb a a refl, eq-eqb b b refl, eq-eqb w w refl)

pub same_record_lem : (f g : Family) (a x b y : ℕ) → both (same_family f g) (both (eqb a x) (eqb b y)) ≡ true → (f ≡ g) × (a ≡ x) × (b ≡ y)
same_record_lem f g a x b y e =
    let r : both (eqb a x) (eqb b y) ≡ true = both_right (same_family f g) (both (eqb a x) (eqb b y)) e in
    (same_family_lem f g (both_left (same_family f g) (both (eqb a x) (eqb b y)) e), eqb-true a x (both_left (eqb a x) (eqb b y) r), eqb-true b y (both_right (eqb a x) (eqb b y) r))

pub same_holder_lem : (g h : Holder) → same_holder g h ≡ true → g ≡ h
same_holder_lem (cell c) (cell d) e = ap cell (eqb-true c d e)
same_holder_lem (cell c) (icon f a b w) e = let z : ◌≡◌ {A = ℕ} 0 1 = cc in absurd (omega arith)
same_holder_lem (icon f a b w) (cell d) e = let z : ◌≡◌ {A = ℕ} 0 1 = cc in absurd (omega arith)
same_holder_lem (icon f a b w) (icon g x y v) e =
    let r1 : both (eqb a x) (both (eqb b y) (eqb w v)) ≡ true = both_right (same_family f g) (both (eqb a x) (both (eqb b y) (eqb w v))) e in
    let r2 : both (eqb b y) (eqb w v) ≡ true = both_right (eqb a x) (both (eqb b y) (eqb w v)) r1 in
    let ef : f ≡ g = same_family_lem f g (both_left (same_family f g) (both (eqb a x) (both (eqb b y) (eqb w v))) e) in
    let ea : a ≡ x = eqb-true a x (both_left (eqb a x) (both (eqb b y) (eqb w v)) r1) in
    let eb : b ≡ y = eqb-true b y (both_left (eqb b y) (eqb w v) r2) in
    let ew : w ≡ v = eqb-true w v (both_right (eqb b y) (eqb w v) r2) in
    rw (ef, ea, eb, ew)

-- ---- numbers

-- what the search for a record's slot says
pub record Slots (slot : Family → ℕ → ℕ → Option ℕ) : Type 0 where
  pub below : (f : Family) (a b i : ℕ) → slot f a b ≡ Some i → i < 48
  -- a slot lists one record
  pub one_record : (f g : Family) (a b x y i : ℕ) → slot f a b ≡ Some i → slot g x y ≡ Some i → (f ≡ g) × (a ≡ x) × (b ≡ y)

module _ (slot : Family → ℕ → ℕ → Option ℕ) (slots : Slots slot) where
  -- a holder that no other has the number of
  own_by : (h : Holder) → ((g : Holder) → number_of slot g ≡ number_of slot h → g ≡ h) → Own same_holder (number_of slot) h
  own_by h one-to-one g = go (same_holder g h) refl
    where
      go : (t : Bool) → same_holder g h ≡ t → eqb (number_of slot g) (number_of slot h) ≡ t
      go true e = eq-eqb (number_of slot g) (number_of slot h) (ap (number_of slot) (same_holder_lem g h e))
      go false e =
          ne_eqb (number_of slot g) (number_of slot h)
          (λ x.
          let q : same_holder g h ≡ true = rw (one-to-one g x) (holder_same h) in
          let z : ◌≡◌ {A = ℕ} 0 1 = cc in
          omega arith)

  pub cell_number_lem : (c : ℕ) → c < 12 → number_of slot (cell c) ≡ c
  unfolding number_of
  cell_number_lem c l = rw (lt-ltb c 12 l)

  pub icon_number_lem : (f : Family) (a b w i : ℕ) → slot f a b ≡ Some i → w < 3 → number_of slot (icon f a b w) ≡ 12 + 3 * i + w
  unfolding number_of
  icon_number_lem f a b w i e l = rw (e, lt-ltb w 3 l)

  -- a number below 12 is a cell's, any other below 156 an icon's
  from_cell : (c n : ℕ) → number_of slot (cell c) ≡ n → n < 156 → (c ≡ n) × (n < 12)
  unfolding number_of
  from_cell c n e l = go (ltb c 12) refl e
    where
      go : (t : Bool) → ltb c 12 ≡ t → pick t c 156 ≡ n → (c ≡ n) × (n < 12)
      go true x y = let k = ltb-true c 12 x in (y, omega arith)
      go false x y = absurd (omega arith)

  from_icon : (f : Family) (a b w n : ℕ) → number_of slot (icon f a b w) ≡ n → n < 156 → (i : ℕ) × (slot f a b ≡ Some i) × (w < 3) × (n ≡ 12 + 3 * i + w)
  unfolding number_of
  from_icon f a b w n e l = go (slot f a b) (ltb w 3) refl refl e
    where
      go : (s : Option ℕ) (t : Bool) → slot f a b ≡ s → ltb w 3 ≡ t → on_found s 156 (λ i. pick t (12 + 3 * i + w) 156) ≡ n
          → (i : ℕ) × (slot f a b ≡ Some i) × (w < 3) × (n ≡ 12 + 3 * i + w)
      go (Some i) true x y z = (i, x, ltb-true w 3 y, sym z)
      go (Some i) false x y z = absurd (omega arith)
      go None t x y z = absurd (omega arith)

  pub own_cell : (c : ℕ) → c < 12 → Own same_holder (number_of slot) (cell c)
  own_cell c l = own_by (cell c) go
    where
      go : (g : Holder) → number_of slot g ≡ number_of slot (cell c) → g ≡ cell c
      go (cell d) e = ap cell (from_cell d c (e ∙ cell_number_lem c l) (omega arith)).0
      go (icon f a b w) e =
          let r = from_icon f a b w c (e ∙ cell_number_lem c l) (omega arith) in
          absurd (omega (arith, r.3))

  pub own_icon : (f : Family) (a b w i : ℕ) → slot f a b ≡ Some i → w < 3 → Own same_holder (number_of slot) (icon f a b w)
  own_icon f a b w i at_i l = own_by (icon f a b w) go
    where
      n : number_of slot (icon f a b w) ≡ 12 + 3 * i + w
      n = icon_number_lem f a b w i at_i l

      small : 12 + 3 * i + w < 156
      small = omega (arith, slots.below f a b i at_i)

      go : (g : Holder) → number_of slot g ≡ number_of slot (icon f a b w) → g ≡ icon f a b w
      go (cell d) e = let r = from_cell d (12 + 3 * i + w) (e ∙ n) small in absurd (omega (arith, r.1))
      go (icon g x y v) e =
          let r = from_icon g x y v (12 + 3 * i + w) (e ∙ n) small in
          let ij : r.0 ≡ i = omega (arith, r.2, r.3) in
          let ev : v ≡ w = omega (arith, r.2, r.3) in
          let s : slot g x y ≡ Some i = r.1 ∙ ap Some ij in
          let o = slots.one_record g f x y a b i s at_i in
          rw (o.0, o.1, o.2, ev)

  -- ---- the changes of a memory, by ids

  module _ (m : List ℕ) (ok : valid m ≡ true) (f : Family) (a b w i : ℕ) (at_i : slot f a b ≡ Some i) (lw : w < 3) where
    abbrev num : Holder → ℕ
    num = number_of slot

    abbrev own : Holder
    own = icon f a b w

    high : (12 ≤ num own) × (num own < 156)
    high =
        let e = icon_number_lem f a b w i at_i lw in
        let k = slots.below f a b i at_i in
        (omega arith, omega arith)

    owned : Own same_holder num own
    owned = own_icon f a b w i at_i lw

    -- an icon with no cell, and its refusal 17
    pub alone_means : keyed num (decode (take_of m (num own ∷ []))) ≡ taken same_holder (own ∷ []) (keyed num (decode m))
    alone_means = ap (keyed num) (take_one_means m ok (num own) high.1) ∙ keyed_taken same_holder num (own ∷ []) (owned, tt) (decode m)

    pub alone_full : on_found (free_place m (num own ∷ [])) true (λ p. false) ≡ full same_holder (own ∷ []) (keyed num (decode m))
    alone_full = full_means m ok (num own ∷ []) (holder (num own) high.1) ∙ keyed_full same_holder num (own ∷ []) (owned, tt) (decode m)

    -- an icon set to none
    pub none_icon_means : keyed num (decode (release_of m (num own))) ≡ drop same_holder own (keyed num (decode m))
    none_icon_means = ap (keyed num) (release_means m ok (num own) high.1) ∙ keyed_drop same_holder num own owned (decode m)

    module _ (c : ℕ) (lc : c < 12) where
      abbrev hs : List Holder
      hs = cell c ∷ own ∷ []

      low : num (cell c) < 12
      low = rw (cell_number_lem c lc) lc

      low-holder : num (cell c) < 156
      low-holder = let x = low in omega arith

      apart : num (cell c) ≡ num own → ⊥
      apart e = let x = low in let y = high.0 in omega arith

      owns : Owns same_holder num hs
      owns = (own_cell c lc, (owned, tt))

      -- an icon, and its refusal 17
      pub icon_means : keyed num (decode (take_of m (map num hs))) ≡ taken same_holder hs (keyed num (decode m))
      icon_means = ap (keyed num) (take_means m ok (num (cell c)) (num own) low-holder high.1 apart) ∙ keyed_taken same_holder num hs owns (decode m)

      pub icon_full : on_found (free_place m (map num hs)) true (λ p. false) ≡ full same_holder hs (keyed num (decode m))
      icon_full = full_means m ok (map num hs) (holders (num (cell c)) (num own) low-holder high.1) ∙ keyed_full same_holder num hs owns (decode m)

      -- it changes what no other holder shows
      pub icon_shown : (p : ℕ) → free_place m (map num hs) ≡ Some p → (pictures : ℕ → List ℕ) (x : List ℕ) (g : Holder)
          → shown (take_of m (map num hs)) (with_picture pictures p x) (num g) ≡ pick (is_one same_holder hs g) (some x) (shown m pictures (num g))
      icon_shown p at_p pictures x g =
          take_shown m ok (map num hs) (holders (num (cell c)) (num own) low-holder high.1) p at_p pictures x (num g)
          ∙ ap (λ (t : Bool). pick t (some x) (shown m pictures (num g))) (keyed_one same_holder num hs owns g)

      -- a cached icon
      pub cached_means : keyed num (decode (share_of m (num own) (num (cell c)))) ≡ join same_holder own (cell c) (drop same_holder own (keyed num (decode m)))
      cached_means =
          ap (keyed num) (share_means m ok (num own) (num (cell c)) high.1 low-holder apart)
          ∙ keyed_join same_holder num own (cell c) owned (drop eqb (num own) (decode m))
          ∙ ap (join same_holder own (cell c)) (keyed_drop same_holder num own owned (decode m))
