-- Records that are listed, deleted, or gone with desktop none: who shares, by ids. Assumes nothing.
use mathlib.Core.Path.{◌≡◌, refl, sym, ap, ◌∙◌}
use mathlib.Core.Bool.{Bool, true, false}
use mathlib.Core.List.{List, [], ◌∷◌, map}
use Prim.Native.Nat.{ℕ, zero, suc, ◌+◌, ◌*◌, ◌<◌}
use native.Mathlib.Omega.{arith}
use lib.Dec.{eqb, ltb}
use borrow.Author.Tests.{eqb-true, eq-eqb, ltb-true}
use Rattle.std.specs.Prelude.{Option, Some, None}
use Rattle.wire.specs.Tests.{pick, both, either}
use Rattle.places.specs.Counts.{on_found}
use Rattle.places.specs.Sharing.{is_one, drop_all, cells_only}
use Rattle.places.specs.Memory.{is_cell, places_of, pointer_at, decode, valid}
use Rattle.places.specs.Changes.{point_all, release_of, release_all_of, release_records_of}
use Rattle.places.specs.Keyed.{keyed}
use Rattle.places.specs.declared.Family.{Family}
use Rattle.places.specs.Holder.{Holder, cell, icon, same_family, same_holder, number_of, is_cell_holder, icons_of, no_slot}
use Rattle.places.proofs.Bytes.{outside, Holders, point_all_is}
use Rattle.places.proofs.Validity.{valid_has}
use Rattle.places.proofs.Meaning.{releases_means, records_means}
use Rattle.places.proofs.Keyed.{Owns, keyed_listed, keyed_drops, keyed_cells}
use Rattle.places.proofs.Named.{Slots, cell_number_lem, icon_number_lem, own_icon, same_record_lem}

-- ---- a record listed in one search and not in the other, whose icons point at none

abbrev pub is_record_lem : Family → ℕ → ℕ → Family → ℕ → ℕ → Bool
is_record_lem f a b g x y = both (same_family g f) (both (eqb x a) (eqb y b))

module _ (slot new : Family → ℕ → ℕ → Option ℕ) (m : List ℕ) (f : Family) (a b i : ℕ) (at_i : slot f a b ≡ Some i) (gone : new f a b ≡ None)
    (others : (g : Family) (x y : ℕ) → is_record_lem f a b g x y ≡ false → new g x y ≡ slot g x y)
    (empty : (w : ℕ) → w < 3 → pointer_at m (12 + 3 * i + w) ≡ 0) where
  alike : (g : Holder) → pointer_at m (number_of slot g) ≡ pointer_at m (number_of new g)
  unfolding number_of
  alike (cell c) = refl
  alike (icon g x y w) = go (is_record_lem f a b g x y) refl
    where
      none : pointer_at m 156 ≡ 0
      none = outside m 156 (omega arith)

      own : (t : Bool) → ltb w 3 ≡ t → pointer_at m (pick t (12 + 3 * i + w) 156) ≡ pointer_at m 156
      own true e = empty w (ltb-true w 3 e) ∙ sym none
      own false e = refl

      go : (t : Bool) → is_record_lem f a b g x y ≡ t
          → pointer_at m (on_found (slot g x y) 156 (λ j. pick (ltb w 3) (12 + 3 * j + w) 156))
          ≡ pointer_at m (on_found (new g x y) 156 (λ j. pick (ltb w 3) (12 + 3 * j + w) 156))
      go true e =
          let r = same_record_lem g f x a y b e in
          rw (r.0, r.1, r.2, at_i, gone) (own (ltb w 3) refl)
      go false e = rw (others g x y e)

  -- read from right to left: a new record is listed in a slot whose pointers are 0
  pub unlisted_means : keyed (number_of slot) (decode m) ≡ keyed (number_of new) (decode m)
  unfolding decode
  unlisted_means = keyed_listed (number_of slot) (number_of new) 156 (places_of m) (pointer_at m) alike

-- ---- a record deleted: its icons let go, then it is listed no more

pub releases_point : (hs m : List ℕ) → release_all_of m hs ≡ point_all m hs 0
unfolding release_of
releases_point [] m = refl
releases_point (h ∷ hs) m = releases_point hs (release_of m h)

module _ (slot new : Family → ℕ → ℕ → Option ℕ) (slots : Slots slot) (m : List ℕ) (ok : valid m ≡ true) (f : Family) (a b i : ℕ)
    (at_i : slot f a b ≡ Some i) (gone : new f a b ≡ None) (others : (g : Family) (x y : ℕ) → is_record_lem f a b g x y ≡ false → new g x y ≡ slot g x y) where
  abbrev num : Holder → ℕ
  num = number_of slot

  abbrev three : List ℕ
  three = map num (icons_of f a b)

  number : (w : ℕ) → w < 3 → num (icon f a b w) ≡ 12 + 3 * i + w
  number w l = icon_number_lem slot slots f a b w i at_i l

  all_holders : Holders three
  all_holders h e =
      let k = slots.below f a b i at_i in
      let n0 = number 0 (omega arith) in
      let n1 = number 1 (omega arith) in
      let n2 = number 2 (omega arith) in
      go (eqb h (num (icon f a b 0))) (eqb h (num (icon f a b 1))) (eqb h (num (icon f a b 2))) refl refl refl e k n0 n1 n2
    where
      go : (t u v : Bool) → eqb h (num (icon f a b 0)) ≡ t → eqb h (num (icon f a b 1)) ≡ u → eqb h (num (icon f a b 2)) ≡ v
          → either t (either u (either v false)) ≡ true → i < 48
          → num (icon f a b 0) ≡ 12 + 3 * i + 0 → num (icon f a b 1) ≡ 12 + 3 * i + 1 → num (icon f a b 2) ≡ 12 + 3 * i + 2 → h < 156
      go true u v x y z e k n0 n1 n2 = let q = eqb-true h (num (icon f a b 0)) x in omega arith
      go false true v x y z e k n0 n1 n2 = let q = eqb-true h (num (icon f a b 1)) y in omega arith
      go false false true x y z e k n0 n1 n2 = let q = eqb-true h (num (icon f a b 2)) z in omega arith
      go false false false x y z e k n0 n1 n2 = let r : ◌≡◌ {A = ℕ} 0 1 = cc in absurd (omega arith)

  is_one_lem : (w : ℕ) → w < 3 → is_one eqb three (num (icon f a b w)) ≡ true
  is_one_lem zero l = rw (eq-eqb (num (icon f a b 0)) (num (icon f a b 0)) refl)
  is_one_lem (suc zero) l = rw (eq-eqb (num (icon f a b 1)) (num (icon f a b 1)) refl) (last (eqb (num (icon f a b 1)) (num (icon f a b 0))))
    where
      last : (t : Bool) → either t true ≡ true
      last true = refl
      last false = refl
  is_one_lem (suc (suc zero)) l =
      rw (eq-eqb (num (icon f a b 2)) (num (icon f a b 2)) refl)
      (last (eqb (num (icon f a b 2)) (num (icon f a b 0))) (eqb (num (icon f a b 2)) (num (icon f a b 1))))
    where
      last : (t u : Bool) → either t (either u true) ≡ true
      last true u = refl
      last false true = refl
      last false false = refl
  is_one_lem (suc (suc (suc w))) l = absurd (omega arith)

  empty : (w : ℕ) → w < 3 → pointer_at (release_all_of m three) (12 + 3 * i + w) ≡ 0
  empty w l =
      ap (pointer_at (release_all_of m three)) (sym (number w l))
      ∙ ap (λ (x : List ℕ). pointer_at x (num (icon f a b w))) (releases_point three m)
      ∙ ap (λ (r : ℕ → ℕ). r (num (icon f a b w))) (point_all_is three m 0 all_holders (valid_has m ok).long)
      ∙ rw (is_one_lem w l)

  owns : Owns same_holder num (icons_of f a b)
  owns = (
    own_icon slot slots f a b 0 i at_i (omega arith),
    (own_icon slot slots f a b 1 i at_i (omega arith), (own_icon slot slots f a b 2 i at_i (omega arith), tt)),
  )

  pub deleted_means : keyed (number_of new) (decode (release_all_of m three)) ≡ drop_all same_holder (icons_of f a b) (keyed num (decode m))
  deleted_means =
      sym (unlisted_means slot new (release_all_of m three) f a b i at_i gone others empty)
      ∙ ap (keyed num) (releases_means three m all_holders ok)
      ∙ keyed_drops same_holder num (icons_of f a b) owns (decode m)

-- ---- desktop none

pub none_means : (slot : Family → ℕ → ℕ → Option ℕ) → Slots slot → (m : List ℕ) → valid m ≡ true
    → keyed (number_of no_slot) (decode (release_records_of m)) ≡ cells_only is_cell_holder cell (keyed (number_of slot) (decode m))
unfolding number_of
none_means slot slots m ok =
    ap (keyed (number_of no_slot)) (records_means m ok)
    ∙ keyed_cells same_holder (number_of slot) is_cell_holder cell (number_of no_slot) is keeps (λ c l. cell_number_lem slot slots c l) (decode m)
  where
    is : (g : Holder) → is_cell (number_of no_slot g) ≡ is_cell_holder g
    is (cell c) = go (ltb c 12) refl
      where
        go : (t : Bool) → ltb c 12 ≡ t → ltb (pick t c 156) 12 ≡ t
        go true e = e
        go false e = refl
    is (icon f a b w) = refl

    keeps : (g : Holder) → is_cell_holder g ≡ true → number_of no_slot g ≡ number_of slot g
    keeps (cell c) e = refl
    keeps (icon f a b w) e = let z : ◌≡◌ {A = ℕ} 0 1 = cc in absurd (omega arith)
