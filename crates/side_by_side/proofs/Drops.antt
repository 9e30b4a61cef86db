-- Holders that let go commute, where sharing is fair. Assumes nothing.
use Prim.Native.Nat.{ℕ, ◌-◌}
use mathlib.Core.Path.{◌≡◌, refl, sym, ap, ap₂, ◌∙◌}
use mathlib.Core.Bool.{Bool, true, false, not}
use mathlib.Core.List.{List, [], ◌∷◌}
use native.Mathlib.Omega.{arith}
use lib.Dec.{eqb}
use borrow.Author.Tests.{ne_eqb, not-true}
use Rattle.wire.specs.Tests.{pick, both, either}
use Rattle.wire.proofs.Tests.{both_left, both_right, never}
use Rattle.places.specs.declared.Family.TheVariants as family
use Rattle.places.specs.Counts.{one}
use Rattle.places.specs.Sharing.{Sharing, drop, drop_all}
use Rattle.places.specs.Holder.{Holder, icon, same_holder, icons_of}
use Rattle.side_by_side.specs.SideBySide.{Fair}
use Rattle.side_by_side.proofs.Commute.{none_swap}

-- ---- choices

sub_swap : (n a b : ℕ) → n - a - b ≡ n - b - a
sub_swap n a b = omega arith

none_turned : (a b x y : Bool) → x ≡ y → pick (either a b) false x ≡ pick (either b a) false y
none_turned true true x y e = refl
none_turned true false x y e = refl
none_turned false true x y e = refl
none_turned false false x y e = e

-- what is left shares, so neither let go
left_shares : (a b x : Bool) → pick (either a b) false x ≡ true → (a ≡ false) × (b ≡ false) × (x ≡ true)
left_shares false false x e = (refl, refl, e)
left_shares true b x e = never e
left_shares false true x e = never e

module _ {H : Type 0} (same : H → H → Bool) where
  -- ---- one holder and another

  module _ (t : Sharing H) (f : Fair t) (h k : H) (p : same h k ≡ false) (q : same k h ≡ false) where
    users-swap : (g : H) → (drop same k (drop same h t)).users g ≡ (drop same h (drop same k t)).users g
    unfolding drop
    users-swap g = rw (p, q) (go (same g h) (same g k))
      where
        go : (a c : Bool)
            → pick c 0 (pick a 0 (t.users g - one (t.shares g h)) - one (pick (either a false) false (t.shares g k)))
            ≡ pick a 0 (pick c 0 (t.users g - one (t.shares g k)) - one (pick (either c false) false (t.shares g h)))
        go true true = refl
        go true false = refl
        go false true = refl
        go false false = sub_swap (t.users g) (one (t.shares g h)) (one (t.shares g k))

    used-swap : (drop same k (drop same h t)).used ≡ (drop same h (drop same k t)).used
    unfolding drop
    used-swap = rw (p, q) (go (t.shares h k) refl)
      where
        go : (s : Bool) → t.shares h k ≡ s
            → t.used - one (eqb (t.users h) 1) - one (eqb (t.users k - one (t.shares k h)) 1)
            ≡ t.used - one (eqb (t.users k) 1) - one (eqb (t.users h - one (t.shares h k)) 1)
        go true e = let u : t.users h ≡ t.users k = f.even h k e in let m : t.shares k h ≡ true = sym (f.turned h k) ∙ e in rw (e, m, u)
        go false e =
            let m : t.shares k h ≡ false = sym (f.turned h k) ∙ e in
            let x : t.users k - 0 ≡ t.users k = omega arith in
            let y : t.users h - 0 ≡ t.users h = omega arith in
            rw (e, m, x, y) (sub_swap t.used (one (eqb (t.users h) 1)) (one (eqb (t.users k) 1)))

    pub drops_commute : drop same k (drop same h t) ≡ drop same h (drop same k t)
    unfolding drop
    drops_commute =
        λ i. record {
          shares = λ g j. none_swap false (either (same g h) (same j h)) (either (same g k) (same j k)) (t.shares g j) i;
          users = λ g. users-swap g i;
          used = used-swap i;
          places = t.places;
        }

  pub fair_drop : (t : Sharing H) → Fair t → (h : H) → Fair (drop same h t)
  unfolding drop
  fair_drop t f h =
      record {
        turned = λ g k. none_turned (same g h) (same k h) (t.shares g k) (t.shares k g) (f.turned g k);
        alike =
            λ g k j e.
            let l = left_shares (same g h) (same k h) (t.shares g k) e in
            let a = l.0 in
            let b = l.1 in
            rw (a, b) (ap (pick (same j h) false) (f.alike g k j l.2));
        even =
            λ g k e.
            let l = left_shares (same g h) (same k h) (t.shares g k) e in
            let a = l.0 in
            let b = l.1 in
            rw (a, b) (ap₂ (λ (n : ℕ) (s : Bool). n - one s) (f.even g k l.2) (f.alike g k h l.2));
      }

  -- ---- lists of holders

  abbrev pub apart_from_lem : H → List H → Bool
  apart_from_lem h [] = true
  apart_from_lem h (k ∷ ks) = both (both (not (same h k)) (not (same k h))) (apart_from_lem h ks)

  abbrev pub all_apart : List H → List H → Bool
  all_apart [] ks = true
  all_apart (h ∷ hs) ks = both (apart_from_lem h ks) (all_apart hs ks)

  pub fair_drops : (hs : List H) (t : Sharing H) → Fair t → Fair (drop_all same hs t)
  fair_drops [] t f = f
  fair_drops (h ∷ hs) t f = fair_drops hs (drop same h t) (fair_drop t f h)

  one_commutes : (ks : List H) (t : Sharing H) → Fair t → (h : H) → apart_from_lem h ks ≡ true → drop_all same ks (drop same h t) ≡ drop same h (drop_all same ks t)
  one_commutes [] t f h e = refl
  one_commutes (k ∷ ks) t f h e =
      let l = both_left (both (not (same h k)) (not (same k h))) (apart_from_lem h ks) e in
      let p = not-true (same h k) (both_left (not (same h k)) (not (same k h)) l) in
      let q = not-true (same k h) (both_right (not (same h k)) (not (same k h)) l) in
      ap (drop_all same ks) (drops_commute t f h k p q)
      ∙ one_commutes ks (drop same k t) (fair_drop t f k) h (both_right (both (not (same h k)) (not (same k h))) (apart_from_lem h ks) e)

  pub all_commute : (hs ks : List H) (t : Sharing H) → Fair t → all_apart hs ks ≡ true → drop_all same ks (drop_all same hs t) ≡ drop_all same hs (drop_all same ks t)
  all_commute [] ks t f e = refl
  all_commute (h ∷ hs) ks t f e =
      all_commute hs ks (drop same h t) (fair_drop t f h) (both_right (apart_from_lem h ks) (all_apart hs ks) e)
      ∙ ap (drop_all same hs) (one_commutes ks t f h (both_left (apart_from_lem h ks) (all_apart hs ks) e))

-- of a window: all its icons, icon w alone, or none
abbrev pub gone_of : Bool → Bool → ℕ → ℕ → List Holder
gone_of deleted overlay a w = pick deleted (icons_of family.Windows a 0) (pick overlay (icon family.Windows a 0 w ∷ []) [])

-- those of two windows
pub gone_apart : (a b w v : ℕ) → (a ≡ b → ⊥) → (d k e l : Bool) → all_apart same_holder (gone_of d k a w) (gone_of e l b v) ≡ true
gone_apart a b w v n d k e l = go d k e l
  where
    x : eqb a b ≡ false
    x = ne_eqb a b n

    y : eqb b a ≡ false
    y = ne_eqb b a (λ z. n (sym z))

    go : (d k e l : Bool) → all_apart same_holder (gone_of d k a w) (gone_of e l b v) ≡ true
    go true k true l = rw (x, y)
    go true k false true = rw (x, y)
    go true k false false = refl
    go false true true l = rw (x, y)
    go false true false true = rw (x, y)
    go false true false false = refl
    go false false e l = refl
