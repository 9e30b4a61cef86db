-- The pointers in the memory of the holders after each change of it. Assumes nothing.
use mathlib.Core.Path.{◌≡◌, refl, sym, ◌∙◌, fun_ext}
use mathlib.Core.Bool.{Bool, true, false}
use mathlib.Core.List.{List, [], ◌∷◌}
use Prim.Native.Nat.{ℕ, ◌+◌, ◌-◌, ◌≤◌, ◌<◌}
use native.Mathlib.Omega.{arith}
use lib.Dec.{eqb, ltb}
use lib.ListN.{length, get_or, set, replicate, length-set, length-replicate}
use lib.Seq.{get_or-set_same, get_or-set_other}
use borrow.Author.Tests.{eqb-true, eqb-false, eq-eqb, lt-ltb, le-ltb, ltb-true, ltb-false}
use Rattle.wire.specs.Tests.{pick, either}
use Rattle.wire.specs.Parts.{splice}
use Rattle.wire.proofs.Parts.{length_splice}
use Rattle.wire.proofs.Numbers.{num1_is, num_in, num_before, num_zeros}
use Rattle.places.specs.Sharing.{is_one}
use Rattle.places.specs.Memory.{places_of, pointer_at, sharing_of, decode}
use Rattle.places.specs.Changes.{put, let_go, point_to, point_all, release_records_of}
use Rattle.places.proofs.Cells.{cut}

-- what is no holder points at none
pub outside : (b : List ℕ) (h : ℕ) → 156 ≤ h → pointer_at b h ≡ 0
unfolding pointer_at
outside b h l = rw (le-ltb h 156 l)

pub inside : (b : List ℕ) (h : ℕ) → h < 156 → pointer_at b h ≡ get_or b (h + 1) 0
unfolding pointer_at
inside b h l = rw (lt-ltb h 156 l)

-- ---- one pointer

module _ (b : List ℕ) (h v : ℕ) where
  pub length_point : length (point_to b h v) ≡ length b
  unfolding point_to
  length_point = length-set b (h + 1) v

  pub places_point : places_of (point_to b h v) ≡ places_of b
  unfolding places_of point_to
  places_point = get_or-set_other b (h + 1) 0 v 0 (λ e. omega arith)

  module _ (below : h < 156) (long : 157 ≤ length b) where
    pub pointer_point : pointer_at (point_to b h v) ≡ put (pointer_at b) h v
    unfolding pointer_at point_to
    pointer_point = fun_ext (λ g. go g (ltb g 156) (eqb g h) refl refl)
      where
        go : (g : ℕ) (t u : Bool) → ltb g 156 ≡ t → eqb g h ≡ u → pick t (get_or (set b (h + 1) v) (g + 1) 0) 0 ≡ pick u v (pick t (get_or b (g + 1) 0) 0)
        go g true true x y = rw (eqb-true g h y) (get_or-set_same b (h + 1) v 0 (omega arith))
        go g true false x y = get_or-set_other b (h + 1) (g + 1) v 0 (λ e. eqb-false g h y (omega arith))
        go g false true x y = let a = ltb-false g 156 x in let e = eqb-true g h y in absurd (omega arith)
        go g false false x y = refl

    pub decode_point : decode (point_to b h v) ≡ sharing_of 156 (put (pointer_at b) h v) (places_of b)
    unfolding decode
    decode_point = rw (pointer_point, places_point)

-- ---- several pointers

-- a choice by the first of a list, or by the others
pick_either : {A : Type 0} (t u : Bool) (x y : A) → pick u x (pick t x y) ≡ pick (either t u) x y
pick_either true true x y = refl
pick_either true false x y = refl
pick_either false u x y = refl

-- each is a holder's number
abbrev pub Holders : List ℕ → Type 0
Holders hs = (h : ℕ) → is_one eqb hs h ≡ true → h < 156

pub holders_first : (h : ℕ) (hs : List ℕ) → Holders (h ∷ hs) → h < 156
holders_first h hs f = f h (rw (eq-eqb h h refl))

pub holders_later : (h : ℕ) (hs : List ℕ) → Holders (h ∷ hs) → Holders hs
holders_later h hs f g e = f g (go (eqb g h))
  where
    go : (t : Bool) → either t (is_one eqb hs g) ≡ true
    go true = refl
    go false = e

pub let_go_is : (hs : List ℕ) (ptr : ℕ → ℕ) → let_go hs ptr ≡ (λ g. pick (is_one eqb hs g) 0 (ptr g))
let_go_is [] ptr = refl
let_go_is (h ∷ hs) ptr = let_go_is hs (put ptr h 0) ∙ fun_ext (λ g. pick_either (eqb g h) (is_one eqb hs g) 0 (ptr g))

pub point_all_is : (hs b : List ℕ) (v : ℕ) → Holders hs → 157 ≤ length b → pointer_at (point_all b hs v) ≡ (λ g. pick (is_one eqb hs g) v (pointer_at b g))
point_all_is [] b v f long = refl
point_all_is (h ∷ hs) b v f long =
    let l = length_point b h v in
    point_all_is hs (point_to b h v) v (holders_later h hs f) (omega arith)
    ∙ rw (pointer_point b h v (holders_first h hs f) long) (fun_ext (λ g. pick_either (eqb g h) (is_one eqb hs g) v (pointer_at b g)))

-- ---- only the cells' pointers

module _ (b : List ℕ) (long : 157 ≤ length b) where
  fits : 13 + length (replicate {A = ℕ} 144 0) ≤ length b
  fits = let e = length-replicate {A = ℕ} 144 0 in omega arith

  pub length_records : length (release_records_of b) ≡ length b
  unfolding release_records_of
  length_records = length_splice b 13 (replicate 144 0) fits

  before : (i : ℕ) → i < 13 → get_or (release_records_of b) i 0 ≡ get_or b i 0
  unfolding release_records_of
  before i l =
      num1_is (splice b 13 (replicate 144 0)) i ∙ num_before 1 b 13 (replicate 144 0) fits i (omega arith) ∙ sym (num1_is b i)

  within : (i : ℕ) → i < 144 → get_or (release_records_of b) (13 + i) 0 ≡ 0
  unfolding release_records_of
  within i l =
      let e = length-replicate {A = ℕ} 144 0 in
      num1_is (splice b 13 (replicate 144 0)) (13 + i) ∙ num_in 1 b 13 (replicate 144 0) fits i (omega arith) ∙ num_zeros 1 144 i

  pub places_records : places_of (release_records_of b) ≡ places_of b
  unfolding places_of
  places_records = before 0 (omega arith)

  pub pointer_records : pointer_at (release_records_of b) ≡ cut (pointer_at b)
  unfolding pointer_at
  pointer_records = fun_ext (λ g. go g (ltb g 156) (ltb g 12) refl refl)
    where
      go : (g : ℕ) (t u : Bool) → ltb g 156 ≡ t → ltb g 12 ≡ u → pick t (get_or (release_records_of b) (g + 1) 0) 0 ≡ pick u (pick t (get_or b (g + 1) 0) 0) 0
      go g true true x y = let l = ltb-true g 12 y in before (g + 1) (omega arith)
      go g true false x y =
          let a = ltb-true g 156 x in
          let c = ltb-false g 12 y in
          let e : g + 1 ≡ 13 + (g - 12) = omega arith in
          rw e (within (g - 12) (omega arith))
      go g false true x y = refl
      go g false false x y = refl
