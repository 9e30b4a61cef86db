-- What each change of the memory means: who shares afterwards. Assumes nothing.
use mathlib.Core.Path.{◌≡◌, refl, sym, ap, ◌∙◌, fun_ext}
use mathlib.Core.Bool.{Bool, true, false}
use mathlib.Core.List.{List, [], ◌∷◌}
use Prim.Native.Nat.{ℕ, ◌+◌, ◌≤◌, ◌<◌}
use native.Mathlib.Omega.{arith}
use lib.Dec.{eqb, leb}
use borrow.Author.Tests.{eqb-true, ne_eqb, leb-true, leb-false}
use Rattle.std.specs.Prelude.{Option, Some, None}
use Rattle.wire.specs.Tests.{pick, either}
use Rattle.places.specs.Counts.{on_found}
use Rattle.places.specs.Sharing.{Sharing, is_one, drop, drop_all, join, fresh, cells_only, full, taken}
use Rattle.places.specs.Memory.{is_cell, places_of, pointer_at, is_free, used_of, shares_of, sharing_of, decode, valid}
use Rattle.places.specs.Changes.{put, let_go, point_to, point_all, free_place, take_of, share_of, release_of, release_all_of, release_records_of}
use Rattle.places.proofs.Counting.{found, first_full}
use Rattle.places.proofs.Pointers.{put_same, put_other, put_put, free_has, absent}
use Rattle.places.proofs.Steps.{join_sharing, fresh_sharing, fresh_two, go_sharing}
use Rattle.places.proofs.Cells.{cells_sharing}
use Rattle.places.proofs.Sharing.{same_sharing}
use Rattle.places.proofs.Bytes.{outside, holders_first, holders_later, length_point, places_point, pointer_point, decode_point, Holders, let_go_is, places_records, pointer_records}
use Rattle.places.proofs.Validity.{Valid, valid_has, valid_is, valid_point, valid_records}

-- ---- two memories that share the same describe the same

decode_shares : (b : List ℕ) (g k : ℕ) → (decode b).shares g k ≡ shares_of (pointer_at b) g k
unfolding decode sharing_of
decode_shares b g k = refl

pub same_decode : (a b : List ℕ) → valid a ≡ true → valid b ≡ true → places_of a ≡ places_of b
    → ((g k : ℕ) → (decode a).shares g k ≡ (decode b).shares g k) → decode a ≡ decode b
unfolding decode
same_decode a b va vb e same =
    ap (sharing_of 156 (pointer_at a)) e
    ∙ same_sharing 156 (places_of b) (pointer_at a) (pointer_at b) (λ h. rw (← e) ((valid_has a va).within h)) (valid_has b vb).within
    (λ g k. sym (decode_shares a g k) ∙ same g k ∙ decode_shares b g k)

-- ---- one holder and two

pub holder : (h : ℕ) → h < 156 → Holders (h ∷ [])
holder h l g e = go (eqb g h) refl e
  where
    go : (t : Bool) → eqb g h ≡ t → either t false ≡ true → g < 156
    go true x y = let q = eqb-true g h x in omega arith
    go false x y = let z : ◌≡◌ {A = ℕ} 0 1 = cc in absurd (omega arith)

pub holders : (h k : ℕ) → h < 156 → k < 156 → Holders (h ∷ k ∷ [])
holders h k l u g e = go (eqb g h) refl e
  where
    go : (t : Bool) → eqb g h ≡ t → either t (is_one eqb (k ∷ []) g) ≡ true → g < 156
    go true x y = let q = eqb-true g h x in omega arith
    go false x y = holder k u g y

-- ---- refusal 17

module _ (b : List ℕ) (ok : valid b ≡ true) (hs : List ℕ) (all : Holders hs) where
  pub go_means : sharing_of 156 (let_go hs (pointer_at b)) (places_of b) ≡ drop_all eqb hs (decode b)
  unfolding decode
  go_means = go_sharing 156 (places_of b) hs (pointer_at b) all (valid_has b ok).within

  used_left : used_of 156 (let_go hs (pointer_at b)) (places_of b) ≡ (drop_all eqb hs (decode b)).used
  unfolding sharing_of
  used_left = ap (λ (t : Sharing ℕ). t.used) go_means

  -- no place is free exactly when every place is still pointed at
  pub full_means : on_found (free_place b hs) true (λ p. false) ≡ full eqb hs (decode b)
  unfolding free_place full decode sharing_of used_of
  full_means =
      first_full (places_of b) (is_free 156 (let_go hs (pointer_at b)))
      ∙ ap (leb (places_of b)) used_left

-- a place that was found lies among the places, and nobody is left there
pub record Free (b hs : List ℕ) (p : ℕ) : Type 0 where
  pub low : p < places_of b
  pub free : is_free 156 (let_go hs (pointer_at b)) p ≡ true

pub found_free : (b hs : List ℕ) (p : ℕ) → free_place b hs ≡ Some p → Free b hs p
unfolding free_place
found_free b hs p e =
    let r = found (places_of b) 0 (is_free 156 (let_go hs (pointer_at b))) p e in
    record { low = omega (arith, r.1); free = r.2 }

-- only these holders may have pointed there
pub found_alone : (b hs : List ℕ) (p : ℕ) → Free b hs p → (g : ℕ) → is_one eqb hs g ≡ false → pointer_at b g ≡ p + 1 → ⊥
found_alone b hs p f g e q = go (leb 156 g) refl
  where
    left : let_go hs (pointer_at b) g ≡ p + 1
    left = ap (λ (r : ℕ → ℕ). r g) (let_go_is hs (pointer_at b)) ∙ rw e q

    go : (t : Bool) → leb 156 g ≡ t → ⊥
    go true x = let z = outside b g (leb-true 156 g x) in omega arith
    go false x = absent 156 (let_go hs (pointer_at b)) (p + 1) (free_has 156 (let_go hs (pointer_at b)) p f.free) g (leb-false 156 g x) left

-- ---- an icon

left_none : (b hs : List ℕ) (k : ℕ) → 156 ≤ k → let_go hs (pointer_at b) k ≡ 0
left_none b hs k l = ap (λ (r : ℕ → ℕ). r k) (let_go_is hs (pointer_at b)) ∙ rw (outside b k l) (go (is_one eqb hs k))
  where
    go : (t : Bool) → ◌≡◌ {A = ℕ} (pick t 0 0) 0
    go true = refl
    go false = refl

-- a holder alone
module _ (b : List ℕ) (ok : valid b ≡ true) (h : ℕ) (below : h < 156) where
  -- whichever free place it takes
  pub one_at : (p : ℕ) → Free b (h ∷ []) p → decode (point_to b h (p + 1)) ≡ fresh eqb (h ∷ []) (drop_all eqb (h ∷ []) (decode b))
  one_at p f =
      decode_point b h (p + 1) below (valid_has b ok).long
      ∙ ap (λ (r : ℕ → ℕ). sharing_of 156 r (places_of b)) (sym (put_put (pointer_at b) h 0 (p + 1)))
      ∙ fresh_sharing 156 (places_of b) (put (pointer_at b) h 0) h p below (put_same (pointer_at b) h 0) f.low f.free (left_none b (h ∷ []))
      ∙ ap (fresh eqb (h ∷ [])) (go_means b ok (h ∷ []) (holder h below))

  pub take_one_means : decode (take_of b (h ∷ [])) ≡ taken eqb (h ∷ []) (decode b)
  unfolding take_of taken
  take_one_means = rw (← full_means b ok (h ∷ []) (holder h below)) (go (free_place b (h ∷ [])) refl)
    where
      go : (w : Option ℕ) → free_place b (h ∷ []) ≡ w → decode (on_found w b (λ p. point_all b (h ∷ []) (p + 1)))
          ≡ pick (on_found w true (λ p. false)) (decode b) (fresh eqb (h ∷ []) (drop_all eqb (h ∷ []) (decode b)))
      go (Some p) e = one_at p (found_free b (h ∷ []) p e)
      go None e = refl

-- a cell and a pointer
module _ (b : List ℕ) (ok : valid b ≡ true) (c q : ℕ) (belowc : c < 156) (belowq : q < 156) (apart : c ≡ q → ⊥) where
  abbrev two : List ℕ
  two = c ∷ q ∷ []

  abbrev gone : ℕ → ℕ
  gone = put (put (pointer_at b) c 0) q 0

  none_c : gone c ≡ 0
  none_c = put_other (put (pointer_at b) c 0) q 0 c apart ∙ put_same (pointer_at b) c 0

  -- first the cell takes the place, then the pointer joins it
  pointers : (v : ℕ) → put (put (pointer_at b) c v) q v ≡ put (put gone c v) q (put gone c v c)
  pointers v = rw (put_same gone c v) (fun_ext (λ g. go (eqb g c) (eqb g q) (pointer_at b g)))
    where
      go : (t u : Bool) (x : ℕ) → pick u v (pick t v x) ≡ pick u v (pick t v (pick u 0 (pick t 0 x)))
      go t true x = refl
      go true false x = refl
      go false false x = refl

  -- whichever free place they take
  pub two_at : (p : ℕ) → Free b two p → decode (point_to (point_to b c (p + 1)) q (p + 1)) ≡ fresh eqb two (drop_all eqb two (decode b))
  two_at p f =
      let v = p + 1 in
      let n = places_of b in
      let v0 = valid_has b ok in
      let l = length_point b c v in
      let s = put_same gone c v in
      decode_point (point_to b c v) q v belowq (omega (arith, v0.long))
      ∙ rw (pointer_point b c v belowc v0.long, places_point b c v, pointers v) refl
      ∙ join_sharing 156 n (put gone c v) q c belowq (put_other gone c v q (λ e. apart (sym e)) ∙ put_same (put (pointer_at b) c 0) q 0) belowc (omega (arith, f.low, s))
      ∙ ap (join eqb q c) (fresh_sharing 156 n gone c p belowc none_c f.low f.free (left_none b two))
      ∙ fresh_two c q (sharing_of 156 gone n)
      ∙ ap (fresh eqb two) (go_means b ok two (holders c q belowc belowq))

  pub take_means : decode (take_of b (c ∷ q ∷ [])) ≡ taken eqb (c ∷ q ∷ []) (decode b)
  unfolding take_of taken
  take_means = rw (← full_means b ok two (holders c q belowc belowq)) (go (free_place b two) refl)
    where
      go : (w : Option ℕ) → free_place b two ≡ w → decode (on_found w b (λ p. point_all b two (p + 1)))
          ≡ pick (on_found w true (λ p. false)) (decode b) (fresh eqb two (drop_all eqb two (decode b)))
      go (Some p) e = two_at p (found_free b two p e)
      go None e = refl

-- ---- a cached icon

pub share_means : (b : List ℕ) → valid b ≡ true → (q c : ℕ) → q < 156 → c < 156 → (c ≡ q → ⊥) → decode (share_of b q c) ≡ join eqb q c (drop eqb q (decode b))
unfolding share_of
share_means b ok q c lq lc apart =
    let v = valid_has b ok in
    let gone = put (pointer_at b) q 0 in
    let s : gone c ≡ pointer_at b c = put_other (pointer_at b) q 0 c apart in
    decode_point b q (pointer_at b c) lq v.long
    ∙ ap (λ (r : ℕ → ℕ). sharing_of 156 r (places_of b)) (sym (put_put (pointer_at b) q 0 (pointer_at b c)) ∙ ap (put gone q) (sym s))
    ∙ join_sharing 156 (places_of b) gone q c lq (put_same (pointer_at b) q 0) lc (rw s (v.within c))
    ∙ ap (join eqb q c) (go_means b ok (q ∷ []) (holder q lq))

-- ---- holders that let go

pub release_means : (b : List ℕ) → valid b ≡ true → (h : ℕ) → h < 156 → decode (release_of b h) ≡ drop eqb h (decode b)
unfolding release_of
release_means b ok h l = decode_point b h 0 l (valid_has b ok).long ∙ go_means b ok (h ∷ []) (holder h l)

pub records_means : (b : List ℕ) → valid b ≡ true → decode (release_records_of b) ≡ cells_only is_cell (λ c. c) (decode b)
unfolding decode
records_means b ok =
    let v = valid_has b ok in
    rw (pointer_records b v.long, places_records b v.long)
    (cells_sharing 156 (places_of b) (pointer_at b) (omega arith) v.within v.apart)

-- ---- the rule is kept

pub take_valid : (b : List ℕ) → valid b ≡ true → (c q : ℕ) → c < 12 → 12 ≤ q → q < 156 → valid (take_of b (c ∷ q ∷ [])) ≡ true
unfolding take_of
take_valid b ok c q lc hq lq = go (free_place b (c ∷ q ∷ [])) refl
  where
    v : Valid b
    v = valid_has b ok

    others : (d : ℕ) → (d ≡ c → ⊥) → (d ≡ q → ⊥) → is_one eqb (c ∷ q ∷ []) d ≡ false
    others d x y = rw (ne_eqb d c x, ne_eqb d q y)

    go : (w : Option ℕ) → free_place b (c ∷ q ∷ []) ≡ w → valid (on_found w b (λ p. point_all b (c ∷ q ∷ []) (p + 1))) ≡ true
    go None e = ok
    go (Some p) e =
        let f = found_free b (c ∷ q ∷ []) p e in
        let e1 = places_point b c (p + 1) in
        let v1 : Valid (point_to b c (p + 1)) =
        valid_point b c (p + 1) v (omega arith) (omega (arith, f.low))
        (λ d ld lh ne pos x. found_alone b (c ∷ q ∷ []) p f d (others d ne (λ y. omega arith)) x) in
        valid_is (point_to (point_to b c (p + 1)) q (p + 1))
        (valid_point (point_to b c (p + 1)) q (p + 1) v1 lq (omega (arith, f.low)) (λ d ld lh ne pos x. omega arith))

pub take_one_valid : (b : List ℕ) → valid b ≡ true → (q : ℕ) → 12 ≤ q → q < 156 → valid (take_of b (q ∷ [])) ≡ true
unfolding take_of
take_one_valid b ok q hq lq = go (free_place b (q ∷ [])) refl
  where
    go : (w : Option ℕ) → free_place b (q ∷ []) ≡ w → valid (on_found w b (λ p. point_all b (q ∷ []) (p + 1))) ≡ true
    go None e = ok
    go (Some p) e =
        let f = found_free b (q ∷ []) p e in
        valid_is (point_to b q (p + 1)) (valid_point b q (p + 1) (valid_has b ok) lq (omega (arith, f.low)) (λ d ld lh ne pos x. omega arith))

pub share_valid : (b : List ℕ) → valid b ≡ true → (q c : ℕ) → 12 ≤ q → q < 156 → valid (share_of b q c) ≡ true
unfolding share_of
share_valid b ok q c hq lq =
    let v = valid_has b ok in
    valid_is (point_to b q (pointer_at b c)) (valid_point b q (pointer_at b c) v lq (v.within c) (λ d ld lh ne pos x. omega arith))

pub release_valid : (b : List ℕ) → valid b ≡ true → (h : ℕ) → h < 156 → valid (release_of b h) ≡ true
unfolding release_of
release_valid b ok h l = valid_is (point_to b h 0) (valid_point b h 0 (valid_has b ok) l (omega arith) (λ d ld lh ne pos x. pos refl))

pub records_valid : (b : List ℕ) → valid b ≡ true → valid (release_records_of b) ≡ true
records_valid b ok = valid_is (release_records_of b) (valid_records b (valid_has b ok))

-- ---- holders let go one after the other

pub releases_valid : (hs b : List ℕ) → Holders hs → valid b ≡ true → valid (release_all_of b hs) ≡ true
releases_valid [] b all ok = ok
releases_valid (h ∷ hs) b all ok = releases_valid hs (release_of b h) (holders_later h hs all) (release_valid b ok h (holders_first h hs all))

pub releases_means : (hs b : List ℕ) → Holders hs → valid b ≡ true → decode (release_all_of b hs) ≡ drop_all eqb hs (decode b)
releases_means [] b all ok = refl
releases_means (h ∷ hs) b all ok =
    releases_means hs (release_of b h) (holders_later h hs all) (release_valid b ok h (holders_first h hs all))
    ∙ ap (drop_all eqb hs) (release_means b ok h (holders_first h hs all))
