-- The laws that the functions' proofs cite, one for each way through them. Assumes nothing.
use mathlib.Core.Path.{◌≡◌, refl, sym, ap, ◌∙◌, fun_ext}
use mathlib.Core.Bool.{Bool, true, false}
use mathlib.Core.List.{List, [], ◌∷◌, ◌++◌, append-nil}
use Prim.Native.Nat.{ℕ, suc, ◌+◌, ◌-◌, ◌≤◌, ◌<◌}
use native.Mathlib.Omega.{arith}
use lib.Dec.{eqb, ltb}
use lib.ListN.{length, get_or, set, take, drop, replicate, length-set, length-replicate, get_or-eq_default}
use lib.Seq.{get_or-set_same, get_or-set_other, drop-length}
use borrow.Author.Tests.{eqb-true, eqb-false, eq-eqb, ne_eqb, ltb-true, ltb-false}
use Rattle.std.specs.Prelude.{Option, Some, None}
use Rattle.wire.specs.Tests.{pick, both}
use Rattle.wire.specs.Numbers.{num_at}
use Rattle.wire.specs.Parts.{slice, splice}
use Rattle.wire.proofs.Parts.{length_slice, splice_start}
use Rattle.wire.proofs.Tests.{both_left, both_right}
use Rattle.wire.proofs.Numbers.{num1_is, num4_is, num_slice, num_zeros}
use Rattle.places.specs.Counts.{one, count_below, first_from}
use Rattle.places.specs.Sharing.{is_one}
use Rattle.places.specs.Memory.{places_of, pointer_at, count_at, is_free, valid}
use Rattle.places.specs.Marks.{none_of, Marked}
use Rattle.places.specs.Changes.{put, let_go, point_to, point_all, free_place, share_of, release_of, release_records_of}
use Rattle.places.proofs.Counting.{count_last, count_front, first_cong}
use Rattle.places.proofs.Pointers.{put_put}
use Rattle.places.proofs.Bytes.{inside, let_go_is}
use Rattle.places.proofs.Validity.{Valid, valid_has}

-- ---- the marks

pub marks_none : (ptr : ℕ → ℕ) → Marked ptr 0 (replicate 65 0)
unfolding count_at count_below
marks_none ptr v pos l = eq-eqb (get_or (replicate 65 0) v 0) 0 (num1_is (replicate 65 0) v ∙ num_zeros 1 65 v)

pub marks_next : (ptr : ℕ → ℕ) (ms : List ℕ) (n x : ℕ) → length ms ≡ 65 → ptr n ≡ x → x < 65 → Marked ptr n ms → Marked ptr (n + 1) (set ms x 1)
unfolding count_at
marks_next ptr ms n x long at_n small before v pos l = rw (count_last n (λ h. eqb (ptr h) v), at_n) (go (eqb x v) refl)
  where
    go : (t : Bool) → eqb x v ≡ t → eqb (get_or (set ms x 1) v 0) 0 ≡ eqb (count_below n (λ h. eqb (ptr h) v) + one t) 0
    go true e =
        let y : get_or (set ms v 1) v 0 ≡ 1 = get_or-set_same ms v 1 0 (omega arith) in
        rw (eqb-true x v e, y) (sym (ne_eqb (count_below n (λ h. eqb (ptr h) v) + 1) 0 (λ z. omega arith)))
    go false e =
        let y : get_or (set ms x 1) v 0 ≡ get_or ms v 0 = get_or-set_other ms x v 1 0 (λ z. eqb-false x v e (sym z)) in
        let z : count_below n (λ h. eqb (ptr h) v) + 0 ≡ count_below n (λ h. eqb (ptr h) v) = omega arith in
        rw (y, z) (before v pos l)

-- pointers that are none mark nothing
marks_pass : (ptr : ℕ → ℕ) (ms : List ℕ) (n m : ℕ) → n ≤ m → ((h : ℕ) → n ≤ h → h < m → ptr h ≡ 0) → Marked ptr n ms → Marked ptr m ms
unfolding count_at
marks_pass ptr ms n m le none before v pos l =
    let e = count_front n m (λ h. eqb (ptr h) v) le (λ h u w. rw (none h u w) (ne_eqb 0 v (λ z. omega arith))) in
    rw e (before v pos l)

-- a number of four bytes is 0 only if each of them is
four_none : (s : List ℕ) (at : ℕ) → num_at 4 s at ≡ 0 → (h : ℕ) → at ≤ h → h < at + 4 → get_or s h 0 ≡ 0
four_none s at e h l u = go (eqb h at) (eqb h (at + 1)) (eqb h (at + 2)) refl refl refl
  where
    go : (a b c : Bool) → eqb h at ≡ a → eqb h (at + 1) ≡ b → eqb h (at + 2) ≡ c → get_or s h 0 ≡ 0
    go true b c x y z = rw (eqb-true h at x) (omega (arith, num4_is s at))
    go false true c x y z = rw (eqb-true h (at + 1) y) (omega (arith, num4_is s at))
    go false false true x y z = rw (eqb-true h (at + 2) z) (omega (arith, num4_is s at))
    go false false false x y z =
        let r : h ≡ at + 3 = omega (arith, eqb-false h at x, eqb-false h (at + 1) y, eqb-false h (at + 2) z) in
        rw r (omega (arith, num4_is s at))

-- so it is in a part that is lent
pub lent_none : (s : List ℕ) (a n i : ℕ) → i + 4 ≤ n → eqb (num_at 4 (take n (drop a s)) i) 0 ≡ true → (h : ℕ) → a + i ≤ h → h < a + i + 4 → get_or s h 0 ≡ 0
unfolding slice
lent_none s a n i l t = four_none s (a + i) (sym (num_slice 4 s a n i l) ∙ eqb-true (num_at 4 (take n (drop a s)) i) 0 t)

-- a group that is lent
module _ (s : List ℕ) (a n : ℕ) (big : 12 ≤ n) (e : none_of (take n (drop a s)) ≡ true) where
  abbrev none_at : ℕ → Bool
  none_at i = eqb (num_at 4 (take n (drop a s)) i) 0

  group_none : (h : ℕ) → a ≤ h → h < a + 12 → get_or s h 0 ≡ 0
  group_none h l u = go (ltb h (a + 4)) (ltb h (a + 8)) refl refl
    where
      front : both (none_at 0) (none_at 4) ≡ true
      front = both_left (both (none_at 0) (none_at 4)) (none_at 8) e

      go : (p q : Bool) → ltb h (a + 4) ≡ p → ltb h (a + 8) ≡ q → get_or s h 0 ≡ 0
      go true q v w = lent_none s a n 0 (omega arith) (both_left (none_at 0) (none_at 4) front) h (omega arith) (omega (arith, ltb-true h (a + 4) v))
      go false true v w = lent_none s a n 4 (omega arith) (both_right (none_at 0) (none_at 4) front) h (omega (arith, ltb-false h (a + 4) v)) (omega (arith, ltb-true h (a + 8) w))
      go false false v w = lent_none s a n 8 (omega arith) (both_right (both (none_at 0) (none_at 4)) (none_at 8) e) h (omega (arith, ltb-false h (a + 8) w)) (omega arith)

  pub marks_skip : (ms : List ℕ) → Marked (λ h. get_or s h 0) a ms → Marked (λ h. get_or s h 0) (a + 12) ms
  marks_skip ms = marks_pass (λ h. get_or s h 0) ms a (a + 12) (omega arith) group_none

-- ---- the search

pub first_start : (test : ℕ → Bool) (n : ℕ) → first_from n 0 test ≡ first_from (n - 0) 0 test
first_start test n = let e : n - 0 ≡ n = omega arith in rw e

module _ (test : ℕ → Bool) (end i : ℕ) where
  module _ (more : i < end) where
    pub first_here : test i ≡ true → first_from (end - i) i test ≡ Some i
    unfolding first_from
    first_here t = let n : end - i ≡ suc (end - (i + 1)) = omega arith in rw (n, t)

    pub first_next : test i ≡ false → first_from (end - i) i test ≡ first_from (end - (i + 1)) (i + 1) test
    unfolding first_from
    first_next t = let n : end - i ≡ suc (end - (i + 1)) = omega arith in rw (n, t)

  pub first_none : end ≤ i → first_from (end - i) i test ≡ None
  unfolding first_from
  first_none over = let n : end - i ≡ 0 = omega arith in rw n

-- ---- the pointers that are left

set_put : (l : List ℕ) (h v : ℕ) → h < length l → ◌≡◌ {A = ℕ → ℕ} (λ k. get_or (set l h v) k 0) (put (λ k. get_or l k 0) h v)
set_put l h v below = fun_ext (λ k. go k (eqb k h) refl)
  where
    go : (k : ℕ) (t : Bool) → eqb k h ≡ t → get_or (set l h v) k 0 ≡ pick t v (get_or l k 0)
    go k true e = rw (eqb-true k h e) (get_or-set_same l h v 0 below)
    go k false e = get_or-set_other l h k v 0 (eqb-false k h e)

module _ (b : List ℕ) (long : 157 ≤ length b) where
  pointers : ◌≡◌ {A = ℕ → ℕ} (λ k. get_or (slice b 1 156) k 0) (pointer_at b)
  unfolding pointer_at
  pointers = fun_ext (λ k. go k (ltb k 156) refl)
    where
      part : (k : ℕ) → k < 156 → get_or (slice b 1 156) k 0 ≡ get_or b (k + 1) 0
      part k l = num1_is (slice b 1 156) k ∙ num_slice 1 b 1 156 k (omega arith) ∙ sym (num1_is b (1 + k)) ∙ (let e : 1 + k ≡ k + 1 = omega arith in rw e)

      go : (k : ℕ) (t : Bool) → ltb k 156 ≡ t → get_or (slice b 1 156) k 0 ≡ pick t (get_or b (k + 1) 0) 0
      go k true e = part k (ltb-true k 156 e)
      go k false e =
          let n = length_slice b 1 156 (omega arith) in
          let m = ltb-false k 156 e in
          get_or-eq_default (slice b 1 156) 0 (omega arith)

  -- all of it lent
  pub lent_small : valid b ≡ true → (h : ℕ) → get_or (take 156 (drop 1 b)) h 0 < 65
  unfolding slice
  lent_small ok h =
      let v = valid_has b ok in
      let s : get_or (slice b 1 156) h 0 ≡ pointer_at b h = ap (λ (f : ℕ → ℕ). f h) pointers in
      omega (arith, s, v.within h, v.many)

  pub lent_marked : (ms : List ℕ) → Marked (λ h. get_or (take 156 (drop 1 b)) h 0) 156 ms → Marked (pointer_at b) 156 ms
  unfolding slice
  lent_marked ms marked v pos l = marked v pos l ∙ rw pointers

  -- all of it copied into an array of zeros
  pub copied : {x : List ℕ} → x ≡ splice (replicate 156 0) 0 (slice b 1 156) → x ≡ slice b 1 156
  copied e =
      let z = replicate {A = ℕ} 156 0 in
      let m = length_slice b 1 156 (omega arith) in
      let n = length-replicate {A = ℕ} 156 0 in
      let d : drop (length (slice b 1 156)) z ≡ [] = ap (λ (k : ℕ). drop k z) (m ∙ sym n) ∙ drop-length z in
      e ∙ splice_start z (slice b 1 156) ∙ ap (λ (l : List ℕ). slice b 1 156 ++ l) d ∙ append-nil (slice b 1 156)

  module _ {x : List ℕ} (e : x ≡ slice b 1 156) (c q : ℕ) (lc : c < 156) (lq : q < 156) where
    pub length_left : length (set (set x c 0) q 0) ≡ 156
    length_left = length-set (set x c 0) q 0 ∙ length-set x c 0 ∙ ap length e ∙ length_slice b 1 156 (omega arith)

    pub left_is : ◌≡◌ {A = ℕ → ℕ} (λ k. get_or (set (set x c 0) q 0) k 0) (let_go (c ∷ q ∷ []) (pointer_at b))
    left_is =
        let m = length_slice b 1 156 (omega arith) in
        let lx : length x ≡ 156 = ap length e ∙ m in
        let ly : length (set x c 0) ≡ 156 = length-set x c 0 ∙ lx in
        set_put (set x c 0) q 0 (omega arith)
        ∙ ap (λ (f : ℕ → ℕ). put f q 0) (set_put x c 0 (omega arith))
        ∙ ap (λ (l : List ℕ). put (put (λ k. get_or l k 0) c 0) q 0) e
        ∙ ap (λ (f : ℕ → ℕ). put (put f c 0) q 0) pointers

    pub left_small : valid b ≡ true → (h : ℕ) → get_or (set (set x c 0) q 0) h 0 < 65
    left_small ok h =
        let v = valid_has b ok in
        let s : get_or (set (set x c 0) q 0) h 0 ≡ pick (is_one eqb (c ∷ q ∷ []) h) 0 (pointer_at b h) =
        ap (λ (f : ℕ → ℕ). f h) left_is ∙ ap (λ (f : ℕ → ℕ). f h) (let_go_is (c ∷ q ∷ []) (pointer_at b)) in
        rw s (go v (is_one eqb (c ∷ q ∷ []) h))
      where
        go : Valid b → (t : Bool) → pick t 0 (pointer_at b h) < 65
        go v true = omega arith
        go v false = omega (arith, v.within h, v.many)

    -- the search over the marks is the search for a free place
    pub free_found : valid b ≡ true → (ms : List ℕ) → Marked (λ h. get_or (set (set x c 0) q 0) h 0) 156 ms → {r : Option ℕ}
        → r ≡ first_from (get_or b 0 0) 0 (λ p. eqb (get_or ms (p + 1) 0) 0) → r ≡ free_place b (c ∷ q ∷ [])
    unfolding free_place places_of is_free
    free_found ok ms marked s =
        let v = valid_has b ok in
        s
        ∙ first_cong (get_or b 0 0) 0 (λ p. eqb (get_or ms (p + 1) 0) 0) (is_free 156 (let_go (c ∷ q ∷ []) (pointer_at b)))
        (λ p l u. marked (p + 1) (omega arith) (omega (arith, v.many)) ∙ rw left_is)

-- ---- an icon

-- one holder lets go once
pub free_once : (b : List ℕ) (q : ℕ) {f : Option ℕ} → f ≡ free_place b (q ∷ q ∷ []) → f ≡ free_place b (q ∷ [])
unfolding free_place
free_once b q e = e ∙ ap (λ (r : ℕ → ℕ). first_from (places_of b) 0 (is_free 156 r)) (put_put (pointer_at b) q 0 0)

pub two_points : (b : List ℕ) (c q v : ℕ) → set (set b (c + 1) v) (q + 1) v ≡ point_all b (c ∷ q ∷ []) v
unfolding point_to
two_points b c q v = refl

-- ---- a cached icon, and holders that let go

pub shared : (b : List ℕ) (q c : ℕ) → c < 156 → set b (q + 1) (get_or b (c + 1) 0) ≡ share_of b q c
unfolding share_of point_to
shared b q c l = rw (inside b c l)

pub released : (b : List ℕ) (h : ℕ) → set b (h + 1) 0 ≡ release_of b h
unfolding release_of point_to
released b h = refl

pub records_released : (b : List ℕ) {x : List ℕ} → x ≡ splice b 13 (replicate 144 0) → x ≡ release_records_of b
unfolding release_records_of
records_released b e = e

-- ---- what the rule says of the bytes

pub valid_long : (b : List ℕ) → valid b ≡ true → 157 ≤ length b
valid_long b ok = (valid_has b ok).long

pub valid_first : (b : List ℕ) → valid b ≡ true → get_or b 0 0 ≤ 64
unfolding places_of
valid_first b ok = let v = valid_has b ok in v.many
