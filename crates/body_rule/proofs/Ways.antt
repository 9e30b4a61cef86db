-- What each test of a slot answers: one law for each way out. Assumes nothing.
use mathlib.Core.Path.{◌≡◌, refl, sym, ap, ap₂, ◌∙◌}
use mathlib.Core.Bool.{Bool, true, false}
use mathlib.Core.List.{List, [], ◌∷◌, ◌++◌}
use Prim.Native.Nat.{ℕ, ◌+◌, ◌*◌, ◌/◌, ◌%◌, ◌-◌, ◌≤◌, ◌<◌}
use native.Mathlib.Nat.{add-zero, add_assoc}
use native.Mathlib.Omega.{arith}
use lib.Dec.{eqb, leb}
use lib.ListN.{get_or}
use borrow.Author.Tests.{eqb-true}
use Rattle.wire.specs.Tests.{both}
use Rattle.wire.proofs.Tests.{both_left, both_right}
use Rattle.wire.specs.Numbers.{num_at, Bytes}
use Rattle.wire.proofs.Numbers.{num1_is, num2_is, num4_is}
use Rattle.rows.specs.declared.Row.{Row}
use Rattle.rows.specs.Rows.{all_rows, no_row, rows_from, room_of, first_of, number_ok, ok_of}
use Rattle.rows.proofs.Fields.{part_next}
use Rattle.body.specs.Bodies.{fields_ok, body_ok}
use Rattle.body.specs.Stores.{room_all}

-- ---- the fields in their sets, row by row

module _ (k high : ℕ) (slot : List ℕ) (off : ℕ) (more : k < high) (few : high ≤ 31) where
  pub ok_next : {b : Bool} {n : ℕ} → b ≡ ok_of (get_or all_rows k no_row) slot off → b ≡ true → n ≡ room_of (get_or all_rows k no_row)
      → fields_ok (rows_from k high) off slot ≡ fields_ok (rows_from (k + 1) high) (off + n) slot
  unfolding fields_ok
  ok_next e t f = rw (part_next k high more few, sym e ∙ t, f)

  pub ok_stop : {b : Bool} → b ≡ ok_of (get_or all_rows k no_row) slot off → b ≡ false → fields_ok (rows_from k high) off slot ≡ false
  unfolding fields_ok
  ok_stop e t = rw (part_next k high more few, sym e ∙ t)

pub ok_done : (k high : ℕ) (slot : List ℕ) (off : ℕ) → high ≤ k → fields_ok (rows_from k high) off slot ≡ true
unfolding fields_ok
ok_done k high slot off h = let e : high - k ≡ 0 = omega arith in rw e

-- the rows that have a set, by their places

nest3 : (a b c : Bool) → both (both a b) c ≡ both a (both b (both c true))
nest3 false b c = refl
nest3 true false c = refl
nest3 true true false = refl
nest3 true true true = refl

nest4 : (a b c d : Bool) → both (both (both a b) c) d ≡ both a (both b (both c (both d true)))
nest4 false b c d = refl
nest4 true b c d = nest3 b c d

nest5 : (a b c d e : Bool) → both (both (both (both a b) c) d) e ≡ both a (both b (both c (both d (both e true))))
nest5 false b c d e = refl
nest5 true false c d e = refl
nest5 true true c d e = nest3 c d e

module _ (slot : List ℕ) where
  pub first_sets : {a b c d e : Bool} → a ≡ ok_of (get_or all_rows 3 no_row) slot 14 → b ≡ ok_of (get_or all_rows 4 no_row) slot 15 → c ≡ ok_of (get_or all_rows 9 no_row) slot 569
      → d ≡ ok_of (get_or all_rows 14 no_row) slot 598 → e ≡ ok_of (get_or all_rows 16 no_row) slot 736 → both (both (both (both a b) c) d) e ≡ fields_ok (rows_from 1 17) 2 slot
  unfolding fields_ok ok_of
  first_sets {a} {b} {c} {d} {e} f g h i j = nest5 a b c d e ∙ rw (f, g, h, i, j)

  -- the first of them asked by itself
  pub first_unset : {a : Bool} → a ≡ ok_of (get_or all_rows 3 no_row) slot 14 → a ≡ false → false ≡ fields_ok (rows_from 1 17) 2 slot
  first_unset {a} e f =
      let b = ok_of (get_or all_rows 4 no_row) slot 15 in
      let c = ok_of (get_or all_rows 9 no_row) slot 569 in
      let d = ok_of (get_or all_rows 14 no_row) slot 598 in
      let g = ok_of (get_or all_rows 16 no_row) slot 736 in
      ap (λ (t : Bool). both (both (both (both t b) c) d) g) (sym f) ∙ first_sets {a = a} {b = b} {c = c} {d = d} {e = g} e refl refl refl refl

  pub first_rest : {a b c d e : Bool} → a ≡ ok_of (get_or all_rows 3 no_row) slot 14 → a ≡ true → b ≡ ok_of (get_or all_rows 4 no_row) slot 15 → c ≡ ok_of (get_or all_rows 9 no_row) slot 569
      → d ≡ ok_of (get_or all_rows 14 no_row) slot 598 → e ≡ ok_of (get_or all_rows 16 no_row) slot 736 → both (both (both b c) d) e ≡ fields_ok (rows_from 1 17) 2 slot
  first_rest {a} {b} {c} {d} {e} f x g h i j = ap (λ (t : Bool). both (both (both (both t b) c) d) e) (sym x) ∙ first_sets f g h i j

  -- a number that is a field's first one
  first_takes : (r : Row) (at n : ℕ) {b : Bool} → n ≡ num_at r.head slot at → b ≡ number_ok r.rule r.most n → b ≡ ok_of r slot at
  unfolding ok_of first_of
  first_takes r at n e f = f ∙ ap (number_ok r.rule r.most) e

  four_sets : {a b c d : Bool} → a ≡ ok_of (get_or all_rows 18 no_row) slot 1388 → b ≡ ok_of (get_or all_rows 19 no_row) slot 1389 → c ≡ ok_of (get_or all_rows 20 no_row) slot 1390
      → d ≡ ok_of (get_or all_rows 21 no_row) slot 1391 → both (both (both a b) c) d ≡ fields_ok (rows_from 18 22) 1388 slot
  unfolding fields_ok
  four_sets {a} {b} {c} {d} f g h i = nest4 a b c d ∙ rw (f, g, h, i)

  -- whether row k takes the number n
  abbrev taken : ℕ → ℕ → Bool
  taken k n = number_ok (get_or all_rows k no_row).rule (get_or all_rows k no_row).most n

  -- the bytes of a number are the last fields
  module _ (v : ℕ) (small : Bytes slot) (e : v ≡ num_at 4 slot 1388) where
    pub last_bytes : {a b c d : Bool} → a ≡ taken 18 (v % 256) → b ≡ taken 19 (v / 256 % 256) → c ≡ taken 20 (v / 256 / 256 % 256) → d ≡ taken 21 (v / 256 / 256 / 256)
        → both (both (both a b) c) d ≡ fields_ok (rows_from 18 22) 1388 slot
    last_bytes f g h i =
        let k : get_or slot 1388 0 + 256 * get_or slot 1389 0 + 65536 * get_or slot 1390 0 + 16777216 * get_or slot 1391 0 ≡ v = num4_is slot 1388 ∙ sym e in
        let a : v % 256 ≡ num_at 1 slot 1388 = omega (arith, k, small.small 1388, num1_is slot 1388) in
        let b : v / 256 % 256 ≡ num_at 1 slot 1389 = omega (arith, k, small.small 1388, small.small 1389, num1_is slot 1389) in
        let c : v / 256 / 256 % 256 ≡ num_at 1 slot 1390 = omega (arith, k, small.small 1388, small.small 1389, small.small 1390, num1_is slot 1390) in
        let d : v / 256 / 256 / 256 ≡ num_at 1 slot 1391 = omega (arith, k, small.small 1388, small.small 1389, small.small 1390, num1_is slot 1391) in
        four_sets
        (first_takes (get_or all_rows 18 no_row) 1388 (v % 256) a f)
        (first_takes (get_or all_rows 19 no_row) 1389 (v / 256 % 256) b g)
        (first_takes (get_or all_rows 20 no_row) 1390 (v / 256 / 256 % 256) c h)
        (first_takes (get_or all_rows 21 no_row) 1391 (v / 256 / 256 / 256) d i)

  pub last_sets : {a b : Bool} → a ≡ ok_of (get_or all_rows 17 no_row) slot 866 → b ≡ fields_ok (rows_from 18 22) 1388 slot → both a b ≡ fields_ok (rows_from 17 22) 866 slot
  unfolding fields_ok
  last_sets e f = ap₂ both e f

  sets_joined : (rs qs : List Row) (off : ℕ) → both (fields_ok rs off slot) (fields_ok qs (off + room_all rs) slot) ≡ fields_ok (rs ++ qs) off slot
  unfolding fields_ok room_all
  sets_joined [] qs off = ap (λ (n : ℕ). fields_ok qs n slot) (add-zero off)
  sets_joined (r ∷ rs) qs off =
      go (ok_of r slot off) (fields_ok rs (off + room_of r) slot) (ap (λ (n : ℕ). fields_ok qs n slot) (sym (add_assoc off (room_of r) (room_all rs)))) (sets_joined rs qs (off + room_of r))
    where
      go : (a b : Bool) {x y z : Bool} → x ≡ y → both b y ≡ z → both (both a b) x ≡ both a z
      go true b e f = ap (both b) e ∙ f
      go false b e f = refl

  pub window_sets : {a b : Bool} → a ≡ fields_ok (rows_from 1 17) 2 slot → b ≡ fields_ok (rows_from 17 22) 866 slot → both a b ≡ fields_ok (rows_from 1 22) 2 slot
  unfolding room_all
  window_sets e f = ap₂ both e f ∙ sets_joined (rows_from 1 17) (rows_from 17 22) 2

  pub first_fails : {a : Bool} → a ≡ fields_ok (rows_from 1 17) 2 slot → a ≡ false → false ≡ fields_ok (rows_from 1 22) 2 slot
  first_fails {a} e f = ap (λ (t : Bool). both t (fields_ok (rows_from 17 22) 866 slot)) (sym f) ∙ window_sets e refl

  pub last_decides : {a b : Bool} → a ≡ fields_ok (rows_from 1 17) 2 slot → a ≡ true → b ≡ fields_ok (rows_from 17 22) 866 slot → b ≡ fields_ok (rows_from 1 22) 2 slot
  last_decides {a} {b} e f g = ap (λ (t : Bool). both t b) (sym f) ∙ window_sets e g

  pub notification_sets : {a b c : Bool} → a ≡ ok_of (get_or all_rows 24 no_row) slot 6 → b ≡ ok_of (get_or all_rows 26 no_row) slot 272 → c ≡ ok_of (get_or all_rows 27 no_row) slot 784
      → both (both a b) c ≡ fields_ok (rows_from 23 29) 2 slot
  unfolding fields_ok ok_of
  notification_sets {a} {b} {c} f g h = nest3 a b c ∙ rw (f, g, h)

  pub desktop_sets : {a : Bool} → a ≡ ok_of (get_or all_rows 30 no_row) slot 6 → a ≡ fields_ok (rows_from 29 31) 2 slot
  unfolding fields_ok ok_of
  desktop_sets {a} f = sym (both_true a) ∙ rw f
    where
      both_true : (t : Bool) → both t true ≡ t
      both_true true = refl
      both_true false = refl

  -- the rows of a kind, known by their ends
  pub rows_known : (low high lo hi : ℕ) {r : Bool} → both (eqb low lo) (eqb high hi) ≡ true → r ≡ fields_ok (rows_from lo hi) 2 slot → r ≡ fields_ok (rows_from low high) 2 slot
  rows_known low high lo hi t e =
      let l : low ≡ lo = eqb-true low lo (both_left (eqb low lo) (eqb high hi) t) in
      let h : high ≡ hi = eqb-true high hi (both_right (eqb low lo) (eqb high hi) t) in
      let same : rows_from lo hi ≡ rows_from low high = rw (l, h) in
      e ∙ ap (λ (rs : List Row). fields_ok rs 2 slot) same

-- ---- a whole body

-- the marks are the two bytes of a number
pub marks_told : (slot : List ℕ) (m n v : ℕ) → Bytes slot → v ≡ num_at 2 slot 0 → both (leb (v % 256) m) (leb (v / 256) n) ≡ both (leb (num_at 1 slot 0) m) (leb (num_at 1 slot 1) n)
marks_told slot m n v small e =
    let k : get_or slot 0 0 + 256 * get_or slot 1 0 ≡ v = num2_is slot 0 ∙ sym e in
    let a : v % 256 ≡ num_at 1 slot 0 = omega (arith, k, small.small 0, num1_is slot 0) in
    let b : v / 256 ≡ num_at 1 slot 1 = omega (arith, k, small.small 0, num1_is slot 1) in
    rw (a, b)

module _ (rows : List Row) (m n : ℕ) (slot : List ℕ) where
  pub marks_over : {r : Bool} → r ≡ both (leb (num_at 1 slot 0) m) (leb (num_at 1 slot 1) n) → r ≡ false → false ≡ body_ok rows m n slot
  unfolding body_ok
  marks_over e f = go (leb (num_at 1 slot 0) m) (leb (num_at 1 slot 1) n) (fields_ok rows 2 slot) (sym e ∙ f)
    where
      go : (a b c : Bool) → both a b ≡ false → false ≡ both a (both b c)
      go true b c h = ap (λ (t : Bool). both t c) (sym h)
      go false b c h = refl

  pub marks_within : {r o : Bool} → r ≡ both (leb (num_at 1 slot 0) m) (leb (num_at 1 slot 1) n) → r ≡ true → o ≡ fields_ok rows 2 slot → o ≡ body_ok rows m n slot
  unfolding body_ok
  marks_within {r} {o} e f g = go (leb (num_at 1 slot 0) m) (leb (num_at 1 slot 1) n) (fields_ok rows 2 slot) (sym e ∙ f) g
    where
      go : (a b c : Bool) → both a b ≡ true → o ≡ c → o ≡ both a (both b c)
      go true b c h k = k ∙ ap (λ (t : Bool). both t c) (sym h)
      go false b c h k = absurd (let z : ◌≡◌ {A = ℕ} 0 1 = cc in omega arith)
