-- What each function over a field answers is the field's view: numbers, and as many numbers as a count says, read from the
-- field's place. Assumes nothing.
use mathlib.Core.Path.{◌≡◌, refl, sym, ap, ◌∙◌}
use mathlib.Core.Bool.{Bool, true, false}
use mathlib.Core.List.{List, [], ◌∷◌, ◌++◌}
use Prim.Native.Nat.{ℕ, zero, suc, ◌+◌, ◌*◌, ◌-◌, ◌≤◌, ◌<◌}
use native.Mathlib.Nat.{add-zero, mul-suc, mul-zero, one-mul}
use native.Mathlib.Numerals.{add-one}
use native.Mathlib.Omega.{arith}
use lib.Dec.{leb, ltb}
use lib.IntN.{ℤ}
use lib.ListN.{length, get_or, set, take, drop, replicate, length-take, length-drop, get_or-eq_default}
use lib.Seq.{get_or-take, get_or-drop, take_all}
use borrow.Author.Tests.{ltb-true, ltb-false, leb-true, leb-false}
use Rattle.wire.specs.Tests.{pick}
use Rattle.wire.specs.Numbers.{num_at}
use Rattle.wire.specs.Parts.{slice, splice, padded}
use Rattle.wire.proofs.Parts.{splice_nil, splice_zeros, padded_ext, padded_nil, padded_set, padded_take}
use Rattle.wire.proofs.Numbers.{num1_is, num_take, num_slice, num_past}
use Rattle.signs.specs.TwosComplement.{signed, signed_at}
use Rattle.rows.specs.declared.Row.{Row}
use Rattle.rows.specs.Rows.{numbers_row, text_row, rectangles_row, ids_row, room_of, first_of, len_of}
use Rattle.body.specs.Bodies.{field_in}
use Rattle.body.proofs.Placed.{len_place}
use Rattle.layout.specs.Layouts.{field_at}
use Rattle.protocol.specs.declared.WindowId.{WindowId}
use Rattle.view.specs.Views.{window_id, each_of, point_of, pair_of, text_of, rectangles_of, stack_of}

-- ---- the lesser of two

pub record Least (a b k : ℕ) : Type 0 where
  pub left : k ≤ a
  pub right : k ≤ b
  pub all : (i : ℕ) → i < a → i < b → i < k

pub least_is : (a b : ℕ) {k : ℕ} → k ≡ pick (leb a b) a b → Least a b k
least_is a b {k} e = go (leb a b) refl e
  where
    go : (t : Bool) → leb a b ≡ t → k ≡ pick t a b → Least a b k
    go true t e = let h = leb-true a b t in record { left = omega arith; right = omega arith; all = λ i l m. omega arith }
    go false t e = let h = leb-false a b t in record { left = omega arith; right = omega arith; all = λ i l m. omega arith }

-- as many bytes as there are
pub slice_least : (s : List ℕ) (at n : ℕ) {k : ℕ} → k ≡ pick (leb n (length s - at)) n (length s - at) → slice s at k ≡ slice s at n
unfolding slice
slice_least s at n {k} e = go (leb n (length s - at)) refl e
  where
    go : (t : Bool) → leb n (length s - at) ≡ t → k ≡ pick t n (length s - at) → take k (drop at s) ≡ take n (drop at s)
    go true t e = ap (λ (i : ℕ). take i (drop at s)) e
    go false t e =
        let h = leb-false n (length s - at) t in
        let l : length (drop at s) ≡ length s - at = length-drop at s in
        take_all k (drop at s) (omega arith) ∙ sym (take_all n (drop at s) (omega arith))

pub slice_none : (s : List ℕ) (at n : ℕ) (d : List ℕ) → length s ≤ at → d ≡ splice d 0 (slice s at n)
slice_none s at n d h = sym (ap (splice d 0) none ∙ splice_nil d 0)
  where
    none : slice s at n ≡ []
    none = unfold slice in ap (take n) (drop_past at s h) ∙ take_past n
      where
        drop_past : (k : ℕ) (x : List ℕ) → length x ≤ k → drop k x ≡ []
        drop_past zero [] h = refl
        drop_past zero (y ∷ x) h = absurd (omega arith)
        drop_past (suc k) [] h = refl
        drop_past (suc k) (y ∷ x) h = drop_past k x (omega arith)

        take_past : (n : ℕ) → ◌≡◌ {A = List ℕ} (take n []) []
        take_past zero = refl
        take_past (suc n) = refl

-- ---- numbers of one width, one after the other

module _ {A : Type 0} (make : ℕ → A) (w : ℕ) where
  pub length_each : (n : ℕ) (s : List ℕ) (at : ℕ) → length (each_of make w n s at) ≡ n
  unfolding each_of
  length_each zero s at = refl
  length_each (suc n) s at = ap suc (length_each n s (at + w))

  further : (at n : ℕ) → at + w + w * n ≡ at + w * suc n
  further at n = rw (mul-suc w n) (omega arith)

  each_last : (n : ℕ) (s : List ℕ) (at : ℕ) → each_of make w (suc n) s at ≡ each_of make w n s at ++ (make (num_at w s (at + w * n)) ∷ [])
  unfolding each_of
  each_last zero s at = rw (mul-zero w, add-zero at)
  each_last (suc n) s at =
      ap (λ (l : List A). make (num_at w s at) ∷ l)
      (each_last n s (at + w) ∙ ap (λ (i : ℕ). each_of make w n s (at + w) ++ (make (num_at w s i) ∷ [])) (further at n))

  pub each_at : (n : ℕ) (s : List ℕ) (at j : ℕ) (z : A) → j < n → get_or (each_of make w n s at) j z ≡ make (num_at w s (at + w * j))
  unfolding each_of
  each_at zero s at j z h = absurd (omega arith)
  each_at (suc n) s at zero z h = rw (mul-zero w, add-zero at)
  each_at (suc n) s at (suc j) z h = each_at n s (at + w) j z (omega arith) ∙ ap (λ (i : ℕ). make (num_at w s i)) (further at j)

  each_past : (n : ℕ) (s : List ℕ) (at j : ℕ) (z : A) → n ≤ j → get_or (each_of make w n s at) j z ≡ z
  each_past n s at j z h = get_or-eq_default (each_of make w n s at) z (omega (arith, length_each n s at))

  -- a row that is filled number by number: the first turn, and a further one
  module _ (z : A) (m : ℕ) (s : List ℕ) (at : ℕ) where
    pub fill_first : replicate m z ≡ padded z m (each_of make w 0 s at)
    unfolding each_of
    fill_first = sym (padded_nil z m)

    pub fill_next : (i : ℕ) {x : List A} {v : A} → i < m → x ≡ padded z m (each_of make w i s at) → v ≡ make (num_at w s (at + w * i))
        → set x i v ≡ padded z m (each_of make w (i + 1) s at)
    fill_next i {x} {v} h ex ev =
        let xs = each_of make w i s at in
        let l = length_each i s at in
        ap (λ (y : List A). set y i v) ex
        ∙ ap (λ (k : ℕ). set (padded z m xs) k v) (sym l)
        ∙ padded_set z m xs v (omega arith)
        ∙ ap (λ (u : A). padded z m (xs ++ (u ∷ []))) ev
        ∙ ap (padded z m) (sym (each_last i s at))
        ∙ ap (λ (k : ℕ). padded z m (each_of make w k s at)) (sym (add-one i))

  -- of n numbers in f those count that are among its first c; the others are past its end
  each_within : (z : A) (m : ℕ) (s f : List ℕ) (at h n c : ℕ) {k : ℕ} → Least n c k
      → ((j : ℕ) → j < n → j < c → num_at w s (at + w * j) ≡ num_at w f (h + w * j)) → ((j : ℕ) → c ≤ j → make (num_at w f (h + w * j)) ≡ z)
      → padded z m (each_of make w k s at) ≡ padded z m (each_of make w n f h)
  each_within z m s f at h n c {k} least near far = padded_ext z m (each_of make w k s at) (each_of make w n f h) (λ j l. go j (ltb j k) refl (ltb j n) refl)
    where
      beyond : (j : ℕ) → k ≤ j → j < n → (t : Bool) → ltb j c ≡ t → c ≤ j
      beyond j h l true t = absurd (omega (arith, least.all j l (ltb-true j c t)))
      beyond j h l false t = ltb-false j c t

      go : (j : ℕ) (a : Bool) → ltb j k ≡ a → (b : Bool) → ltb j n ≡ b → get_or (each_of make w k s at) j z ≡ get_or (each_of make w n f h) j z
      go j true ta b tb =
          let l = ltb-true j k ta in
          each_at k s at j z l
          ∙ ap make (near j (omega (arith, least.left)) (omega (arith, least.right)))
          ∙ sym (each_at n f h j z (omega (arith, least.left)))
      go j false ta true tb =
          let g = ltb-false j k ta in
          let l = ltb-true j n tb in
          each_past k s at j z g ∙ sym (each_at n f h j z l ∙ far j (beyond j g l (ltb j c) refl))
      go j false ta false tb = each_past k s at j z (ltb-false j k ta) ∙ sym (each_past n f h j z (ltb-false j n tb))

-- bytes are numbers of 1
slice_each : (m : ℕ) (s : List ℕ) (a k : ℕ) → padded 0 m (slice s a k) ≡ padded 0 m (each_of (λ v. v) 1 k s a)
slice_each m s a k = padded_ext {A = ℕ} 0 m (slice s a k) (each_of (λ v. v) 1 k s a) (λ j l. go j (ltb j k) refl)
  where
    short : length (slice s a k) ≤ k
    short = unfold slice in simp length-take (omega arith)

    here : (j : ℕ) → j < k → get_or (slice s a k) j 0 ≡ get_or s (a + j) 0
    here j l = unfold slice in get_or-take k (drop a s) j 0 l ∙ get_or-drop a s j 0

    go : (j : ℕ) (b : Bool) → ltb j k ≡ b → get_or (slice s a k) j 0 ≡ get_or (each_of (λ v. v) 1 k s a) j 0
    go j true t =
        let l = ltb-true j k t in
        here j l ∙ num1_is s (a + j) ∙ ap (λ (i : ℕ). num_at 1 s (a + i)) (sym (one-mul j)) ∙ sym (each_at (λ v. v) 1 k s a j 0 l)
    go j false t =
        let g = ltb-false j k t in
        get_or-eq_default (slice s a k) 0 (omega (arith, short)) ∙ sym (each_past (λ v. v) 1 k s a j 0 g)

-- ---- a field in its place

module _ (r : Row) (s : List ℕ) (at : ℕ) where
  short_field : length (field_at r s at) ≤ room_of r
  unfolding field_in slice
  short_field = simp length-take (omega arith)

  num_in : (w i : ℕ) → r.head ≤ room_of r → i + w ≤ len_of r s at → i + w ≤ room_of r → num_at w s (at + i) ≡ num_at w (field_at r s at) i
  unfolding field_in
  num_in w i e h g =
      let place = slice s at (room_of r) in
      let l : i + w ≤ len_of r place 0 = rw (len_place r s at (room_of r) e) h in
      sym (num_take w (len_of r place 0) i place l ∙ num_slice w s at (room_of r) i g)

  -- a number within the fixed bytes
  pub num_field : (w j : ℕ) → r.head ≤ r.size → j + w ≤ r.size → num_at w s (at + j) ≡ num_at w (field_at r s at) j
  unfolding len_of
  num_field w j e h = num_in w j (omega arith) (omega arith) (omega arith)

  -- the first one
  pub num_start : (w : ℕ) → r.head ≤ r.size → w ≤ r.size → num_at w s at ≡ num_at w (field_at r s at) 0
  num_start w e h = ap (num_at w s) (sym (add-zero at)) ∙ num_field w 0 e (omega arith)

  -- numbers after a head of h bytes, c of them at most
  counted : {A : Type 0} (make : ℕ → A) (w m h n c : ℕ) {k : ℕ} → Least n c k → r.head ≤ room_of r
      → ((j : ℕ) → j < n → j < c → (h + w * j + w ≤ len_of r s at) × (h + w * j + w ≤ room_of r)) → ((j : ℕ) → c ≤ j → room_of r ≤ h + w * j)
      → padded (make 0) m (each_of make w k s (at + h)) ≡ padded (make 0) m (each_of make w n (field_at r s at) h)
  counted make w m h n c least e near far =
      each_within make w (make 0) m s (field_at r s at) (at + h) h n c least
      (λ j l g. ap (num_at w s) (omega arith) ∙ num_in w (h + w * j) e (near j l g).0 (near j l g).1)
      (λ j g. ap make (num_past w (field_at r s at) (h + w * j) (omega (arith, short_field, far j g))))

-- the flag does not count
pub numbers_flag : (flag size : ℕ) (s : List ℕ) (at : ℕ) → field_at (numbers_row 0 size) s at ≡ field_at (numbers_row flag size) s at
unfolding field_in len_of first_of
numbers_flag flag size s at = refl

pub text_flag : (flag most : ℕ) (s : List ℕ) (at : ℕ) → field_at (text_row 0 most) s at ≡ field_at (text_row flag most) s at
unfolding field_in len_of first_of
text_flag flag most s at = refl

pub rectangles_flag : (flag : ℕ) (s : List ℕ) (at : ℕ) → field_at (rectangles_row 0) s at ≡ field_at (rectangles_row flag) s at
unfolding field_in len_of first_of
rectangles_flag flag s at = refl

pub ids_flag : (flag : ℕ) (s : List ℕ) (at : ℕ) → field_at (ids_row 0) s at ≡ field_at (ids_row flag) s at
unfolding field_in len_of first_of
ids_flag flag s at = refl

-- ---- the view of a field by its parts

point_parts : (f : List ℕ) {x y : ℤ} → x ≡ signed_at 4 f 0 → y ≡ signed_at 4 f 4 → record { x = x; y = y } ≡ point_of f
unfolding point_of
point_parts f a b = rw (a, b)

pair_parts : (f : List ℕ) {x y : ℕ} → x ≡ num_at 4 f 0 → y ≡ num_at 4 f 4 → record { x = x; y = y } ≡ pair_of f
unfolding pair_of
pair_parts f a b = rw (a, b)

text_parts : (f : List ℕ) {n : ℕ} {bytes : List ℕ} → n ≡ num_at 2 f 0 → bytes ≡ padded 0 520 (each_of (λ v. v) 1 n f 2) → record { count = n; bytes = bytes } ≡ text_of f
unfolding text_of
text_parts f a b = rw (b, a)

rectangles_parts : (f : List ℕ) {n : ℕ} {sides : List ℕ} → n ≡ num_at 2 f 0 → sides ≡ padded 0 64 (each_of (λ v. v) 2 (4 * n) f 2) → record { count = n; sides = sides } ≡ rectangles_of f
unfolding rectangles_of
rectangles_parts f a b = rw (b, a)

stack_parts : (f : List ℕ) {n : ℕ} {ids : List WindowId} → n ≡ num_at 1 f 0 → ids ≡ padded (window_id 0) 64 (each_of window_id 4 n f 1) → record { count = n; ids = ids } ≡ stack_of f
unfolding stack_of
stack_parts f a b = rw (b, a)

module _ (s : List ℕ) (at : ℕ) where
  pub point_is : {x y : ℤ} → x ≡ signed_at 4 s at → y ≡ signed_at 4 s (at + 4) → record { x = x; y = y } ≡ point_of (field_at (numbers_row 0 8) s at)
  point_is a b =
      let r = numbers_row 0 8 in
      point_parts (field_at r s at) (a ∙ ap (signed 4) (num_start r s at 4 (omega arith) (omega arith))) (b ∙ ap (signed 4) (num_field r s at 4 4 (omega arith) (omega arith)))

  pub pair_is : {x y : ℕ} → x ≡ num_at 4 s at → y ≡ num_at 4 s (at + 4) → record { x = x; y = y } ≡ pair_of (field_at (numbers_row 0 8) s at)
  pair_is a b =
      let r = numbers_row 0 8 in
      pair_parts (field_at r s at) (a ∙ num_start r s at 4 (omega arith) (omega arith)) (b ∙ num_field r s at 4 4 (omega arith) (omega arith))

  pub text_is : (most : ℕ) {n k : ℕ} {bytes : List ℕ} → most ≤ 520 → n ≡ num_at 2 s at → k ≡ pick (leb n most) n most → bytes ≡ splice (replicate 520 0) 0 (slice s (at + 2) k)
      → record { count = n; bytes = bytes } ≡ text_of (field_at (text_row 0 most) s at)
  unfolding len_of first_of
  text_is most {n} {k} few a e b =
      let r = text_row 0 most in
      let l = least_is n most e in
      let short : length (slice s (at + 2) k) ≤ 520 = unfold slice in simp length-take (omega (arith, l.right)) in
      text_parts (field_at r s at) (a ∙ num_start r s at 2 (omega arith) (omega arith))
      (b ∙ splice_zeros 520 (slice s (at + 2) k) short ∙ slice_each 520 s (at + 2) k
      ∙ counted r s at (λ (v : ℕ). v) 1 520 2 n most l (omega arith) (λ j g h. (omega arith, omega arith)) (λ j g. omega arith))

  pub rectangles_is : {n k : ℕ} {sides : List ℕ} → n ≡ num_at 2 s at → k ≡ pick (leb (4 * n) 64) (4 * n) 64 → sides ≡ padded 0 64 (each_of (λ v. v) 2 k s (at + 2))
      → record { count = n; sides = sides } ≡ rectangles_of (field_at (rectangles_row 0) s at)
  unfolding len_of first_of
  rectangles_is {n} {k} a e b =
      let r = rectangles_row 0 in
      rectangles_parts (field_at r s at) (a ∙ num_start r s at 2 (omega arith) (omega arith))
      (b ∙ counted r s at (λ (v : ℕ). v) 2 64 2 (4 * n) 64 (least_is (4 * n) 64 e) (omega arith) (λ j g h. (omega arith, omega arith)) (λ j g. omega arith))

  pub stack_is : {n k : ℕ} {ids : List WindowId} → n ≡ num_at 1 s at → k ≡ pick (leb n 64) n 64 → ids ≡ padded (window_id 0) 64 (each_of window_id 4 k s (at + 1))
      → record { count = n; ids = ids } ≡ stack_of (field_at (ids_row 0) s at)
  unfolding len_of first_of
  stack_is {n} {k} a e b =
      let r = ids_row 0 in
      stack_parts (field_at r s at) (a ∙ num_start r s at 1 (omega arith) (omega arith))
      (b ∙ counted r s at window_id 4 64 1 n 64 (least_is n 64 e) (omega arith) (λ j g h. (omega arith, omega arith)) (λ j g. omega arith))

-- the bytes of a picture after its numbers
pub content_is : (s : List ℕ) (at : ℕ) {bytes : List ℕ} → bytes ≡ splice (replicate 4224 0) 0 (slice s at 4224) → bytes ≡ padded 0 4224 (drop at s)
unfolding slice
content_is s at b = b ∙ splice_zeros 4224 (take 4224 (drop at s)) (simp length-take (omega arith)) ∙ padded_take {A = ℕ} 0 4224 (drop at s)
