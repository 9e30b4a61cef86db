-- An icon put at a place: its numbers stand in the head as in the order, its bytes in the place. Assumes nothing.
use mathlib.Core.Path.{◌≡◌, refl, sym, ap, ◌∙◌}
use mathlib.Core.Bool.{Bool, true, false}
use mathlib.Core.List.{List, ◌++◌}
use Prim.Native.Nat.{ℕ, ◌+◌, ◌*◌, ◌-◌, ◌≤◌, ◌<◌}
use native.Mathlib.Omega.{arith}
use lib.Dec.{ltb}
use lib.ListN.{length, take, drop, length-drop}
use borrow.Author.Tests.{le-leb, ltb-true, ltb-false}
use Rattle.wire.specs.Numbers.{num_at}
use Rattle.wire.specs.Parts.{slice, splice}
use Rattle.wire.proofs.Parts.{length_splice, length_slice, slice_cut, slice_last, slice_splice, slice_splice_before, slice_splice_after, slice_slice}
use Rattle.wire.proofs.Numbers.{num_slice, num_in}
use Rattle.order.specs.Icons.{tabled, parts_of}
use Rattle.order.proofs.Pictures.{laid}
use Rattle.cache.specs.Cells.{cell_ok, carried_picture}
use Rattle.store.specs.Store.{place_length, places_in, place_at}
use Rattle.store.specs.Kept.{PutsOne}
use Rattle.store.proofs.KeptHolds.{puts_one}
use Rattle.picture.specs.Pictures.{head_length, head_at, picture_from, picture_at, head_ok, heads_after_of, store_after}
use Rattle.picture.specs.Kept.{IconThere, PutsOnePicture}

module _ (heads : List ℕ) (p : ℕ) (s : List ℕ) (icon : ℕ) (room : head_length * p + head_length ≤ length heads) (there : IconThere s icon) where
  -- how many bytes its numbers take
  abbrev width : ℕ
  width = (parts_of s icon).mask - icon

  abbrev numbers : List ℕ
  numbers = slice s icon width

  abbrev head : List ℕ
  head = head_at (heads_after_of heads p s icon) p

  few : (width ≤ 14) × (12 ≤ width) × (icon + width ≡ (parts_of s icon).mask) × (icon + width ≤ length s)
  few =
      let l = laid s icon in
      let a = l.low in
      let b = l.high in
      let c = l.first in
      let d = l.second in
      let e = l.third in
      let f = there.ends in
      (omega arith, omega arith, omega arith, omega arith)

  as_long : length numbers ≡ width
  as_long = length_slice s icon width few.3

  fits : head_length * p + length numbers ≤ length heads
  fits = omega (arith, as_long, few.0)

  -- the head's numbers are the order's
  num_head : (w i : ℕ) → i + w ≤ width → num_at w head i ≡ num_at w s (icon + i)
  unfolding head_at heads_after_of
  num_head w i h =
      num_slice w (splice heads (head_length * p) numbers) (head_length * p) head_length i (omega (arith, few.0))
      ∙ num_in w heads (head_length * p) numbers fits i (omega (arith, as_long))
      ∙ num_slice w s icon width i h

  record Same : Type 0 where
    pub mask : (parts_of head 0).mask ≡ width
    pub bytes : (parts_of head 0).end - (parts_of head 0).mask ≡ (parts_of s icon).end - (parts_of s icon).mask

  same_parts : Same
  unfolding parts_of
  same_parts = go (tabled (num_at 1 s (icon + 3))) refl
    where
      e3 : num_at 1 head 3 ≡ num_at 1 s (icon + 3)
      e3 = num_head 1 3 (omega (arith, few.1))

      e8 : num_at 2 head 8 ≡ num_at 2 s (icon + 8)
      e8 = num_head 2 8 (omega (arith, few.1))

      e10 : num_at 2 head 10 ≡ num_at 2 s (icon + 10)
      e10 = num_head 2 10 (omega (arith, few.1))

      go : (b : Bool) → tabled (num_at 1 s (icon + 3)) ≡ b → Same
      go true t =
          let m : width ≡ 14 = rw t (omega arith) in
          let e12 : num_at 2 head 12 ≡ num_at 2 s (icon + 12) = num_head 2 12 (omega (arith, m)) in
          record { mask = rw (e3, t) (omega arith); bytes = rw (e3, t, e8, e10, e12) (omega arith) }
      go false t = record { mask = rw (e3, t) (omega arith); bytes = rw (e3, t, e8, e10) (omega arith) }

  head_there : slice head 0 width ≡ numbers
  unfolding head_at heads_after_of
  head_there =
      let e : head_length * p + 0 ≡ head_length * p = omega arith in
      slice_slice (splice heads (head_length * p) numbers) (head_length * p) head_length 0 width (omega (arith, few.0))
      ∙ ap (λ (k : ℕ). slice (splice heads (head_length * p) numbers) k width) e
      ∙ ap (slice (splice heads (head_length * p) numbers) (head_length * p)) (sym as_long)
      ∙ slice_splice heads (head_length * p) numbers fits

  numbers_there : slice head 3 (width - 3) ≡ slice s (icon + 3) (width - 3)
  numbers_there =
      sym (slice_slice head 0 width 3 (width - 3) (omega (arith, few.1)))
      ∙ ap (λ (x : List ℕ). slice x 3 (width - 3)) head_there
      ∙ slice_slice s icon width 3 (width - 3) (omega (arith, few.1))

  pub heads_long : length (heads_after_of heads p s icon) ≡ length heads
  unfolding heads_after_of
  heads_long = length_splice heads (head_length * p) numbers fits

  pub head_ok_lem : head_ok (heads_after_of heads p s icon) p ≡ true
  unfolding head_ok cell_ok
  head_ok_lem =
      let e = same_parts in
      let a : num_at 1 head 3 ≡ num_at 1 s (icon + 3) = num_head 1 3 (omega (arith, few.1)) in
      let b : num_at 2 head 4 ≡ num_at 2 s (icon + 4) = num_head 2 4 (omega (arith, few.1)) in
      let d : num_at 2 head 6 ≡ num_at 2 s (icon + 6) = num_head 2 6 (omega (arith, few.1)) in
      rw (a, b, d, e.bytes, there.bits, there.width, there.height) (le-leb ((parts_of s icon).end - (parts_of s icon).mask) 4224 there.bytes)

  pub other_head : (q : ℕ) → (q ≡ p → ⊥) → head_at (heads_after_of heads p s icon) q ≡ head_at heads q
  unfolding head_at heads_after_of
  other_head q ne = go (ltb q p) refl
    where
      go : (t : Bool) → ltb q p ≡ t → slice (splice heads (head_length * p) numbers) (head_length * q) head_length ≡ slice heads (head_length * q) head_length
      go true t =
          let l : q < p = ltb-true q p t in
          slice_splice_before heads (head_length * p) numbers fits (head_length * q) head_length (omega arith)
      go false t =
          let l : p ≤ q = ltb-false q p t in
          let m : p < q = omega arith in
          slice_splice_after heads (head_length * p) numbers fits (head_length * q) head_length (omega (arith, as_long, few.0))

  module _ (parts : List (List ℕ)) (inside : p < places_in parts) where
    abbrev bytes : List ℕ
    bytes = drop (parts_of s icon).mask s

    as_many : length bytes ≡ (parts_of s icon).end - (parts_of s icon).mask
    as_many = length-drop (parts_of s icon).mask s ∙ ap (λ (n : ℕ). n - (parts_of s icon).mask) (sym there.ends)

    small : length bytes ≤ place_length
    small = omega (arith, as_many, there.bytes)

    bytes-there : take ((parts_of head 0).end - (parts_of head 0).mask) (place_at (store_after parts p s icon) p) ≡ bytes
    unfolding store_after slice PutsOne
    bytes-there =
        ap (λ (n : ℕ). take n (place_at (store_after parts p s icon) p)) (same_parts.bytes ∙ sym as_many) ∙ (puts_one parts p bytes small).there inside

    pub picture_there : picture_at (heads_after_of heads p s icon) (store_after parts p s icon) p ≡ carried_picture s icon
    unfolding picture_at picture_from carried_picture
    picture_there =
        let m = same_parts.mask in
        let at : icon + 3 + (width - 3) ≡ (parts_of s icon).mask = omega (arith, few.1, few.2) in
        let n : icon + 3 + (length s - (icon + 3)) ≡ length s = omega (arith, few.1, few.3) in
        ap (λ (k : ℕ). slice head 3 (k - 3) ++ take ((parts_of head 0).end - (parts_of head 0).mask) (place_at (store_after parts p s icon) p)) m
        ∙ ap (λ (x : List ℕ). slice head 3 (width - 3) ++ x) bytes-there
        ∙ ap (λ (x : List ℕ). x ++ bytes) numbers_there
        ∙ ap (λ (k : ℕ). slice s (icon + 3) (width - 3) ++ drop k s) (sym at)
        ∙ slice_cut s (icon + 3) (width - 3)
        ∙ sym (slice_last s (icon + 3) (length s - (icon + 3)) n)

    pub other_picture : (q : ℕ) → (q ≡ p → ⊥) → picture_at (heads_after_of heads p s icon) (store_after parts p s icon) q ≡ picture_at heads parts q
    unfolding picture_at store_after PutsOne
    other_picture q ne =
        ap (λ (h : List ℕ). picture_from h (place_at (store_after parts p s icon) q)) (other_head q ne)
        ∙ ap (picture_from (head_at heads q)) ((puts_one parts p bytes small).others q ne)

pub puts_one_picture : PutsOnePicture
unfolding PutsOnePicture head_ok
puts_one_picture heads parts p s icon room inside there =
    record {
      there = picture_there heads p s icon room there parts inside;
      ok = head_ok_lem heads p s icon room there;
      others = other_picture heads p s icon room there parts inside;
      others_ok = λ q ne. ap cell_ok (other_head heads p s icon room there q ne);
      long = heads_long heads p s icon room there;
    }
