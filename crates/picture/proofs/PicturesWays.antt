-- What the functions over pictures leave, from what their calls do. Assumes nothing.
use mathlib.Core.Path.{◌≡◌, sym, ap, ◌∙◌}
use mathlib.Core.Bool.{true}
use mathlib.Core.List.{List, ◌++◌}
use Prim.Native.Nat.{ℕ, ◌+◌, ◌*◌, ◌-◌, ◌≤◌, ◌<◌}
use native.Mathlib.Omega.{arith}
use lib.Dec.{leb}
use lib.ListN.{length, take, drop, replicate, length-append, length-take}
use borrow.Author.Tests.{leb-true}
use Rattle.wire.specs.Tests.{both}
use Rattle.wire.specs.Parts.{slice, splice, padded}
use Rattle.wire.specs.Numbers.{num_at}
use Rattle.wire.proofs.Parts.{length_slice, slice_last, splice_after, slice_slice}
use Rattle.wire.proofs.Tests.{both_right}
use Rattle.order.specs.declared.IconParts.{IconParts}
use Rattle.order.specs.Icons.{parts_of, bits_ok, side_ok}
use Rattle.order.proofs.Pictures.{laid}
use Rattle.cache.specs.Cells.{cell_ok}
use Rattle.layout.proofs.LayoutsWritten.{padded_put}
use Rattle.layout.specs.Layouts.{picture_size, picture_bytes}
use Rattle.store.proofs.KeptHolds.{place_long}
use Rattle.store.specs.Store.{place_length, places_in, place_at, put_at}
use Rattle.picture.specs.Pictures.{head_length, head_at, picture_from, picture_at, head_ok, heads_after_of, store_after}

-- the bytes behind the numbers reach to the order's end
pub to_the_end : (s : List ℕ) (m : ℕ) → m ≤ length s → take (length s - m) (drop m s) ≡ drop m s
unfolding slice
to_the_end s m h = slice_last s m (length s - m) (omega arith)

-- where the parts of an icon that reaches to the order's end lie
pub record Room (s : List ℕ) (icon : ℕ) (q : IconParts) : Type 0 where
  pub low : icon ≤ q.mask
  pub high : q.mask ≤ icon + 14
  pub within : q.mask ≤ length s
  pub few : length s - q.mask ≤ place_length

pub parts_room : (s : List ℕ) (icon : ℕ) {q : IconParts} → q ≡ parts_of s icon → (parts_of s icon).end ≡ length s → (parts_of s icon).end - (parts_of s icon).mask ≤ place_length → Room s icon q
parts_room s icon e ends few =
    let l = laid s icon in
    let a = l.low in
    let b = l.high in
    let c = l.first in
    let d = l.second in
    let f = l.third in
    rw e (record { low = omega arith; high = omega arith; within = omega arith; few = omega arith })

module _ (s : List ℕ) (icon p : ℕ) {q : IconParts} (e : q ≡ parts_of s icon) where
  pub head_put : (heads : List ℕ) {x : List ℕ} → x ≡ splice heads (head_length * p) (slice s icon (q.mask - icon)) → x ≡ heads_after_of heads p s icon
  unfolding heads_after_of
  head_put heads h = h ∙ ap (λ (r : IconParts). splice heads (head_length * p) (slice s icon (r.mask - icon))) e

  pub bytes_put : (parts : List (List ℕ)) {x : List (List ℕ)} → q.mask ≤ length s → x ≡ put_at parts p (take (length s - q.mask) (drop q.mask s)) → x ≡ store_after parts p s icon
  unfolding store_after
  bytes_put parts m h = h ∙ ap (put_at parts p) (to_the_end s q.mask m) ∙ ap (λ (r : IconParts). put_at parts p (drop r.mask s)) e

-- ---- a head in its sets

pub record HeadRoom (q : IconParts) : Type 0 where
  pub low : 3 ≤ q.mask
  pub high : q.mask ≤ 14
  pub ends : q.mask ≤ q.end
  pub few : q.end - q.mask ≤ place_length

pub head_room : (head : List ℕ) {q : IconParts} → q ≡ parts_of head 0 → cell_ok head ≡ true → HeadRoom q
unfolding cell_ok
head_room head {q} e ok =
    let p = parts_of head 0 in
    let l = laid head 0 in
    let a = l.low in
    let b = l.high in
    let c = l.first in
    let d = l.second in
    let f = l.third in
    let n : p.end - p.mask ≤ 4224 =
    leb-true (p.end - p.mask) 4224
    (both_right (both (both (bits_ok (num_at 1 head 3)) (side_ok (num_at 2 head 4))) (side_ok (num_at 2 head 6))) (leb (p.end - p.mask) 4224) ok) in
    rw e (record { low = omega arith; high = omega arith; ends = omega arith; few = n })

-- numbers, bytes and zeros laid one after the other are the picture in its fixed layout
module _ (heads : List ℕ) (parts : List (List ℕ)) (p : ℕ) {q : IconParts} (e : q ≡ parts_of (head_at heads p) 0) (ok : head_ok heads p ≡ true) (inside : p < places_in parts) (room : head_length * p + head_length ≤ length heads) where
  abbrev numbers : List ℕ
  numbers = slice heads (head_length * p + 3) (q.mask - 3)

  abbrev bytes : List ℕ
  bytes = take (q.end - q.mask) (place_at parts p)

  picture_is : numbers ++ bytes ≡ picture_at heads parts p
  unfolding picture_at picture_from head_at head_ok
  picture_is =
      let r = head_room (head_at heads p) e ok in
      let h = r.high in
      let l = r.low in
      ap (λ (x : List ℕ). x ++ bytes) (sym (slice_slice heads (head_length * p) head_length 3 (q.mask - 3) (omega arith)))
      ∙ ap (λ (i : IconParts). slice (head_at heads p) 3 (i.mask - 3) ++ take (i.end - i.mask) (place_at parts p)) e

  pub shown : (out : List ℕ) {n m : ℕ} {x y z : List ℕ} → n ≡ q.mask - 3 + (q.end - q.mask) → m ≡ picture_size - n → picture_size ≤ length out
      → x ≡ splice out 0 numbers → y ≡ splice x (q.mask - 3) bytes → z ≡ splice y n (replicate m 0)
      → z ≡ splice out 0 (picture_bytes (picture_at heads parts p))
  unfolding picture_bytes head_ok
  shown out {n} {m} {x} en em wide ex ey ez =
      let r = head_room (head_at heads p) e ok in
      let h = r.high in
      let l = r.low in
      let f = r.few in
      let a : length numbers ≡ q.mask - 3 = length_slice heads (head_length * p + 3) (q.mask - 3) (omega arith) in
      let w = place_long parts p inside in
      let b : length bytes ≡ q.end - q.mask = simp length-take (omega (arith, w)) in
      let c : length (numbers ++ bytes) ≡ n = length-append numbers bytes ∙ omega arith in
      let two : splice x (q.mask - 3) bytes ≡ splice out 0 (numbers ++ bytes) =
      ap (λ (u : List ℕ). splice u (q.mask - 3) bytes) ex ∙ splice_after out 0 numbers bytes (q.mask - 3) (omega arith) (omega arith) in
      padded_put out 0 picture_size (numbers ++ bytes) {q = n} {m = m} (omega arith) (omega arith) (omega arith) wide (ey ∙ two) ez
      ∙ ap (λ (u : List ℕ). splice out 0 (padded 0 picture_size u)) picture_is

-- the part that is read is the head
pub head_part : (heads : List ℕ) (p : ℕ) {q : IconParts} → q ≡ parts_of (take (head_length * p + head_length - head_length * p) (drop (head_length * p) heads)) 0 → q ≡ parts_of (head_at heads p) 0
unfolding head_at slice
head_part heads p e =
    let n : head_length * p + head_length - head_length * p ≡ head_length = omega arith in
    e ∙ ap (λ (k : ℕ). parts_of (take k (drop (head_length * p) heads)) 0) n

pub head_room_at : (heads : List ℕ) (p : ℕ) {q : IconParts} → q ≡ parts_of (head_at heads p) 0 → head_ok heads p ≡ true → HeadRoom q
unfolding head_ok
head_room_at heads p e ok = head_room (head_at heads p) e ok
