-- What the changes of an index's memory leave as it was: slots, pointers and length. Assumes nothing.
use mathlib.Core.Path.{◌≡◌, refl, sym, ◌∙◌, fun_ext}
use mathlib.Core.Bool.{Bool, true, false}
use mathlib.Core.List.{List, [], ◌∷◌}
use Prim.Native.Nat.{ℕ, ◌+◌, ◌*◌, ◌≤◌, ◌<◌}
use native.Mathlib.Omega.{arith}
use lib.Dec.{leb, ltb}
use lib.ListN.{length, get_or, set, replicate, length-replicate}
use borrow.Author.Tests.{leb-true, leb-false, ltb-true}
use Rattle.wire.specs.Tests.{pick}
use Rattle.wire.specs.Parts.{splice}
use Rattle.wire.specs.Numbers.{bytes_of}
use Rattle.wire.proofs.Parts.{length_splice, set_splice}
use Rattle.wire.proofs.Numbers.{length_bytes, num1_is, num_in, num_before, num_after, num_put, num_zeros, fits1, fits4}
use Rattle.places.specs.Memory.{places_of, pointer_at, decode, valid}
use Rattle.places.specs.Changes.{point_to, point_all, share_of, release_of, release_all_of, release_records_of, free_place}
use Rattle.places.proofs.Bytes.{Holders, holders_first, holders_later, length_records}
use Rattle.places.proofs.Validity.{valid_has, valid_is}
use Rattle.slots.specs.Slots.{used_at, first_id, second_id, is_used, is_at}
use Rattle.index.specs.Changes.{listed_of, freed_of, cleared_of}

-- ---- a slot that is the same in two memories

pub record Same (x y : List ℕ) (j : ℕ) : Type 0 where
  pub used : used_at y j ≡ used_at x j
  pub first : first_id y j ≡ first_id x j
  pub second : second_id y j ≡ second_id x j

pub same_used : (x y : List ℕ) (j : ℕ) → Same x y j → is_used y j ≡ is_used x j
unfolding is_used
same_used x y j h = rw h.used

pub same_at : (x y : List ℕ) (j : ℕ) → Same x y j → (a b : ℕ) → is_at y a b j ≡ is_at x a b j
unfolding is_at is_used
same_at x y j h a b = rw (h.used, h.first, h.second)

pub same_self : (x : List ℕ) (j : ℕ) → Same x x j
same_self x j = record { used = refl; first = refl; second = refl }

pub same_trans : (x y z : List ℕ) (j : ℕ) → Same x y j → Same y z j → Same x z j
same_trans x y z j h k = record { used = k.used ∙ h.used; first = k.first ∙ h.first; second = k.second ∙ h.second }

module _ (d : List ℕ) (p : ℕ) (s : List ℕ) (fits : p + length s ≤ length d) (j : ℕ) where
  same_before : 157 + 9 * j + 9 ≤ p → Same d (splice d p s) j
  unfolding used_at first_id second_id
  same_before h =
      record {
        used = num_before 1 d p s fits (157 + 9 * j) (omega arith);
        first = num_before 4 d p s fits (157 + 9 * j + 1) (omega arith);
        second = num_before 4 d p s fits (157 + 9 * j + 5) (omega arith);
      }

  same_after : p + length s ≤ 157 + 9 * j → Same d (splice d p s) j
  unfolding used_at first_id second_id
  same_after h =
      record {
        used = num_after 1 d p s fits (157 + 9 * j) (omega arith);
        first = num_after 4 d p s fits (157 + 9 * j + 1) (omega arith);
        second = num_after 4 d p s fits (157 + 9 * j + 5) (omega arith);
      }

-- ---- the holders' bytes

-- the same number of places, and the same pointers
pub record Still (x y : List ℕ) : Type 0 where
  pub places : places_of y ≡ places_of x
  pub pointers : pointer_at y ≡ pointer_at x

still_trans : (x y z : List ℕ) → Still x y → Still y z → Still x z
still_trans x y z h k = record { places = k.places ∙ h.places; pointers = k.pointers ∙ h.pointers }

pub still_decode : (x y : List ℕ) → Still x y → decode y ≡ decode x
unfolding decode
still_decode x y h = rw (h.places, h.pointers)

pub still_free : (x y hs : List ℕ) → Still x y → free_place y hs ≡ free_place x hs
unfolding free_place
still_free x y hs h = rw (h.places, h.pointers)

pub still_valid : (x y : List ℕ) → Still x y → length y ≡ length x → valid x ≡ true → valid y ≡ true
still_valid x y h l ok =
    let v = valid_has x ok in
    valid_is y
    (record {
      long = omega (arith, v.long);
      few = rw h.places v.few;
      many = rw h.places v.many;
      within = rw (h.places, h.pointers) v.within;
      apart = rw h.pointers v.apart;
    })

still_after : (d : List ℕ) (p : ℕ) (s : List ℕ) → p + length s ≤ length d → 157 ≤ p → Still d (splice d p s)
unfolding places_of pointer_at
still_after d p s fits h =
    record { places = at 0 (omega arith); pointers = fun_ext (λ g. go g (ltb g 156) refl) }
  where
    at : (k : ℕ) → k < 157 → get_or (splice d p s) k 0 ≡ get_or d k 0
    at k l = num1_is (splice d p s) k ∙ num_before 1 d p s fits k (omega arith) ∙ sym (num1_is d k)

    go : (g : ℕ) (t : Bool) → ltb g 156 ≡ t → pick t (get_or (splice d p s) (g + 1) 0) 0 ≡ pick t (get_or d (g + 1) 0) 0
    go g true e = let l = ltb-true g 156 e in at (g + 1) (omega arith)
    go g false e = refl

-- ---- a memory in which slot i alone may have changed

pub record Kept (x y : List ℕ) (i : ℕ) : Type 0 where
  pub long : length y ≡ length x
  pub others : (j : ℕ) → (j ≡ i → ⊥) → Same x y j

kept_trans : (x y z : List ℕ) (i : ℕ) → Kept x y i → Kept y z i → Kept x z i
kept_trans x y z i h k = record { long = k.long ∙ h.long; others = λ j ne. same_trans x y z j (h.others j ne) (k.others j ne) }

module _ (d : List ℕ) (i : ℕ) (long : 589 ≤ length d) (below : i < 48) where
  kept_splice : (p : ℕ) (s : List ℕ) → 157 + 9 * i ≤ p → p + length s ≤ 157 + 9 * i + 9 → Kept d (splice d p s) i
  kept_splice p s l u = record { long = length_splice d p s (omega arith); others = λ j ne. go j ne (leb j i) refl }
    where
      go : (j : ℕ) → (j ≡ i → ⊥) → (t : Bool) → leb j i ≡ t → Same d (splice d p s) j
      go j ne true t =
          let a : j ≤ i = leb-true j i t in
          let b : j < i = omega (arith, ne) in
          same_before d p s (omega arith) j (omega arith)
      go j ne false t = let a : i < j = leb-false j i t in same_after d p s (omega arith) j (omega arith)

-- ---- the ids a and b listed in slot i

pub record Listed (x y : List ℕ) (i a b : ℕ) : Type 0 where
  pub kept : Kept x y i
  pub still : Still x y
  pub used : used_at y i ≡ 1
  pub first : first_id y i ≡ a
  pub second : second_id y i ≡ b

-- the ids stand behind the holders' bytes
pub listed_still : (x : List ℕ) (i a b : ℕ) → 589 ≤ length x → i < 48 → Still x (listed_of x i a b)
unfolding listed_of
listed_still x i a b long below =
    let l1 = length_bytes 1 1 in
    let l4 = length_bytes 4 a in
    let l5 = length_bytes 4 b in
    let y = splice x (157 + 9 * i) (bytes_of 1 1) in
    let z = splice y (157 + 9 * i + 1) (bytes_of 4 a) in
    let ly = length_splice x (157 + 9 * i) (bytes_of 1 1) (omega arith) in
    let lz = length_splice y (157 + 9 * i + 1) (bytes_of 4 a) (omega arith) in
    still_trans x z (splice z (157 + 9 * i + 5) (bytes_of 4 b))
    (still_trans x y z (still_after x (157 + 9 * i) (bytes_of 1 1) (omega arith) (omega arith)) (still_after y (157 + 9 * i + 1) (bytes_of 4 a) (omega arith) (omega arith)))
    (still_after z (157 + 9 * i + 5) (bytes_of 4 b) (omega arith) (omega arith))

pub listed_long : (x : List ℕ) (i a b : ℕ) → 589 ≤ length x → i < 48 → length (listed_of x i a b) ≡ length x
unfolding listed_of
listed_long x i a b long below =
    let l1 = length_bytes 1 1 in
    let l4 = length_bytes 4 a in
    let l5 = length_bytes 4 b in
    let y = splice x (157 + 9 * i) (bytes_of 1 1) in
    let z = splice y (157 + 9 * i + 1) (bytes_of 4 a) in
    let ly = length_splice x (157 + 9 * i) (bytes_of 1 1) (omega arith) in
    let lz = length_splice y (157 + 9 * i + 1) (bytes_of 4 a) (omega arith) in
    length_splice z (157 + 9 * i + 5) (bytes_of 4 b) (omega arith) ∙ lz ∙ ly

pub listed_is : (x : List ℕ) (i a b : ℕ) → 589 ≤ length x → i < 48 → a < 4294967296 → b < 4294967296 → Listed x (listed_of x i a b) i a b
unfolding listed_of used_at first_id second_id
listed_is x i a b long below sa sb =
    let l1 = length_bytes 1 1 in
    let l4 = length_bytes 4 a in
    let l5 = length_bytes 4 b in
    let at = 157 + 9 * i in
    let y = splice x (157 + 9 * i) (bytes_of 1 1) in
    let z = splice y (157 + 9 * i + 1) (bytes_of 4 a) in
    let w = splice z (157 + 9 * i + 5) (bytes_of 4 b) in
    let k1 : Kept x y i = kept_splice x i long below (157 + 9 * i) (bytes_of 1 1) (omega arith) (omega arith) in
    let ly : 589 ≤ length y = omega (arith, k1.long) in
    let k2 : Kept y z i = kept_splice y i ly below (157 + 9 * i + 1) (bytes_of 4 a) (omega arith) (omega arith) in
    let lz : 589 ≤ length z = omega (arith, k2.long) in
    let k3 : Kept z w i = kept_splice z i lz below (157 + 9 * i + 5) (bytes_of 4 b) (omega arith) (omega arith) in
    record {
      kept = kept_trans x z w i (kept_trans x y z i k1 k2) k3;
      still = listed_still x i a b long below;
      used =
          num_before 1 z (157 + 9 * i + 5) (bytes_of 4 b) (omega arith) (157 + 9 * i) (omega arith)
          ∙ num_before 1 y (157 + 9 * i + 1) (bytes_of 4 a) (omega arith) (157 + 9 * i) (omega arith)
          ∙ num_put 1 x (157 + 9 * i) 1 (omega arith) (fits1 1 (omega arith));
      first =
          num_before 4 z (157 + 9 * i + 5) (bytes_of 4 b) (omega arith) (157 + 9 * i + 1) (omega arith)
          ∙ num_put 4 y (157 + 9 * i + 1) a (omega arith) (fits4 a sa);
      second = num_put 4 z (157 + 9 * i + 5) b (omega arith) (fits4 b sb);
    }

-- ---- slot i free

pub record Freed (x y : List ℕ) (i : ℕ) : Type 0 where
  pub kept : Kept x y i
  pub used : used_at y i ≡ 0

pub freed_is : (x : List ℕ) (i : ℕ) → 589 ≤ length x → i < 48 → Freed x (freed_of x i) i
unfolding freed_of used_at
freed_is x i long below =
    let l = length_bytes 1 0 in
    record {
      kept = kept_splice x i long below (157 + 9 * i) (bytes_of 1 0) (omega arith) (omega arith);
      used = num_put 1 x (157 + 9 * i) 0 (omega arith) (fits1 0 (omega arith));
    }

pub freed_still : (x : List ℕ) (i : ℕ) → 589 ≤ length x → i < 48 → Still x (freed_of x i)
unfolding freed_of
freed_still x i long below =
    let l = length_bytes 1 0 in
    still_after x (157 + 9 * i) (bytes_of 1 0) (omega arith) (omega arith)

-- ---- pointers changed, every slot the same

pub record Slotted (x y : List ℕ) : Type 0 where
  pub long : length y ≡ length x
  pub slots : (j : ℕ) → Same x y j

pub slotted_self : (x : List ℕ) → Slotted x x
slotted_self x = record { long = refl; slots = same_self x }

slotted_trans : (x y z : List ℕ) → Slotted x y → Slotted y z → Slotted x z
slotted_trans x y z h k = record { long = k.long ∙ h.long; slots = λ j. same_trans x y z j (h.slots j) (k.slots j) }

pub point_slotted : (x : List ℕ) (h v : ℕ) → h < 156 → 589 ≤ length x → Slotted x (point_to x h v)
unfolding point_to
point_slotted x h v below long =
    let e : set x (h + 1) v ≡ splice x (h + 1) (v ∷ []) = set_splice x (h + 1) v (omega arith) in
    rw e
    (record {
      long = length_splice x (h + 1) (v ∷ []) (omega arith);
      slots = λ j. same_after x (h + 1) (v ∷ []) (omega arith) j (omega arith);
    })

pub points_slotted : (hs x : List ℕ) (v : ℕ) → Holders hs → 589 ≤ length x → Slotted x (point_all x hs v)
points_slotted [] x v all long = slotted_self x
points_slotted (h ∷ hs) x v all long =
    let k = point_slotted x h v (holders_first h hs all) long in
    slotted_trans x (point_to x h v) (point_all (point_to x h v) hs v) k
    (points_slotted hs (point_to x h v) v (holders_later h hs all) (omega (arith, k.long)))

pub share_slotted : (x : List ℕ) (q c : ℕ) → q < 156 → 589 ≤ length x → Slotted x (share_of x q c)
unfolding share_of
share_slotted x q c below long = point_slotted x q (pointer_at x c) below long

pub releases_slotted : (hs x : List ℕ) → Holders hs → 589 ≤ length x → Slotted x (release_all_of x hs)
unfolding release_of
releases_slotted [] x all long = slotted_self x
releases_slotted (h ∷ hs) x all long =
    let k = point_slotted x h 0 (holders_first h hs all) long in
    slotted_trans x (point_to x h 0) (release_all_of (point_to x h 0) hs) k
    (releases_slotted hs (point_to x h 0) (holders_later h hs all) (omega (arith, k.long)))

-- ---- every slot free

pub record Cleared (x y : List ℕ) : Type 0 where
  pub long : length y ≡ length x
  pub slots : (j : ℕ) → j < 48 → used_at y j ≡ 0
  pub still : Still (release_records_of x) y

pub cleared_is : (x : List ℕ) → 589 ≤ length x → Cleared x (cleared_of x)
unfolding cleared_of used_at
cleared_is x long =
    let e = length-replicate {A = ℕ} 432 0 in
    let r = release_records_of x in
    let l = length_records x (omega arith) in
    record {
      long = length_splice r 157 (replicate 432 0) (omega arith) ∙ l;
      slots = λ j u. num_in 1 r 157 (replicate 432 0) (omega arith) (9 * j) (omega arith) ∙ num_zeros 1 432 (9 * j);
      still = still_after r 157 (replicate 432 0) (omega arith) (omega arith);
    }
