-- A memory that describes an index does so after each change of it. Assumes nothing.
use mathlib.Core.Path.{◌≡◌, refl, sym, ap, ◌∙◌, fun_ext}
use mathlib.Core.Bool.{Bool, true, false}
use mathlib.Core.List.{List}
use Prim.Native.Nat.{ℕ, zero, suc, ◌+◌, ◌*◌, ◌-◌, ◌≤◌, ◌<◌}
use native.Mathlib.Omega.{arith}
use lib.Dec.{eqb, ltb}
use lib.ListN.{length, get_or, replicate, length-replicate}
use borrow.Author.Tests.{eq-eqb, ne_eqb, eqb-true, eqb-false, le-ltb, ltb-true}
use Rattle.std.specs.Prelude.{Some, None}
use Rattle.wire.specs.Tests.{pick, both, either}
use Rattle.wire.specs.Parts.{splice}
use Rattle.wire.specs.Numbers.{num_at, bytes_of}
use Rattle.wire.proofs.Parts.{length_splice}
use Rattle.wire.proofs.Numbers.{length_bytes, num1_is, num_in, num_after, num_put, num_zeros, fits1}
use Rattle.places.specs.declared.Family.{Family}
use Rattle.places.specs.Sharing.{is_one}
use Rattle.places.specs.Memory.{places_of, pointer_at, valid}
use Rattle.places.specs.Changes.{point_all, free_place, share_of, release_of, release_all_of, release_records_of}
use Rattle.places.specs.Holder.{Holder, same_family}
use Rattle.places.proofs.Bytes.{pointer_point, point_all_is, pointer_records, length_records}
use Rattle.places.proofs.Validity.{valid_is}
use Rattle.places.proofs.Meaning.{share_valid, release_valid, releases_valid, records_valid}
use Rattle.slots.specs.Families.{start, capacity, highest, same_record}
use Rattle.slots.specs.Slots.{used_at, first_id, second_id, is_used, is_at, slot_of}
use Rattle.slots.specs.Sound.{no_pointers, slot_ok, sound_index}
use Rattle.slots.proofs.Soundness.{Within, within_slots, one_family, apart, found_within, at_has, slot_free, slot_used, slot_own, slot_cases, no_pointers_has, no_pointers_is, Sound, sound_is}
use Rattle.index.specs.Changes.{icons_at, removed_of, cleared_of, emptied_of}
use Rattle.index.proofs.Memory.{Same, still_valid, Listed, Slotted, points_slotted, share_slotted, releases_slotted, Cleared, cleared_is}
use Rattle.index.proofs.Listed.{slotted_find, find_listed, find_freed}
use Rattle.index.proofs.Shared.{icons_holders, removed_freed, removed_still, none_slotted}
use Rattle.index.proofs.Held.{Held}
use Rattle.places.proofs.Named.{same_family_lem, family_same}
use Rattle.places.proofs.Listing.{releases_point}

-- a slot that is as it was, and is found as it was; without a record it still has no pointers
slot_kept : (f : Family) (x y : List ℕ) (j : ℕ) → Same x y j → (used_at x j ≡ 0 → no_pointers x j ≡ true → no_pointers y j ≡ true)
    → (slot_of x f (first_id x j) (second_id x j) ≡ Some j → slot_of y f (first_id x j) (second_id x j) ≡ Some j)
    → slot_ok x (start f) (capacity f) (highest f) j ≡ true → slot_ok y (start f) (capacity f) (highest f) j ≡ true
slot_kept f x y j same pointers finds t =
    slot_cases x (start f) (capacity f) (highest f) j t (λ e n. slot_free y (start f) (capacity f) (highest f) j (same.used ∙ e) (pointers e n))
    (λ e.
    let o = slot_own x (start f) (capacity f) (highest f) j t e in
    slot_used y (start f) (capacity f) (highest f) j (same.used ∙ e)
    (record { second = rw same.second o.second; first_is = rw (same.first, same.second) (finds o.first_is) }))

-- ---- ids listed

module _ (f : Family) (x y : List ℕ) (i a b : ℕ) (s : Sound x) (w : Within f i) (h : Listed x y i a b) (free : is_used x i ≡ false) (hb : b ≤ highest f)
    (none : slot_of x f a b ≡ None) where
  finds : (g : Family) (p q : ℕ) → slot_of y g p q ≡ pick (same_record f a b g p q) (Some i) (slot_of x g p q)
  finds = find_listed f x y i a b w h free none

  own_slot : slot_ok y (start f) (capacity f) (highest f) i ≡ true
  own_slot =
      let r : slot_of y f a b ≡ Some i = finds f a b ∙ rw (family_same f, eq-eqb a a refl, eq-eqb b b refl) in
      slot_used y (start f) (capacity f) (highest f) i h.used (record { second = rw h.second hb; first_is = rw (h.first, h.second) r })

  -- ids that stand in a slot are others
  others : (g : Family) (p q j : ℕ) → slot_of x g p q ≡ Some j → slot_of y g p q ≡ Some j
  others g p q j e = finds g p q ∙ go (same_family g f) (eqb p a) (eqb q b) refl refl refl
    where
      go : (t u v : Bool) → same_family g f ≡ t → eqb p a ≡ u → eqb q b ≡ v → pick (both t (both u v)) (Some i) (slot_of x g p q) ≡ Some j
      go true true true k m n =
          let z : slot_of x g p q ≡ None = rw (same_family_lem g f k, eqb-true p a m, eqb-true q b n) none in
          let c : ◌≡◌ {A = ℕ} 0 1 = cc in
          absurd (omega arith)
      go true true false k m n = e
      go true false v k m n = e
      go false u v k m n = e

  pub listed_sound : Sound y
  listed_sound =
      let l = h.kept.long in
      record {
        long = omega (arith, s.long);
        holders = still_valid x y h.still l s.holders;
        slots = λ g j v. go g j v (eqb j i) refl;
      }
    where
      go : (g : Family) (j : ℕ) → Within g j → (t : Bool) → eqb j i ≡ t → slot_ok y (start g) (capacity g) (highest g) j ≡ true
      go g j v true e =
          let k : j ≡ i = eqb-true j i e in
          let m : g ≡ f = one_family f g i w (rw k at v) in
          rw (k, m) own_slot
      go g j v false e =
          slot_kept g x y j (h.kept.others j (eqb-false j i e))
          (λ u n. no_pointers_is y j (λ o l. ap (λ (r : ℕ → ℕ). r (12 + 3 * j + o)) h.still.pointers ∙ no_pointers_has x j n o l))
          (others g (first_id x j) (second_id x j) j) (s.slots g j v)

-- ---- a record deleted

pub own_icon : (i w : ℕ) → w < 3 → is_one eqb (icons_at i) (12 + 3 * i + w) ≡ true
own_icon i zero l = rw (eq-eqb (12 + 3 * i + 0) (12 + 3 * i + 0) refl)
own_icon i (suc zero) l = rw (eq-eqb (12 + 3 * i + 1) (12 + 3 * i + 1) refl) (last (eqb (12 + 3 * i + 1) (12 + 3 * i + 0)))
  where
    last : (t : Bool) → either t true ≡ true
    last true = refl
    last false = refl
own_icon i (suc (suc zero)) l = rw (eq-eqb (12 + 3 * i + 2) (12 + 3 * i + 2) refl) (last (eqb (12 + 3 * i + 2) (12 + 3 * i + 0)) (eqb (12 + 3 * i + 2) (12 + 3 * i + 1)))
  where
    last : (t u : Bool) → either t (either u true) ≡ true
    last true u = refl
    last false true = refl
    last false false = refl
own_icon i (suc (suc (suc w))) l = absurd (omega arith)

module _ (f : Family) (x : List ℕ) (i a b : ℕ) (s : Sound x) (at_i : slot_of x f a b ≡ Some i) (there : is_at x a b i ≡ true) where
  abbrev y : List ℕ
  y = removed_of x i

  below : i < 48
  below = within_slots f i (found_within f x a b i at_i)

  -- what each holder has left
  left : (h : ℕ) → pointer_at y h ≡ pick (is_one eqb (icons_at i) h) 0 (pointer_at x h)
  left h =
      let l = s.long in
      ap (λ (r : ℕ → ℕ). r h) (removed_still x i s.long below).pointers
      ∙ ap (λ (m : List ℕ). pointer_at m h) (releases_point (icons_at i) x)
      ∙ ap (λ (r : ℕ → ℕ). r h) (point_all_is (icons_at i) x 0 (icons_holders i below) (omega arith))

  still_none : (t : Bool) (n : ℕ) → n ≡ 0 → pick t 0 n ≡ 0
  still_none true n e = refl
  still_none false n e = e

  -- ids that stand in another slot are others
  other_ids : (g : Family) (p q j : ℕ) → (j ≡ i → ⊥) → slot_of x g p q ≡ Some j → slot_of y g p q ≡ Some j
  other_ids g p q j ne h =
      find_freed f x y i a b (found_within f x a b i at_i) (removed_freed x i s.long below) s there g p q
      ∙ go (same_family g f) (eqb p a) (eqb q b) refl refl refl
    where
      go : (t u v : Bool) → same_family g f ≡ t → eqb p a ≡ u → eqb q b ≡ v → pick (both t (both u v)) None (slot_of x g p q) ≡ Some j
      go true true true k m n =
          let z : slot_of x g p q ≡ Some i = rw (same_family_lem g f k, eqb-true p a m, eqb-true q b n) at_i in
          let c : j ≡ i = cc in
          absurd (ne c)
      go true true false k m n = h
      go true false v k m n = h
      go false u v k m n = h

  pub removed_sound : Sound y
  removed_sound =
      let r = removed_freed x i s.long below in
      let k = releases_slotted (icons_at i) x (icons_holders i below) s.long in
      record {
        long = omega (arith, s.long, r.kept.long);
        holders = still_valid (release_all_of x (icons_at i)) y (removed_still x i s.long below) (r.kept.long ∙ sym k.long) (releases_valid (icons_at i) x (icons_holders i below) s.holders);
        slots = λ g j v. go g j v (eqb j i) refl;
      }
    where
      go : (g : Family) (j : ℕ) → Within g j → (t : Bool) → eqb j i ≡ t → slot_ok y (start g) (capacity g) (highest g) j ≡ true
      go g j v true e =
          rw (eqb-true j i e)
          (slot_free y (start g) (capacity g) (highest g) i (removed_freed x i s.long below).used
          (no_pointers_is y i (λ w l. left (12 + 3 * i + w) ∙ rw (own_icon i w l))))
      go g j v false e =
          slot_kept g x y j ((removed_freed x i s.long below).kept.others j (eqb-false j i e))
          (λ u n. no_pointers_is y j (λ w l. left (12 + 3 * j + w) ∙ still_none (is_one eqb (icons_at i) (12 + 3 * j + w)) (pointer_at x (12 + 3 * j + w)) (no_pointers_has x j n w l)))
          (other_ids g (first_id x j) (second_id x j) j (eqb-false j i e)) (s.slots g j v)

-- ---- pointers of a listed record and of a cell changed

module _ (z y : List ℕ) (f : Family) (a b i : ℕ) (s : Sound z) (k : Slotted z y) (ok : valid y ≡ true) (there : is_at z a b i ≡ true)
    (others : (j w : ℕ) → (j ≡ i → ⊥) → w < 3 → pointer_at y (12 + 3 * j + w) ≡ pointer_at z (12 + 3 * j + w)) where
  pointed_sound : Sound y
  pointed_sound =
      let l = k.long in
      record {
        long = omega (arith, s.long);
        holders = ok;
        slots = λ g j v.
            slot_kept g z y j (k.slots j) (λ u n. no_pointers_is y j (λ w l. others j w (λ e. taken j u e) l ∙ no_pointers_has z j n w l))
            (λ e. slotted_find z y k g (first_id z j) (second_id z j) ∙ e) (s.slots g j v);
      }
    where
      taken : (j : ℕ) → used_at z j ≡ 0 → j ≡ i → ⊥
      taken j u e =
          let m : used_at z i ≡ 1 = (at_has z a b i there).used in
          let n : used_at z j ≡ 1 = rw e m in
          omega arith

-- an icon's holders take a place
pub taken_sound : (z : List ℕ) (f : Family) (a b i : ℕ) → Sound z → is_at z a b i ≡ true → {ns : List ℕ} {hs : List Holder} → Held z i ns hs
    → (p : ℕ) → free_place z ns ≡ Some p → Sound (point_all z ns (p + 1))
taken_sound z f a b i s there {ns} k p e =
    let m = s.long in
    pointed_sound z (point_all z ns (p + 1)) f a b i s (points_slotted ns z (p + 1) k.all s.long) (k.kept p e) there
    (λ j v ne l. ap (λ (r : ℕ → ℕ). r (12 + 3 * j + v)) (point_all_is ns z (p + 1) k.all (omega arith)) ∙ rw (k.others j v ne l))

module _ (z : List ℕ) (f : Family) (a b w i c : ℕ) (s : Sound z) (there : is_at z a b i ≡ true) (below : i < 48) (lw : w < 3) (lc : c < 12) where
  apart_from : (j v : ℕ) → (j ≡ i → ⊥) → v < 3 → eqb (12 + 3 * j + v) (12 + 3 * i + w) ≡ false
  apart_from j v ne l = ne_eqb (12 + 3 * j + v) (12 + 3 * i + w) (λ e. ne (omega arith))

  pub shared_sound : Sound (share_of z (12 + 3 * i + w) c)
  unfolding share_of
  shared_sound =
      let m = s.long in
      pointed_sound z (share_of z (12 + 3 * i + w) c) f a b i s (share_slotted z (12 + 3 * i + w) c (omega arith) s.long)
      (share_valid z s.holders (12 + 3 * i + w) c (omega arith) (omega arith)) there
      (λ j v ne l.
      ap (λ (r : ℕ → ℕ). r (12 + 3 * j + v)) (pointer_point z (12 + 3 * i + w) (pointer_at z c) (omega arith) (omega arith))
      ∙ rw (apart_from j v ne l))

-- an overlay icon set to none
pub none_sound : (z : List ℕ) (f : Family) (a b w i : ℕ) → Sound z → slot_of z f a b ≡ Some i → is_at z a b i ≡ true → i < 48 → w < 3 → Sound (release_of z (12 + 3 * i + w))
unfolding release_of
none_sound z f a b w i s at_i there below lw =
    let m = s.long in
    pointed_sound z (release_of z (12 + 3 * i + w)) f a b i s (none_slotted z s f a b w i at_i lw) (release_valid z s.holders (12 + 3 * i + w) (omega arith)) there
    (λ j v ne l.
    ap (λ (r : ℕ → ℕ). r (12 + 3 * j + v)) (pointer_point z (12 + 3 * i + w) 0 (omega arith) (omega arith))
    ∙ rw (ne_eqb (12 + 3 * j + v) (12 + 3 * i + w) (λ e. ne (omega arith))))

-- ---- no record listed

pub cleared_sound : (x : List ℕ) → Sound x → Sound (cleared_of x)
cleared_sound x s =
    let m = s.long in
    let h = cleared_is x s.long in
    let r = records_valid x s.holders in
    record {
      long = omega (arith, h.long);
      holders = valid-cleared h r;
      slots = λ g j v.
          slot_free (cleared_of x) (start g) (capacity g) (highest g) j (h.slots j (within_slots g j v))
          (no_pointers_is (cleared_of x) j
          (λ w l.
          ap (λ (f : ℕ → ℕ). f (12 + 3 * j + w)) h.still.pointers
          ∙ ap (λ (f : ℕ → ℕ). f (12 + 3 * j + w)) (pointer_records x (omega arith))
          ∙ rw (le-ltb (12 + 3 * j + w) 12 (omega arith))));
    }
  where
    valid-cleared : Cleared x (cleared_of x) → valid (release_records_of x) ≡ true → valid (cleared_of x) ≡ true
    valid-cleared h r =
        let l = length_records x (omega (arith, s.long)) in
        still_valid (release_records_of x) (cleared_of x) h.still (h.long ∙ sym l) r

-- ---- an emptied memory

module _ (x : List ℕ) (n : ℕ) (long : 589 ≤ length x) (small : n < 256) where
  abbrev e : List ℕ
  e = emptied_of x n

  pub length_emptied : length e ≡ length x
  unfolding emptied_of
  length_emptied =
      let a = length-replicate {A = ℕ} 589 0 in
      let b = length_bytes 1 n in
      let c = length_splice x 0 (replicate 589 0) (omega arith) in
      length_splice (splice x 0 (replicate 589 0)) 0 (bytes_of 1 n) (omega arith) ∙ c

  pub places_emptied : places_of e ≡ n
  unfolding places_of emptied_of
  places_emptied =
      let a = length-replicate {A = ℕ} 589 0 in
      let c = length_splice x 0 (replicate 589 0) (omega arith) in
      num1_is (splice (splice x 0 (replicate 589 0)) 0 (bytes_of 1 n)) 0
      ∙ num_put 1 (splice x 0 (replicate 589 0)) 0 n (omega arith) (fits1 n small)

  -- every further byte is 0
  zero_at : (k : ℕ) → k < 588 → num_at 1 e (1 + k) ≡ 0
  unfolding emptied_of
  zero_at k l =
      let a = length-replicate {A = ℕ} 589 0 in
      let b = length_bytes 1 n in
      let c = length_splice x 0 (replicate 589 0) (omega arith) in
      let m : 0 + (1 + k) ≡ 1 + k = omega arith in
      num_after 1 (splice x 0 (replicate 589 0)) 0 (bytes_of 1 n) (omega arith) (1 + k) (omega arith)
      ∙ ap (num_at 1 (splice x 0 (replicate 589 0))) (sym m)
      ∙ num_in 1 x 0 (replicate 589 0) (omega arith) (1 + k) (omega arith)
      ∙ num_zeros 1 589 (1 + k)

  pub pointer_emptied : pointer_at e ≡ (λ h. 0)
  unfolding pointer_at
  pointer_emptied = fun_ext (λ h. go h (ltb h 156) refl)
    where
      go : (h : ℕ) (t : Bool) → ltb h 156 ≡ t → pick t (get_or e (h + 1) 0) 0 ≡ 0
      go h true k =
          let l = ltb-true h 156 k in
          let m : h + 1 ≡ 1 + h = omega arith in
          num1_is e (h + 1) ∙ ap (num_at 1 e) m ∙ zero_at h (omega arith)
      go h false k = refl

  pub slots_emptied : (j : ℕ) → j < 48 → used_at e j ≡ 0
  unfolding used_at
  slots_emptied j l = let m : 157 + 9 * j ≡ 1 + (156 + 9 * j) = omega arith in ap (num_at 1 e) m ∙ zero_at (156 + 9 * j) (omega arith)

  pub emptied_sound : 12 ≤ n → n ≤ 64 → sound_index e ≡ true
  emptied_sound few many =
      let l = length_emptied in
      let p = places_emptied in
      sound_is e
      (record {
        long = omega arith;
        holders = valid_is e
            (record {
              long = omega arith;
              few = rw p few;
              many = rw p many;
              within = λ h. rw pointer_emptied (omega arith);
              apart = λ c d lc ld pos same. absurd (pos (ap (λ (r : ℕ → ℕ). r c) pointer_emptied));
            });
        slots = λ g j v.
            slot_free e (start g) (capacity g) (highest g) j (slots_emptied j (within_slots g j v))
            (no_pointers_is e j (λ w k. ap (λ (r : ℕ → ℕ). r (12 + 3 * j + w)) pointer_emptied));
      })
