-- Who shares a place after each change of an index's memory. Assumes nothing.
use mathlib.Core.Path.{◌≡◌, refl, sym, ap, ◌∙◌}
use mathlib.Core.Bool.{Bool, true, false}
use mathlib.Core.List.{List, [], ◌∷◌, map}
use Prim.Native.Nat.{ℕ, ◌+◌, ◌*◌, ◌≤◌, ◌<◌}
use native.Mathlib.Omega.{arith}
use lib.Dec.{eqb}
use lib.ListN.{length}
use borrow.Author.Tests.{eq-eqb, eqb-true}
use Rattle.std.specs.Prelude.{Option, Some, None}
use Rattle.wire.specs.Tests.{pick, either}
use Rattle.places.specs.declared.Family.{Family}
use Rattle.places.specs.Sharing.{Sharing, drop, drop_all, join, cells_only}
use Rattle.places.specs.Memory.{decode}
use Rattle.places.specs.Changes.{share_of, release_of, release_all_of, release_records_of}
use Rattle.places.specs.Keyed.{keyed}
use Rattle.places.specs.Holder.{Holder, cell, icon, same_holder, number_of, icons_of, is_cell_holder, no_slot}
use Rattle.places.proofs.Bytes.{Holders}
use Rattle.places.proofs.Meaning.{holder}
use Rattle.places.proofs.Named.{cell_number_lem, icon_number_lem, none_icon_means, cached_means, family_same}
use Rattle.places.proofs.Listing.{unlisted_means, deleted_means, none_means}
use Rattle.slots.specs.Families.{same_record}
use Rattle.slots.specs.Slots.{is_used, is_at, slot_of}
use Rattle.slots.proofs.Soundness.{Within, within_slots, found_within, Sound, free_pointers, slots_of}
use Rattle.index.specs.Changes.{freed_of, icons_at, removed_of, cleared_of}
use Rattle.index.proofs.Memory.{Still, still_decode, Listed, Freed, freed_is, freed_still, Slotted, share_slotted, releases_slotted, Cleared, cleared_is, same_trans}
use Rattle.index.proofs.Listed.{slotted_find, find_listed, find_freed, none_find}

abbrev pub sharing_at : List ℕ → Sharing Holder
sharing_at x = keyed (number_of (slot_of x)) (decode x)

pub own_record : (f : Family) (a b : ℕ) → same_record f a b f a b ≡ true
own_record f a b = rw (family_same f, eq-eqb a a refl, eq-eqb b b refl)

-- ---- a record listed in a slot without one

module _ (f : Family) (x y : List ℕ) (i a b : ℕ) (s : Sound x) (w : Within f i) (h : Listed x y i a b) (free : is_used x i ≡ false) (none : slot_of x f a b ≡ None) where
  pub listed_at : slot_of y f a b ≡ Some i
  listed_at = find_listed f x y i a b w h free none f a b ∙ rw (own_record f a b)

  pub listed_sharing : sharing_at y ≡ sharing_at x
  listed_sharing =
      ap (keyed (number_of (slot_of y))) (still_decode x y h.still)
      ∙ unlisted_means (slot_of y) (slot_of x) x f a b i listed_at none (λ g p q e. sym (find_listed f x y i a b w h free none g p q ∙ rw e))
      (free_pointers x s f i w free)

-- ---- a record deleted

-- the icons of a slot are holders
pub icons_holders : (i : ℕ) → i < 48 → Holders (icons_at i)
icons_holders i l h e = go (eqb h (12 + 3 * i + 0)) (eqb h (12 + 3 * i + 1)) (eqb h (12 + 3 * i + 2)) refl refl refl e
  where
    go : (t u v : Bool) → eqb h (12 + 3 * i + 0) ≡ t → eqb h (12 + 3 * i + 1) ≡ u → eqb h (12 + 3 * i + 2) ≡ v → either t (either u (either v false)) ≡ true → h < 156
    go true u v x y z e = let q = eqb-true h (12 + 3 * i + 0) x in omega arith
    go false true v x y z e = let q = eqb-true h (12 + 3 * i + 1) y in omega arith
    go false false true x y z e = let q = eqb-true h (12 + 3 * i + 2) z in omega arith
    go false false false x y z e = let r : ◌≡◌ {A = ℕ} 0 1 = cc in absurd (omega arith)

pub removed_freed : (x : List ℕ) (i : ℕ) → 589 ≤ length x → i < 48 → Freed x (removed_of x i) i
unfolding removed_of
removed_freed x i long below =
    let z = release_all_of x (icons_at i) in
    let k : Slotted x z = releases_slotted (icons_at i) x (icons_holders i below) long in
    let h : Freed z (freed_of z i) i = freed_is z i (omega (arith, k.long)) below in
    record {
      kept = record { long = h.kept.long ∙ k.long; others = λ j ne. same_trans x z (freed_of z i) j (k.slots j) (h.kept.others j ne) };
      used = h.used;
    }

pub removed_still : (x : List ℕ) (i : ℕ) → 589 ≤ length x → i < 48 → Still (release_all_of x (icons_at i)) (removed_of x i)
unfolding removed_of
removed_still x i long below =
    let k = releases_slotted (icons_at i) x (icons_holders i below) long in
    freed_still (release_all_of x (icons_at i)) i (omega (arith, k.long)) below

module _ (f : Family) (x : List ℕ) (i a b : ℕ) (s : Sound x) (at_i : slot_of x f a b ≡ Some i) (there : is_at x a b i ≡ true) where
  abbrev gone : List ℕ
  gone = removed_of x i

  below : i < 48
  below = within_slots f i (found_within f x a b i at_i)

  finds : (g : Family) (p q : ℕ) → slot_of gone g p q ≡ pick (same_record f a b g p q) None (slot_of x g p q)
  finds = find_freed f x gone i a b (found_within f x a b i at_i) (removed_freed x i s.long below) s there

  three : map (number_of (slot_of x)) (icons_of f a b) ≡ icons_at i
  three =
      let n0 = icon_number_lem (slot_of x) (slots_of x) f a b 0 i at_i (omega arith) in
      let n1 = icon_number_lem (slot_of x) (slots_of x) f a b 1 i at_i (omega arith) in
      let n2 = icon_number_lem (slot_of x) (slots_of x) f a b 2 i at_i (omega arith) in
      rw (n0, n1, n2)

  pub removed_sharing : sharing_at gone ≡ drop_all same_holder (icons_of f a b) (sharing_at x)
  removed_sharing =
      ap (keyed (number_of (slot_of gone))) (still_decode (release_all_of x (icons_at i)) gone (removed_still x i s.long below))
      ∙ ap (λ (hs : List ℕ). keyed (number_of (slot_of gone)) (decode (release_all_of x hs))) (sym three)
      ∙ deleted_means (slot_of x) (slot_of gone) (slots_of x) x s.holders f a b i at_i (finds f a b ∙ rw (own_record f a b))
      (λ g p q e. finds g p q ∙ rw e)

-- ---- a cached icon of a listed record

-- pointers alone changed
pub same_slots : (x y : List ℕ) → Slotted x y → slot_of y ≡ slot_of x
same_slots x y h = λ i g p q. slotted_find x y h g p q i

module _ (z : List ℕ) (s : Sound z) (f : Family) (a b w i c : ℕ) (at_i : slot_of z f a b ≡ Some i) (lw : w < 3) (lc : c < 12) where
  abbrev num : Holder → ℕ
  num = number_of (slot_of z)

  low : i < 48
  low = within_slots f i (found_within f z a b i at_i)

  cell_is : num (cell c) ≡ c
  cell_is = cell_number_lem (slot_of z) (slots_of z) c lc

  icon_is : num (icon f a b w) ≡ 12 + 3 * i + w
  icon_is = icon_number_lem (slot_of z) (slots_of z) f a b w i at_i lw

  pub cached_sharing : sharing_at (share_of z (12 + 3 * i + w) c) ≡ join same_holder (icon f a b w) (cell c) (drop same_holder (icon f a b w) (sharing_at z))
  cached_sharing =
      let l = low in
      let y = share_of z (12 + 3 * i + w) c in
      ap (λ (slot : Family → ℕ → ℕ → Option ℕ). keyed (number_of slot) (decode y)) (same_slots z y (share_slotted z (12 + 3 * i + w) c (omega arith) s.long))
      ∙ ap (λ (m : ℕ). keyed num (decode (share_of z m c))) (sym icon_is)
      ∙ ap (λ (m : ℕ). keyed num (decode (share_of z (num (icon f a b w)) m))) (sym cell_is)
      ∙ cached_means (slot_of z) (slots_of z) z s.holders f a b w i at_i lw c lc

-- ---- an overlay icon of a listed record set to none

module _ (z : List ℕ) (s : Sound z) (f : Family) (a b w i : ℕ) (at_i : slot_of z f a b ≡ Some i) (lw : w < 3) where
  pub none_slotted : Slotted z (release_of z (12 + 3 * i + w))
  none_slotted =
      let l = within_slots f i (found_within f z a b i at_i) in
      releases_slotted ((12 + 3 * i + w) ∷ []) z (holder (12 + 3 * i + w) (omega arith)) s.long

  pub none_sharing : sharing_at (release_of z (12 + 3 * i + w)) ≡ drop same_holder (icon f a b w) (sharing_at z)
  none_sharing =
      let y = release_of z (12 + 3 * i + w) in
      ap (λ (slot : Family → ℕ → ℕ → Option ℕ). keyed (number_of slot) (decode y)) (same_slots z y none_slotted)
      ∙ ap (λ (m : ℕ). keyed (number_of (slot_of z)) (decode (release_of z m))) (sym (icon_number_lem (slot_of z) (slots_of z) f a b w i at_i lw))
      ∙ none_icon_means (slot_of z) (slots_of z) z s.holders f a b w i at_i lw

-- ---- desktop none

pub cleared_sharing : (x : List ℕ) → Sound x → sharing_at (cleared_of x) ≡ cells_only is_cell_holder cell (sharing_at x)
cleared_sharing x s =
    let y = cleared_of x in
    let h : Cleared x y = cleared_is x s.long in
    let none : slot_of y ≡ no_slot = λ i g p q. none_find y h.slots g p q i in
    ap (keyed (number_of (slot_of y))) (still_decode (release_records_of x) y h.still)
    ∙ ap (λ (slot : Family → ℕ → ℕ → Option ℕ). keyed (number_of slot) (decode (release_records_of x))) none
    ∙ none_means (slot_of x) (slots_of x) x s.holders
