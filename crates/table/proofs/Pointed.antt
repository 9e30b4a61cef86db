-- Where the records stand and where holders point after a plan. Assumes nothing.
use mathlib.Core.Path.{◌≡◌, refl, sym, ap, subst, ◌∙◌}
use mathlib.Core.Bool.{Bool, true, false}
use mathlib.Core.List.{List, [], ◌∷◌}
use Prim.Native.Nat.{ℕ, ◌+◌, ◌≤◌, ◌<◌}
use native.Mathlib.Omega.{arith}
use lib.Dec.{eqb, ltb}
use lib.ListN.{length}
use borrow.Author.Tests.{eqb-true, eq-eqb}
use Rattle.std.specs.Prelude.{Some, None}
use Rattle.wire.specs.Tests.{pick, both}
use Rattle.wire.proofs.Tests.{both_left, both_right, never}
use Rattle.places.specs.declared.Family.{Family}
use Rattle.places.specs.Sharing.{is_one}
use Rattle.places.specs.Memory.{pointer_at}
use Rattle.places.specs.Holder.{same_family}
use Rattle.places.specs.Changes.{point_all, share_of, release_of}
use Rattle.places.proofs.Counting.{found}
use Rattle.places.proofs.Meaning.{holder, holders}
use Rattle.places.proofs.Bytes.{Holders, pointer_point, point_all_is, pointer_records}
use Rattle.slots.specs.Families.{start, capacity, same_record}
use Rattle.slots.specs.Slots.{is_used, is_at, slot_of}
use Rattle.slots.proofs.Soundness.{Within, within_slots, apart, at_has, at_free, used_is, free_is, Sound}
use Rattle.index.specs.declared.RecordOrder.{RecordOrder}
use Rattle.index.specs.declared.Change.{Change}
use Rattle.index.specs.Orders.{is_new, is_delete, brings_icon, brings_cached, clears_overlay}
use Rattle.index.specs.Plans.{change_of}
use Rattle.index.specs.Changes.{listed_of, icons_at, removed_of, pictured_of, changed_of, cleared_of, Fits}
use Rattle.index.proofs.Memory.{same_used, Listed, listed_is, Slotted, slotted_self, points_slotted, share_slotted, releases_slotted, cleared_is}
use Rattle.index.proofs.Listed.{slotted_find, find_listed, find_freed}
use Rattle.index.proofs.Ordered.{Ordered, deleted_old}
use Rattle.index.proofs.Shared.{icons_holders, removed_freed, removed_still}
use Rattle.index.proofs.Numbered.{readied, Planned, second_small}
use Rattle.table.specs.Changes.{puts_picture}
use Rattle.places.proofs.Named.{same_family_lem}

-- ---- the picture of a change moves pointers alone

pub pictured_slotted : (z : List ℕ) (c : Change) → Fits c → 589 ≤ length z → Slotted z (pictured_of z c)
unfolding pictured_of
pictured_slotted z c fits long = go (brings_icon c.flags) (brings_cached c.flags) (clears_overlay c.flags) refl
  where
    go : (t u n : Bool) → brings_icon c.flags ≡ t
        → Slotted z (pick t (point_all z (c.cell ∷ c.pointer ∷ []) (c.place + 1)) (pick u (share_of z c.pointer c.cell) (pick n (release_of z c.pointer) z)))
    go true u n e = points_slotted (c.cell ∷ c.pointer ∷ []) z (c.place + 1) (holders c.cell c.pointer (fits.icon e) fits.pointer) long
    go false true n e = share_slotted z c.pointer c.cell fits.pointer long
    go false false true e = releases_slotted (c.pointer ∷ []) z (holder c.pointer fits.pointer) long
    go false false false e = slotted_self z

-- ---- where a holder points: at nothing, where some holder pointed, or at the place that an icon takes

pub picked : (P : ℕ → Type 0) (t : Bool) (v w : ℕ) → P v → P w → P (pick t v w)
picked P true v w p q = p
picked P false v w p q = q

module _ (P : ℕ → Type 0) where
  points : (x hs : List ℕ) (v : ℕ) → Holders hs → 157 ≤ length x → P v → ((h : ℕ) → P (pointer_at x h)) → (h : ℕ) → P (pointer_at (point_all x hs v) h)
  points x hs v all long p q h =
      subst P (sym (ap (λ (r : ℕ → ℕ). r h) (point_all_is hs x v all long))) (picked P (is_one eqb hs h) v (pointer_at x h) p (q h))

  module _ (x : List ℕ) (long : 589 ≤ length x) (none : P 0) (were : (h : ℕ) → P (pointer_at x h)) where
    pub cleared_pointers : (h : ℕ) → P (pointer_at (cleared_of x) h)
    cleared_pointers h =
        let e = ap (λ (r : ℕ → ℕ). r h) (cleared_is x long).still.pointers ∙ ap (λ (r : ℕ → ℕ). r h) (pointer_records x (omega arith)) in
        subst P (sym e) (picked P (ltb h 12) (pointer_at x h) 0 (were h) none)

    pub removed_pointers : (i : ℕ) → i < 48 → (h : ℕ) → P (pointer_at (removed_of x i) h)
    unfolding release_of
    removed_pointers i below h =
        subst P (sym (ap (λ (r : ℕ → ℕ). r h) (removed_still x i long below).pointers)) (points x (icons_at i) 0 (icons_holders i below) (omega arith) none were h)

    pub pictured_pointers : (c : Change) → Fits c → (brings_icon c.flags ≡ true → P (c.place + 1)) → (h : ℕ) → P (pointer_at (pictured_of x c) h)
    unfolding pictured_of share_of release_of
    pictured_pointers c fits new h = go (brings_icon c.flags) (brings_cached c.flags) (clears_overlay c.flags) refl
      where
        go : (t u n : Bool) → brings_icon c.flags ≡ t
            → P (pointer_at (pick t (point_all x (c.cell ∷ c.pointer ∷ []) (c.place + 1)) (pick u (share_of x c.pointer c.cell) (pick n (release_of x c.pointer) x))) h)
        go true u n e = points x (c.cell ∷ c.pointer ∷ []) (c.place + 1) (holders c.cell c.pointer (fits.icon e) fits.pointer) (omega arith) (new e) were h
        go false true n e =
            subst P (sym (ap (λ (r : ℕ → ℕ). r h) (pointer_point x c.pointer (pointer_at x c.cell) fits.pointer (omega arith))))
            (picked P (eqb h c.pointer) (pointer_at x c.cell) (pointer_at x h) (were c.cell) (were h))
        go false false true e =
            subst P (sym (ap (λ (r : ℕ → ℕ). r h) (pointer_point x c.pointer 0 fits.pointer (omega arith))))
            (picked P (eqb h c.pointer) 0 (pointer_at x h) none (were h))
        go false false false e = were h

-- ---- a record's change

pub same_ids : (f g : Family) (a b x y : ℕ) → same_record f a b g x y ≡ true → (f ≡ g) × (a ≡ x) × (b ≡ y)
same_ids f g a b x y e =
    let u = both_left (same_family g f) (both (eqb x a) (eqb y b)) e in
    let v = both_right (same_family g f) (both (eqb x a) (eqb y b)) e in
    (sym (same_family_lem g f u), sym (eqb-true x a (both_left (eqb x a) (eqb y b) v)), sym (eqb-true y b (both_right (eqb x a) (eqb y b) v)))

module _ (x s : List ℕ) (o : RecordOrder) (i place : ℕ) (sound : Sound x) (h : Ordered s o) (p : Planned x s o i place) (fits : Fits (change_of s o i place)) where
  abbrev f : Family
  f = o.family

  abbrev a : ℕ
  a = o.window.id

  abbrev b : ℕ
  b = o.notify.id

  abbrev c : Change
  c = change_of s o i place

  abbrev z : List ℕ
  z = readied x o i

  abbrev y : List ℕ
  y = changed_of x c

  below : i < 48
  below = within_slots f i p.placed.within

  new_listed : Listed x (listed_of x i a b) i a b
  new_listed = listed_is x i a b sound.long below h.first (second_small f b h.second)

  -- the memory in which the record is listed
  record Readied (z : List ℕ) : Type 0 where
    pub long : length z ≡ length x
    pub pointers : pointer_at z ≡ pointer_at x
    pub finds : (g : Family) (m n : ℕ) → slot_of z g m n ≡ pick (same_record f a b g m n) (Some i) (slot_of x g m n)
    pub used : (j : ℕ) → (j ≡ i → ⊥) → is_used z j ≡ is_used x j

  old_find : is_new f o.flags ≡ false → (g : Family) (m n : ℕ) → slot_of x g m n ≡ pick (same_record f a b g m n) (Some i) (slot_of x g m n)
  old_find t g m n = go (same_record f a b g m n) refl
    where
      go : (u : Bool) → same_record f a b g m n ≡ u → slot_of x g m n ≡ pick u (Some i) (slot_of x g m n)
      go true e =
          let k = same_ids f g a b m n e in
          rw (k.0, k.1, k.2) at (p.placed.old t)
      go false e = refl

  readied_is : Readied z
  readied_is = go (is_new f o.flags) refl
    where
      go : (t : Bool) → is_new f o.flags ≡ t → Readied (pick t (listed_of x i a b) x)
      go true t =
          let l = new_listed in
          let n = p.placed.new t in
          record {
            long = l.kept.long;
            pointers = l.still.pointers;
            finds = find_listed f x (listed_of x i a b) i a b p.placed.within l n.1 n.0;
            used = λ j ne. same_used x (listed_of x i a b) j (l.kept.others j ne);
          }
      go false t = record { long = refl; pointers = refl; finds = old_find t; used = λ j ne. refl }

  long : 589 ≤ length z
  long = let e = readied_is.long in let l = sound.long in omega arith

  slotted : Slotted z (pictured_of z c)
  slotted = pictured_slotted z c fits long

  at_i : is_delete o.flags ≡ true → slot_of x f a b ≡ Some i
  at_i t = p.placed.old (deleted_old f o.flags h.agrees t)

  -- where records are found: the order's own in its slot, or nowhere
  pub find_after : (g : Family) (m n : ℕ) → slot_of y g m n ≡ pick (same_record f a b g m n) (pick (is_delete o.flags) None (Some i)) (slot_of x g m n)
  unfolding changed_of
  find_after g m n = go (is_delete o.flags) refl
    where
      go : (t : Bool) → is_delete o.flags ≡ t
          → slot_of (pick t (removed_of x i) (pictured_of z c)) g m n ≡ pick (same_record f a b g m n) (pick t None (Some i)) (slot_of x g m n)
      go true t =
          find_freed f x (removed_of x i) i a b p.placed.within (removed_freed x i sound.long below) sound
          (found (capacity f) (start f) (is_at x a b) i (at_i t)).2 g m n
      go false t = slotted_find z (pictured_of z c) slotted g m n ∙ readied_is.finds g m n

  -- which slots are used
  pub used_after : (j : ℕ) → (j ≡ i → ⊥) → is_used y j ≡ is_used x j
  unfolding changed_of
  used_after j ne = go (is_delete o.flags)
    where
      go : (t : Bool) → is_used (pick t (removed_of x i) (pictured_of z c)) j ≡ is_used x j
      go true = same_used x (removed_of x i) j ((removed_freed x i sound.long below).kept.others j ne)
      go false = same_used z (pictured_of z c) j (slotted.slots j) ∙ readied_is.used j ne

  pub freed_after : is_delete o.flags ≡ true → is_used y i ≡ false
  unfolding changed_of
  freed_after t = rw t (free_is (removed_of x i) i (removed_freed x i sound.long below).used)

  -- the record's slot was used if it is no new one
  pub was_used : is_new f o.flags ≡ false → is_used x i ≡ true
  was_used t =
      let w = found (capacity f) (start f) (is_at x a b) i (p.placed.old t) in
      used_is x i (at_has x a b i w.2).used

  pub pointers_after : (P : ℕ → Type 0) → P 0 → ((g : ℕ) → P (pointer_at x g)) → (puts_picture c ≡ true → P (place + 1)) → (g : ℕ) → P (pointer_at y g)
  unfolding changed_of
  pointers_after P none were new g = go (is_delete o.flags) new
    where
      go : (t : Bool) → (pick t false (brings_icon o.flags) ≡ true → P (place + 1)) → P (pointer_at (pick t (removed_of x i) (pictured_of z c)) g)
      go true n = removed_pointers P x sound.long none were i below g
      go false n = pictured_pointers P z long none (λ k. subst P (sym (ap (λ (r : ℕ → ℕ). r k) readied_is.pointers)) (were k)) c fits n g

  -- another record is found in another slot
  pub other_slot : (g : Family) (m n j : ℕ) → slot_of x g m n ≡ Some j → same_record f a b g m n ≡ false → i ≡ j → ⊥
  other_slot g m n j e ne q = go (is_new f o.flags) refl
    where
      w : (start g ≤ j) × (j < start g + capacity g) × (is_at x m n j ≡ true)
      w = found (capacity g) (start g) (is_at x m n) j e

      there : is_at x m n i ≡ true
      there = rw q w.2

      within : Within g i
      within = rw q (record { low = w.0; high = w.1 })

      family : (t : Bool) → same_family g f ≡ t → is_at x a b i ≡ true → ⊥
      family false k r = apart f g i k p.placed.within within
      family true k r =
          let u = at_has x a b i r in
          let v = at_has x m n i there in
          let d : m ≡ a = sym v.first ∙ u.first in
          let l : n ≡ b = sym v.second ∙ u.second in
          never (sym (rw (k, eq-eqb m a d, eq-eqb n b l) at ne))

      go : (t : Bool) → is_new f o.flags ≡ t → ⊥
      go true t = never (sym (at_free x i (p.placed.new t).1 m n) ∙ there)
      go false t = family (same_family g f) refl (found (capacity f) (start f) (is_at x a b) i (p.placed.old t)).2
