-- The index that a memory describes after an order's plan is carried out. Assumes nothing.
use mathlib.Core.Path.{◌≡◌, refl, sym, ap, ◌∙◌}
use mathlib.Core.Bool.{Bool, true, false, not}
use mathlib.Core.List.{List, [], ◌∷◌}
use Prim.Native.Nat.{ℕ, ◌+◌, ◌-◌, ◌≤◌, ◌<◌}
use native.Mathlib.Omega.{arith}
use lib.Dec.{eqb}
use lib.ListN.{length}
use borrow.Author.Tests.{ne_eqb}
use Rattle.std.specs.Prelude.{Ok, Err, Option, Some, None}
use Rattle.wire.specs.Tests.{pick, has}
use Rattle.wire.specs.Numbers.{Bytes}
use Rattle.protocol.specs.Flags.{desktop_none}
use Rattle.protocol.specs.Refusals.{number_of}
use Rattle.order.specs.declared.Order.TheVariants.{Window, Notification, Desktop}
use Rattle.order.specs.Judge.{Judged, judge_of}
use Rattle.places.specs.declared.Family.{Family}
use Rattle.places.specs.Sharing.{cells_only}
use Rattle.places.specs.Counts.{on_found}
use Rattle.places.specs.Memory.{places_of, count_at, is_free, used_of, sharing_of, decode}
use Rattle.places.specs.Changes.{free_place, point_all, share_of, release_of}
use Rattle.places.specs.Keyed.{keyed}
use Rattle.places.specs.Holder.{cell, is_cell_holder}
use Rattle.places.proofs.Counting.{found, count_none}
use Rattle.places.proofs.Steps.{equal_sharing}
use Rattle.slots.specs.Families.{start, capacity, same_record}
use Rattle.slots.specs.Slots.{is_at, slot_of}
use Rattle.slots.specs.Sound.{sound_index}
use Rattle.slots.proofs.Soundness.{within_slots, found_within, Sound, sound_has, sound_is}
use Rattle.index.specs.declared.RecordOrder.{RecordOrder}
use Rattle.index.specs.declared.Plan.{Plan}
use Rattle.index.specs.declared.Plan.TheVariants.{ChangeRecord, ChangeDesktop, Refuse}
use Rattle.index.specs.Orders.{on_judged, is_delete, brings_icon, brings_cached, clears_overlay, cell_at, which_of}
use Rattle.index.specs.Index.{Index, record_number, number_in, pictured, without, with_record, change_record, change_desktop, empty_index, index_after}
use Rattle.index.specs.Memory.{index_of}
use Rattle.index.specs.Plans.{pointer_for, cell_for, change_of, plan_record, plan_of, plan_number}
use Rattle.index.specs.Changes.{removed_of, pictured_of, changed_of, cleared_of, emptied_of, applied_of, FitsPlan}
use Rattle.index.proofs.Memory.{Slotted, slotted_self, points_slotted, share_slotted, cleared_is}
use Rattle.index.proofs.Listed.{slotted_find, slotted_many, find_freed, many_freed, none_find, none_many}
use Rattle.index.proofs.Ordered.{Ordered, deleted_old, window_order, notification_order, ordered_window, ordered_notification}
use Rattle.index.proofs.Shared.{sharing_at, removed_freed, removed_sharing, cached_sharing, none_slotted, none_sharing, cleared_sharing}
use Rattle.index.proofs.Held.{which_small, beside_cell, beside_small, held}
use Rattle.index.proofs.Kept.{removed_sound, taken_sound, shared_sound, none_sound, cleared_sound, places_emptied, pointer_emptied, slots_emptied}
use Rattle.index.proofs.Numbered.{readied, Ready, ready, Planned, Outcome, refused, changes, outcome}

-- two indexes that say the same are one
pub same_index : (d e : Index) → ((f : Family) (a b : ℕ) → d.listed f a b ≡ e.listed f a b) → ((f : Family) → d.many f ≡ e.many f) → d.sharing ≡ e.sharing → d ≡ e
same_index d e l m k = λ i. record { listed = λ f a b. l f a b i; many = λ f. m f i; sharing = k i }

-- ---- the picture of a listed record

record Pictured (z y s : List ℕ) (o : RecordOrder) : Type 0 where
  pub slotted : Slotted z y
  pub sound : Sound y
  pub sharing : sharing_at y ≡ pictured s o (sharing_at z)

module _ (x s : List ℕ) (o : RecordOrder) (i place : ℕ) (h : Ordered s o) (r : Ready x (readied x o i) o i) (p : Planned x s o i place) where
  abbrev z : List ℕ
  z = readied x o i

  abbrev ns : List ℕ
  ns = cell_for s o i ∷ pointer_for i o.flags ∷ []

  below : i < 48
  below = within_slots o.family i (found_within o.family z o.window.id o.notify.id i r.at_i)

  there : is_at z o.window.id o.notify.id i ≡ true
  there = (found (capacity o.family) (start o.family) (is_at z o.window.id o.notify.id) i r.at_i).2

  which : which_of o.flags < 3
  which = which_small o.flags

  pictured_is : Pictured z (pictured_of z (change_of s o i place)) s o
  unfolding pictured_of pictured
  pictured_is = go (brings_icon o.flags) (brings_cached o.flags) (clears_overlay o.flags) refl refl refl
    where
      shared : brings_icon o.flags ≡ false → brings_cached o.flags ≡ true → Pictured z (share_of z (pointer_for i o.flags) (cell_at s o.icon)) s o
      shared m n =
          let l = p.cached m n in
          let k = which in
          let j = below in
          record {
            slotted = share_slotted z (pointer_for i o.flags) (cell_at s o.icon) (omega arith) r.sound.long;
            sound = shared_sound z o.family o.window.id o.notify.id (which_of o.flags) i (cell_at s o.icon) r.sound there below which l;
            sharing =
                cached_sharing z r.sound o.family o.window.id o.notify.id (which_of o.flags) i (cell_at s o.icon) r.at_i which l
                ∙ rw (m, n);
          }

      go : (t u v : Bool) → brings_icon o.flags ≡ t → brings_cached o.flags ≡ u → clears_overlay o.flags ≡ v
          → Pictured z
          (pick t (point_all z ns (place + 1)) (pick u (share_of z (pointer_for i o.flags) (cell_for s o i)) (pick v (release_of z (pointer_for i o.flags)) z))) s o
      go true u v m n q =
          let free : free_place z ns ≡ Some place = r.free ns ∙ p.icon m in
          let k = held z s o i r.sound h r.at_i m in
          record {
            slotted = points_slotted ns z (place + 1) k.all r.sound.long;
            sound = taken_sound z o.family o.window.id o.notify.id i r.sound there k place free;
            sharing = k.shares place free ∙ rw m;
          }
      go false true v m n q = rw (beside_cell (cell_at s o.icon) (pointer_for i o.flags) (p.cached m n)) (shared m n)
      go false false true m n q =
          let w = which_of o.flags in
          record {
            slotted = none_slotted z r.sound o.family o.window.id o.notify.id w i r.at_i which;
            sound = none_sound z o.family o.window.id o.notify.id w i r.sound r.at_i there below which;
            sharing = none_sharing z r.sound o.family o.window.id o.notify.id w i r.at_i which ∙ rw (m, n, q);
          }
      go false false false m n q = record { slotted = slotted_self z; sound = r.sound; sharing = rw (m, n, q) }

-- ---- a record's order

-- x has become y, which describes d
pub record Done (x y : List ℕ) (d : Index) : Type 0 where
  pub index : index_of y ≡ d
  pub sound : Sound y
  pub long : length y ≡ length x

module _ (x s : List ℕ) (o : RecordOrder) (sound : Sound x) (h : Ordered s o) where
  kept_done : (i place : ℕ) → Planned x s o i place → Done x (pictured_of (readied x o i) (change_of s o i place)) (with_record (index_of x) s o)
  unfolding index_of
  kept_done i place p =
      let r = ready x s o i sound h p.placed in
      let z = readied x o i in
      let y = pictured_of z (change_of s o i place) in
      let q = pictured_is x s o i place h r p in
      record {
        index =
            same_index (index_of y) (with_record (index_of x) s o)
            (λ g a b. ap (λ (w : Option ℕ). on_found w false (λ j. true)) (slotted_find z y q.slotted g a b) ∙ r.listed g a b)
            (λ g. slotted_many z y q.slotted g ∙ r.many g)
            (q.sharing ∙ ap (pictured s o) r.sharing);
        sound = q.sound;
        long = q.slotted.long ∙ r.long;
      }

  gone_done : (i place : ℕ) → Planned x s o i place → is_delete o.flags ≡ true → Done x (removed_of x i) (without (index_of x) o)
  unfolding index_of
  gone_done i place p t =
      let f = o.family in
      let a = o.window.id in
      let b = o.notify.id in
      let e : slot_of x f a b ≡ Some i = p.placed.old (deleted_old f o.flags h.agrees t) in
      let w = found_within f x a b i e in
      let here = (found (capacity f) (start f) (is_at x a b) i e).2 in
      let k = removed_freed x i sound.long (within_slots f i w) in
      record {
        index =
            same_index (index_of (removed_of x i)) (without (index_of x) o)
            (λ g m n. ap (λ (w : Option ℕ). on_found w false (λ j. true)) (find_freed f x (removed_of x i) i a b w k sound here g m n) ∙ gone (same_record f a b g m n) (slot_of x g m n))
            (many_freed f x (removed_of x i) i a b w k sound here)
            (removed_sharing f x i a b sound e here);
        sound = removed_sound f x i a b sound e here;
        long = k.kept.long;
      }
    where
      gone : (t : Bool) (w : Option ℕ) → on_found (pick t None w) false (λ j. true) ≡ pick t false (on_found w false (λ j. true))
      gone true w = refl
      gone false w = refl

  changed_done : (i place : ℕ) → Planned x s o i place → Done x (changed_of x (change_of s o i place)) (change_record (index_of x) s o)
  unfolding changed_of change_record
  changed_done i place p = go (is_delete o.flags) refl
    where
      go : (t : Bool) → is_delete o.flags ≡ t
          → Done x (pick t (removed_of x i) (pictured_of (readied x o i) (change_of s o i place))) (pick t (without (index_of x) o) (with_record (index_of x) s o))
      go true t = gone_done i place p t
      go false t = kept_done i place p

  pub record_fits : FitsPlan (plan_record x s o)
  record_fits = go (plan_record x s o) (outcome x s o sound h)
    where
      go : (w : Plan) → Outcome x s o w → FitsPlan w
      go (Refuse m) (refused n ne e) = tt
      go (ChangeRecord c) (changes i place e p) =
          let l = within_slots o.family i p.placed.within in
          let k = which_small o.flags in
          record {
            slot = l;
            icon = λ t. beside_small (cell_at s o.icon) (pointer_for i o.flags) (omega arith);
            cached = λ t. beside_small (cell_at s o.icon) (pointer_for i o.flags) (omega arith);
            pointer = omega arith;
            place = p.small;
          }
      go (ChangeDesktop _) x3 = elim x3 [ ]

  pub record_number_lem : plan_number (plan_record x s o) ≡ record_number (index_of x) s o
  record_number_lem = go (plan_record x s o) (outcome x s o sound h)
    where
      go : (w : Plan) → Outcome x s o w → plan_number w ≡ record_number (index_of x) s o
      go (Refuse m) (refused n ne e) = sym e
      go (ChangeRecord c) (changes i place e p) = sym e
      go (ChangeDesktop _) x3 = elim x3 [ ]

  pub record_done : Done x (applied_of x (plan_record x s o)) (pick (eqb (record_number (index_of x) s o) 0) (change_record (index_of x) s o) (index_of x))
  unfolding applied_of
  record_done = go (plan_record x s o) (outcome x s o sound h)
    where
      go : (w : Plan) → Outcome x s o w → Done x (applied_of x w) (pick (eqb (record_number (index_of x) s o) 0) (change_record (index_of x) s o) (index_of x))
      go (Refuse m) (refused n ne e) = rw (e, ne_eqb n 0 ne) (record { index = refl; sound = sound; long = refl })
      go (ChangeRecord c) (changes i place e p) = rw e (changed_done i place p)
      go (ChangeDesktop _) x3 = elim x3 [ ]

-- ---- the desktop

module _ (x : List ℕ) (sound : Sound x) where
  cleared_index : index_of (cleared_of x) ≡ record { listed = λ f a b. false; many = λ f. 0; sharing = cells_only is_cell_holder cell (index_of x).sharing }
  unfolding index_of
  cleared_index =
      let h = cleared_is x sound.long in
      same_index (index_of (cleared_of x))
      (record { listed = λ f a b. false; many = λ f. 0; sharing = cells_only is_cell_holder cell (index_of x).sharing })
      (λ f a b. ap (λ (w : Option ℕ). on_found w false (λ j. true)) (none_find (cleared_of x) h.slots f a b))
      (none_many (cleared_of x) h.slots)
      (cleared_sharing x sound)

  desktop_done : (flags : ℕ) → (index_of (pick (has flags desktop_none) (cleared_of x) x) ≡ change_desktop (index_of x) flags)
      × Sound (pick (has flags desktop_none) (cleared_of x) x) × (length (pick (has flags desktop_none) (cleared_of x) x) ≡ length x)
  unfolding change_desktop
  desktop_done flags = go (has flags desktop_none)
    where
      go : (t : Bool) → (index_of (pick t (cleared_of x) x)
          ≡ pick t (record { listed = λ f a b. false; many = λ f. 0; sharing = cells_only is_cell_holder cell (index_of x).sharing }) (index_of x))
          × Sound (pick t (cleared_of x) x) × (length (pick t (cleared_of x) x) ≡ length x)
      go true = (cleared_index, cleared_sound x sound, (cleared_is x sound.long).long)
      go false = (refl, sound, refl)

-- ---- the whole plan

module _ (x s : List ℕ) (ok : sound_index x ≡ true) (bytes : Bytes s) where
  sound : Sound x
  sound = sound_has x ok

  -- the number of the plan is that of the index described
  pub plan_number_lem : plan_number (plan_of x s) ≡ number_in (index_of x) s
  unfolding plan_of number_in
  plan_number_lem = go (judge_of s) refl
    where
      go : (j : Judged) → judge_of s ≡ j → plan_number (on_judged j (plan_record x s) ChangeDesktop Refuse) ≡ on_judged j (record_number (index_of x) s) (λ flags. 0) (λ n. n)
      go (Ok (Window o)) e = record_number_lem x s (window_order o) sound (ordered_window s bytes o e)
      go (Ok (Notification o)) e = record_number_lem x s (notification_order o) sound (ordered_notification s bytes o e)
      go (Ok (Desktop o)) e = refl
      go (Err r) e = refl

  -- the memory then describes the index after the order
  pub plan_after : index_of (applied_of x (plan_of x s)) ≡ index_after (index_of x) s
  unfolding plan_of number_in index_after applied_of
  plan_after = go (judge_of s) refl
    where
      refuse : (t : Bool) → index_of x ≡ pick t (index_of x) (index_of x)
      refuse true = refl
      refuse false = refl

      go : (j : Judged) → judge_of s ≡ j
          → index_of (applied_of x (on_judged j (plan_record x s) ChangeDesktop Refuse))
          ≡ pick (eqb (on_judged j (record_number (index_of x) s) (λ flags. 0) (λ n. n)) 0)
          (on_judged j (change_record (index_of x) s) (change_desktop (index_of x)) (λ n. index_of x)) (index_of x)
      go (Ok (Window o)) e = (record_done x s (window_order o) sound (ordered_window s bytes o e)).index
      go (Ok (Notification o)) e = (record_done x s (notification_order o) sound (ordered_notification s bytes o e)).index
      go (Ok (Desktop o)) e = (desktop_done x sound o.flags).0
      go (Err f) e = refuse (eqb (number_of f.refusal) 0)

  -- and meets the rule again
  pub plan_sound : sound_index (applied_of x (plan_of x s)) ≡ true
  unfolding plan_of applied_of
  plan_sound = sound_is (applied_of x (plan_of x s)) (go (judge_of s) refl)
    where
      go : (j : Judged) → judge_of s ≡ j → Sound (applied_of x (on_judged j (plan_record x s) ChangeDesktop Refuse))
      go (Ok (Window o)) e = (record_done x s (window_order o) sound (ordered_window s bytes o e)).sound
      go (Ok (Notification o)) e = (record_done x s (notification_order o) sound (ordered_notification s bytes o e)).sound
      go (Ok (Desktop o)) e = (desktop_done x sound o.flags).1
      go (Err r) e = sound

  pub length_plan : length (applied_of x (plan_of x s)) ≡ length x
  unfolding plan_of applied_of
  length_plan = go (judge_of s) refl
    where
      go : (j : Judged) → judge_of s ≡ j → length (applied_of x (on_judged j (plan_record x s) ChangeDesktop Refuse)) ≡ length x
      go (Ok (Window o)) e = (record_done x s (window_order o) sound (ordered_window s bytes o e)).long
      go (Ok (Notification o)) e = (record_done x s (notification_order o) sound (ordered_notification s bytes o e)).long
      go (Ok (Desktop o)) e = (desktop_done x sound o.flags).2
      go (Err r) e = refl

  -- what `apply` asks
  pub plan_fits : FitsPlan (plan_of x s)
  unfolding plan_of
  plan_fits = go (judge_of s) refl
    where
      go : (j : Judged) → judge_of s ≡ j → FitsPlan (on_judged j (plan_record x s) ChangeDesktop Refuse)
      go (Ok (Window o)) e = record_fits x s (window_order o) sound (ordered_window s bytes o e)
      go (Ok (Notification o)) e = record_fits x s (notification_order o) sound (ordered_notification s bytes o e)
      go (Ok (Desktop o)) e = tt
      go (Err r) e = tt

pub judged_fits : (x s : List ℕ) → sound_index x ≡ true → Bytes s → {p : Plan} → p ≡ plan_of x s → FitsPlan p
judged_fits x s ok bytes e = rw e (plan_fits x s ok bytes)

-- ---- an emptied memory

module _ (x : List ℕ) (n : ℕ) (long : 589 ≤ length x) (small : n < 256) where
  nothing_used : (m k : ℕ) → used_of m (λ h. 0) k ≡ 0
  unfolding used_of is_free count_at
  nothing_used m k = count_none k (λ p. not (is_free m (λ h. 0) p)) (λ p l. rw (count_none m (λ h. eqb 0 (p + 1)) (λ h u. ne_eqb 0 (p + 1) (λ e. omega arith))))

  pub emptied_index : index_of (emptied_of x n) ≡ empty_index n
  unfolding index_of empty_index keyed decode sharing_of
  emptied_index =
      let e = emptied_of x n in
      same_index (index_of e) (empty_index n)
      (λ f a b. ap (λ (w : Option ℕ). on_found w false (λ j. true)) (none_find e (slots_emptied x n long small) f a b))
      (none_many e (slots_emptied x n long small))
      (equal_sharing (sharing_at e) (empty_index n).sharing (λ g k. rw (pointer_emptied x n long small)) (λ g. rw (pointer_emptied x n long small))
      (rw (pointer_emptied x n long small) (nothing_used 156 (places_of e))) (places_emptied x n long small))
