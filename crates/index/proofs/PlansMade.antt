-- The plan of an order, one law for each way through the functions that make it. Assumes nothing.
use mathlib.Core.Path.{◌≡◌, refl, sym, ◌∙◌}
use mathlib.Core.Bool.{Bool, true, false, not}
use mathlib.Core.List.{List, [], ◌∷◌}
use Prim.Native.Nat.{ℕ, ◌<◌}
use native.Mathlib.Omega.{arith}
use lib.Bits.{bit_and}
use borrow.Author.Tests.{eq-eqb, ne_eqb}
use Rattle.std.specs.Prelude.{Ok, Err, Option, Some, None}
use Rattle.wire.specs.Tests.{pick, both}
use Rattle.wire.proofs.Tests.{both_left, both_right}
use Rattle.protocol.specs.Flags.{flag_icon}
use Rattle.order.specs.declared.Order.TheVariants.{Window, Notification, Desktop}
use Rattle.order.specs.declared.WindowOrder.{WindowOrder}
use Rattle.order.specs.declared.NotificationOrder.{NotificationOrder}
use Rattle.order.specs.declared.DesktopOrder.{DesktopOrder}
use Rattle.order.specs.declared.Fault.{Fault}
use Rattle.order.specs.Judge.{Judged, judge_of}
use Rattle.protocol.specs.Refusals.{number_of}
use Rattle.places.specs.declared.Family.{Family}
use Rattle.places.specs.declared.Family.TheVariants.{Windows, Notifications}
use Rattle.places.specs.Counts.{on_found}
use Rattle.places.specs.Changes.{free_place}
use Rattle.places.proofs.Meaning.{found_free}
use Rattle.places.proofs.Validity.{valid_has}
use Rattle.slots.specs.Families.{is_within}
use Rattle.slots.specs.Slots.{is_at, slot_of, free_of}
use Rattle.slots.specs.Sound.{sound_index}
use Rattle.slots.proofs.Soundness.{within_slots, found_within, free_within, sound_has}
use Rattle.slots.proofs.Ways.{near_is}
use Rattle.index.specs.declared.RecordOrder.{RecordOrder}
use Rattle.index.specs.declared.Place.{Place}
use Rattle.index.specs.declared.Place.TheVariants.{Slot, Not}
use Rattle.index.specs.declared.Change.{Change}
use Rattle.index.specs.declared.Plan.{Plan}
use Rattle.index.specs.declared.Plan.TheVariants.{ChangeRecord, ChangeDesktop, Refuse}
use Rattle.index.specs.Orders.{is_new, cell_at}
use Rattle.index.specs.Plans.{place_for, slot_for, lacks_picture, pointer_for, beside_of, change_with, plan_at, plan_in, plan_record, plan_of}
use Rattle.index.specs.Changes.{Fits}

-- ---- 9 and 10

module _ (x : List ℕ) (family : Family) (a b : ℕ) (t : Bool) {r : Option ℕ} (f : slot_of x family a b ≡ r) where
  module _ {i : ℕ} (g : r ≡ Some i) where
    pub place_listed : t ≡ true → Not 9 ≡ place_for x family a b t
    place_listed h = rw (f, g, h)

    pub place_own : t ≡ false → Slot i ≡ place_for x family a b t
    place_own h = rw (f, g, h)

  module _ (g : r ≡ None) where
    pub place_absent : t ≡ false → Not 9 ≡ place_for x family a b t
    place_absent h = rw (f, g, h)

    module _ (h : t ≡ true) {w : Option ℕ} (k : w ≡ free_of x family) where
      pub place_full : w ≡ None → Not 10 ≡ place_for x family a b t
      place_full m = rw (f, g, h, ← k, m)

      pub place_new : {i : ℕ} → w ≡ Some i → Slot i ≡ place_for x family a b t
      place_new m = rw (f, g, h, ← k, m)

module _ (x : List ℕ) (o : RecordOrder) {fresh : Bool} (new : fresh ≡ is_new o.family o.flags) where
  pub slot_searched : {p : Place} → p ≡ place_for x o.family o.window.id o.notify.id fresh → p ≡ slot_for x o
  unfolding slot_for
  slot_searched e = rw (← new) e

  -- ids stand once in a sound index, so a slot that has them is theirs
  pub slot_near : sound_index x ≡ true → (near : ℕ) {t : Bool}
      → t ≡ both (not fresh) (both (is_within o.family near) (is_at x o.window.id o.notify.id near)) → t ≡ true → Slot near ≡ slot_for x o
  slot_near sound near e h =
      let g = sym e ∙ h in
      let has = both (is_within o.family near) (is_at x o.window.id o.notify.id near) in
      let is = near_is x sound o.family o.window.id o.notify.id near refl (both_right (not fresh) has g) in
      slot_searched (place_own x o.family o.window.id o.notify.id fresh (sym is) refl (old fresh (both_left (not fresh) has g)))
    where
      old : (t : Bool) → not t ≡ true → t ≡ false
      old true q = sym q
      old false q = refl

-- a slot that is found is one of 48
pub slot_small : (x : List ℕ) (o : RecordOrder) {p : Place} {i : ℕ} → p ≡ slot_for x o → p ≡ Slot i → i < 48
unfolding slot_for
slot_small x o {p} {i} e g =
    go (slot_of x o.family o.window.id o.notify.id) (free_of x o.family) (is_new o.family o.flags) refl refl (sym e ∙ g)
  where
    go : (w v : Option ℕ) (t : Bool) → slot_of x o.family o.window.id o.notify.id ≡ w → free_of x o.family ≡ v
        → on_found w (pick t (on_found v (Not 10) Slot) (Not 9)) (λ j. pick t (Not 9) (Slot j)) ≡ Slot i → i < 48
    go (Some j) v true m n h = let z : ◌≡◌ {A = ℕ} 0 1 = cc in absurd (omega arith)
    go (Some j) v false m n h =
        let k : j ≡ i = cc in
        let s = within_slots o.family j (found_within o.family x o.window.id o.notify.id j m) in
        omega arith
    go None (Some j) true m n h =
        let k : j ≡ i = cc in
        let s = within_slots o.family j (free_within o.family x j n) in
        omega arith
    go None None true m n h = let z : ◌≡◌ {A = ℕ} 0 1 = cc in absurd (omega arith)
    go None v false m n h = let z : ◌≡◌ {A = ℕ} 0 1 = cc in absurd (omega arith)

pub not_zero : (x : List ℕ) (o : RecordOrder) {p : Place} {n : ℕ} → p ≡ slot_for x o → p ≡ Not n → n ≡ 0 → ⊥
unfolding slot_for
not_zero x o {p} {n} e g z = go (slot_of x o.family o.window.id o.notify.id) (free_of x o.family) (is_new o.family o.flags) (sym e ∙ g)
  where
    go : (w v : Option ℕ) (t : Bool) → on_found w (pick t (on_found v (Not 10) Slot) (Not 9)) (λ j. pick t (Not 9) (Slot j)) ≡ Not n → ⊥
    go (Some j) v true h = let k : 9 ≡ n = cc in omega arith
    go (Some j) v false h = let k : ◌≡◌ {A = ℕ} 0 1 = cc in omega arith
    go None (Some j) true h = let k : ◌≡◌ {A = ℕ} 0 1 = cc in omega arith
    go None None true h = let k : 10 ≡ n = cc in omega arith
    go None v false h = let k : 9 ≡ n = cc in omega arith

-- ---- 11, 17 and the change

pub change_is : (o : RecordOrder) (i cell pointer place : ℕ) {t : Bool} → t ≡ is_new o.family o.flags
    → record {
      family = o.family;
      slot = i;
      fresh = t;
      deleted = (change_with o i cell pointer place).deleted;
      window = o.window;
      notify = o.notify;
      flags = o.flags;
      icon = o.icon;
      cell = cell;
      pointer = pointer;
      place = place;
    }
    ≡ change_with o i cell pointer place
change_is o i cell pointer place e = rw e

module _ (x s : List ℕ) (o : RecordOrder) (i : ℕ) {c : ℕ} (e : c ≡ cell_at s o.icon) {t : Bool} (h : t ≡ lacks_picture x o.flags c) where
  pub in_lacks : t ≡ true → Refuse 11 ≡ plan_in x s o i
  in_lacks k = rw (← e, ← h, k)

  module _ (k : t ≡ false) {pointer held : ℕ} (g : pointer ≡ pointer_for i o.flags) (b : held ≡ beside_of c pointer) where
    pub in_plain : bit_and o.flags flag_icon ≡ 0 → {r : Change} → r ≡ change_with o i held pointer 0 → ChangeRecord r ≡ plan_in x s o i
    unfolding plan_at
    in_plain n q = rw (← e, ← h, k, eq-eqb (bit_and o.flags flag_icon) 0 n, q, ← g, ← b)

    module _ (n : bit_and o.flags flag_icon ≡ 0 → ⊥) {f : Option ℕ} (m : f ≡ free_place x (held ∷ pointer ∷ [])) where
      pub in_full : f ≡ None → Refuse 17 ≡ plan_in x s o i
      unfolding plan_at
      in_full q = rw (← e, ← h, k, ne_eqb (bit_and o.flags flag_icon) 0 n, ← g, ← b, ← m, q)

      pub in_taken : {p : ℕ} {r : Change} → f ≡ Some p → r ≡ change_with o i held pointer p → ChangeRecord r ≡ plan_in x s o i
      unfolding plan_at
      in_taken q w = rw (← e, ← h, k, ne_eqb (bit_and o.flags flag_icon) 0 n, w, ← g, ← b, ← m, q)

-- a place that is found is one of 64
pub place_small : (x : List ℕ) (held pointer : ℕ) {f : Option ℕ} {p : ℕ} → sound_index x ≡ true → f ≡ free_place x (held ∷ pointer ∷ []) → f ≡ Some p → p < 64
place_small x held pointer {f} {p} sound e g =
    let v = valid_has x (sound_has x sound).holders in
    let r = found_free x (held ∷ pointer ∷ []) p (sym e ∙ g) in
    omega (arith, r.low, v.many)

pub with_fits : (o : RecordOrder) (i held pointer place : ℕ) {c : Change} → c ≡ change_with o i held pointer place → i < 48 → held < 156 → pointer < 156 → place < 64 → Fits c
with_fits o i held pointer place e l m n p = rw e (record { slot = l; icon = λ t. m; cached = λ t. m; pointer = n; place = p })

-- ---- the whole

module _ (x s : List ℕ) (o : RecordOrder) {p : Place} (e : p ≡ slot_for x o) where
  pub record_refused : {n : ℕ} → p ≡ Not n → Refuse n ≡ plan_record x s o
  unfolding plan_record
  record_refused g = rw (← e, g)

  pub record_in_lem : {i : ℕ} → p ≡ Slot i → plan_in x s o i ≡ plan_record x s o
  unfolding plan_record
  record_in_lem g = rw (← e, g)

module _ (x s : List ℕ) {j : Judged} (e : j ≡ judge_of s) where
  pub judged_window : {o : WindowOrder} {r : Plan} → j ≡ Ok (Window o)
      → r ≡ plan_record x s (record { family = Windows; window = o.window; notify = record { id = 0 }; flags = o.flags; icon = o.icon }) → r ≡ plan_of x s
  unfolding plan_of
  judged_window g h = rw (← e, g) h

  pub judged_notification : {o : NotificationOrder} {r : Plan} → j ≡ Ok (Notification o)
      → r ≡ plan_record x s (record { family = Notifications; window = o.window; notify = o.notify; flags = o.flags; icon = o.icon }) → r ≡ plan_of x s
  unfolding plan_of
  judged_notification g h = rw (← e, g) h

  pub judged_desktop : {o : DesktopOrder} → j ≡ Ok (Desktop o) → ChangeDesktop o.flags ≡ plan_of x s
  unfolding plan_of
  judged_desktop g = rw (← e, g)

  pub judged_refused : {r : Fault} → j ≡ Err r → Refuse (number_of r.refusal) ≡ plan_of x s
  unfolding plan_of
  judged_refused g = rw (← e, g)
