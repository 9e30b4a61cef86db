-- What each holder shows after the plan of an order is carried out on the memory is what the table's definition says. Assumes nothing.
use mathlib.Core.Path.{◌≡◌, refl, sym, ap, ◌∙◌}
use mathlib.Core.Bool.{Bool, true, false, not}
use mathlib.Core.List.{List, [], ◌∷◌, map}
use mathlib.Core.Option.{Option, none, some}
use Prim.Native.Nat.{ℕ, ◌+◌, ◌*◌, ◌-◌, ◌<◌}
use native.Mathlib.Omega.{arith}
use lib.Dec.{eqb, ltb}
use borrow.Author.Tests.{ne_eqb, ltb-true}
use Rattle.std.specs.Prelude.{Ok, Err, Option as StdOption, Some, None}
use Rattle.wire.specs.Tests.{pick, both, has}
use Rattle.wire.specs.Numbers.{Bytes}
use Rattle.protocol.specs.Flags.{desktop_none}
use Rattle.protocol.specs.Refusals as refusals
use Rattle.order.specs.declared.Order.TheVariants.{Window, Notification, Desktop}
use Rattle.order.specs.Judge.{Judged, judge_of}
use Rattle.places.specs.declared.Family.{Family}
use Rattle.places.specs.Sharing.{is_one}
use Rattle.places.specs.Memory.{is_cell, pointer_at, shown_of, shown, with_picture}
use Rattle.places.specs.Changes.{point_all, free_place, take_of, share_of, release_of, release_records_of}
use Rattle.places.specs.Holder.{Holder, cell, icon, same_holder, number_of, is_cell_holder, icons_of, no_slot}
use Rattle.places.proofs.Counting.{found}
use Rattle.places.proofs.Bytes.{outside, point_all_is}
use Rattle.places.proofs.Validity.{valid_has}
use Rattle.places.proofs.Keyed.{Own, keyed_one}
use Rattle.places.proofs.Named.{cell_number_lem, icon_number_lem, own_icon, same_record_lem}
use Rattle.places.proofs.Pictures.{take_shown, share_shown, release_shown, records_shown}
use Rattle.slots.specs.Families.{start, capacity, same_record}
use Rattle.slots.specs.Slots.{is_at, slot_of}
use Rattle.slots.specs.Sound.{sound_index}
use Rattle.slots.proofs.Soundness.{within_slots, Sound, sound_has, free_pointers, slots_of}
use Rattle.index.specs.declared.RecordOrder.{RecordOrder}
use Rattle.index.specs.declared.Plan.{Plan}
use Rattle.index.specs.declared.Plan.TheVariants.{ChangeRecord, ChangeDesktop, Refuse}
use Rattle.index.specs.Orders.{on_judged, is_new, is_delete, brings_icon, brings_cached, clears_overlay, cell_at, which_of, pointer_of, holders_of}
use Rattle.index.specs.Index as index
use Rattle.index.specs.Memory.{index_of}
use Rattle.index.specs.Plans.{pointer_for, cell_for, change_of, plan_record, plan_of}
use Rattle.index.specs.Changes.{listed_of, icons_at, removed_of, pictured_of, changed_of, cleared_of, applied_of}
use Rattle.index.proofs.Memory.{Listed, listed_is, Slotted, points_slotted, share_slotted, Cleared, cleared_is}
use Rattle.index.proofs.Listed.{slotted_find, find_listed, find_freed, none_find}
use Rattle.index.proofs.Ordered.{Ordered, deleted_old, window_order, notification_order, ordered_window, ordered_notification}
use Rattle.index.proofs.Shared.{listed_at, removed_freed, removed_still, icons_holders, none_slotted, own_record}
use Rattle.index.proofs.Held.{which_small, beside_cell, held}
use Rattle.index.proofs.Numbered.{readied, Ready, ready, Planned, Outcome, refused, changes, outcome, second_small}
use Rattle.cache.specs.Cells.{carried_picture}
use Rattle.table.specs.Table.{Table, number, shown_after, change_record, change_desktop, after}
use Rattle.table.specs.Memory.{shown_in}
use Rattle.table.specs.Changes.{pictures_by}
use Rattle.index.proofs.Kept.{own_icon as icon-of-slot}

-- ---- what a holder shows depends on its pointer alone

by_pointer : (x y : List ℕ) (pictures : ℕ → List ℕ) (g k : ℕ) → pointer_at x g ≡ pointer_at y k → shown x pictures g ≡ shown y pictures k
unfolding shown shown_of
by_pointer x y pictures g k e = rw e

-- pointers alone changed: every holder keeps its number
slotted_number : (x y : List ℕ) → Slotted x y → (g : Holder) → number_of (slot_of y) g ≡ number_of (slot_of x) g
slotted_number x y k g = ap (λ (slot : Family → ℕ → ℕ → StdOption ℕ). number_of slot g) slots
  where
    slots : slot_of y ≡ slot_of x
    slots = λ i f a b. slotted_find x y k f a b i

module _ (m : List ℕ) (slot : Family → ℕ → ℕ → StdOption ℕ) (f : Family) (a b : ℕ) where
  -- the icons of a record that is not listed, or whose slot has no pointers
  unlisted_pointer : slot f a b ≡ None → (w : ℕ) → pointer_at m (number_of slot (icon f a b w)) ≡ 0
  unfolding number_of
  unlisted_pointer e w = rw e (outside m 156 (omega arith))

  empty_pointer : (i : ℕ) → slot f a b ≡ Some i → ((w : ℕ) → w < 3 → pointer_at m (12 + 3 * i + w) ≡ 0) → (w : ℕ) → pointer_at m (number_of slot (icon f a b w)) ≡ 0
  unfolding number_of
  empty_pointer i e empty w = rw e (go (ltb w 3) refl)
    where
      go : (t : Bool) → ltb w 3 ≡ t → pointer_at m (pick t (12 + 3 * i + w) 156) ≡ 0
      go true t = empty w (ltb-true w 3 t)
      go false t = outside m 156 (omega arith)

  -- two searches that differ at a record whose icons point at nothing
  alike : (new : Family → ℕ → ℕ → StdOption ℕ) → ((g : Family) (p q : ℕ) → same_record f a b g p q ≡ false → new g p q ≡ slot g p q)
      → ((w : ℕ) → pointer_at m (number_of slot (icon f a b w)) ≡ 0) → ((w : ℕ) → pointer_at m (number_of new (icon f a b w)) ≡ 0)
      → (g : Holder) → pointer_at m (number_of new g) ≡ pointer_at m (number_of slot g)
  unfolding number_of
  alike new others here there (cell c) = refl
  alike new others here there (icon g p q w) = go (same_record f a b g p q) refl
    where
      go : (t : Bool) → same_record f a b g p q ≡ t → pointer_at m (number_of new (icon g p q w)) ≡ pointer_at m (number_of slot (icon g p q w))
      go true e =
          let r = same_record_lem g f p a q b e in
          rw (r.0, r.1, r.2) (there w ∙ sym (here w))
      go false e = rw (others g p q e)

-- ---- a slot whose icons let go

removed_pointer : (x : List ℕ) (i : ℕ) → Sound x → i < 48 → (g : ℕ) → pointer_at (removed_of x i) g ≡ pick (is_one eqb (icons_at i) g) 0 (pointer_at x g)
unfolding release_of
removed_pointer x i sound below g =
    ap (λ (ptr : ℕ → ℕ). ptr g)
    ((removed_still x i sound.long below).pointers ∙ point_all_is (icons_at i) x 0 (icons_holders i below) (valid_has x sound.holders).long)

-- ---- a plan for a record

module _ (x s : List ℕ) (o : RecordOrder) (i place : ℕ) (sound : Sound x) (h : Ordered s o) (p : Planned x s o i place) (pictures : ℕ → List ℕ) where
  abbrev f : Family
  f = o.family

  abbrev a : ℕ
  a = o.window.id

  abbrev b : ℕ
  b = o.notify.id

  abbrev c : ℕ
  c = cell_at s o.icon

  abbrev w : ℕ
  w = which_of o.flags

  abbrev z : List ℕ
  z = readied x o i

  -- its picture's holders, as numbers
  abbrev ns : List ℕ
  ns = cell_for s o i ∷ pointer_for i o.flags ∷ []

  r : Ready x z o i
  r = ready x s o i sound h p.placed

  below : i < 48
  below = within_slots f i p.placed.within

  which : w < 3
  which = which_small o.flags

  -- a record that has just been listed shows nothing
  new_shown : is_new f o.flags ≡ true → (g : Holder) → shown_in (listed_of x i a b) pictures g ≡ shown_in x pictures g
  new_shown t g =
      let y = listed_of x i a b in
      let n = p.placed.new t in
      let l : Listed x y i a b = listed_is x i a b sound.long below h.first (second_small f b h.second) in
      let find = find_listed f x y i a b p.placed.within l n.1 n.0 in
      by_pointer y x pictures (number_of (slot_of y) g) (number_of (slot_of x) g)
      (ap (λ (ptr : ℕ → ℕ). ptr (number_of (slot_of y) g)) l.still.pointers
      ∙ alike x (slot_of x) f a b (slot_of y) (λ k m q e. find k m q ∙ rw e)
      (unlisted_pointer x (slot_of x) f a b n.0)
      (empty_pointer x (slot_of y) f a b i (listed_at f x y i a b sound p.placed.within l n.1 n.0) (free_pointers x sound f i p.placed.within n.1)) g)

  ready_shown : (g : Holder) → shown_in z pictures g ≡ shown_in x pictures g
  ready_shown g = go (is_new f o.flags) refl
    where
      go : (t : Bool) → is_new f o.flags ≡ t → shown_in (pick t (listed_of x i a b) x) pictures g ≡ shown_in x pictures g
      go true t = new_shown t g
      go false t = refl

  abbrev y : List ℕ
  y = removed_of x i

  abbrev num : Holder → ℕ
  num = number_of (slot_of x)

  -- a deleted record's icons show nothing
  removed_shown : is_delete o.flags ≡ true → (g : Holder) → pick (is_one same_holder (icons_of f a b) g) none (shown_in x pictures g) ≡ shown_in (removed_of x i) pictures g
  unfolding shown shown_of
  removed_shown t g =
      rw (
        alike y (slot_of x) f a b (slot_of y) (λ k m q e. find k m q ∙ rw e) (empty_pointer y (slot_of x) f a b i at_i empty)
            (unlisted_pointer y (slot_of y) f a b (find f a b ∙ rw (own_record f a b))) g,
        gone,
      ) (go (is_one same_holder (icons_of f a b) g))
    where
      at_i : slot_of x f a b ≡ Some i
      at_i = p.placed.old (deleted_old f o.flags h.agrees t)

      find : (k : Family) (m q : ℕ) → slot_of y k m q ≡ pick (same_record f a b k m q) None (slot_of x k m q)
      find = find_freed f x y i a b p.placed.within (removed_freed x i sound.long below) sound (found (capacity f) (start f) (is_at x a b) i at_i).2

      empty : (w : ℕ) → w < 3 → pointer_at y (12 + 3 * i + w) ≡ 0
      empty w l = removed_pointer x i sound below (12 + 3 * i + w) ∙ rw (icon-of-slot i w l)

      icon_is : (w : ℕ) → w < 3 → num (icon f a b w) ≡ 12 + 3 * i + w
      icon_is w l = icon_number_lem (slot_of x) (slots_of x) f a b w i at_i l

      numbers : map num (icons_of f a b) ≡ icons_at i
      numbers = rw (icon_is 0 (omega arith), icon_is 1 (omega arith), icon_is 2 (omega arith))

      own : (w : ℕ) → w < 3 → Own same_holder num (icon f a b w)
      own w l = own_icon (slot_of x) (slots_of x) f a b w i at_i l

      gone : pointer_at y (num g) ≡ pick (is_one same_holder (icons_of f a b) g) 0 (pointer_at x (num g))
      gone =
          removed_pointer x i sound below (num g)
          ∙ ap (λ (t : Bool). pick t 0 (pointer_at x (num g)))
          (ap (λ (ns : List ℕ). is_one eqb ns (num g)) (sym numbers)
          ∙ keyed_one same_holder num (icons_of f a b) (own 0 (omega arith), (own 1 (omega arith), (own 2 (omega arith), tt))) g)

      go : (t : Bool) → pick t none (shown_of (pointer_at x) pictures (num g))
          ≡ pick (eqb (pick t 0 (pointer_at x (num g))) 0) none (some (pictures (pick t 0 (pointer_at x (num g)) - 1)))
      go true = refl
      go false = refl

  taken_is : free_place z ns ≡ Some place → take_of z ns ≡ point_all z ns (place + 1)
  unfolding take_of
  taken_is e = rw e

  -- an icon's holders show its picture
  brought_shown : brings_icon o.flags ≡ true → (q : List ℕ) (g : Holder)
      → pick (is_one same_holder (holders_of s o) g) (some q) (shown_in x pictures g) ≡ shown_in (point_all z ns (place + 1)) (with_picture pictures place q) g
  brought_shown t q g =
      let free : free_place z ns ≡ Some place = r.free ns ∙ p.icon t in
      let e = held z s o i r.sound h r.at_i t in
      let m = point_all z ns (place + 1) in
      let k = number_of (slot_of z) g in
      let now = with_picture pictures place q in
      sym
      (ap (shown m now) (slotted_number z m (points_slotted ns z (place + 1) e.all r.sound.long) g)
      ∙ ap (λ (y : List ℕ). shown y now k) (sym (taken_is free))
      ∙ take_shown z r.sound.holders ns e.all place free pictures q k
      ∙ ap (λ (b : Bool). pick b (some q) (shown z pictures k)) (e.among g)
      ∙ ap (pick (is_one same_holder (holders_of s o) g) (some q)) (ready_shown g))

  -- a cached icon's pointer shows what its cell shows
  cached_shown : brings_icon o.flags ≡ false → brings_cached o.flags ≡ true → (g : Holder)
      → pick (same_holder g (pointer_of o)) (shown_in x pictures (cell c)) (shown_in x pictures g) ≡ shown_in (share_of z (pointer_for i o.flags) c) pictures g
  cached_shown t u g =
      let l = p.cached t u in
      let j = below in
      let v = which in
      let ptr = pointer_for i o.flags in
      let m = share_of z ptr c in
      let k = number_of (slot_of z) g in
      let e : number_of (slot_of z) (pointer_of o) ≡ ptr = icon_number_lem (slot_of z) (slots_of z) f a b w i r.at_i which in
      sym
      (ap (shown m pictures) (slotted_number z m (share_slotted z ptr c (omega arith) r.sound.long) g)
      ∙ share_shown z r.sound.holders ptr c (omega arith) pictures k
      ∙ ap (λ (t : Bool). pick t (shown z pictures c) (shown z pictures k)) (ap (eqb k) (sym e) ∙ own_icon (slot_of z) (slots_of z) f a b w i r.at_i which g)
      ∙ ap (λ (n : ℕ). pick (same_holder g (pointer_of o)) (shown z pictures n) (shown z pictures k)) (sym (cell_number_lem (slot_of z) (slots_of z) c l))
      ∙ ap (λ (q : Option (List ℕ)). pick (same_holder g (pointer_of o)) q (shown z pictures k)) (ready_shown (cell c))
      ∙ ap (pick (same_holder g (pointer_of o)) (shown_in x pictures (cell c))) (ready_shown g))

  -- an overlay icon that is set to none shows nothing
  cleared_icon_shown : (g : Holder) → pick (same_holder g (pointer_of o)) none (shown_in x pictures g) ≡ shown_in (release_of z (pointer_for i o.flags)) pictures g
  cleared_icon_shown g =
      let j = below in
      let v = which in
      let ptr = pointer_for i o.flags in
      let m = release_of z ptr in
      let k = number_of (slot_of z) g in
      let e : number_of (slot_of z) (pointer_of o) ≡ ptr = icon_number_lem (slot_of z) (slots_of z) f a b w i r.at_i which in
      sym
      (ap (shown m pictures) (slotted_number z m (none_slotted z r.sound f a b w i r.at_i which) g)
      ∙ release_shown z r.sound.holders ptr (omega arith) pictures k
      ∙ ap (λ (t : Bool). pick t none (shown z pictures k)) (ap (eqb k) (sym e) ∙ own_icon (slot_of z) (slots_of z) f a b w i r.at_i which g)
      ∙ ap (pick (same_holder g (pointer_of o)) none) (ready_shown g))

  -- the whole change
  changed_shown : (t : Table) → ((g : Holder) → t.shown g ≡ shown_in x pictures g) → (g : Holder)
      → shown_after t s o g ≡ shown_in (changed_of x (change_of s o i place)) (pictures_by s (ChangeRecord (change_of s o i place)) pictures) g
  unfolding shown_after changed_of pictured_of pictures_by
  changed_shown t shows g =
      rw (shows g, shows (cell c)) (go (is_delete o.flags) (brings_icon o.flags) (brings_cached o.flags) (clears_overlay o.flags) refl refl refl)
    where
      go : (u v k n : Bool) → is_delete o.flags ≡ u → brings_icon o.flags ≡ v → brings_cached o.flags ≡ k
          → pick u (pick (is_one same_holder (icons_of f a b) g) none (shown_in x pictures g))
          (pick v (pick (is_one same_holder (holders_of s o) g) (some (carried_picture s o.icon)) (shown_in x pictures g))
          (pick k (pick (same_holder g (pointer_of o)) (shown_in x pictures (cell c)) (shown_in x pictures g))
          (pick n (pick (same_holder g (pointer_of o)) none (shown_in x pictures g)) (shown_in x pictures g))))
          ≡ shown_in (pick u (removed_of x i) (pick v (point_all z ns (place + 1)) (pick k (share_of z (pointer_for i o.flags) (cell_for s o i)) (pick n (release_of z (pointer_for i o.flags)) z))))
          (pick (pick u false v) (with_picture pictures place (carried_picture s o.icon)) pictures) g
      go true v k n d e m = removed_shown d g
      go false true k n d e m = brought_shown e (carried_picture s o.icon) g
      go false false true n d e m = rw (beside_cell c (pointer_for i o.flags) (p.cached e m)) (cached_shown e m g)
      go false false false true d e m = cleared_icon_shown g
      go false false false false d e m = sym (ready_shown g)

-- ---- an order for a record, judged

module _ (x s : List ℕ) (sound : Sound x) (pictures : ℕ → List ℕ) (t : Table) (same : t.index ≡ index_of x)
    (shows : (g : Holder) → t.shown g ≡ shown_in x pictures g) (g : Holder) where
  record_shown : (o : RecordOrder) → Ordered s o
      → (pick (eqb (index.record_number t.index s o) 0) (change_record t s o) t).shown g
      ≡ shown_in (applied_of x (plan_record x s o)) (pictures_by s (plan_record x s o) pictures) g
  unfolding applied_of pictures_by change_record
  record_shown o h =
      ap (λ (d : index.Index). (pick (eqb (index.record_number d s o) 0) (change_record t s o) t).shown g) same
      ∙ go (plan_record x s o) (outcome x s o sound h)
    where
      go : (w : Plan) → Outcome x s o w
          → (pick (eqb (index.record_number (index_of x) s o) 0) (change_record t s o) t).shown g ≡ shown_in (applied_of x w) (pictures_by s w pictures) g
      go (Refuse m) (refused n ne e) = rw (e, ne_eqb n 0 ne) (shows g)
      go (ChangeRecord k) (changes i place e p) = rw e (changed_shown x s o i place sound h p pictures t shows g)
      go (ChangeDesktop _) x3 = elim x3 [ ]

  cells_number : (g : Holder) → pick (is_cell (number_of no_slot g)) (shown x pictures (number_of no_slot g)) none ≡ pick (not (is_cell_holder g)) none (shown_in x pictures g)
  unfolding number_of
  cells_number (icon f a b w) = refl
  cells_number (cell c) = go (ltb c 12) refl
    where
      go : (u : Bool) → ltb c 12 ≡ u → pick (is_cell (pick u c 156)) (shown x pictures (pick u c 156)) none ≡ pick (not u) none (shown x pictures (pick u c 156))
      go true e = rw e
      go false e = refl

  -- desktop none: only the cells show theirs
  cleared_shown : pick (not (is_cell_holder g)) none (shown_in x pictures g) ≡ shown_in (cleared_of x) pictures g
  cleared_shown =
      let m = cleared_of x in
      let k : Cleared x m = cleared_is x sound.long in
      let slots : slot_of m ≡ no_slot = λ i f a b. none_find m k.slots f a b i in
      sym
      (by_pointer m (release_records_of x) pictures (number_of (slot_of m) g) (number_of (slot_of m) g) (ap (λ (ptr : ℕ → ℕ). ptr (number_of (slot_of m) g)) k.still.pointers)
      ∙ ap (λ (slot : Family → ℕ → ℕ → StdOption ℕ). shown (release_records_of x) pictures (number_of slot g)) slots
      ∙ records_shown x sound.holders pictures (number_of no_slot g)
      ∙ cells_number g)

  desktop_shown : (flags : ℕ) → (change_desktop t s flags).shown g ≡ shown_in (pick (has flags desktop_none) (cleared_of x) x) pictures g
  unfolding change_desktop
  desktop_shown flags = rw (shows g) (go (has flags desktop_none))
    where
      go : (u : Bool) → pick (both u (not (is_cell_holder g))) none (shown_in x pictures g) ≡ shown_in (pick u (cleared_of x) x) pictures g
      go true = cleared_shown
      go false = refl

-- ---- the whole plan

pub shown_applied : (x s : List ℕ) → sound_index x ≡ true → Bytes s → (pictures : ℕ → List ℕ) (t : Table) → t.index ≡ index_of x
    → ((h : Holder) → t.shown h ≡ shown_in x pictures h) → (h : Holder) → (after t s).shown h ≡ shown_in (applied_of x (plan_of x s)) (pictures_by s (plan_of x s) pictures) h
unfolding after number index.number_in plan_of applied_of pictures_by
shown_applied x s ok bytes pictures t same shows h = go (judge_of s) refl
  where
    sound : Sound x
    sound = sound_has x ok

    refuse : (u : Bool) → (pick u t t).shown h ≡ shown_in x pictures h
    refuse true = shows h
    refuse false = shows h

    go : (j : Judged) → judge_of s ≡ j
        → (pick (eqb (on_judged j (index.record_number t.index s) (λ flags. 0) (λ n. n)) 0)
        (on_judged j (change_record t s) (change_desktop t s) (λ n. t)) t).shown h
        ≡ shown_in (applied_of x (on_judged j (plan_record x s) ChangeDesktop Refuse)) (pictures_by s (on_judged j (plan_record x s) ChangeDesktop Refuse) pictures) h
    go (Ok (Window o)) e = record_shown x s sound pictures t same shows h (window_order o) (ordered_window s bytes o e)
    go (Ok (Notification o)) e = record_shown x s sound pictures t same shows h (notification_order o) (ordered_notification s bytes o e)
    go (Ok (Desktop o)) e = desktop_shown x s sound pictures t same shows h o.flags
    go (Err f) e = refuse (eqb (refusals.number_of f.refusal) 0)
