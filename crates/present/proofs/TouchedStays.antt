-- A window that no order of the journal is for stays as it was at the mark. Assumes nothing.
use mathlib.Core.Path.{◌≡◌, refl, sym, ap, ◌∙◌}
use mathlib.Core.Bool.{Bool, true, false}
use mathlib.Core.List.{List, [], ◌∷◌}
use Prim.Native.Nat.{ℕ, zero, suc, ◌+◌, ◌-◌, ◌≤◌, ◌<◌}
use native.Mathlib.Omega.{arith}
use lib.Dec.{eqb, ltb}
use lib.ListN.{length, replicate, take, drop}
use borrow.Author.Tests.{eq-eqb, ne_eqb, lt-ltb, le-ltb}
use Rattle.std.specs.Prelude.{Ok, Err, Option, Some, None}
use Rattle.wire.specs.Tests.{pick}
use Rattle.wire.specs.Numbers.{num_at, Bytes}
use Rattle.wire.specs.Parts.{slice, splice}
use Rattle.wire.proofs.Numbers.{bytes_slice}
use Rattle.wire.proofs.Parts.{length_zeros}
use Rattle.order.specs.declared.Order.TheVariants.{Window, Notification, Desktop}
use Rattle.order.specs.declared.WindowOrder.{WindowOrder}
use Rattle.order.specs.Judge.{Judged, flags_of, judge_of}
use Rattle.order.proofs.Accepted.{a_window}
use Rattle.protocol.specs.declared.WindowId.{WindowId}
use Rattle.places.specs.declared.Family.TheVariants as family
use Rattle.places.specs.Counts.{on_found}
use Rattle.slots.specs.declared.Searched.{Searched}
use Rattle.slots.specs.Families.{index_length, same_record}
use Rattle.slots.specs.Slots as slots
use Rattle.slots.specs.Sound.{sound_index}
use Rattle.slots.proofs.Ways.{found_is}
use Rattle.slots.proofs.Soundness.{Within, found_within}
use Rattle.index.specs.declared.Place.{Place}
use Rattle.index.specs.declared.Place.TheVariants.{Slot, Not}
use Rattle.index.specs.declared.Plan.{Plan}
use Rattle.index.specs.declared.Plan.TheVariants.{ChangeRecord, ChangeDesktop, Refuse}
use Rattle.index.specs.declared.RecordOrder.{RecordOrder}
use Rattle.index.specs.Orders.{on_judged, brings_icon, cell_at}
use Rattle.index.specs.Plans.{lacks_picture, slot_for, cell_for, pointer_for, change_of, on_place, plan_at, plan_record, plan_of, plan_number}
use Rattle.index.proofs.After.{plan_sound}
use Rattle.places.specs.Changes.{free_place}
use Rattle.body.specs.Bodies.{window_fields, body_of, slot_start, slot_of}
use Rattle.figure.specs.declared.Figure.{Figure}
use Rattle.figure.specs.Figure.{pixels_of}
use Rattle.table.specs.Changes.{Follows}
use Rattle.table.proofs.Able.{plan_follows}
use Rattle.follow.specs.declared.Want.TheVariants as want
use Rattle.follow.specs.Follow.{slot_room, record_room, held_slot, is_for, slot_followed, origins_followed, record_followed, followed_of, begin_record, begin_of}
use Rattle.follow.proofs.Origins.{followed_before}
use Rattle.follow.proofs.Following.{follow_length}
use Rattle.follow.proofs.Rooms.{room_within, room_slot}
use Rattle.follow.proofs.Begun.{record_length, slot_begun}
use Rattle.journal.specs.Limits.{journal_length, log_start}
use Rattle.journal.specs.Journal.{size_at, order_at}
use Rattle.journal.specs.Replay.{Replay, index_after, followed_after, stopped, replay_from, from_mark}
use Rattle.journal.proofs.Validations.{copy_sound}
use Rattle.present.specs.PresentFigure.{window_held, shown_one, FigureIs}
use Rattle.present.specs.Touched.{is_order_for, touched_from}
use Rattle.wire.proofs.Tests.{never}

-- ---- one order

-- a plan that is not for the window of an id
Other : ℕ → Plan → Type 0
Other id (ChangeRecord c) = is_for family.Windows id 0 c ≡ false
Other id (ChangeDesktop flags) = Unit {0}
Other id (Refuse n) = Unit {0}

module _ (id : ℕ) (d s : List ℕ) where
  record_other : (o : RecordOrder) → same_record o.family o.window.id o.notify.id family.Windows id 0 ≡ false → Other id (plan_record d s o)
  unfolding plan_record plan_at Other
  record_other o e = placed (slot_for d o)
    where
      at_place : (i : ℕ) (f : Option ℕ) → Other id (on_found f (Refuse 17) (λ p. ChangeRecord (change_of s o i p)))
      at_place i (Some p) = e
      at_place i None = tt

      at_slot : (i : ℕ) (t : Bool) (f : Option ℕ) → Other id (pick t (on_found f (Refuse 17) (λ p. ChangeRecord (change_of s o i p))) (ChangeRecord (change_of s o i 0)))
      at_slot i true f = at_place i f
      at_slot i false f = e

      pictured : (i : ℕ) (t : Bool) → Other id (pick t (Refuse 11) (plan_at d s o i))
      pictured i true = tt
      pictured i false = at_slot i (brings_icon o.flags) (free_place d (cell_for s o i ∷ pointer_for i o.flags ∷ []))

      placed : (p : Place) → Other id (on_place p (λ i. pick (lacks_picture d o.flags (cell_at s o.icon)) (Refuse 11) (plan_at d s o i)))
      placed (Slot i) = pictured i (lacks_picture d o.flags (cell_at s o.icon))
      placed (Not n) = tt

  other_id : (o : WindowOrder) → judge_of s ≡ Ok (Window o) → is_order_for id s ≡ false → eqb id o.window.id ≡ false
  unfolding flags_of
  other_id o e t =
      let w = a_window s o e in
      let own : o.window.id ≡ num_at 4 s 7 = ap (λ (x : WindowOrder). x.window.id) w.is in
      ne_eqb id o.window.id
      (λ same.
      let yes : eqb (num_at 4 s 7) id ≡ true = eq-eqb (num_at 4 s 7) id (sym (same ∙ own)) in
      let all : is_order_for id s ≡ true = rw (w.kind, yes) in
      never (sym t ∙ all))

  plan_other : is_order_for id s ≡ false → Other id (plan_of d s)
  unfolding plan_of
  plan_other t = go (judge_of s) refl
    where
      go : (j : Judged) → judge_of s ≡ j → Other id (on_judged j (plan_record d s) ChangeDesktop Refuse)
      go (Ok (Window o)) e =
          record_other (record { family = family.Windows; window = o.window; notify = record { id = 0 }; flags = o.flags; icon = o.icon }) (rw (other_id o e t))
      go (Ok (Notification o)) e =
          record_other (record { family = family.Notifications; window = o.window; notify = o.notify; flags = o.flags; icon = o.icon }) refl
      go (Ok (Desktop o)) e = unfold Other in tt
      go (Err r) e = unfold Other in tt

-- the slot that is followed stays
other_stays : (w : WindowId) (d s m : List ℕ) (q : ℕ) → Bytes s → sound_index d ≡ true → length m ≡ record_room family.Windows → is_order_for w.id s ≡ false
    → held_slot family.Windows (followed_of (Some (want.Window w)) q s (plan_of d s) m) ≡ held_slot family.Windows m
unfolding followed_of record_followed slot_followed Follows Other
other_stays w d s m q bytes sound long t = go (plan_of d s) (plan_follows d s bytes sound) (plan_other w.id d s t)
  where
    go : (p : Plan) → Follows s p → Other w.id p → held_slot family.Windows (record_followed family.Windows w.id 0 q s p m) ≡ held_slot family.Windows m
    go (ChangeRecord c) a o =
        let same : slot_followed family.Windows w.id 0 s c m ≡ m = rw o in
        ap (λ (x : List ℕ). held_slot family.Windows (origins_followed (slot_room family.Windows) q c x)) same
        ∙ followed_before (slot_room family.Windows) q c m (omega (arith, long)) a.place (slot_room family.Windows) (omega arith)
    go (ChangeDesktop flags) a o = refl
    go (Refuse n) a o = refl

-- ---- all of them

module _ (w : WindowId) (n p : ℕ) (j d m : List ℕ) (bytes : Bytes j) (sound : sound_index d ≡ true) (long : length m ≡ record_room family.Windows) where
  abbrev o : List ℕ
  o = order_at j p

  own : Bytes o
  own = bytes_slice j p (size_at j p) bytes

  abbrev then : List ℕ
  then = followed_after (Some (want.Window w)) p d o m

  abbrev rest : Replay
  rest = replay_from (Some (want.Window w)) n (p + size_at j p) j (index_after d o) then

  -- an order that is cut ends the replay, any other leaves the slot
  one_more_lem : (a b c : Bool) → is_order_for w.id o ≡ b → pick a true (pick b true (touched_from w.id n (p + size_at j p) j)) ≡ false
      → (touched_from w.id n (p + size_at j p) j ≡ false → held_slot family.Windows rest.followed ≡ held_slot family.Windows then)
      → held_slot family.Windows (pick a (stopped d m) (pick c rest (stopped (index_after d o) then))).followed ≡ held_slot family.Windows m
  one_more_lem true b c e f ih = refl
  one_more_lem false true c e f ih = never (sym f)
  one_more_lem false false true e f ih = ih f ∙ other_stays w d o m p own sound long e
  one_more_lem false false false e f ih = other_stays w d o m p own sound long e

stays : (w : WindowId) (n p : ℕ) (j d m : List ℕ) → Bytes j → sound_index d ≡ true → length m ≡ record_room family.Windows → touched_from w.id n p j ≡ false
    → held_slot family.Windows (replay_from (Some (want.Window w)) n p j d m).followed ≡ held_slot family.Windows m
unfolding replay_from touched_from
stays w zero p j d m bytes sound long t = refl
stays w (suc n) p j d m bytes sound long t =
    one_more_lem w n p j d m bytes sound long (ltb (journal_length - p) (size_at j p)) (is_order_for w.id (order_at j p)) (eqb (plan_number (plan_of d (order_at j p))) 0) refl t
    (λ z.
    stays w n (p + size_at j p) j (index_after d (order_at j p)) (followed_after (Some (want.Window w)) p d (order_at j p) m) bytes
    (plan_sound d (order_at j p) sound (own w n p j d m bytes sound long)) (follow_length (Some (want.Window w)) d (order_at j p) m p (own w n p j d m bytes sound long) sound long) z)

-- ---- the loop

pub record TouchInv (id : ℕ) (j : List ℕ) (count p i : ℕ) : Type 0 where
  pub turn : i ≤ count
  pub high : p ≤ journal_length
  pub leads : touched_from id count log_start j ≡ touched_from id (count - i) p j

pub touch_start : (id : ℕ) (j : List ℕ) (count : ℕ) → TouchInv id j count log_start 0
touch_start id j count = let e : count - 0 ≡ count = omega arith in record { turn = omega arith; high = omega arith; leads = rw e }

module _ (id : ℕ) (j : List ℕ) {count p i : ℕ} (g : TouchInv id j count p i) where
  module _ (more : i < count) {size : ℕ} (is : size ≡ size_at j p) where
    left : count - i ≡ suc (count - (i + 1))
    left = omega arith

    pub touch_cut : journal_length - p < size → true ≡ touched_from id count log_start j
    unfolding touched_from
    touch_cut h =
        let t : ltb (journal_length - p) (size_at j p) ≡ true = lt-ltb (journal_length - p) (size_at j p) (omega (arith, is)) in
        sym (g.leads ∙ rw (left, t))

    module _ (fits : size ≤ journal_length - p) {r : Bool} (says : r ≡ is_order_for id (take (p + size - p) (drop p j))) where
      inside : ltb (journal_length - p) (size_at j p) ≡ false
      inside = le-ltb (journal_length - p) (size_at j p) (omega (arith, is))

      told : r ≡ is_order_for id (order_at j p)
      unfolding slice
      told = let e : p + size - p ≡ size_at j p = omega (arith, is) in says ∙ ap (λ (n : ℕ). is_order_for id (take n (drop p j))) e

      pub touch_found : r ≡ true → true ≡ touched_from id count log_start j
      unfolding touched_from
      touch_found h = sym (g.leads ∙ rw (left, inside, sym told ∙ h))

      pub touch_next : r ≡ false → TouchInv id j count (p + size) (i + 1)
      unfolding touched_from
      touch_next h =
          record {
            turn = omega arith;
            high = omega (arith, g.high);
            leads = g.leads ∙ rw (left, inside, sym told ∙ h, is);
          }

  pub touch_end : count ≤ i → false ≡ touched_from id count log_start j
  unfolding touched_from
  touch_end h = let e : count - i ≡ 0 = omega arith in sym (g.leads ∙ rw e)

-- ---- the window

-- no order is for the window that slot i of the mark has: its figure is that of the slot
pub marked_figure : (index bodies journal : List ℕ) (n : ℕ) (w : WindowId) (i : ℕ) {r : Figure} → sound_index index ≡ true → 61012 ≤ length bodies → Bytes journal
    → touched_from w.id n log_start journal ≡ false → slots.slot_of index family.Windows w.id 0 ≡ Some i
    → FigureIs r (shown_one (body_of window_fields (slot_of bodies i))) (pixels_of (body_of window_fields (slot_of bodies i)))
    → FigureIs r (shown_one (window_held index bodies journal n w)) (pixels_of (window_held index bodies journal n w))
unfolding window_held from_mark begin_of
marked_figure index bodies journal n w i sound big bytes t at f =
    let zeros : List ℕ = replicate (record_room family.Windows) 0 in
    let long : length zeros ≡ record_room family.Windows = length_zeros (record_room family.Windows) in
    let copy = splice (replicate index_length 0) 0 (slice index 0 index_length) in
    let whole : sound_index copy ≡ true = copy_sound index (replicate index_length 0) sound (length_zeros index_length) refl in
    let e =
    stays w n log_start journal copy (begin_of (Some (want.Window w)) index bodies zeros) bytes whole (record_length family.Windows bodies zeros long (slots.slot_of index family.Windows w.id 0)) t
    ∙ ap (λ (x : Option ℕ). held_slot family.Windows (begin_record family.Windows x bodies zeros)) at
    ∙ slot_begun family.Windows bodies zeros long i (found_within family.Windows index w.id 0 i at) big in
    record {
      windows = f.windows ∙ ap (λ (x : List ℕ). shown_one (body_of window_fields x)) (sym e);
      pixels = f.pixels ∙ ap (λ (x : List ℕ). pixels_of (body_of window_fields x)) (sym e);
      few = f.few;
      most = f.most;
    }

-- the part of the bodies from where slot i begins
pub slot_part : (bodies : List ℕ) (i : ℕ) {from : ℕ} → i < 32 → 61012 ≤ length bodies → from ≡ slot_start i
    → (from + 1392 ≤ length bodies) × (take (from + 1392 - from) (drop from bodies) ≡ slot_of bodies i)
unfolding slice
slot_part bodies i {from} below big is =
    let n : Within family.Windows i = record { low = omega arith; high = omega arith } in
    let e : from + 1392 - from ≡ 1392 = omega arith in (
      omega (arith, is, room_within family.Windows bodies i n big),
      ap (λ (k : ℕ). take k (drop from bodies)) e ∙ ap (λ (k : ℕ). take 1392 (drop k bodies)) is ∙ room_slot family.Windows bodies i n,
    )

-- what the search in the mark's index finds
pub found_slot : (x : List ℕ) (id i : ℕ) {s : Searched} → s ≡ slots.search_of x family.Windows id 0 → s.found ≡ Some i
    → (i < 32) × (slots.slot_of x family.Windows id 0 ≡ Some i)
found_slot x id i h e =
    let k = found_is (slots.is_at x id 0) 0 32 h e in
    (omega (arith, (found_within family.Windows x id 0 i k).high), k)
