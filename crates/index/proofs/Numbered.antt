-- The number of a plan is that of the index described, and what holds of a plan that changes a record. Assumes nothing.
use mathlib.Core.Path.{◌≡◌, refl, sym, ap, ◌∙◌}
use mathlib.Core.Bool.{Bool, true, false, not}
use mathlib.Core.List.{List, [], ◌∷◌}
use Prim.Native.Nat.{ℕ, ◌+◌, ◌≤◌, ◌<◌}
use native.Mathlib.Omega.{arith}
use lib.Dec.{eqb, leb}
use lib.ListN.{length}
use borrow.Author.Tests.{eq-eqb, eqb-true, le-leb, lt-leb, not-true}
use Rattle.std.specs.Prelude.{Option, Some, None}
use Rattle.wire.specs.Tests.{pick, both, either}
use Rattle.places.specs.declared.Family.{Family}
use Rattle.places.specs.declared.Family.TheVariants.{Windows, Notifications}
use Rattle.places.specs.Sharing.{full}
use Rattle.places.specs.Counts.{on_found}
use Rattle.places.specs.Memory.{pointer_at, sharing_of, decode}
use Rattle.places.specs.Changes.{free_place}
use Rattle.places.specs.Keyed.{keyed}
use Rattle.places.specs.Holder.{cell, same_family, same_holder}
use Rattle.places.proofs.Counting.{found}
use Rattle.places.proofs.Named.{cell_number_lem, same_family_lem}
use Rattle.places.proofs.Meaning.{found_free}
use Rattle.places.proofs.Validity.{valid_has}
use Rattle.slots.specs.Families.{start, capacity, highest, same_record}
use Rattle.slots.specs.Slots.{is_used, is_free, slot_of, free_of, many_in}
use Rattle.slots.proofs.Soundness.{Within, within_slots, found_within, free_within, Sound, slots_of}
use Rattle.index.specs.declared.RecordOrder.{RecordOrder}
use Rattle.index.specs.declared.Place.{Place}
use Rattle.index.specs.declared.Place.TheVariants.{Slot, Not}
use Rattle.index.specs.declared.Plan.{Plan}
use Rattle.index.specs.declared.Plan.TheVariants.{ChangeRecord, Refuse}
use Rattle.index.specs.Orders.{is_new, brings_icon, brings_cached, cell_at, holders_of}
use Rattle.index.specs.Index.{not_there, no_room, no_picture, no_place, record_number}
use Rattle.index.specs.Memory.{index_of}
use Rattle.index.specs.Plans.{slot_for, lacks_picture, pointer_for, cell_for, change_of, plan_at, on_place, plan_record}
use Rattle.index.specs.Changes.{listed_of}
use Rattle.index.proofs.Memory.{still_free, Listed, listed_is}
use Rattle.index.proofs.Listed.{find_listed, many_listed, no_room_lem, some_room}
use Rattle.index.proofs.Ordered.{Ordered, cached_alone, cached_names}
use Rattle.index.proofs.Shared.{sharing_at, listed_at, listed_sharing}
use Rattle.index.proofs.Held.{held}
use Rattle.index.proofs.Kept.{listed_sound}
use Rattle.wire.proofs.Tests.{never}

-- ---- the memory z in which the record is listed in slot i: x itself, or x with a new record

abbrev pub readied : List ℕ → RecordOrder → ℕ → List ℕ
readied x o i = pick (is_new o.family o.flags) (listed_of x i o.window.id o.notify.id) x

pub record Ready (x z : List ℕ) (o : RecordOrder) (i : ℕ) : Type 0 where
  pub sound : Sound z
  pub at_i : slot_of z o.family o.window.id o.notify.id ≡ Some i
  pub sharing : sharing_at z ≡ sharing_at x
  pub free : (hs : List ℕ) → free_place z hs ≡ free_place x hs
  pub long : length z ≡ length x
  pub listed : (g : Family) (p q : ℕ) → on_found (slot_of z g p q) false (λ j. true)
      ≡ pick (same_record o.family o.window.id o.notify.id g p q) true (on_found (slot_of x g p q) false (λ j. true))
  pub many : (g : Family) → many_in z g ≡ pick (both (is_new o.family o.flags) (same_family g o.family)) (many_in x g + 1) (many_in x g)

-- the slot of an order: listed there, or free for a new record
pub record Placed (x : List ℕ) (o : RecordOrder) (i : ℕ) : Type 0 where
  pub within : Within o.family i
  pub new : is_new o.family o.flags ≡ true → (slot_of x o.family o.window.id o.notify.id ≡ None) × (is_used x i ≡ false)
  pub old : is_new o.family o.flags ≡ false → slot_of x o.family o.window.id o.notify.id ≡ Some i

pub second_small : (f : Family) (b : ℕ) → b ≤ highest f → b < 4294967296
second_small Windows b h = omega arith
second_small Notifications b h = omega arith

module _ (x : List ℕ) (s : List ℕ) (o : RecordOrder) (i : ℕ) (sound : Sound x) (h : Ordered s o) (p : Placed x o i) where
  abbrev f : Family
  f = o.family

  abbrev a : ℕ
  a = o.window.id

  abbrev b : ℕ
  b = o.notify.id

  new_ready : is_new f o.flags ≡ true → Ready x (listed_of x i a b) o i
  new_ready t =
      let n = p.new t in
      let l : Listed x (listed_of x i a b) i a b = listed_is x i a b sound.long (within_slots f i p.within) h.first (second_small f b h.second) in
      record {
        sound = listed_sound f x (listed_of x i a b) i a b sound p.within l n.1 h.second n.0;
        at_i = listed_at f x (listed_of x i a b) i a b sound p.within l n.1 n.0;
        sharing = listed_sharing f x (listed_of x i a b) i a b sound p.within l n.1 n.0;
        free = λ hs. still_free x (listed_of x i a b) hs l.still;
        long = l.kept.long;
        listed = λ g p' q. ap (λ (w : Option ℕ). on_found w false (λ j. true)) (find_listed f x (listed_of x i a b) i a b p.within l n.1 n.0 g p' q) ∙ at_once (same_record f a b g p' q) (slot_of x g p' q);
        many = λ g. many_listed f x (listed_of x i a b) i a b p.within l n.1 g ∙ rw t;
      }
    where
      at_once : (t : Bool) (w : Option ℕ) → on_found (pick t (Some i) w) false (λ j. true) ≡ pick t true (on_found w false (λ j. true))
      at_once true w = refl
      at_once false w = refl

  old_ready : is_new f o.flags ≡ false → Ready x x o i
  old_ready t =
      record {
        sound = sound;
        at_i = p.old t;
        sharing = refl;
        free = λ hs. refl;
        long = refl;
        listed = λ g p' q. same g p' q (same_family g f) (eqb p' a) (eqb q b) refl refl refl;
        many = λ g. rw t;
      }
    where
      same : (g : Family) (y z : ℕ) (t u v : Bool) → same_family g f ≡ t → eqb y a ≡ u → eqb z b ≡ v
          → on_found (slot_of x g y z) false (λ j. true) ≡ pick (both t (both u v)) true (on_found (slot_of x g y z) false (λ j. true))
      same g y z true true true k m n = rw (same_family_lem g f k, eqb-true y a m, eqb-true z b n, p.old t)
      same g y z true true false k m n = refl
      same g y z true false v k m n = refl
      same g y z false u v k m n = refl

  pub ready : Ready x (readied x o i) o i
  ready = go (is_new f o.flags) refl
    where
      go : (t : Bool) → is_new f o.flags ≡ t → Ready x (pick t (listed_of x i a b) x) o i
      go true t = new_ready t
      go false t = old_ready t

  -- 17, once the slot is known
  pub place_is : brings_icon o.flags ≡ true
      → on_found (free_place x (cell_for s o i ∷ pointer_for i o.flags ∷ [])) true (λ q. false) ≡ full same_holder (holders_of s o) (sharing_at x)
  place_is t =
      let r = ready in
      ap (λ (v : Option ℕ). on_found v true (λ q. false)) (sym (r.free (cell_for s o i ∷ pointer_for i o.flags ∷ [])))
      ∙ (held (readied x o i) s o i r.sound h r.at_i t).refuses
      ∙ ap (full same_holder (holders_of s o)) r.sharing

-- ---- 9 and 10

data Slotting (x : List ℕ) (o : RecordOrder) : Place → Type 0 where
  not_there_lem : not_there (index_of x) o ≡ true → Slotting x o (Not 9)
  no_place_lem : not_there (index_of x) o ≡ false → no_room (index_of x) o ≡ true → Slotting x o (Not 10)
  at_slot : (i : ℕ) → not_there (index_of x) o ≡ false → no_room (index_of x) o ≡ false → Placed x o i → Slotting x o (Slot i)

slotting : (x : List ℕ) (o : RecordOrder) → Slotting x o (slot_for x o)
unfolding slot_for not_there no_room index_of
slotting x o =
    go (slot_of x o.family o.window.id o.notify.id) (free_of x o.family) (is_new o.family o.flags) refl refl refl
  where
    go : (w v : Option ℕ) (t : Bool) → slot_of x o.family o.window.id o.notify.id ≡ w → free_of x o.family ≡ v → is_new o.family o.flags ≡ t
        → Slotting x o (on_found w (pick t (on_found v (Not 10) Slot) (Not 9)) (λ i. pick t (Not 9) (Slot i)))
    go (Some i) v true m n k = not_there_lem (rw (k, m))
    go (Some i) v false m n k =
        at_slot i (rw (k, m)) (rw k)
        (record {
          within = found_within o.family x o.window.id o.notify.id i m;
          new = λ t. never (sym k ∙ t);
          old = λ t. m;
        })
    go None v false m n k = not_there_lem (rw (k, m))
    go None None true m n k =
        no_place_lem (rw (k, m)) (rw k (le-leb (capacity o.family) (many_in x o.family) (let e = no_room_lem x o.family n in omega arith)))
    go None (Some i) true m n k =
        at_slot i (rw (k, m)) (rw k (lt-leb (capacity o.family) (many_in x o.family) (some_room x o.family i n)))
        (record {
          within = free_within o.family x i n;
          new = λ t. (m, not-true (is_used x i) (found (capacity o.family) (start o.family) (is_free x) i n).2);
          old = λ t. never (sym t ∙ k);
        })

-- ---- 11

module _ (x s : List ℕ) (o : RecordOrder) (h : Ordered s o) where
  cell_shares : (c : ℕ) → c < 12 → not ((sharing_at x).shares (cell c) (cell c)) ≡ eqb (pointer_at x c) 0
  unfolding keyed decode sharing_of
  cell_shares c l = rw (cell_number_lem (slot_of x) (slots_of x) c l) (go (eqb (pointer_at x c) 0) refl)
    where
      go : (t : Bool) → eqb (pointer_at x c) 0 ≡ t → not (both (not t) (eqb (pointer_at x c) (pointer_at x c))) ≡ t
      go true e = refl
      go false e = rw (eq-eqb (pointer_at x c) (pointer_at x c) refl)

  pub picture_is : lacks_picture x o.flags (cell_at s o.icon) ≡ no_picture (index_of x) s o
  unfolding lacks_picture no_picture index_of
  picture_is = go (brings_cached o.flags) refl
    where
      go : (t : Bool) → brings_cached o.flags ≡ t
          → both t (either (leb 12 (cell_at s o.icon)) (eqb (pointer_at x (cell_at s o.icon)) 0))
          ≡ both t (not ((sharing_at x).shares (cell (cell_at s o.icon)) (cell (cell_at s o.icon))))
      go true e =
          let l = cached_names s o h (cached_alone o.flags h.agrees e) e in
          rw (lt-leb 12 (cell_at s o.icon) l, cell_shares (cell_at s o.icon) l)
      go false e = refl

-- ---- the plan of a record

pub record Planned (x s : List ℕ) (o : RecordOrder) (i place : ℕ) : Type 0 where
  pub placed : Placed x o i
  pub small : place < 64
  pub icon : brings_icon o.flags ≡ true → free_place x (cell_for s o i ∷ pointer_for i o.flags ∷ []) ≡ Some place
  pub cached : brings_icon o.flags ≡ false → brings_cached o.flags ≡ true → cell_at s o.icon < 12

pub data Outcome (x s : List ℕ) (o : RecordOrder) : Plan → Type 0 where
  refused : (n : ℕ) → (n ≡ 0 → ⊥) → record_number (index_of x) s o ≡ n → Outcome x s o (Refuse n)
  changes : (i place : ℕ) → record_number (index_of x) s o ≡ 0 → Planned x s o i place → Outcome x s o (ChangeRecord (change_of s o i place))

module _ (x s : List ℕ) (o : RecordOrder) (sound : Sound x) (h : Ordered s o) where
  at_place : (i : ℕ) → not_there (index_of x) o ≡ false → no_room (index_of x) o ≡ false → Placed x o i
      → lacks_picture x o.flags (cell_at s o.icon) ≡ false → Outcome x s o (plan_at x s o i)
  unfolding plan_at record_number no_place index_of
  at_place i e9 e10 p lacks =
      go (brings_icon o.flags) refl (free_place x (cell_for s o i ∷ pointer_for i o.flags ∷ [])) refl
    where
      e11 : no_picture (index_of x) s o ≡ false
      e11 = sym (picture_is x s o h) ∙ lacks

      go : (t : Bool) → brings_icon o.flags ≡ t → (w : Option ℕ) → free_place x (cell_for s o i ∷ pointer_for i o.flags ∷ []) ≡ w
          → Outcome x s o
          (pick t (on_found w (Refuse 17) (λ p. ChangeRecord (change_of s o i p))) (ChangeRecord (change_of s o i 0)))
      go false t w e =
          changes i 0 (rw (e9, e10, e11, t))
          (record {
            placed = p;
            small = omega arith;
            icon = λ u. never (sym t ∙ u);
            cached = λ u v. cached_names s o h u v;
          })
      go true t None e =
          let k : full same_holder (holders_of s o) (sharing_at x) ≡ true = sym (place_is x s o i sound h p t) ∙ rw e in
          refused 17 (λ z. omega arith) (rw (e9, e10, e11, t, k))
      go true t (Some q) e =
          let k : full same_holder (holders_of s o) (sharing_at x) ≡ false = sym (place_is x s o i sound h p t) ∙ rw e in
          let v = valid_has x sound.holders in
          let r = found_free x (cell_for s o i ∷ pointer_for i o.flags ∷ []) q e in
          changes i q (rw (e9, e10, e11, t, k))
          (record {
            placed = p;
            small = omega (arith, r.low, v.many);
            icon = λ u. e;
            cached = λ u v. never (sym u ∙ t);
          })

  pub outcome : Outcome x s o (plan_record x s o)
  unfolding plan_record record_number
  outcome = go (slot_for x o) (slotting x o)
    where
      at-slot-outcome : (i : ℕ) → not_there (index_of x) o ≡ false → no_room (index_of x) o ≡ false → Placed x o i → (t : Bool) → lacks_picture x o.flags (cell_at s o.icon) ≡ t
          → Outcome x s o (pick t (Refuse 11) (plan_at x s o i))
      at-slot-outcome i e9 e10 p true e =
          refused 11 (λ z. omega arith) (rw (e9, e10, sym (picture_is x s o h) ∙ e))
      at-slot-outcome i e9 e10 p false e = at_place i e9 e10 p e

      go : (w : Place) → Slotting x o w → Outcome x s o (on_place w (λ i. pick (lacks_picture x o.flags (cell_at s o.icon)) (Refuse 11) (plan_at x s o i)))
      go (Not n) (not_there_lem e) = refused 9 (λ z. omega arith) (rw e)
      go (Not n) (no_place_lem e k) = refused 10 (λ z. omega arith) (rw (e, k))
      go (Slot j) (at_slot i e k p) = at-slot-outcome i e k p (lacks_picture x o.flags (cell_at s o.icon)) refl
