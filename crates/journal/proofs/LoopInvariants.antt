-- What the loops over the orders of a journal keep, and what they end with. Assumes nothing.
use mathlib.Core.Path.{◌≡◌, refl, sym, ap, ◌∙◌}
use mathlib.Core.Bool.{true, false}
use mathlib.Core.List.{List, map}
use Prim.Native.Nat.{ℕ, suc, ◌+◌, ◌-◌, ◌≤◌, ◌<◌}
use native.Mathlib.Omega.{arith}
use lib.Dec.{eqb, ltb}
use lib.ListN.{length, get_or, take, drop}
use borrow.Author.Tests.{ne_eqb, lt-ltb, le-ltb, ltb-false}
use Rattle.wire.specs.Parts.{slice}
use Rattle.wire.proofs.Numbers.{Bytes, bytes_slice}
use Rattle.places.specs.Memory.{places_of}
use Rattle.slots.specs.Families.{index_length}
use Rattle.slots.specs.Sound.{sound_index}
use Rattle.slots.proofs.Ways.{sound_long}
use Rattle.index.specs.declared.Plan.{Plan}
use Rattle.index.specs.Plans.{plan_of, plan_number, plan_slot}
use Rattle.index.specs.Changes.{applied_of, FitsPlan}
use Rattle.index.proofs.After.{plan_sound, length_plan, judged_fits}
use Rattle.store.specs.Store.{places_in}
use Rattle.table.specs.Table.{after}
use Rattle.table.specs.Memory.{decode, sound_table}
use Rattle.table.specs.Changes.{Follows}
use Rattle.table.specs.Outcome.{StoreKept, PastKept, Delivered}
use Rattle.table.proofs.Able.{plan_follows}
use Rattle.table.proofs.Past.{same_past, past_past, same_store, store_store}
use Rattle.std.specs.Prelude.{Option}
use Rattle.follow.specs.declared.Want.{Want}
use Rattle.follow.specs.Follow.{room_for, followed_of}
use Rattle.follow.proofs.Following.{follow_length}
use Rattle.journal.specs.Limits.{journal_length, log_start}
use Rattle.journal.specs.State.{run}
use Rattle.journal.specs.Journal.{size_at, order_at, orders_from, end_from, within_from}
use Rattle.journal.specs.Replay.{index_after, followed_after, replay_from, stopped, Replayed, Applied}
use Rattle.journal.proofs.Stored.{fails}

-- ---- orders left

left_all : (count : ℕ) → count - 0 ≡ count
left_all count = omega arith

left_more : (count i : ℕ) → i < count → count - i ≡ suc (count - (i + 1))
left_more count i h = omega arith

left_none : (count i : ℕ) → count ≤ i → count - i ≡ 0
left_none count i h = omega arith

-- the part of a journal that is lent is its order
part_is : (j : List ℕ) (p : ℕ) {size : ℕ} → size ≡ size_at j p → take (p + size - p) (drop p j) ≡ order_at j p
unfolding slice
part_is j p {size = size} is = let e : p + size - p ≡ size = omega arith in rw (e, is)

-- ---- one order replayed, at index q of the journal

module _ (want : Option Want) (q : ℕ) (d m s : List ℕ) {p : Plan} (judged : p ≡ plan_of d s) where
  pub order_asks : Bytes s → sound_index d ≡ true → length m ≡ room_for want → (length m ≡ room_for want) × Follows s p
  order_asks bytes h l = (l, rw judged (plan_follows d s bytes h))

  pub change_asks : Bytes s → sound_index d ≡ true → (index_length ≤ length d) × FitsPlan p
  change_asks bytes h = (sound_long d h, judged_fits d s h bytes judged)

  pub order_gives : {r i : ℕ} {d' m' : List ℕ} → r ≡ plan_number p → i ≡ plan_slot p → d' ≡ applied_of d p → m' ≡ followed_of want q s p m
      → ((r ≡ plan_number (plan_of d s)) × (i ≡ plan_slot (plan_of d s))) × ((d' ≡ index_after d s) × (m' ≡ followed_after want q d s m))
  order_gives says stands makes follows =
      ((says ∙ ap plan_number judged, stands ∙ ap plan_slot judged), (makes ∙ ap (applied_of d) judged, follows ∙ ap (λ (g : Plan). followed_of want q s g m) judged))

-- ---- the replay

pub record ReplayInv (want : Option Want) (d₀ m₀ j : List ℕ) (count : ℕ) (d m : List ℕ) (p i : ℕ) : Type 0 where
  pub turn : i ≤ count
  pub high : p ≤ journal_length
  pub sound : sound_index d ≡ true
  pub long : length d ≡ length d₀
  pub room : length m ≡ room_for want
  pub same : length m ≡ length m₀
  pub leads : replay_from want count log_start j d₀ m₀ ≡ replay_from want (count - i) p j d m

pub replay_start : (want : Option Want) (d m j : List ℕ) (count : ℕ) → sound_index d ≡ true → length m ≡ room_for want → ReplayInv want d m j count d m log_start 0
replay_start want d m j count h l =
    record { turn = omega arith; high = omega arith; sound = h; long = refl; room = l; same = refl; leads = rw (left_all count) }

module _ (want : Option Want) (d₀ m₀ j : List ℕ) (bytes : Bytes j) {count : ℕ} {d m : List ℕ} {p i : ℕ} (g : ReplayInv want d₀ m₀ j count d m p i) where
  module _ (more : i < count) {size : ℕ} (is : size ≡ size_at j p) where
    -- an order runs past the room
    pub replay_cut : journal_length - p < size → Replayed (replay_from want count log_start j d₀ m₀) 0 d m
    unfolding replay_from
    replay_cut h =
        let t : ltb (journal_length - p) (size_at j p) ≡ true = lt-ltb (journal_length - p) (size_at j p) (omega (arith, is)) in
        let e : replay_from want count log_start j d₀ m₀ ≡ stopped d m = g.leads ∙ rw (left_more count i more, t) in
        record { end = rw e; index = rw e; followed = rw e }

    abbrev o : List ℕ
    o = take (p + size - p) (drop p j)

    module _ (fits : size ≤ journal_length - p) {r : ℕ} {d' m' : List ℕ} (says : r ≡ plan_number (plan_of d o)) (makes : d' ≡ index_after d o)
        (follows : m' ≡ followed_after want p d o m) where
      inside : ltb (journal_length - p) (size_at j p) ≡ false
      inside = le-ltb (journal_length - p) (size_at j p) (omega (arith, is))

      -- one is refused
      pub replay_refused : (r ≡ 0 → ⊥) → Replayed (replay_from want count log_start j d₀ m₀) 0 d' m'
      unfolding replay_from
      replay_refused n =
          let x : eqb (plan_number (plan_of d (order_at j p))) 0 ≡ false = rw (← (part_is j p is), ← says) (ne_eqb r 0 n) in
          let e : replay_from want count log_start j d₀ m₀ ≡ stopped d' m' =
          g.leads ∙ rw (left_more count i more, inside, x, makes, follows, part_is j p is) in
          record { end = rw e; index = rw e; followed = rw e }

      -- it is accepted
      pub replay_next : r ≡ 0 → ReplayInv want d₀ m₀ j count d' m' (p + size) (i + 1)
      unfolding replay_from
      replay_next z =
          let x : plan_number (plan_of d (order_at j p)) ≡ 0 = rw (← (part_is j p is), ← says) z in
          let b : Bytes o = rw (part_is j p is) (bytes_slice j p (size_at j p) bytes) in
          let l : length m' ≡ room_for want = ap length follows ∙ follow_length want d o m p b g.sound g.room in
          record {
            turn = omega arith;
            high = omega (arith, g.high);
            sound = rw makes (plan_sound d o g.sound b);
            long = ap length makes ∙ length_plan d o g.sound b ∙ g.long;
            room = l;
            same = l ∙ sym g.room ∙ g.same;
            leads = g.leads ∙ rw (left_more count i more, inside, x, makes, follows, part_is j p is, is);
          }

  -- all are
  pub replay_end : count ≤ i → Replayed (replay_from want count log_start j d₀ m₀) p d m
  unfolding replay_from
  replay_end h =
      let e : replay_from want count log_start j d₀ m₀ ≡ record { end = p; index = d; followed = m } = g.leads ∙ rw (left_none count i h) in
      record { end = rw e; index = rw e; followed = rw e }

-- ---- the search for the end

pub record EndInv (j : List ℕ) (count p i : ℕ) : Type 0 where
  pub turn : i ≤ count
  pub high : p ≤ journal_length
  pub within : within_from (count - i) p j ≡ true
  pub end : end_from count log_start j ≡ end_from (count - i) p j

pub end_start : (j : List ℕ) (count : ℕ) → within_from count log_start j ≡ true → EndInv j count log_start 0
end_start j count w = record { turn = omega arith; high = omega arith; within = rw (left_all count) w; end = rw (left_all count) }

module _ (j : List ℕ) {count p i : ℕ} (g : EndInv j count p i) where
  module _ (more : i < count) {size : ℕ} (is : size ≡ size_at j p) where
    left : (ltb (journal_length - p) (size_at j p) ≡ false) × (within_from (count - (i + 1)) (p + size_at j p) j ≡ true)
    unfolding within_from
    left =
        fails (ltb (journal_length - p) (size_at j p)) (within_from (count - (i + 1)) (p + size_at j p) j)
        (ap (λ (n : ℕ). within_from n p j) (sym (left_more count i more)) ∙ g.within)

    pub end_room : p + size ≤ journal_length
    end_room = omega (arith, g.high, ltb-false (journal_length - p) (size_at j p) left.0, is)

    pub end_next : EndInv j count (p + size) (i + 1)
    unfolding end_from
    end_next =
        record { turn = omega arith; high = end_room; within = rw is left.1; end = g.end ∙ rw (left_more count i more, is) }

  pub end_end : count ≤ i → (p ≡ end_from count log_start j) × (p ≤ journal_length)
  unfolding end_from
  end_end h = (sym (g.end ∙ rw (left_none count i h)), g.high)

-- ---- the orders applied to a table

pub record ApplyInv (x₀ b₀ : List ℕ) (s₀ : List (List ℕ)) (j : List ℕ) (count : ℕ) (x b : List ℕ) (s : List (List ℕ)) (p i : ℕ) : Type 0 where
  pub ending : EndInv j count p i
  pub sound : sound_table x b (places_in s) ≡ true
  pub long : length x ≡ length x₀
  pub big : length b ≡ length b₀
  pub leads : run (decode x₀ b₀ s₀) (orders_from count log_start j) ≡ run (decode x b s) (orders_from (count - i) p j)
  pub places : places_of x ≡ places_of x₀
  pub past : PastKept x₀ b₀ x b
  pub store : StoreKept (places_of x₀) s₀ s

pub apply_start : (x b : List ℕ) (s : List (List ℕ)) (j : List ℕ) (count : ℕ) → sound_table x b (places_in s) ≡ true → within_from count log_start j ≡ true
    → ApplyInv x b s j count x b s log_start 0
apply_start x b s j count h w =
    record {
      ending = end_start j count w;
      sound = h;
      long = refl;
      big = refl;
      leads = rw (left_all count);
      places = refl;
      past = same_past x b;
      store = same_store (places_of x) s;
    }

module _ (x₀ b₀ : List ℕ) (s₀ : List (List ℕ)) (j : List ℕ) {count : ℕ} {x b : List ℕ} {s : List (List ℕ)} {p i : ℕ} (g : ApplyInv x₀ b₀ s₀ j count x b s p i) where
  pub apply_next : i < count → {size : ℕ} → size ≡ size_at j p → {r : ℕ} {x' b' : List ℕ} {s' : List (List ℕ)} → Delivered x b s (take (p + size - p) (drop p j)) r x' b' s'
      → length x' ≡ length x → length b' ≡ length b → ApplyInv x₀ b₀ s₀ j count x' b' s' (p + size) (i + 1)
  unfolding run orders_from
  apply_next more is {x' = x'} {b' = b'} {s' = s'} done lx lb =
      let t : decode x' b' s' ≡ after (decode x b s) (order_at j p) = done.table ∙ ap (after (decode x b s)) (part_is j p is) in
      record {
        ending = end_next j g.ending more is;
        sound = done.sound;
        long = lx ∙ g.long;
        big = lb ∙ g.big;
        leads = g.leads ∙ rw (left_more count i more, t, is);
        places = done.places ∙ g.places;
        past = past_past g.past done.past;
        store = store_store g.store (rw (← g.places) done.store);
      }

  pub apply_end : count ≤ i → Applied x₀ b₀ s₀ j count x b s
  unfolding run orders_from
  apply_end h = record { table = sym (g.leads ∙ rw (left_none count i h)); sound = g.sound; places = g.places; past = g.past; store = g.store }

-- part k of the store is as long as it was
pub same_part : (k : ℕ) {n : ℕ} {s s' : List (List ℕ)} → StoreKept n s s' → get_or (map length s') k 0 ≡ get_or (map length s) k 0
same_part k h = ap (λ (ns : List ℕ). get_or ns k 0) h.lengths
