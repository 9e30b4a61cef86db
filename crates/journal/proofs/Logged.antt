-- A memory that meets the rule, as facts over the list of its orders; what it describes; and one order more, the first few of
-- them, and none. Assumes nothing.
use mathlib.Core.Path.{◌≡◌, refl, sym, ap, ◌∙◌}
use mathlib.Core.Bool.{true, false, not}
use mathlib.Core.List.{List, [], ◌∷◌, ◌++◌}
use Prim.Native.Nat.{ℕ, zero, suc, ◌+◌, ◌-◌, ◌≤◌}
use native.Mathlib.Omega.{arith}
use lib.Dec.{ltb}
use lib.ListN.{length, take, length-append}
use lib.Seq.{length-take-le}
use borrow.Author.Tests.{ltb-false, le-ltb, not-true, not-false}
use Rattle.wire.specs.Tests.{pick, either}
use Rattle.wire.specs.Numbers.{bytes_of}
use Rattle.wire.specs.Parts.{splice}
use Rattle.wire.proofs.Tests.{both_left, both_right, neither}
use Rattle.wire.proofs.Numbers.{length_bytes}
use Rattle.wire.proofs.Parts.{length_splice, drop_splice}
use Rattle.places.specs.Sizes.{fewest_places}
use Rattle.places.specs.Memory.{places_of}
use Rattle.figure.specs.Kept.{kept_length, figures_ok}
use Rattle.store.specs.Store.{places_in}
use Rattle.table.specs.Table.{Table, number}
use Rattle.table.specs.Memory.{bodies_length, decode, sound_table}
use Rattle.table.proofs.Past.{same_store}
use Rattle.std.specs.Prelude.{Bool, Some, None}
use Rattle.journal.specs.declared.JournalExtent.{JournalExtent}
use Rattle.journal.specs.Limits.{journal_length, most_orders, log_start}
use Rattle.journal.specs.State.{run, bytes_in, all_accepted}
use Rattle.journal.specs.Journal.{count_of, size_at, orders_from, end_from, within_from, log_of}
use Rattle.journal.specs.View.{Memory, memory, Past, short_of, too_short, well_formed, meets_rule, state_of, formed, view_of}
use Rattle.journal.specs.Replay.{extent_of, extent_in}
use Rattle.journal.proofs.Runs.{accepted_more, accepted_take, accepted_order}
use Rattle.journal.proofs.Stored.{Stored, none, stored, stored_end, stored_room, stored_take, stored_reads, fails, counted_count, counted_length, counted_stored, put_length, put_two, put_stored}

-- ---- lengths

-- the parts are long enough, and enough places are lent
pub record Long (x b : List ℕ) (lent : ℕ) (j : List ℕ) : Type 0 where
  pub index : kept_length ≤ length x
  pub bodies : bodies_length ≤ length b
  pub places : fewest_places ≤ lent
  pub journal : journal_length ≤ length j

pub long_has : (x b : List ℕ) (lent : ℕ) (j : List ℕ) → short_of x b lent j ≡ false → Long x b lent j
long_has x b lent j e =
    let f = ltb (length x) kept_length in
    let g = ltb (length b) bodies_length in
    let h = ltb lent fewest_places in
    let u = neither (either (either f g) h) (ltb (length j) journal_length) e in
    let v = neither (either f g) h u.0 in
    let w = neither f g v.0 in
    record {
      index = ltb-false (length x) kept_length w.0;
      bodies = ltb-false (length b) bodies_length w.1;
      places = ltb-false lent fewest_places v.1;
      journal = ltb-false (length j) journal_length u.1;
    }

pub long_is : {x b : List ℕ} {lent : ℕ} {j : List ℕ} → Long x b lent j → short_of x b lent j ≡ false
long_is {x = x} {b = b} {lent = lent} {j = j} l =
    rw (le-ltb (length x) kept_length l.index, le-ltb (length b) bodies_length l.bodies, le-ltb lent fewest_places l.places, le-ltb (length j) journal_length l.journal)

abbrev pub LongIn : Memory → Type 0
LongIn m = Long m.index m.bodies (places_in m.store) m.journal

-- ---- the rule as facts

abbrev pub marked_in : Memory → Table
marked_in m = decode m.index m.bodies m.store

-- m meets the rule, its orders are os, and w says how many and where they end
pub record Logged (m : Memory) (w : JournalExtent) (os : List (List ℕ)) : Type 0 where
  pub long : LongIn m
  pub sound : sound_table m.index m.bodies (places_in m.store) ≡ true
  pub figures : figures_ok m.index m.bodies ≡ true
  pub stored : Stored m.journal log_start os w.end
  pub count : count_of m.journal ≡ length os
  pub many : w.count ≡ length os
  pub few : w.count ≤ most_orders
  pub accepted : all_accepted (marked_in m) os ≡ true

module _ {m : Memory} {w : JournalExtent} {os : List (List ℕ)} (l : Logged m w os) where
  log_is : log_of m.journal ≡ os
  unfolding log_of
  log_is = ap (λ (n : ℕ). orders_from n log_start m.journal) l.count ∙ (stored_reads l.stored).orders

  pub logged_formed : well_formed m ≡ true
  unfolding well_formed
  logged_formed =
      let few : length os ≤ most_orders = omega (arith, l.many, l.few) in
      rw (l.sound, l.figures, log_is, l.count, le-ltb most_orders (length os) few, (stored_reads l.stored).within) l.accepted

  pub logged_state : state_of m ≡ record { marked = marked_in m; log = os }
  unfolding state_of
  logged_state = rw log_is

  pub logged_view : view_of m ≡ formed (record { marked = marked_in m; log = os })
  unfolding view_of
  logged_view = rw (long_is l.long, logged_formed, logged_state)

  -- the bytes stand between
  pub logged_bytes : bytes_in os ≡ w.end - 2
  logged_bytes = omega (arith, stored_end l.stored)

  pub logged_low : 2 ≤ w.end
  logged_low = omega (arith, stored_end l.stored)

  pub logged_high : w.end ≤ journal_length
  logged_high = stored_room l.stored (omega arith)

  -- as the code asks for the first n
  pub logged_within : (n : ℕ) → n ≤ w.count → within_from n log_start m.journal ≡ true
  logged_within n h =
      let r = stored_reads (stored_take n (log_start + bytes_in (take n os)) refl l.stored) in
      ap (λ (k : ℕ). within_from k log_start m.journal) (sym (length-take-le n os (omega (arith, l.many)))) ∙ r.within

  pub logged_orders : orders_from w.count log_start m.journal ≡ os
  logged_orders = ap (λ (n : ℕ). orders_from n log_start m.journal) l.many ∙ (stored_reads l.stored).orders

-- ---- by its tests

pub length_orders : (n p : ℕ) (j : List ℕ) → length (orders_from n p j) ≡ n
unfolding orders_from
length_orders zero p j = refl
length_orders (suc n) p j = ap suc (length_orders n (p + size_at j p) j)

pub meets : (m : Memory) → meets_rule m ≡ true → (too_short m ≡ false) × (well_formed m ≡ true)
meets m r =
    (not-true (too_short m) (both_left (not (too_short m)) (well_formed m) r), both_right (not (too_short m)) (well_formed m) r)

-- a memory that passes the tests
pub formed_logged : (m : Memory) → too_short m ≡ false → well_formed m ≡ true
    → Logged m (extent_in m) (log_of m.journal)
unfolding well_formed log_of
formed_logged m t f =
    let a = fails (not (sound_table m.index m.bodies (places_in m.store))) (pick (not (figures_ok m.index m.bodies)) false (pick (ltb most_orders (count_of m.journal)) false (pick (not (within_from (count_of m.journal) log_start m.journal)) false (all_accepted (marked_in m) (log_of m.journal))))) f in
    let g = fails (not (figures_ok m.index m.bodies)) (pick (ltb most_orders (count_of m.journal)) false (pick (not (within_from (count_of m.journal) log_start m.journal)) false (all_accepted (marked_in m) (log_of m.journal)))) a.1 in
    let b = fails (ltb most_orders (count_of m.journal)) (pick (not (within_from (count_of m.journal) log_start m.journal)) false (all_accepted (marked_in m) (log_of m.journal))) g.1 in
    let c = fails (not (within_from (count_of m.journal) log_start m.journal)) (all_accepted (marked_in m) (log_of m.journal)) b.1 in
    let l = long_has m.index m.bodies (places_in m.store) m.journal t in
    let s = stored (marked_in m) (count_of m.journal) log_start m.journal l.journal (omega arith) (not-false (within_from (count_of m.journal) log_start m.journal) c.0) c.1 in
    let n = sym (length_orders (count_of m.journal) log_start m.journal) in
    record {
      long = l;
      sound = not-false (sound_table m.index m.bodies (places_in m.store)) a.0;
      figures = not-false (figures_ok m.index m.bodies) g.0;
      stored = s;
      count = n;
      many = n;
      few = ltb-false most_orders (count_of m.journal) b.0;
      accepted = c.1;
    }

-- the same by the extent that validation answers
pub extent_met : (m : Memory) {w : JournalExtent} → Some w ≡ extent_of m → (meets_rule m ≡ true) × (w ≡ extent_in m)
unfolding extent_of
extent_met m {w} e = go (meets_rule m) refl e
  where
    go : (b : Bool) → meets_rule m ≡ b → Some w ≡ pick b (Some (extent_in m)) None → (meets_rule m ≡ true) × (w ≡ extent_in m)
    go true h k = let same : w ≡ extent_in m = cc in (h, same)
    go false h k = cc

pub extent_formed : (m : Memory) {w : JournalExtent} → Some w ≡ extent_of m → Logged m w (log_of m.journal)
extent_formed m e = let r = extent_met m e in rw r.1 (formed_logged m (meets m r.0).0 (meets m r.0).1)

-- 1
pub extent_unmet : (m : Memory) → None ≡ extent_of m → meets_rule m ≡ false
unfolding extent_of
extent_unmet m e = go (meets_rule m) refl e
  where
    go : (b : Bool) → meets_rule m ≡ b → None ≡ pick b (Some (extent_in m)) None → meets_rule m ≡ false
    go true h k = cc
    go false h k = h

-- ---- journals that change

-- the journal in place of another
abbrev pub with_journal : Memory → List ℕ → Memory
with_journal m j = memory m.index m.bodies m.store j

module _ {m : Memory} {w : JournalExtent} {os : List (List ℕ)} (l : Logged m w os) where
  long_with : {j : List ℕ} → length j ≡ length m.journal → LongIn (with_journal m j)
  long_with e = record { index = l.long.index; bodies = l.long.bodies; places = l.long.places; journal = omega (arith, e, l.long.journal) }

  two : 2 ≤ length m.journal
  two = omega (arith, l.long.journal)

  -- nothing past the room changes
  pub past_counted : (k : ℕ) → Past m (with_journal m (splice m.journal 0 (bytes_of 2 k)))
  past_counted k =
      let n = length_bytes 2 k in
      record {
        index = refl;
        bodies = refl;
        store = same_store (places_of m.index) m.store;
        journal = drop_splice m.journal 0 (bytes_of 2 k) (omega (arith, l.long.journal)) journal_length (omega arith);
      }

  pub past_more : (s : List ℕ) → w.end + length s ≤ journal_length
      → Past m (with_journal m (splice (splice m.journal w.end s) 0 (bytes_of 2 (w.count + 1))))
  past_more s room =
      let n = length_bytes 2 (w.count + 1) in
      let fits : w.end + length s ≤ length m.journal = omega (arith, l.long.journal) in
      let p = length_splice m.journal w.end s fits in
      record {
        index = refl;
        bodies = refl;
        store = same_store (places_of m.index) m.store;
        journal =
            drop_splice (splice m.journal w.end s) 0 (bytes_of 2 (w.count + 1)) (omega (arith, l.long.journal)) journal_length (omega arith)
            ∙ drop_splice m.journal w.end s fits journal_length room;
      }

  -- one order more that is accepted
  pub logged_more : (s : List ℕ) → number (run (marked_in m) os) s ≡ 0 → w.count ≤ 127 → w.end + length s ≤ journal_length
      → Logged (with_journal m (splice (splice m.journal w.end s) 0 (bytes_of 2 (w.count + 1)))) (record { count = w.count + 1; end = w.end + length s }) (os ++ (s ∷ []))
  logged_more s z few room =
      let a = accepted_order (run (marked_in m) os) s z in
      let low = logged_low l in
      let put = splice m.journal w.end s in
      let p = put_two m.journal s w.end (w.count + 1) low room l.long.journal in
      let n : w.count + 1 ≡ length (os ++ (s ∷ [])) = sym (length-append os (s ∷ []) ∙ rw (← l.many)) in
      record {
        long = long_with (counted_length put (w.count + 1) p ∙ put_length m.journal s w.end (w.count + 1) low room l.long.journal);
        sound = l.sound;
        figures = l.figures;
        stored = put_stored m.journal s w.end (w.count + 1) low room l.long.journal a.sized (omega (arith, a.long)) l.stored;
        count = counted_count put (w.count + 1) p (omega arith) ∙ n;
        many = n;
        few = omega arith;
        accepted = accepted_more (marked_in m) os s l.accepted z;
      }

  -- the first k
  pub logged_take : (k e : ℕ) → k ≤ w.count → e ≡ end_from k log_start m.journal
      → Logged (with_journal m (splice m.journal 0 (bytes_of 2 k))) (record { count = k; end = e }) (take k os)
  logged_take k e h is =
      let n : k ≡ length (take k os) = sym (length-take-le k os (omega (arith, l.many))) in
      let s = stored_take k (log_start + bytes_in (take k os)) refl l.stored in
      let end : e ≡ log_start + bytes_in (take k os) = is ∙ ap (λ (i : ℕ). end_from i log_start m.journal) n ∙ (stored_reads s).end in
      record {
        long = long_with (counted_length m.journal k two);
        sound = l.sound;
        figures = l.figures;
        stored = counted_stored m.journal k two (rw end s);
        count = counted_count m.journal k two (omega (arith, l.few)) ∙ n;
        many = n;
        few = omega (arith, l.few);
        accepted = accepted_take (marked_in m) k os l.accepted;
      }

-- none
pub logged_none : (x b : List ℕ) (p : List (List ℕ)) (j : List ℕ) → Long x b (places_in p) j → sound_table x b (places_in p) ≡ true → figures_ok x b ≡ true
    → Logged (memory x b p (splice j 0 (bytes_of 2 0))) (record { count = 0; end = log_start }) []
unfolding all_accepted
logged_none x b p j l sound figures =
    let two : 2 ≤ length j = omega (arith, l.journal) in
    record {
      long = record { index = l.index; bodies = l.bodies; places = l.places; journal = omega (arith, counted_length j 0 two, l.journal) };
      sound = sound;
      figures = figures;
      stored = none;
      count = counted_count j 0 two (omega arith);
      many = refl;
      few = omega arith;
      accepted = refl;
    }
