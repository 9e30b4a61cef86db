-- Validation: the replay of a memory that can be replayed goes through just where the rule is met. Assumes nothing.
use mathlib.Core.Path.{◌≡◌, refl, sym, ap, subst, ◌∙◌}
use mathlib.Core.Bool.{Bool, true, false, not}
use mathlib.Core.List.{List, [], ◌∷◌}
use Prim.Native.Nat.{ℕ, ◌≤◌}
use native.Mathlib.Omega.{arith}
use lib.Dec.{ltb}
use lib.ListN.{length}
use borrow.Author.Tests.{not-true}
use Rattle.wire.specs.Tests.{pick, both}
use Rattle.wire.specs.Parts.{slice, splice}
use Rattle.wire.proofs.Numbers.{Bytes}
use Rattle.places.specs.Memory.{places_of}
use Rattle.slots.specs.Families.{index_length}
use Rattle.slots.specs.Sound.{sound_index}
use Rattle.slots.proofs.Ways.{sound_long}
use Rattle.index.specs.Memory.{index_of}
use Rattle.figure.specs.Figure.{windows_length}
use Rattle.figure.specs.Kept.{kept_length, figures_ok}
use Rattle.store.specs.Store.{places_in}
use Rattle.table.specs.Memory.{decode, sound_table}
use Rattle.table.proofs.Rule.{table_has}
use Rattle.follow.specs.declared.Want.{Want}
use Rattle.std.specs.Prelude.{Option, Some, None, is_some}
use Rattle.follow.specs.Follow.{room_for, begin_of}
use Rattle.follow.proofs.Following.{begin_holds, begin_length, begin_origins}
use Rattle.journal.specs.declared.JournalExtent.{JournalExtent}
use Rattle.journal.specs.Limits.{most_orders, log_start}
use Rattle.journal.specs.State.{all_accepted}
use Rattle.journal.specs.Journal.{count_of, orders_from, end_from, within_from, log_of}
use Rattle.journal.specs.View.{Memory, memory, InEachStore, short_of, too_short, well_formed, meets_rule, state_of}
use Rattle.journal.specs.Replay.{Replay, replay_from, Replayed, from_mark, extent_in, extent_of, replayable, validation_of, marked_pictures, since_pictures, head_is_ok, Validated, Validation}
use Rattle.journal.proofs.Copies.{copied_index, copied_places, copied_sound, copied_holds}
use Rattle.journal.proofs.Logged.{Long, long_has, long_is, marked_in, meets, formed_logged, logged_low}
use Rattle.journal.proofs.Replays.{Ready, Through, Ran, stops, through, replay_ran}
use Rattle.wire.proofs.Tests.{never}

-- ---- what can be replayed

pub record Replayable (x b : List ℕ) (lent : ℕ) (j : List ℕ) : Type 0 where
  pub long : Long x b lent j
  pub sound : sound_table x b lent ≡ true
  pub figures : figures_ok x b ≡ true
  pub few : ltb most_orders (count_of j) ≡ false

module _ (x b : List ℕ) (lent : ℕ) (j : List ℕ) {t : Bool} (says : t ≡ short_of x b lent j) where
  pub replayable_short : t ≡ true → false ≡ replayable x b lent j
  unfolding replayable
  replayable_short e = let f : short_of x b lent j ≡ true = sym says ∙ e in rw f

  module _ (enough : t ≡ false) {s : Bool} (is : s ≡ sound_table x b lent) where
    enough-is : short_of x b lent j ≡ false
    enough-is = sym says ∙ enough

    pub kept_asks : (kept_length ≤ length x) × (windows_length ≤ length b)
    kept_asks = let l = long_has x b lent j enough-is in (l.index, omega (arith, l.bodies))

    pub replayable_unsound : s ≡ false → false ≡ replayable x b lent j
    unfolding replayable
    replayable_unsound e = let f : sound_table x b lent ≡ false = sym is ∙ e in rw (enough-is, f)

    pub replayable_counted : s ≡ true → {k : ℕ} → k ≡ count_of j → {g : Bool} → g ≡ figures_ok x b → both g (not (ltb most_orders k)) ≡ replayable x b lent j
    unfolding replayable
    replayable_counted e {k = k} c {g = g} kept = let f : sound_table x b lent ≡ true = sym is ∙ e in rw (enough-is, f, ← c, ← kept)

pub replayable_has : (x b : List ℕ) (lent : ℕ) (j : List ℕ) → replayable x b lent j ≡ true → Replayable x b lent j
unfolding replayable
replayable_has x b lent j = go (short_of x b lent j) (sound_table x b lent) (figures_ok x b) refl refl refl
  where
    go : (u v w : Bool) → short_of x b lent j ≡ u → sound_table x b lent ≡ v → figures_ok x b ≡ w
        → pick u false (pick v (both w (not (ltb most_orders (count_of j)))) false) ≡ true → Replayable x b lent j
    go true v w y z k e = never e
    go false false w y z k e = never e
    go false true false y z k e = never e
    go false true true y z k e = record { long = long_has x b lent j y; sound = z; figures = k; few = not-true (ltb most_orders (count_of j)) e }

abbrev pub replayable_in : Memory → Bool
replayable_in m = replayable m.index m.bodies (places_in m.store) m.journal

-- what cannot be is not well formed
not_replayable : (m : Memory) → replayable_in m ≡ false → meets_rule m ≡ false
unfolding replayable well_formed
not_replayable m =
    go (too_short m) (sound_table m.index m.bodies (places_in m.store)) (figures_ok m.index m.bodies) (ltb most_orders (count_of m.journal)) refl refl refl refl
  where
    go : (a b g c : Bool) → too_short m ≡ a → sound_table m.index m.bodies (places_in m.store) ≡ b → figures_ok m.index m.bodies ≡ g
        → ltb most_orders (count_of m.journal) ≡ c → pick a false (pick b (both g (not c)) false) ≡ false → meets_rule m ≡ false
    go true b g c x y k z e = rw x
    go false false g c x y k z e = rw (x, y)
    go false true false c x y k z e = rw (x, y, k)
    go false true true true x y k z e = rw (x, y, k, z)
    go false true true false x y k z e = never (sym e)

rule_replayable : (m : Memory) → meets_rule m ≡ true → replayable_in m ≡ true
rule_replayable m h = go (replayable_in m) refl
  where
    go : (b : Bool) → replayable_in m ≡ b → replayable_in m ≡ true
    go true e = e
    go false e = never (sym (not_replayable m e) ∙ h)

-- ---- the way out

pub not_validated : (want : Option Want) (x b : List ℕ) (lent : ℕ) (j d f : List ℕ) → replayable x b lent j ≡ false
    → InEachStore lent (λ store. Validation want (memory x b store j) d f None d f)
unfolding extent_of validation_of
not_validated want x b lent j d f e store same =
    let r : replayable x b (places_in store) j ≡ false = ap (λ (n : ℕ). replayable x b n j) same ∙ e in
    let n = not_replayable (memory x b store j) r in
    record {
      extent = rw n;
      index = rw r;
      followed = rw r;
      means = λ s. never (sym n ∙ s);
    }

-- ---- the memories that the replay begins with

pub copy_sound : (x d : List ℕ) → sound_index x ≡ true → length d ≡ index_length → {d₀ : List ℕ} → d₀ ≡ splice d 0 (slice x 0 index_length)
    → sound_index d₀ ≡ true
copy_sound x d sound room copied = ap sound_index copied ∙ copied_sound d x room (sound_long x sound) sound

pub from_copies : (want : Option Want) (x b j : List ℕ) (n : ℕ) (d f : List ℕ) {d₀ f₀ : List ℕ} → d₀ ≡ splice d 0 (slice x 0 index_length) → f₀ ≡ begin_of want x b f
    → {e : ℕ} {d' f' : List ℕ} → Replayed (replay_from want n log_start j d₀ f₀) e d' f' → Replayed (from_mark want x b j n d f) e d' f'
unfolding from_mark
from_copies want x b j n d f copied begins r = rw (← copied, ← begins) r

-- ---- the way through

decode_index : (x b : List ℕ) (p : List (List ℕ)) → index_of x ≡ (decode x b p).index
unfolding decode
decode_index x b p = refl

module _ (want : Option Want) (m : Memory) (bytes : Bytes m.journal) (d f : List ℕ) (room : length d ≡ index_length) (place : length f ≡ room_for want)
    (ready : replayable_in m ≡ true) where
  has : Replayable m.index m.bodies (places_in m.store) m.journal
  has = replayable_has m.index m.bodies (places_in m.store) m.journal ready

  abbrev copy : List ℕ
  copy = splice d 0 (slice m.index 0 index_length)

  abbrev start : List ℕ
  start = begin_of want m.index m.bodies f

  abbrev replay : Replay
  replay = from_mark want m.index m.bodies m.journal (count_of m.journal) d f

  first : Ready want m.journal (marked_pictures m) (head_is_ok m) (places_of m.index) (marked_in m) copy start
  first =
      let long : index_length ≤ length m.index = omega (arith, has.long.index) in
      record {
        sound = copy_sound m.index d (table_has m.index m.bodies (places_in m.store) has.sound).index room refl;
        index = copied_index d m.index room long ∙ decode_index m.index m.bodies m.store;
        lent = copied_places d m.index room long;
        room = begin_length want m.index m.bodies (places_in m.store) f has.sound place;
        holds =
            copied_holds d m.index room long want (marked_in m) start (marked_pictures m) (since_pictures m) (head_is_ok m)
            (begin_holds want m.index m.bodies m.store (places_in m.store) f (since_pictures m) has.sound place);
        origins = λ k n. absurd (n (begin_origins want m.index m.bodies f place k));
      }

  abbrev Runs : Type 0
  Runs = Ran want (marked_pictures m) (head_is_ok m) (places_of m.index) (count_of m.journal) log_start m.journal (marked_in m) replay

  ran : Runs
  unfolding from_mark
  ran =
      replay_ran want m.journal bytes (marked_pictures m) (head_is_ok m) (places_of m.index) (count_of m.journal) log_start (omega arith) (omega arith) (marked_in m)
      copy start first

  meets_is : meets_rule m ≡ both (within_from (count_of m.journal) log_start m.journal) (all_accepted (marked_in m) (orders_from (count_of m.journal) log_start m.journal))
  unfolding well_formed log_of
  meets_is = rw (long_is has.long, has.sound, has.figures, has.few) (joined (within_from (count_of m.journal) log_start m.journal) (all_accepted (marked_in m) (orders_from (count_of m.journal) log_start m.journal)))
    where
      joined : (a b : Bool) → pick (not a) false b ≡ both a b
      joined true b = refl
      joined false b = refl

  module _ {e : ℕ} {d' f' : List ℕ} (r : Replayed replay e d' f') where
    memories : {w : Option JournalExtent} → w ≡ extent_of m → (meets_rule m ≡ true → Validated want m d' f') → Validation want m d f w d' f'
    unfolding validation_of
    memories x y = record { extent = x; index = r.index ∙ rw ready; followed = r.followed ∙ rw ready; means = y }

    -- all orders are accepted
    module _ (g : Through want (marked_pictures m) (head_is_ok m) (places_of m.index) (count_of m.journal) log_start m.journal (marked_in m) replay) where
      met : meets_rule m ≡ true
      met = meets_is ∙ rw (g.within, g.accepted)

      some_end : e ≡ 0 → ⊥
      some_end z =
          let low : 2 ≤ end_from (count_of m.journal) log_start m.journal = logged_low (formed_logged m (meets m met).0 (meets m met).1) in
          omega (arith, low, r.end, g.end, z)

      means-that : Validated want m d' f'
      unfolding state_of log_of
      means-that =
          let y = g.ready in
          record {
            sound = rw r.index y.sound;
            index = rw r.index y.index;
            places = rw r.index y.lent;
            holds = rw (r.index, r.followed) y.holds;
            origins = rw r.followed y.origins;
          }

    -- one is not
    none_here : e ≡ 0 → Validation want m d f None d' f'
    unfolding extent_of
    none_here z = go ran
      where
        go : Runs → Validation want m d f None d' f'
        go (stops x y) =
            let n : meets_rule m ≡ false = meets_is ∙ y in
            memories (rw n) (λ s. never (sym n ∙ s))
        go (through g) = absurd (some_end g z)

    some-here : (e ≡ 0 → ⊥) → Validation want m d f (Some (record { count = count_of m.journal; end = e })) d' f'
    unfolding extent_of
    some-here n = go ran
      where
        go : Runs → Validation want m d f (Some (record { count = count_of m.journal; end = e })) d' f'
        go (stops x y) = absurd (n (r.end ∙ x))
        go (through g) =
            let h : meets_rule m ≡ true = met g in
            let end : e ≡ end_from (count_of m.journal) log_start m.journal = r.end ∙ g.end in
            memories (rw (h, end)) (λ s. means-that g)

  -- the replay of a memory that meets the rule
  means_here : meets_rule m ≡ true → Validated want m replay.index replay.followed
  means_here h = go ran
    where
      go : Runs → Validated want m replay.index replay.followed
      go (stops x y) = never (sym (meets_is ∙ y) ∙ h)
      go (through g) = means-that (record { end = refl; index = refl; followed = refl }) g

pub from_mark_means : (want : Option Want) (m : Memory) (d f : List ℕ) → Bytes m.journal → length d ≡ index_length → length f ≡ room_for want → meets_rule m ≡ true
    → Validated want m (from_mark want m.index m.bodies m.journal (count_of m.journal) d f).index
    (from_mark want m.index m.bodies m.journal (count_of m.journal) d f).followed
from_mark_means want m d f bytes room place h = means_here want m bytes d f room place (rule_replayable m h) h

-- ---- the same as the code makes it, in each store

module _ (want : Option Want) (x b : List ℕ) (lent : ℕ) (j : List ℕ) (bytes : Bytes j) (d f : List ℕ) (room : length d ≡ index_length) (place : length f ≡ room_for want)
    (ready : replayable x b lent j ≡ true) {k : ℕ} (is : k ≡ count_of j) {e : ℕ} {d' f' : List ℕ} (r : Replayed (from_mark want x b j k d f) e d' f') where
  replayed : Replayed (from_mark want x b j (count_of j) d f) e d' f'
  replayed = rw (← is) r

  pub validated_none : e ≡ 0 → InEachStore lent (λ store. Validation want (memory x b store j) d f None d' f')
  validated_none z store same = none_here want (memory x b store j) bytes d f room place (ap (λ (n : ℕ). replayable x b n j) same ∙ ready) replayed z

  pub validated_some : (e ≡ 0 → ⊥) → InEachStore lent (λ store. Validation want (memory x b store j) d f (Some (record { count = k; end = e })) d' f')
  validated_some n store same =
      rw is (some-here want (memory x b store j) bytes d f room place (ap (λ (n : ℕ). replayable x b n j) same ∙ ready) replayed n)

-- ---- nothing looked up

no_bytes : (f : List ℕ) → length f ≡ 0 → f ≡ []
no_bytes [] e = refl
no_bytes (x ∷ f) e = absurd (omega (arith, e))

pub validated_nothing : {x b : List ℕ} {lent : ℕ} {j d : List ℕ} {w : Option JournalExtent} {d' f' : List ℕ} → length f' ≡ 0
    → InEachStore lent (λ store. Validation None (memory x b store j) d [] w d' f') → InEachStore lent (λ store. Validation None (memory x b store j) d [] w d' [])
validated_nothing {x = x} {b = b} {lent = lent} {j = j} {d = d} {w = w} {d' = d'} {f' = f'} e v =
    subst (λ (f : List ℕ). InEachStore lent (λ store. Validation None (memory x b store j) d [] w d' f)) (no_bytes f' e) v

-- ---- the rule decided

decides : {want : Option Want} {m : Memory} {d f : List ℕ} {w : Option JournalExtent} {d' f' : List ℕ} → Validation want m d f w d' f' → is_some w ≡ meets_rule m
unfolding extent_of
decides {m = m} v = ap is_some v.extent ∙ go (meets_rule m)
  where
    go : (b : Bool) → is_some (pick b (Some (extent_in m)) None) ≡ b
    go true = refl
    go false = refl

pub rule_decided : {want : Option Want} {x b : List ℕ} {lent : ℕ} {j d f : List ℕ} {w : Option JournalExtent} {d' f' : List ℕ}
    → InEachStore lent (λ store. Validation want (memory x b store j) d f w d' f') → InEachStore lent (λ store. is_some w ≡ meets_rule (memory x b store j))
rule_decided v store same = decides (v store same)
