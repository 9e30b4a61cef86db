-- What a validation establishes for the calls that go on from it: the log of the memory, and an index of its present table.
-- Assumes nothing.
use mathlib.Core.Path.{◌≡◌, sym, ap, subst, ◌∙◌}
use mathlib.Core.Bool.{true, false}
use mathlib.Core.List.{List, [], ◌∷◌, ◌++◌}
use Prim.Native.Nat.{ℕ, ◌+◌, ◌≤◌}
use lib.ListN.{length}
use Rattle.wire.specs.Numbers.{bytes_of}
use Rattle.wire.specs.Parts.{splice}
use Rattle.wire.proofs.Numbers.{Bytes}
use Rattle.places.specs.Memory.{places_of}
use Rattle.slots.specs.Sound.{sound_index}
use Rattle.index.specs.Plans.{plan_of, plan_number}
use Rattle.index.specs.Memory.{index_of}
use Rattle.index.proofs.After.{plan_sound}
use Rattle.table.specs.Table.{Table}
use Rattle.table.proofs.Decoded.{places_kept}
use Rattle.std.specs.Prelude.{Option, Some, None}
use Rattle.follow.specs.declared.Want.{Want}
use Rattle.follow.specs.Follow.{held_origins, origin_at, Holds}
use Rattle.journal.specs.declared.JournalExtent.{JournalExtent}
use Rattle.journal.specs.Limits.{journal_length}
use Rattle.journal.specs.State.{run}
use Rattle.journal.specs.Journal.{size_at, log_of}
use Rattle.journal.specs.View.{Memory, meets_rule, state_of}
use Rattle.journal.specs.Replay.{index_after, marked_pictures, since_pictures, head_is_ok, Validation}
use Rattle.journal.proofs.Runs.{run_append}
use Rattle.journal.proofs.Logged.{Logged, marked_in, with_journal, extent_formed, extent_met, extent_unmet, logged_more}
use Rattle.journal.proofs.Replays.{number_on_lem, index_on}

pub record Indexed (m : Memory) (w : JournalExtent) (d : List ℕ) (os : List (List ℕ)) : Type 0 where
  pub logged : Logged m w os
  pub sound : sound_index d ≡ true
  pub index : index_of d ≡ (run (marked_in m) os).index
  pub places : places_of d ≡ places_of m.index

-- f holds what the present table, whose index d is, has of the target
pub record Followed (want : Option Want) (m : Memory) (d : List ℕ) (os : List (List ℕ)) (f : List ℕ) : Type 0 where
  pub holds : Holds want (run (marked_in m) os) d f (marked_pictures m) (since_pictures m) (head_is_ok m)
  pub origins : (k : ℕ) → (origin_at (held_origins want f) k ≡ 0 → ⊥)
      → origin_at (held_origins want f) k + size_at m.journal (origin_at (held_origins want f) k) ≤ journal_length

-- with the target as the code made it
pub validated_as : {want want' : Option Want} {m : Memory} {d f : List ℕ} {w : Option JournalExtent} {d' f' : List ℕ} → want ≡ want' → Validation want m d f w d' f'
    → Validation want' m d f w d' f'
validated_as {m = m} {d = d} {f = f} {w = w} {d' = d'} {f' = f'} e v = subst (λ (want : Option Want). Validation want m d f w d' f') e v

-- 1
pub unmet : {want : Option Want} {m : Memory} {d f d' f' : List ℕ} → Validation want m d f None d' f' → meets_rule m ≡ false
unmet {m = m} v = extent_unmet m v.extent

module _ {want : Option Want} {m : Memory} {d f : List ℕ} {w : JournalExtent} {d' f' : List ℕ} (v : Validation want m d f (Some w) d' f') where
  met : meets_rule m ≡ true
  met = (extent_met m v.extent).0

  pub indexed : Indexed m w d' (log_of m.journal)
  unfolding state_of
  indexed =
      let i = v.means met in
      record { logged = extent_formed m v.extent; sound = i.sound; index = i.index; places = i.places }

  pub followed : Followed want m d' (log_of m.journal) f'
  unfolding state_of
  followed = let i = v.means met in record { holds = i.holds; origins = i.origins }

-- ---- the next order

module _ {m : Memory} {w : JournalExtent} {d : List ℕ} {os : List (List ℕ)} (i : Indexed m w d os) (s : List ℕ) where
  -- one more that is accepted: what is established stands again
  pub indexed_more : Bytes s → plan_number (plan_of d s) ≡ 0 → w.count ≤ 127 → w.end + length s ≤ journal_length
      → Indexed (with_journal m (splice (splice m.journal w.end s) 0 (bytes_of 2 (w.count + 1)))) (record { count = w.count + 1; end = w.end + length s })
      (index_after d s) (os ++ (s ∷ []))
  unfolding run
  indexed_more bytes z few room =
      let now = run (marked_in m) os in
      record {
        logged = logged_more i.logged s (sym (number_on_lem now d s i.index bytes i.sound) ∙ z) few room;
        sound = plan_sound d s i.sound bytes;
        index = index_on now d s i.index bytes i.sound ∙ ap (λ (t : Table). t.index) (sym (run_append (marked_in m) os (s ∷ [])));
        places = places_kept d s i.sound bytes ∙ i.places;
      }
