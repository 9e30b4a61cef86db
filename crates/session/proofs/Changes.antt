-- Emptying, a checkpoint and an undo: what each answers, and the log that it leaves. Assumes nothing.
use mathlib.Core.Path.{◌≡◌, refl, sym, ap, ◌∙◌}
use mathlib.Core.Bool.{Bool, true, false}
use mathlib.Core.List.{List, []}
use Prim.Native.Nat.{ℕ, ◌-◌, ◌≤◌, ◌<◌}
use native.Mathlib.Omega.{arith}
use lib.Dec.{ltb}
use lib.ListN.{length, take, drop}
use borrow.Author.Tests.{lt-ltb, le-ltb}
use Rattle.wire.specs.Numbers.{bytes_of}
use Rattle.wire.specs.Parts.{splice}
use Rattle.wire.proofs.Numbers.{length_bytes}
use Rattle.wire.proofs.Parts.{drop_splice}
use Rattle.places.specs.Memory.{places_of}
use Rattle.store.specs.Store.{places_in}
use Rattle.table.specs.Table.{Table, emptied}
use Rattle.table.specs.Memory.{fixed_by, decode, sound_table}
use Rattle.table.specs.Outcome.{StoreKept, PastKept, Emptied}
use Rattle.table.proofs.Past.{same_store}
use Rattle.table.proofs.Changed.{as_many_places}
use Rattle.journal.specs.declared.JournalExtent.{JournalExtent}
use Rattle.journal.specs.Limits.{journal_length, most_orders, log_start}
use Rattle.journal.specs.State.{run}
use Rattle.journal.specs.Journal.{end_from, within_from}
use Rattle.journal.specs.View.{Memory, memory, too_short, well_formed, formed, view_of}
use Rattle.journal.specs.Replay.{Applied}
use Rattle.journal.proofs.Logged.{LongIn, Logged, marked_in, with_journal, logged_none, logged_take, logged_within, logged_orders, logged_low, logged_high, past_counted}
use Rattle.journal.proofs.Front.{past_kept, FiguresKept, figures_kept}
use Rattle.session.specs.declared.Reply.{Reply}
use Rattle.session.specs.Mark.{MarkSet}
use Rattle.session.specs.Calls.{Call, reset, checkpoint, undo, nothing, refuse, grant, answer, next, answer_view, next_view}
use Rattle.session.specs.Outcome.{plain, replied, size_for, bytes_for, reply_of, CallOutcome}
use Rattle.session.proofs.Outcomes.{answer_in, next_in, refused_in, granted}

-- ---- a table with its figures, and no orders after it

module _ (m : Memory) (l : LongIn m) {x b : List ℕ} (same-x : length x ≡ length m.index) (same-b : length b ≡ length m.bodies) {y j : List ℕ}
    {r : Reply} (set : MarkSet x b m.journal r y j) where
  -- its figures stand behind its index
  kept : FiguresKept x b y
  kept = figures_kept x b (omega (arith, same-x, l.index)) set.bytes set.index

  -- with the table t at the mark
  restarted : (c : Call) {t : Table} {p : List (List ℕ)} → size_for c nothing ≡ 0 → bytes_for c nothing ≡ [] → decode x b p ≡ t
      → sound_table x b (places_in p) ≡ true → PastKept m.index m.bodies x b → StoreKept (places_of m.index) m.store p
      → answer_view c (view_of m) ≡ grant [] nothing → next_view c (view_of m) ≡ formed (record { marked = t; log = [] })
      → CallOutcome (plain c) m (replied r) (memory y b p j)
  restarted c {t = t} {p = p} room none table sound past store a n =
      let n' = length_bytes 2 0 in
      let same = as_many_places store in
      let parts : LongIn (memory y b p m.journal) =
      record { index = omega (arith, kept.long, same-x, l.index); bodies = omega (arith, same-b, l.bodies); places = omega (arith, same, l.places); journal = l.journal } in
      let log : Logged (memory y b p j) (record { count = 0; end = log_start }) [] =
      rw set.journal (logged_none y b p m.journal parts (kept.sound (places_in p) sound) kept.figures) in
      granted c room none log a (n ∙ ap (λ (t : Table). formed (record { marked = t; log = [] })) (sym (kept.table p ∙ table))) set.reply
      (record {
        index = kept.past ∙ past_kept past;
        bodies = past.bodies;
        store = store;
        journal = ap (drop journal_length) set.journal ∙ drop_splice m.journal 0 (bytes_of 2 0) (omega (arith, l.journal)) journal_length (omega arith);
      })

  pub reset_granted : {lent : ℕ} → places_in m.store ≡ lent → too_short m ≡ false → Emptied m.index m.bodies lent x b
      → CallOutcome (plain (reset lent)) m (replied r) (memory y b m.store j)
  reset_granted {lent = lent} is t e =
      restarted (reset lent) refl refl (e.table m.store) (ap (sound_table x b) is ∙ e.sound) e.past (same_store (places_of m.index) m.store)
      (reset-answers t).0 (reset-answers t).1
    where
      reset-answers : too_short m ≡ false
          → (answer_view (reset lent) (view_of m) ≡ grant [] nothing) × (next_view (reset lent) (view_of m) ≡ formed (record { marked = emptied (fixed_by lent); log = [] }))
      reset-answers t = go (well_formed m) refl
        where
          go : (w : Bool) → well_formed m ≡ w
              → (answer_view (reset lent) (view_of m) ≡ grant [] nothing) × (next_view (reset lent) (view_of m) ≡ formed (record { marked = emptied (fixed_by lent); log = [] }))
          go true w = (unfold view_of answer_view answer in rw (t, w), unfold view_of next_view next in rw (t, w))
          go false w = (unfold view_of answer_view in rw (t, w), unfold view_of next_view in rw (t, w))

  pub checkpoint_granted : {w : JournalExtent} {os : List (List ℕ)} {p : List (List ℕ)} → Logged m w os
      → Applied m.index m.bodies m.store m.journal w.count x b p → CallOutcome (plain checkpoint) m (replied r) (memory y b p j)
  unfolding answer next
  checkpoint_granted g a =
      restarted checkpoint refl refl (a.table ∙ ap (run (marked_in m)) (logged_orders g)) a.sound a.past a.store (answer_in g checkpoint) (next_in g checkpoint)

-- ---- fewer orders

module _ {m : Memory} {w : JournalExtent} {os : List (List ℕ)} (l : Logged m w os) where
  -- what applying all of them asks, and finding the end of the first n
  pub apply_asks : (sound_table m.index m.bodies (places_in m.store) ≡ true) × ((journal_length ≤ length m.journal) × (within_from w.count log_start m.journal ≡ true))
  apply_asks = (l.sound, (l.long.journal, logged_within l w.count (omega arith)))

  pub end_asks : (n : ℕ) → n ≤ w.count → (n ≤ most_orders) × (within_from n log_start m.journal ≡ true)
  end_asks n h = (omega (arith, l.few), logged_within l n h)

  module _ (k : ℕ) where
    -- 13
    pub undo_refused : {r : Reply} → w.count < k → r ≡ reply_of (refuse 13) → CallOutcome (plain (undo k)) m (replied r) m
    unfolding answer next
    undo_refused h e =
        let x = lt-ltb (length os) k (omega (arith, l.many)) in
        refused_in l (plain (undo k)) 13 (λ z. omega (arith, z)) (rw x) (rw x) e

    module _ (some : k ≤ w.count) {e : ℕ} (is : e ≡ end_from (w.count - k) log_start m.journal) where
      left : Logged (with_journal m (splice m.journal 0 (bytes_of 2 (w.count - k)))) (record { count = w.count - k; end = e }) (take (w.count - k) os)
      left = logged_take l (w.count - k) e (omega arith) is

      -- what a grant asks
      pub undo_asks : (w.count - k ≤ most_orders) × (log_start ≤ e) × (e ≤ journal_length)
      undo_asks = (left.few, logged_low left, logged_high left)

      pub undo_granted : {j : List ℕ} {r : Reply} → j ≡ splice m.journal 0 (bytes_of 2 (w.count - k))
          → r ≡ record { number = 0; count = w.count - k; bytes = e - log_start } → CallOutcome (plain (undo k)) m (replied r) (with_journal m j)
      unfolding answer next
      undo_granted put f =
          let x : ltb (length os) k ≡ false = le-ltb (length os) k (omega (arith, l.many)) in
          let n : length os - k ≡ w.count - k = omega (arith, l.many) in
          rw put
          (granted (undo k) refl refl left (answer_in l (undo k) ∙ rw (x, n)) (next_in l (undo k) ∙ rw (x, n)) f
          (past_counted l (w.count - k)))
