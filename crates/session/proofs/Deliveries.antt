-- A delivery on what a validation established: its number is the definition's, and what was established stands again. Assumes
-- nothing.
use mathlib.Core.Path.{◌≡◌, refl, sym, ap, ◌∙◌}
use mathlib.Core.Bool.{Bool, true, false, not}
use mathlib.Core.List.{List, [], ◌∷◌, ◌++◌}
use Prim.Native.Nat.{ℕ, ◌+◌, ◌-◌, ◌≤◌}
use native.Mathlib.Omega.{arith}
use lib.Dec.{eqb, ltb}
use lib.ListN.{length}
use borrow.Author.Tests.{eqb-true, ne_eqb, ltb-false}
use Rattle.wire.specs.Tests.{pick, either}
use Rattle.wire.proofs.Numbers.{Bytes}
use Rattle.index.specs.declared.Plan.{Plan}
use Rattle.index.specs.declared.Plan.TheVariants.{ChangeRecord, ChangeDesktop, Refuse}
use Rattle.places.specs.Held.{HeldBelow}
use Rattle.index.specs.declared.Stepped.{Stepped}
use Rattle.index.specs.Plans.{plan_of, plan_number}
use Rattle.index.specs.Changes.{applied_of}
use Rattle.index.specs.Steps.{step_number, step_of, stepped_of}
use Rattle.table.specs.Table.{number}
use Rattle.journal.specs.declared.JournalExtent.{JournalExtent}
use Rattle.journal.specs.Limits.{most_orders, most_bytes, log_start, journal_length}
use Rattle.journal.specs.State.{run}
use Rattle.journal.specs.View.{Memory, formed}
use Rattle.journal.specs.Replay.{index_after}
use Rattle.journal.proofs.Logged.{Logged, marked_in, with_journal, logged_low, logged_high, logged_bytes, logged_more, past_more}
use Rattle.journal.proofs.Replays.{number_on_lem}
use Rattle.journal.proofs.Indexed.{Indexed, indexed_more}
use Rattle.session.specs.declared.Reply.{Reply}
use Rattle.session.specs.Calls.{deliver, nothing, refuse, grant, over_full, answer, next}
use Rattle.session.specs.Outcome.{plain, replied, reply_of, CallOutcome}
use Rattle.session.specs.Delivery.{Ready, is_full, number_on, appended, one_more, DeliveredOn}
use Rattle.session.proofs.Outcomes.{state_in, answer_in, next_in, refused_in, granted}
use Rattle.wire.proofs.Tests.{neither}

-- ---- the ways through the code

-- the number of a step
number_is : (d s : List ℕ) (w : JournalExtent) {r : Stepped} → r ≡ step_of (is_full w s) (plan_of d s) → r.number ≡ number_on d w s
unfolding number_on
number_is d s w says = ap (λ (r : Stepped). r.number) says

-- 0: accepted, and not full
zero_has : (d : List ℕ) (w : JournalExtent) (s : List ℕ) → number_on d w s ≡ 0 → (plan_number (plan_of d s) ≡ 0) × (is_full w s ≡ false)
unfolding number_on step_number
zero_has d w s = go (eqb (plan_number (plan_of d s)) 0) (is_full w s) refl refl
  where
    go : (x f : Bool) → eqb (plan_number (plan_of d s)) 0 ≡ x → is_full w s ≡ f → pick x (pick f 12 0) (plan_number (plan_of d s)) ≡ 0
        → (plan_number (plan_of d s) ≡ 0) × (is_full w s ≡ false)
    go true true e g h = absurd (omega (arith, h))
    go true false e g h = (eqb-true (plan_number (plan_of d s)) 0 e, g)
    go false f e g h = absurd (clash (sym (ap (λ (k : ℕ). eqb k 0) h) ∙ e))
      where
        clash : ◌≡◌ {A = Bool} true false → ⊥
        clash e = let z : ◌≡◌ {A = ℕ} 0 1 = cc in omega arith

-- the index after a step, by the step's number
stepped_is : (full : Bool) (x : List ℕ) (p : Plan) → stepped_of full x p ≡ pick (eqb (step_number full p) 0) (applied_of x p) x
unfolding stepped_of step_number applied_of
stepped_is true x (ChangeRecord c) = refl
stepped_is false x (ChangeRecord c) = refl
stepped_is true x (ChangeDesktop flags) = refl
stepped_is false x (ChangeDesktop flags) = refl
stepped_is full x (Refuse n) = same full ∙ sym (same (eqb (step_number full (Refuse n)) 0))
  where
    same : (b : Bool) → pick b x x ≡ x
    same true = refl
    same false = refl

room_has : (w : JournalExtent) (s : List ℕ) → log_start ≤ w.end → is_full w s ≡ false → (w.count + 1 ≤ most_orders) × (w.end + length s ≤ journal_length)
room_has w s low h =
    let x = neither (ltb most_orders (w.count + 1)) (ltb most_bytes (w.end - log_start + length s)) h in
    let a = ltb-false most_orders (w.count + 1) x.0 in
    let b = ltb-false most_bytes (w.end - log_start + length s) x.1 in
    (omega arith, omega arith)

module _ (d j s : List ℕ) (w : JournalExtent) {r : Stepped} (says : r ≡ step_of (is_full w s) (plan_of d s)) where
  numbered : r.number ≡ number_on d w s
  numbered = number_is d s w says

  pub granted_room : log_start ≤ w.end → r.number ≡ 0 → (w.count + 1 ≤ most_orders) × (w.end + length s ≤ journal_length)
  granted_room low zero = room_has w s low (zero_has d w s (sym numbered ∙ zero)).1

  module _ {d' : List ℕ} (makes : d' ≡ stepped_of (is_full w s) d (plan_of d s)) (holds : HeldBelow d' r.held) where
    stepped : {j' : List ℕ} → j' ≡ pick (eqb (number_on d w s) 0) (appended j w s) j → DeliveredOn d j s w r d' j'
    unfolding number_on
    stepped e =
        record {
          number = numbered;
          slot = ap (λ (r : Stepped). r.slot) says;
          held = ap (λ (r : Stepped). r.held) says;
          holds = holds;
          index = makes ∙ stepped_is (is_full w s) d (plan_of d s);
          journal = e;
        }

    pub on_refused : (r.number ≡ 0 → ⊥) → DeliveredOn d j s w r d' j
    on_refused h = stepped (rw (ne_eqb (number_on d w s) 0 (λ z. h (numbered ∙ z))))

    pub on_granted : r.number ≡ 0 → {j' : List ℕ} → j' ≡ appended j w s → DeliveredOn d j s w r d' j'
    on_granted zero e = stepped (e ∙ rw (sym numbered ∙ zero))

-- ---- the outcome

pub ready : {m : Memory} {w : JournalExtent} {d : List ℕ} {os : List (List ℕ)} → Indexed m w d os → Ready d m.journal w
ready i = let l = i.logged in record { sound = i.sound; few = l.few; low = logged_low l; high = logged_high l; long = l.long.journal }

module _ {m : Memory} {w : JournalExtent} {d : List ℕ} {os : List (List ℕ)} (i : Indexed m w d os) (s : List ℕ) (bytes : Bytes s) where
  judged_is : number (run (marked_in m) os) s ≡ plan_number (plan_of d s)
  judged_is = sym (number_on_lem (run (marked_in m) os) d s i.index bytes i.sound)

  full_is : over_full os s ≡ is_full w s
  full_is = rw (i.logged.many, logged_bytes i.logged)

  pub answers : answer (deliver s) (state_in m os) ≡ pick (eqb (number_on d w s) 0) (grant (os ++ (s ∷ [])) nothing) (refuse (number_on d w s))
  unfolding answer number_on step_number
  answers = rw (judged_is, full_is) (go (eqb (plan_number (plan_of d s)) 0) (is_full w s) refl)
    where
      go : (x f : Bool) → eqb (plan_number (plan_of d s)) 0 ≡ x
          → pick (not x) (refuse (plan_number (plan_of d s))) (pick f (refuse 12) (grant (os ++ (s ∷ [])) nothing))
          ≡ pick (eqb (pick x (pick f 12 0) (plan_number (plan_of d s))) 0) (grant (os ++ (s ∷ [])) nothing) (refuse (pick x (pick f 12 0) (plan_number (plan_of d s))))
      go true true e = refl
      go true false e = refl
      go false f e = rw e

  pub changes : next (deliver s) (state_in m os) ≡ pick (eqb (number_on d w s) 0) (state_in m (os ++ (s ∷ []))) (state_in m os)
  unfolding next number_on step_number
  changes = rw (judged_is, full_is) (go (eqb (plan_number (plan_of d s)) 0) (is_full w s) refl)
    where
      go : (x f : Bool) → eqb (plan_number (plan_of d s)) 0 ≡ x
          → pick (either (not x) f) (state_in m os) (state_in m (os ++ (s ∷ [])))
          ≡ pick (eqb (pick x (pick f 12 0) (plan_number (plan_of d s))) 0) (state_in m (os ++ (s ∷ []))) (state_in m os)
      go true true e = refl
      go true false e = refl
      go false f e = rw e

  module _ {r : Stepped} {d' j' : List ℕ} (done : DeliveredOn d m.journal s w r d' j') where
    pub delivery_refused : {reply : Reply} → (r.number ≡ 0 → ⊥) → reply ≡ reply_of (refuse r.number) → CallOutcome (plain (deliver s)) m (replied reply) (with_journal m j')
    delivery_refused h e =
        let z : eqb (number_on d w s) 0 ≡ false = ne_eqb (number_on d w s) 0 (λ k. h (done.number ∙ k)) in
        let j : j' ≡ m.journal = done.journal ∙ rw z in
        rw j (refused_in i.logged (plain (deliver s)) r.number h (answers ∙ rw (z, ← done.number)) (changes ∙ rw z) e)

    module _ (zero : r.number ≡ 0) where
      number-zero : number_on d w s ≡ 0
      number-zero = sym done.number ∙ zero

      fits : (w.count + 1 ≤ most_orders) × (w.end + length s ≤ journal_length)
      fits = room_has w s (logged_low i.logged) (zero_has d w s number-zero).1

      appended_is : j' ≡ appended m.journal w s
      appended_is = done.journal ∙ rw number-zero

      new : Logged (with_journal m (appended m.journal w s)) (one_more w s) (os ++ (s ∷ []))
      new = logged_more i.logged s (judged_is ∙ (zero_has d w s number-zero).0) (omega (arith, fits.0)) fits.1

      -- what a grant asks
      pub delivery_asks : (w.count + 1 ≤ most_orders) × (log_start ≤ w.end + length s) × (w.end + length s ≤ journal_length)
      delivery_asks = (new.few, logged_low new, logged_high new)

      pub delivery_granted : {reply : Reply} → reply ≡ record { number = 0; count = w.count + 1; bytes = w.end + length s - log_start }
          → CallOutcome (plain (deliver s)) m (replied reply) (with_journal m j')
      delivery_granted e =
          rw appended_is
          (granted (deliver s) refl refl new (answer_in i.logged (deliver s) ∙ answers ∙ rw number-zero) (next_in i.logged (deliver s) ∙ ap formed changes ∙ rw number-zero)
          e
          (past_more i.logged s fits.1))

      -- the next order is judged on what this one leaves
      pub delivery_again : Indexed (with_journal m j') (one_more w s) d' (os ++ (s ∷ []))
      delivery_again =
          let x : d' ≡ index_after d s = done.index ∙ rw number-zero in
          rw (appended_is, x) (indexed_more i s bytes (zero_has d w s number-zero).0 (omega (arith, fits.0)) fits.1)
