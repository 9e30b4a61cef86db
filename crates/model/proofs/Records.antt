-- The bodies of a session record delivered again. Assumes nothing.
use Prim.Native.Nat.{ℕ, zero, suc, ◌+◌, ◌≤◌}
use mathlib.Core.Path.{◌≡◌, refl, sym, ap, ap₂, subst, ◌∙◌}
use mathlib.Core.Bool.{Bool, true, false, not}
use mathlib.Core.List.{List, [], ◌∷◌, ◌++◌, append_assoc, append-nil}
use native.Mathlib.Omega.{arith}
use lib.Dec.{eqb, ltb}
use lib.ListN.{length, take, replicate, length-append}
use borrow.Author.Tests.{le-ltb, ltb-false}
use Rattle.wire.specs.Tests.{pick, either}
use Rattle.wire.specs.Parts.{slice, splice}
use Rattle.wire.proofs.Tests.{both_left, both_right, never}
use Rattle.wire.proofs.Parts.{slice_splice}
use Rattle.table.specs.Table.{Table, number, after}
use Rattle.journal.specs.Limits.{most_orders, most_bytes}
use Rattle.journal.specs.State.{State, run, present, bytes_in, all_accepted}
use Rattle.journal.specs.View.{Memory, View, short, unformed, formed, view_of}
use Rattle.journal.proofs.Runs.{run_append, bytes_append, accepted_first, accepted_rest}
use Rattle.record.specs.Layout.{head_of, record_of}
use Rattle.record.specs.Reading.{bodies_of}
use Rattle.record.proofs.RoundTrip.{length_record, written_back}
use Rattle.session.specs.Calls.{Call, reset, deliver, checkpoint, undo, look, write_record, nothing, orders, refuse, grant, over_full, answer, next, answer_view, next_view}
use Rattle.session.specs.Outcome.{plain, record_to, Response, session_record, answer_within, out_after_of, response_of, CallOutcome}
use Rattle.update.specs.Update.{orders_of, stopped, granted_first, deliver_all}
use Rattle.update.specs.Outcome.{next_on}
use Rattle.model.specs.Updates.{Step, Said}
use Rattle.model.specs.Claim.{Calls, none, more, more_at_once}
use Rattle.model.specs.Wellformed.{OneState, OnlyMeets}
use Rattle.model.specs.Records.{AtMark, MarksHere, keeps_mark, all_keep_mark, written_by, in_turn, numbers_of, RecordReplays, RecordLosesNothing}
use Rattle.model.proofs.Demand3.{moved, emptied_view}
use Rattle.model.proofs.Wellformed.{one_state, only_meets, reset_long}

abbrev at : Table → List (List ℕ) → State
at t os = record { marked = t; log = os }

-- ---- calls that keep the mark

picked : (b : Bool) (s : State) (os : List (List ℕ)) → (pick b s (at s.marked os)).marked ≡ s.marked
picked true s os = refl
picked false s os = refl

kept_mark : (c : Call) (s : State) → keeps_mark c ≡ true → (next c s).marked ≡ s.marked
unfolding next
kept_mark (reset n) s e = never e
kept_mark (deliver o) s e = picked (either (not (eqb (number (present s) o) 0)) (over_full s.log o)) s (s.log ++ (o ∷ []))
kept_mark checkpoint s e = never e
kept_mark (undo k) s e = picked (ltb (length s.log) k) s _
kept_mark (look target) s e = refl
kept_mark write_record s e = refl

-- memory describes a state with the table t at its mark
record From (t : Table) (m : Memory) : Type 0 where
  log : List (List ℕ)
  described : view_of m ≡ formed (at t log)

from_state : {t : Table} {m : Memory} (s : State) → view_of m ≡ formed s → s.marked ≡ t → From t m
from_state s v e = record { log = s.log; described = v ∙ ap formed (ap (λ (x : Table). at x s.log) e) }

-- deliveries of an update
kept_all : (limit : ℕ) (os : List (List ℕ)) (s : State) → (deliver_all limit os s).state.marked ≡ s.marked
unfolding deliver_all
kept_all zero os s = refl
kept_all (suc limit) [] s = refl
kept_all (suc limit) (o ∷ os) s = go (eqb (answer (deliver o) s).number 0) (kept_all limit os (next (deliver o) s))
  where
    first : (next (deliver o) s).marked ≡ s.marked
    first = kept_mark (deliver o) s refl

    go : (b : Bool) → (deliver_all limit os (next (deliver o) s)).state.marked ≡ (next (deliver o) s).marked → (pick b (granted_first o (deliver_all limit os (next (deliver o) s))) (stopped (answer (deliver o) s).number (next (deliver o) s))).state.marked ≡ s.marked
    go true e = e ∙ first
    go false e = first

moved_all : (limit : ℕ) (s : List ℕ) (st : State) → next_on limit s (formed st) ≡ formed (deliver_all limit (orders_of s) st).state
unfolding next_on
moved_all limit s st = refl

from_mark_lem : {t : Table} {n m : Memory} {xs : List Step} {ys : List Said} → From t n → Calls n xs ys m → all_keep_mark xs ≡ true → From t m
unfolding all_keep_mark
from_mark_lem f none e = f
from_mark_lem {t = t} f (more {q = q} {xs = xs} o k) e =
    let c = q.call in
    let s = at t f.log in
    from_mark_lem (from_state (next c s) (o.holds ∙ ap (next_view c) f.described ∙ moved c s) (kept_mark c s (both_left (keeps_mark c) (all_keep_mark xs) e))) k
    (both_right (keeps_mark c) (all_keep_mark xs) e)
from_mark_lem {t = t} f (more_at_once {limit = limit} {s = u} o k) e =
    let s = at t f.log in
    from_mark_lem
    (from_state (deliver_all limit (orders_of u) s).state (o.holds ∙ ap (next_on limit u) f.described ∙ moved_all limit u s) (kept_all limit (orders_of u) s)) k e

-- ---- orders delivered in turn

module _ (t : Table) where
  -- each is granted where they are accepted in turn and fit the room
  module _ (os : List (List ℕ)) (o : List ℕ) (accepted : number (run t os) o ≡ 0) (few : length os + 1 ≤ most_orders) (small : bytes_in os + length o ≤ most_bytes) where
    not_full : over_full os o ≡ false
    not_full = rw (le-ltb most_orders (length os + 1) few, le-ltb most_bytes (bytes_in os + length o) small)

    delivered : next (deliver o) (at t os) ≡ at t (os ++ (o ∷ []))
    unfolding next
    delivered = rw (accepted, not_full)

    grants : answer (deliver o) (at t os) ≡ grant (os ++ (o ∷ [])) nothing
    unfolding answer
    grants = rw (accepted, not_full)

    granted-number : (response_of (plain (deliver o)) (answer_view (deliver o) (formed (at t os)))).reply.number ≡ 0
    unfolding answer_view response_of answer_within
    granted-number = rw grants

  delivered_all : (bs : List (List ℕ)) {n e : Memory} {ys : List Said} (os : List (List ℕ)) → view_of n ≡ formed (at t os) → all_accepted (run t os) bs ≡ true
      → length os + length bs ≤ most_orders → bytes_in os + bytes_in bs ≤ most_bytes → Calls n (in_turn bs) ys e
      → (numbers_of ys ≡ replicate (length ys) 0) × (view_of e ≡ formed (at t (os ++ bs)))
  unfolding numbers_of
  delivered_all [] os v a few small none = (refl, v ∙ ap (λ (l : List (List ℕ)). formed (at t l)) (sym (append-nil os)))
  delivered_all (b ∷ bs) {n = m} os v a few small (more {n = n} {r = r} o k) =
      let accepted = accepted_first (run t os) b bs a in
      let small₁ : bytes_in os + (length b + bytes_in bs) ≤ most_bytes = unfold bytes_in in small in
      let few₁ : length os + 1 ≤ most_orders = omega (arith, few) in
      let small₂ : bytes_in os + length b ≤ most_bytes = omega (arith, small₁) in
      let v₁ : view_of n ≡ formed (at t (os ++ (b ∷ []))) =
      o.holds ∙ ap (next_view (deliver b)) v ∙ moved (deliver b) (at t os) ∙ ap formed (delivered os b accepted few₁ small₂) in
      let n₁ : r.reply.number ≡ 0 =
      ap (λ (x : Response). x.reply.number) o.says ∙ ap (λ (x : View). (response_of (plain (deliver b)) (answer_view (deliver b) x)).reply.number) v
      ∙ granted-number os b accepted few₁ small₂ in
      let ran : run t (os ++ (b ∷ [])) ≡ after (run t os) b = run_append t os (b ∷ []) ∙ (unfold run in refl) in
      let l = length-append os (b ∷ []) in
      let y = bytes_append os (b ∷ []) in
      let z : bytes_in (b ∷ []) ≡ length b + 0 = unfold bytes_in in refl in
      let rest =
      delivered_all bs (os ++ (b ∷ [])) v₁ (rw ran (accepted_rest (run t os) b bs a)) (omega (arith, l, few)) (omega (arith, y, z, small₁)) k in
      (ap₂ ◌∷◌ n₁ rest.0, rest.1 ∙ ap (λ (l : List (List ℕ)). formed (at t l)) (append_assoc os (b ∷ []) bs))

  -- from the mark on
  delivered_first : (bs : List (List ℕ)) {n e : Memory} {ys : List Said} → view_of n ≡ formed (at t []) → all_accepted t bs ≡ true → length bs ≤ most_orders
      → bytes_in bs ≤ most_bytes → Calls n (in_turn bs) ys e
      → (numbers_of ys ≡ replicate (length ys) 0) × (view_of e ≡ formed (at t bs))
  unfolding run bytes_in
  delivered_first bs v a few small k = delivered_all bs [] v a (omega (arith, few)) (omega (arith, small)) k

-- ---- the record that is written

-- what a granted call wrote is the record of the orders since the mark
module _ (out : List ℕ) (os : List (List ℕ)) {r : Response} (says : r ≡ response_of (record_to out) (grant os (orders os))) where
  fits : r.reply.number ≡ 0 → length (record_of os) ≤ length out
  unfolding response_of answer_within session_record
  fits e = go (ltb (length out) (length (record_of os))) refl
    where
      go : (b : Bool) → ltb (length out) (length (record_of os)) ≡ b → length (record_of os) ≤ length out
      go false x = ltb-false (length out) (length (record_of os)) x
      go true x = let z : ◌≡◌ {A = ℕ} 14 0 = sym (ap (λ (y : Response). y.reply.number) says ∙ rw x) ∙ e in absurd (omega (arith, z))

  reply_is : r.reply.number ≡ 0 → (r.reply.count ≡ length os) × (r.reply.bytes ≡ bytes_in os) × (r.out ≡ splice out 0 (record_of os))
  unfolding response_of answer_within out_after_of session_record
  reply_is e =
      let x : ltb (length out) (length (record_of os)) ≡ false = le-ltb (length out) (length (record_of os)) (fits e) in (
        ap (λ (y : Response). y.reply.count) says ∙ rw x,
        ap (λ (y : Response). y.reply.bytes) says ∙ rw x,
        ap (λ (y : Response). y.out) says ∙ rw x,
      )

  written_is : r.reply.number ≡ 0 → written_by r ≡ record_of os
  unfolding slice
  written_is e =
      let p = reply_is e in
      let n : head_of r.reply.count + r.reply.bytes ≡ length (record_of os) = rw (p.0, p.1) (sym (length_record os)) in
      ap₂ take n p.2 ∙ slice_splice out 0 (record_of os) (omega (arith, fits e))

answers : {m : Memory} {r : Response} {m' : Memory} (out : List ℕ) (s : State) → view_of m ≡ formed s → CallOutcome (record_to out) m r m'
    → r ≡ response_of (record_to out) (grant s.log (orders s.log))
unfolding answer_view answer
answers out s v o = o.says ∙ ap (λ (x : View). response_of (record_to out) (answer_view write_record x)) v

pub record_replays : RecordReplays
unfolding RecordReplays OneState OnlyMeets
record_replays n m m' e xs ys ds out r a calls kept wrote granted again =
    let f = from_mark_lem (record { log = []; described = a.described }) calls kept in
    let s = at a.table f.log in
    let d = one_state m (only_meets m s f.described) in
    let is : s ≡ d.state = d.only s f.described in
    let few : length f.log ≤ most_orders = subst (λ (x : State). length x.log ≤ most_orders) (sym is) d.few in
    let small : bytes_in f.log ≤ most_bytes = subst (λ (x : State). bytes_in x.log ≤ most_bytes) (sym is) d.bytes in
    let accepted : all_accepted a.table f.log ≡ true = subst (λ (x : State). all_accepted x.marked x.log ≡ true) (sym is) d.accepted in
    let bodies : bodies_of (written_by r) ≡ f.log =
    ap bodies_of (written_is out f.log (answers out s f.described wrote) granted) ∙ (written_back f.log (record { few = few; small = small })).bodies in
    let k : Calls n (in_turn f.log) ds e = subst (λ (x : List (List ℕ)). Calls n (in_turn x) ds e) bodies again in
    let g = delivered_first a.table f.log a.described accepted few small k in
    record { numbers = g.0; holds = g.1 ∙ sym f.described }

-- ---- after a reset, and after a checkpoint

pub marks_here : MarksHere
unfolding MarksHere
marks_here k m n r granted = (λ o. reset-marks o, λ o. checkpoint-marks o)
  where
    reset-marks : CallOutcome (plain (reset k)) m r n → AtMark n
    reset-marks o = record { table = _; described = o.holds ∙ emptied_view k m (reset_long k m o.says granted) }

    refused-one : (v : View) → answer_view checkpoint v ≡ refuse 1 → view_of m ≡ v → CallOutcome (plain checkpoint) m r n → AtMark n
    refused-one v a e o =
        let x : r ≡ response_of (plain checkpoint) (refuse 1) = o.says ∙ ap (λ (y : View). response_of (plain checkpoint) (answer_view checkpoint y)) e ∙ ap (response_of (plain checkpoint)) a in
        let one : (response_of (plain checkpoint) (refuse 1)).reply.number ≡ 1 = unfold response_of answer_within in refl in
        let z : ◌≡◌ {A = ℕ} 1 0 = sym (ap (λ (y : Response). y.reply.number) x ∙ one) ∙ granted in
        absurd (omega (arith, z))

    checkpoint-marks : CallOutcome (plain checkpoint) m r n → AtMark n
    checkpoint-marks o = go (view_of m) refl
      where
        marked : (s : State) → next checkpoint s ≡ at (present s) []
        marked s = unfold next in refl

        go : (v : View) → view_of m ≡ v → AtMark n
        go short e = refused-one short (unfold answer_view in refl) e o
        go unformed e = refused-one unformed (unfold answer_view in refl) e o
        go (formed s) e =
            record { table = present s; described = o.holds ∙ ap (next_view checkpoint) e ∙ moved checkpoint s ∙ ap formed (marked s) }

-- ---- the record tells its orders

pub record_loses_nothing : RecordLosesNothing
unfolding RecordLosesNothing session_record
record_loses_nothing os os' l l' e = sym (written_back os l).bodies ∙ ap bodies_of e ∙ (written_back os' l').bodies
