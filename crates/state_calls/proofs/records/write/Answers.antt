-- 1 where the rule is not met, 14 where the output is too small; else the record of the orders that the journal holds.
use Rattle.std.proofs.Common.{ℕ, ◌≡◌, List, refl}
use Rattle.store.specs.Store.{places_in}
use Rattle.journal.specs.View.{Memory, memory}
use Rattle.journal.specs.Journal.{log_of}
use Rattle.session.specs.Outcome.{record_to}
use Rattle.session.proofs.Outcomes.{refused_unmet}
use Rattle.session.proofs.Lent.{a_store, a_store_lends}
use Rattle.journal.proofs.Logged.{Logged, logged_low, logged_high, extent_unmet}
use Rattle.session.proofs.Standing.{extent_stands, stands_logged}
use Rattle.session.proofs.Recorded.{record_asks, record_small, record_written}
use Rattle.state_calls.proofs.records.write.Goals as goal

pub returns-in_default : goal.returns-in_default
returns-in_default c p is =
    let mem : List (List ℕ) → Memory = (λ p. memory c.args.index.now c.args.bodies.now p c.args.journal.now) in
    refused_unmet (record_to c.args.out.now) (mem p) refl (extent_unmet (mem p) (c.in_default.ensures p is)) c.refused.ensures

pub write-requires : goal.write-requires
write-requires c =
    let mem : List (List ℕ) → Memory = (λ p. memory c.args.index.now c.args.bodies.now p c.args.journal.now) in
    let logged_in : (p : List (List ℕ)) → places_in p ≡ c.args.lent → Logged (mem p) c.in-Some.w (log_of c.args.journal.now) = (λ p is. stands_logged (extent_stands (mem p) (c.in-Some.ensures p is))) in
    let logged_any : Logged (mem (a_store c.args.lent)) c.in-Some.w (log_of c.args.journal.now) = (logged_in (a_store c.args.lent) (a_store_lends c.args.lent)) in
    record_asks (logged_any)

pub returns-then-not-write : goal.returns-then-not-write
returns-then-not-write c p is =
    let mem : List (List ℕ) → Memory = (λ p. memory c.args.index.now c.args.bodies.now p c.args.journal.now) in
    let logged_in : (p : List (List ℕ)) → places_in p ≡ c.args.lent → Logged (mem p) c.in-Some.w (log_of c.args.journal.now) = (λ p is. stands_logged (extent_stands (mem p) (c.in-Some.ensures p is))) in
    record_small (logged_in p is) c.args.out.now c.write.ensures.value c.write.ensures.out_after
    (c.if-not-write.true) c.refused-then-not-write.ensures

pub granted-requires : goal.granted-requires
granted-requires c =
    let mem : List (List ℕ) → Memory = (λ p. memory c.args.index.now c.args.bodies.now p c.args.journal.now) in
    let logged_in : (p : List (List ℕ)) → places_in p ≡ c.args.lent → Logged (mem p) c.in-Some.w (log_of c.args.journal.now) = (λ p is. stands_logged (extent_stands (mem p) (c.in-Some.ensures p is))) in
    let logged_any : Logged (mem (a_store c.args.lent)) c.in-Some.w (log_of c.args.journal.now) = (logged_in (a_store c.args.lent) (a_store_lends c.args.lent)) in
    let g = logged_any in
    (g.few, logged_low g, logged_high g)

pub returns : goal.returns
returns c p is =
    let mem : List (List ℕ) → Memory = (λ p. memory c.args.index.now c.args.bodies.now p c.args.journal.now) in
    let logged_in : (p : List (List ℕ)) → places_in p ≡ c.args.lent → Logged (mem p) c.in-Some.w (log_of c.args.journal.now) = (λ p is. stands_logged (extent_stands (mem p) (c.in-Some.ensures p is))) in
    record_written (logged_in p is) c.args.out.now c.write.ensures.value c.write.ensures.out_after
    (c.if-not-write.false) c.granted.ensures
