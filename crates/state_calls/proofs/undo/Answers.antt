-- 1 where the rule is not met, 13 where fewer orders stand; else the count of the orders left.
use Rattle.std.proofs.Common.{ℕ, ◌-◌, ◌≡◌, List, arith, refl}
use Rattle.store.specs.Store.{places_in}
use Rattle.journal.specs.View.{Memory, memory}
use Rattle.journal.specs.Journal.{log_of}
use Rattle.session.specs.Calls.{undo}
use Rattle.session.specs.Outcome.{plain}
use Rattle.session.proofs.Outcomes.{refused_unmet}
use Rattle.session.proofs.Lent.{a_store, a_store_lends}
use Rattle.journal.proofs.Logged.{Logged, extent_unmet}
use Rattle.session.proofs.Standing.{extent_stands, stands_logged}
use Rattle.session.proofs.Changes.{end_asks, undo_refused, undo_asks, undo_granted}
use Rattle.state_calls.proofs.undo.Goals as goal

pub returns-in_default : goal.returns-in_default
returns-in_default c p is =
    let mem : List (List ℕ) → Memory = (λ p. memory c.args.index.now c.args.bodies.now p c.args.journal.now) in
    refused_unmet (plain (undo c.args.k)) (mem p) refl (extent_unmet (mem p) (c.in_default.ensures p is)) c.refused.ensures

pub returns-then-w-k : goal.returns-then-w-k
returns-then-w-k c p is =
    let mem : List (List ℕ) → Memory = (λ p. memory c.args.index.now c.args.bodies.now p c.args.journal.now) in
    let logged_in : (p : List (List ℕ)) → places_in p ≡ c.args.lent → Logged (mem p) c.in-Some.w (log_of c.args.journal.now) = (λ p is. stands_logged (extent_stands (mem p) (c.in-Some.ensures p is))) in
    undo_refused (logged_in p is) c.args.k c.if-w-k.true c.refused-then-w-k.ensures

pub end_of-end-requires : goal.end_of-end-requires
end_of-end-requires c =
    let mem : List (List ℕ) → Memory = (λ p. memory c.args.index.now c.args.bodies.now p c.args.journal.now) in
    let logged_in : (p : List (List ℕ)) → places_in p ≡ c.args.lent → Logged (mem p) c.in-Some.w (log_of c.args.journal.now) = (λ p is. stands_logged (extent_stands (mem p) (c.in-Some.ensures p is))) in
    let logged_any : Logged (mem (a_store c.args.lent)) c.in-Some.w (log_of c.args.journal.now) = (logged_in (a_store c.args.lent) (a_store_lends c.args.lent)) in
    end_asks (logged_any) (c.in-Some.w.count - c.args.k) (omega arith)

pub overflow_cast-count : goal.overflow_cast-count
overflow_cast-count c =
    let mem : List (List ℕ) → Memory = (λ p. memory c.args.index.now c.args.bodies.now p c.args.journal.now) in
    let logged_in : (p : List (List ℕ)) → places_in p ≡ c.args.lent → Logged (mem p) c.in-Some.w (log_of c.args.journal.now) = (λ p is. stands_logged (extent_stands (mem p) (c.in-Some.ensures p is))) in
    let logged_any : Logged (mem (a_store c.args.lent)) c.in-Some.w (log_of c.args.journal.now) = (logged_in (a_store c.args.lent) (a_store_lends c.args.lent)) in
    omega (arith, (logged_any).few)

pub write_u16-requires : goal.write_u16-requires
write_u16-requires c =
    let mem : List (List ℕ) → Memory = (λ p. memory c.args.index.now c.args.bodies.now p c.args.journal.now) in
    let logged_in : (p : List (List ℕ)) → places_in p ≡ c.args.lent → Logged (mem p) c.in-Some.w (log_of c.args.journal.now) = (λ p is. stands_logged (extent_stands (mem p) (c.in-Some.ensures p is))) in
    let logged_any : Logged (mem (a_store c.args.lent)) c.in-Some.w (log_of c.args.journal.now) = (logged_in (a_store c.args.lent) (a_store_lends c.args.lent)) in
    omega (arith, (logged_any).long.journal)

pub granted-requires : goal.granted-requires
granted-requires c =
    let mem : List (List ℕ) → Memory = (λ p. memory c.args.index.now c.args.bodies.now p c.args.journal.now) in
    let logged_in : (p : List (List ℕ)) → places_in p ≡ c.args.lent → Logged (mem p) c.in-Some.w (log_of c.args.journal.now) = (λ p is. stands_logged (extent_stands (mem p) (c.in-Some.ensures p is))) in
    let logged_any : Logged (mem (a_store c.args.lent)) c.in-Some.w (log_of c.args.journal.now) = (logged_in (a_store c.args.lent) (a_store_lends c.args.lent)) in
    undo_asks (logged_any) c.args.k c.if-w-k.false c.end_of-end.ensures.0

pub returns : goal.returns
returns c p is =
    let mem : List (List ℕ) → Memory = (λ p. memory c.args.index.now c.args.bodies.now p c.args.journal.now) in
    let logged_in : (p : List (List ℕ)) → places_in p ≡ c.args.lent → Logged (mem p) c.in-Some.w (log_of c.args.journal.now) = (λ p is. stands_logged (extent_stands (mem p) (c.in-Some.ensures p is))) in
    undo_granted (logged_in p is) c.args.k c.if-w-k.false c.end_of-end.ensures.0
    c.write_u16.ensures c.granted.ensures
