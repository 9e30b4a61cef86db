-- 1 where the rule is not met, 14 where the output is too small; else the figure that is stored for the table at the mark.
use Rattle.std.proofs.Common.{ℕ, ◌≡◌, List, arith, refl}
use Rattle.wire.proofs.Numbers.{Bytes}
use Rattle.store.specs.Store.{places_in}
use Rattle.journal.specs.Journal.{log_of}
use Rattle.journal.specs.View.{Memory, memory}
use Rattle.journal.proofs.Indexed.{unmet, indexed}
use Rattle.journal.proofs.Logged.{Logged, logged_low, logged_high}
use Rattle.session.proofs.Lent.{a_store, a_store_lends}
use Rattle.visible.proofs.OutcomeAnswers.{figure_unmet, figure_small, figure_given}
use Rattle.visible.proofs.at_mark.Goals as goal

pub extent-requires : goal.extent-requires
extent-requires c = refl

pub returns-in_default : goal.returns-in_default
returns-in_default c p is =
    let mem : List (List ℕ) → Memory = (λ p. memory c.args.index.now c.args.bodies.now p c.args.journal.now) in
    figure_unmet (mem p) c.args.out.now (unmet {m = mem p} (c.in_default.ensures p is)) refl

pub returns-then-out-lt-LENGTH : goal.returns-then-out-lt-LENGTH
returns-then-out-lt-LENGTH c p is =
    let mem : List (List ℕ) → Memory = (λ p. memory c.args.index.now c.args.bodies.now p c.args.journal.now) in
    let logged_in : (p : List (List ℕ)) → places_in p ≡ c.args.lent → Logged (mem p) c.in-Some.w (log_of c.args.journal.now) = (λ p is. (indexed {m = mem p} (c.in-Some.ensures p is)).logged) in
    figure_small (logged_in p is) c.args.out.now c.if-out-lt-LENGTH.true refl

pub kept-f-requires : goal.kept-f-requires
kept-f-requires c =
    let mem : List (List ℕ) → Memory = (λ p. memory c.args.index.now c.args.bodies.now p c.args.journal.now) in
    let logged_in : (p : List (List ℕ)) → places_in p ≡ c.args.lent → Logged (mem p) c.in-Some.w (log_of c.args.journal.now) = (λ p is. (indexed {m = mem p} (c.in-Some.ensures p is)).logged) in
    let logged_any : Logged (mem (a_store c.args.lent)) c.in-Some.w (log_of c.args.journal.now) = (logged_in (a_store c.args.lent) (a_store_lends c.args.lent)) in
    (logged_any).long.index

pub overflow_cast-result : goal.overflow_cast-result
overflow_cast-result c =
    let mem : List (List ℕ) → Memory = (λ p. memory c.args.index.now c.args.bodies.now p c.args.journal.now) in
    let logged_in : (p : List (List ℕ)) → places_in p ≡ c.args.lent → Logged (mem p) c.in-Some.w (log_of c.args.journal.now) = (λ p is. (indexed {m = mem p} (c.in-Some.ensures p is)).logged) in
    let logged_any : Logged (mem (a_store c.args.lent)) c.in-Some.w (log_of c.args.journal.now) = (logged_in (a_store c.args.lent) (a_store_lends c.args.lent)) in
    let g = logged_any in omega (arith, g.few)

pub overflow_sub-result : goal.overflow_sub-result
overflow_sub-result c =
    let mem : List (List ℕ) → Memory = (λ p. memory c.args.index.now c.args.bodies.now p c.args.journal.now) in
    let logged_in : (p : List (List ℕ)) → places_in p ≡ c.args.lent → Logged (mem p) c.in-Some.w (log_of c.args.journal.now) = (λ p is. (indexed {m = mem p} (c.in-Some.ensures p is)).logged) in
    let logged_any : Logged (mem (a_store c.args.lent)) c.in-Some.w (log_of c.args.journal.now) = (logged_in (a_store c.args.lent) (a_store_lends c.args.lent)) in
    let g = logged_any in omega (arith, logged_low g)

pub overflow_cast-result-2 : goal.overflow_cast-result-2
overflow_cast-result-2 c =
    let mem : List (List ℕ) → Memory = (λ p. memory c.args.index.now c.args.bodies.now p c.args.journal.now) in
    let logged_in : (p : List (List ℕ)) → places_in p ≡ c.args.lent → Logged (mem p) c.in-Some.w (log_of c.args.journal.now) = (λ p is. (indexed {m = mem p} (c.in-Some.ensures p is)).logged) in
    let logged_any : Logged (mem (a_store c.args.lent)) c.in-Some.w (log_of c.args.journal.now) = (logged_in (a_store c.args.lent) (a_store_lends c.args.lent)) in
    let g = logged_any in omega (arith, logged_high g)

pub returns : goal.returns
returns c p is =
    let bytes : Bytes c.args.index.now = record { small = λ i. omega (arith, c.shared_slice_known-1.given i) } in
    let mem : List (List ℕ) → Memory = (λ p. memory c.args.index.now c.args.bodies.now p c.args.journal.now) in
    let logged_in : (p : List (List ℕ)) → places_in p ≡ c.args.lent → Logged (mem p) c.in-Some.w (log_of c.args.journal.now) = (λ p is. (indexed {m = mem p} (c.in-Some.ensures p is)).logged) in
    figure_given (logged_in p is) c.args.out.now (bytes) (omega (arith, c.if-out-lt-LENGTH.false)) c.kept-f.ensures c.write.ensures refl
