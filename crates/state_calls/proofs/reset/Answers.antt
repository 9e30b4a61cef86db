-- 1 for memory that is too short; else an emptied table with its figures, and no orders.
use Rattle.std.proofs.Common.{ℕ, ◌∙◌, ◌≡◌, Bool, List, ap, arith, false, sym}
use Rattle.store.specs.Store.{places_in}
use Rattle.journal.specs.View.{Memory, memory, short_of, too_short}
use Rattle.journal.proofs.Logged.{Long, long_has}
use Rattle.session.specs.Calls.{reset}
use Rattle.session.specs.Outcome.{plain}
use Rattle.session.proofs.Outcomes.{refused_short}
use Rattle.session.proofs.Changes.{reset_granted}
use Rattle.state_calls.proofs.reset.Goals as goal

pub returns-then-too_short : goal.returns-then-too_short
returns-then-too_short c p is =
    let mem : List (List ℕ) → Memory = (λ p. memory c.args.index.now c.args.bodies.now p c.args.journal.now) in
    let short : Bool = short_of c.args.index.now c.args.bodies.now c.args.lent c.args.journal.now in
    let enough : (t : Bool) → c.too_short.result ≡ t → short ≡ t = (λ t f. sym c.too_short.ensures ∙ f) in
    let in_store : (p : List (List ℕ)) → places_in p ≡ c.args.lent → (t : Bool) → short ≡ t → too_short (mem p) ≡ t = (λ p is t f. ap (λ (n : ℕ). short_of c.args.index.now c.args.bodies.now n c.args.journal.now) is ∙ f) in
    refused_short (plain (reset c.args.lent)) (mem p) (in_store p is _ (enough _ c.if-too_short.true)) c.refused.ensures

pub returns : goal.returns
returns c p is =
    let mem : List (List ℕ) → Memory = (λ p. memory c.args.index.now c.args.bodies.now p c.args.journal.now) in
    let short : Bool = short_of c.args.index.now c.args.bodies.now c.args.lent c.args.journal.now in
    let enough : (t : Bool) → c.too_short.result ≡ t → short ≡ t = (λ t f. sym c.too_short.ensures ∙ f) in
    let in_store : (p : List (List ℕ)) → places_in p ≡ c.args.lent → (t : Bool) → short ≡ t → too_short (mem p) ≡ t = (λ p is t f. ap (λ (n : ℕ). short_of c.args.index.now c.args.bodies.now n c.args.journal.now) is ∙ f) in
    let long : c.too_short.result ≡ false → Long c.args.index.now c.args.bodies.now c.args.lent c.args.journal.now = (λ f. long_has c.args.index.now c.args.bodies.now c.args.lent c.args.journal.now (enough _ f)) in
    let l = long c.if-too_short.false in
    reset_granted (mem p) (record { index = l.index; bodies = l.bodies; places = omega (arith, is, l.places); journal = l.journal })
    c.empty.auto.index c.empty.auto.bodies c.set_mark.ensures is (in_store p is _ (enough _ c.if-too_short.false)) c.empty.ensures
