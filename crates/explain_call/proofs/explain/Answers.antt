-- 1 where the rule is not met; else the order judged on what the validation established.
use Rattle.std.proofs.Common.{ℕ, ◌∙◌, ◌≡◌, List, arith, refl}
use Rattle.wire.proofs.Numbers.{Bytes}
use Rattle.store.specs.Store.{places_in}
use Rattle.journal.specs.View.{Memory, memory}
use Rattle.journal.specs.Journal.{log_of}
use Rattle.journal.proofs.Indexed.{Indexed, unmet, indexed}
use Rattle.session.proofs.Lent.{a_store, a_store_lends}
use Rattle.explain.proofs.Answers.{judgeable, explained_unmet, explained_is}
use Rattle.explain_call.proofs.explain.Goals as goal

pub extent-requires : goal.extent-requires
extent-requires c = refl

pub returns-in_default : goal.returns-in_default
returns-in_default c p is =
    let mem : List (List ℕ) → Memory = (λ p. memory c.args.index.now c.args.bodies.now p c.args.journal.now) in
    explained_unmet c.args.s.now (mem p) (unmet {m = mem p} (c.in_default.ensures p is))

pub on_state-requires : goal.on_state-requires
on_state-requires c =
    let bytes : Bytes c.args.s.now = record { small = λ i. omega (arith, c.shared_slice_known-4-1.given i) } in
    let mem : List (List ℕ) → Memory = (λ p. memory c.args.index.now c.args.bodies.now p c.args.journal.now) in
    let index_in_lem : (p : List (List ℕ)) → places_in p ≡ c.args.lent → Indexed (mem p) c.in-Some.w c.extent.new.d (log_of c.args.journal.now) = (λ p is. indexed {m = mem p} (c.in-Some.ensures p is)) in
    let index_any : Indexed (mem (a_store c.args.lent)) c.in-Some.w c.extent.new.d (log_of c.args.journal.now) = (index_in_lem (a_store c.args.lent) (a_store_lends c.args.lent)) in
    judgeable (index_any) c.args.s.now (bytes)

pub returns : goal.returns
returns c p is =
    let bytes : Bytes c.args.s.now = record { small = λ i. omega (arith, c.shared_slice_known-4-1.given i) } in
    let mem : List (List ℕ) → Memory = (λ p. memory c.args.index.now c.args.bodies.now p c.args.journal.now) in
    let index_in_lem : (p : List (List ℕ)) → places_in p ≡ c.args.lent → Indexed (mem p) c.in-Some.w c.extent.new.d (log_of c.args.journal.now) = (λ p is. indexed {m = mem p} (c.in-Some.ensures p is)) in
    c.on_state.ensures ∙ explained_is (index_in_lem p is) c.args.s.now (bytes)
