-- 1 where the rule is not met; else one delivery on what the validation established.
use Rattle.std.proofs.Common.{ℕ, ◌+◌, ◌≡◌, ◌≤◌, List, arith, length, refl}
use Rattle.wire.proofs.Numbers.{Bytes}
use Rattle.store.specs.Store.{places_in}
use Rattle.places.proofs.HeldTaken.{held_none}
use Rattle.journal.specs.Limits.{most_orders, log_start, journal_length}
use Rattle.journal.specs.View.{Memory, memory}
use Rattle.journal.proofs.Indexed.{Indexed, unmet, indexed}
use Rattle.journal.specs.Journal.{log_of}
use Rattle.session.specs.Calls.{deliver}
use Rattle.session.specs.Outcome.{plain}
use Rattle.session.proofs.Outcomes.{refused_unmet}
use Rattle.session.proofs.Lent.{a_store, a_store_lends}
use Rattle.session.proofs.Deliveries.{ready, delivery_refused, delivery_asks, delivery_granted}
use Rattle.state_calls.proofs.deliver.Goals as goal

pub extent-requires : goal.extent-requires
extent-requires c = refl

pub returns-in_default : goal.returns-in_default
returns-in_default c p is =
    let mem : List (List ℕ) → Memory = (λ p. memory c.args.index.now c.args.bodies.now p c.args.journal.now) in
    refused_unmet (plain (deliver c.args.s.now)) (mem p) refl (unmet {m = mem p} (c.in_default.ensures p is)) c.refused.ensures

pub deliver_on-r-requires : goal.deliver_on-r-requires
deliver_on-r-requires c =
    let mem : List (List ℕ) → Memory = (λ p. memory c.args.index.now c.args.bodies.now p c.args.journal.now) in
    let index_in_lem : (p : List (List ℕ)) → places_in p ≡ c.args.lent → Indexed (mem p) c.in-Some.w c.extent.new.d (log_of c.args.journal.now) = (λ p is. indexed {m = mem p} (c.in-Some.ensures p is)) in
    let index_any : Indexed (mem (a_store c.args.lent)) c.in-Some.w c.extent.new.d (log_of c.args.journal.now) = (index_in_lem (a_store c.args.lent) (a_store_lends c.args.lent)) in
    (ready (index_any), held_none c.extent.new.d)

pub returns-then-r-ne0 : goal.returns-then-r-ne0
returns-then-r-ne0 c p is =
    let bytes : Bytes c.args.s.now = record { small = λ i. omega (arith, c.shared_slice_known-3-1.given i) } in
    let mem : List (List ℕ) → Memory = (λ p. memory c.args.index.now c.args.bodies.now p c.args.journal.now) in
    let index_in_lem : (p : List (List ℕ)) → places_in p ≡ c.args.lent → Indexed (mem p) c.in-Some.w c.extent.new.d (log_of c.args.journal.now) = (λ p is. indexed {m = mem p} (c.in-Some.ensures p is)) in
    delivery_refused (index_in_lem p is) c.args.s.now (bytes) c.deliver_on-r.ensures c.if-r-ne0.true c.refused-then-r-ne0.ensures

pub overflow_add-w : goal.overflow_add-w
overflow_add-w c =
    let bytes : Bytes c.args.s.now = record { small = λ i. omega (arith, c.shared_slice_known-3-1.given i) } in
    let mem : List (List ℕ) → Memory = (λ p. memory c.args.index.now c.args.bodies.now p c.args.journal.now) in
    let index_in_lem : (p : List (List ℕ)) → places_in p ≡ c.args.lent → Indexed (mem p) c.in-Some.w c.extent.new.d (log_of c.args.journal.now) = (λ p is. indexed {m = mem p} (c.in-Some.ensures p is)) in
    let index_any : Indexed (mem (a_store c.args.lent)) c.in-Some.w c.extent.new.d (log_of c.args.journal.now) = (index_in_lem (a_store c.args.lent) (a_store_lends c.args.lent)) in
    let asks : (c.in-Some.w.count + 1 ≤ most_orders) × (log_start ≤ c.in-Some.w.end + length c.args.s.now) × (c.in-Some.w.end + length c.args.s.now ≤ journal_length) = delivery_asks (index_any) c.args.s.now (bytes) c.deliver_on-r.ensures c.if-r-ne0.false in
    omega (arith, (asks).0)

pub overflow_add-w-2 : goal.overflow_add-w-2
overflow_add-w-2 c =
    let bytes : Bytes c.args.s.now = record { small = λ i. omega (arith, c.shared_slice_known-3-1.given i) } in
    let mem : List (List ℕ) → Memory = (λ p. memory c.args.index.now c.args.bodies.now p c.args.journal.now) in
    let index_in_lem : (p : List (List ℕ)) → places_in p ≡ c.args.lent → Indexed (mem p) c.in-Some.w c.extent.new.d (log_of c.args.journal.now) = (λ p is. indexed {m = mem p} (c.in-Some.ensures p is)) in
    let index_any : Indexed (mem (a_store c.args.lent)) c.in-Some.w c.extent.new.d (log_of c.args.journal.now) = (index_in_lem (a_store c.args.lent) (a_store_lends c.args.lent)) in
    let asks : (c.in-Some.w.count + 1 ≤ most_orders) × (log_start ≤ c.in-Some.w.end + length c.args.s.now) × (c.in-Some.w.end + length c.args.s.now ≤ journal_length) = delivery_asks (index_any) c.args.s.now (bytes) c.deliver_on-r.ensures c.if-r-ne0.false in
    omega (arith, (asks).2)

pub granted-requires : goal.granted-requires
granted-requires c =
    let bytes : Bytes c.args.s.now = record { small = λ i. omega (arith, c.shared_slice_known-3-1.given i) } in
    let mem : List (List ℕ) → Memory = (λ p. memory c.args.index.now c.args.bodies.now p c.args.journal.now) in
    let index_in_lem : (p : List (List ℕ)) → places_in p ≡ c.args.lent → Indexed (mem p) c.in-Some.w c.extent.new.d (log_of c.args.journal.now) = (λ p is. indexed {m = mem p} (c.in-Some.ensures p is)) in
    let index_any : Indexed (mem (a_store c.args.lent)) c.in-Some.w c.extent.new.d (log_of c.args.journal.now) = (index_in_lem (a_store c.args.lent) (a_store_lends c.args.lent)) in
    let asks : (c.in-Some.w.count + 1 ≤ most_orders) × (log_start ≤ c.in-Some.w.end + length c.args.s.now) × (c.in-Some.w.end + length c.args.s.now ≤ journal_length) = delivery_asks (index_any) c.args.s.now (bytes) c.deliver_on-r.ensures c.if-r-ne0.false in
    asks

pub returns : goal.returns
returns c p is =
    let bytes : Bytes c.args.s.now = record { small = λ i. omega (arith, c.shared_slice_known-3-1.given i) } in
    let mem : List (List ℕ) → Memory = (λ p. memory c.args.index.now c.args.bodies.now p c.args.journal.now) in
    let index_in_lem : (p : List (List ℕ)) → places_in p ≡ c.args.lent → Indexed (mem p) c.in-Some.w c.extent.new.d (log_of c.args.journal.now) = (λ p is. indexed {m = mem p} (c.in-Some.ensures p is)) in
    delivery_granted (index_in_lem p is) c.args.s.now (bytes) c.deliver_on-r.ensures c.if-r-ne0.false c.granted.ensures
