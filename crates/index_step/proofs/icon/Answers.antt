-- The window's own slot, and its icon there.
use Rattle.std.proofs.Common.{ℕ, ◌∙◌, ◌≡◌, List, ap}
use Rattle.index_step.proofs.Bare.{bare_old, bare_small, bare_refused, bare_done}
use Rattle.index.specs.Orders.{record_of}
use Rattle.wire.specs.Numbers.{num_at}
use Rattle.index_step.proofs.icon.Goals as goal

pub own_slot-p-requires : goal.own_slot-p-requires
own_slot-p-requires c =
    let s : List ℕ = c.args.s.now in
    let flags : ℕ = num_at 4 (s) 3 in
    let order_is : c.bare_order-o.result ≡ record_of (flags) (s) = c.bare_order-o.ensures ∙ ap (λ (f : ℕ). record_of f (s)) c.read_u32-flags.ensures in
    (c.requires.0, bare_old (s) (flags) (order_is) c.requires.1.new)

pub take_at-requires : goal.take_at-requires
take_at-requires c =
    let s : List ℕ = c.args.s.now in
    let flags : ℕ = num_at 4 (s) 3 in
    let order_is : c.bare_order-o.result ≡ record_of (flags) (s) = c.bare_order-o.ensures ∙ ap (λ (f : ℕ). record_of f (s)) c.read_u32-flags.ensures in
    (c.requires.0, bare_small (s) (flags) (order_is) c.args.index.now c.own_slot-p.ensures c.in-Slot.is, rw (order_is), rw (order_is) c.requires.1, c.requires.2)

pub returns-in-Not : goal.returns-in-Not
returns-in-Not c =
    let s : List ℕ = c.args.s.now in
    let flags : ℕ = num_at 4 (s) 3 in
    let order_is : c.bare_order-o.result ≡ record_of (flags) (s) = c.bare_order-o.ensures ∙ ap (λ (f : ℕ). record_of f (s)) c.read_u32-flags.ensures in
    let a = c.args in
    bare_refused (s) (flags) (order_is) a.index.now c.own_slot-p.ensures a.full c.in-Not.is c.no_slot.ensures

pub returns-in-Slot : goal.returns-in-Slot
returns-in-Slot c =
    let s : List ℕ = c.args.s.now in
    let flags : ℕ = num_at 4 (s) 3 in
    let order_is : c.bare_order-o.result ≡ record_of (flags) (s) = c.bare_order-o.ensures ∙ ap (λ (f : ℕ). record_of f (s)) c.read_u32-flags.ensures in
    let a = c.args in
    bare_done (s) (flags) (order_is) a.index.now c.own_slot-p.ensures a.full c.in-Slot.is c.take_at.ensures
