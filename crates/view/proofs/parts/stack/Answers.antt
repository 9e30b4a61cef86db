-- After i turns the first i ids stand before ids of 0.
use Rattle.std.proofs.Common.{ℕ, ◌+◌, ◌-◌, ◌∙◌, ◌≡◌, ap, arith, rules}
use Rattle.wire.specs.Parts.{padded}
use Rattle.view.specs.Views.{window_id, each_of}
use Rattle.view.proofs.ViewsRead.{least_is, fill_first, fill_next, stack_is}
use Rattle.view.proofs.parts.stack.Goals as goal

pub loop-i-init : goal.loop-i-init
loop-i-init c =
    let l = least_is c.read_u8-count.result 64 c.least-n.ensures in
    (search rules, omega (arith, l.right), fill_first window_id 4 (window_id 0) 64 c.args.s.now (c.args.at + 1))

pub loop-i-preserved : goal.loop-i-preserved
loop-i-preserved c =
    let a = c.args in (
      search rules,
      c.loop-i.invariant.1,
      fill_next window_id 4 (window_id 0) 64 a.s.now (a.at + 1) c.loop-i.i (omega arith) c.loop-i.invariant.2 c.window_id-id.ensures,
    )

pub returns : goal.returns
returns c =
    let a = c.args in
    let e : c.loop-i.i ≡ c.least-n.result = omega arith in
    stack_is a.s.now a.at c.read_u8-count.ensures c.least-n.ensures
    (c.loop-i.invariant.2 ∙ ap (λ (k : ℕ). padded (window_id 0) 64 (each_of window_id 4 k a.s.now (a.at + 1))) e)
