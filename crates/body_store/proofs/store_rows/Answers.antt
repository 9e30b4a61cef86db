-- The loop's place in the rows, the function's start, and the turn of a row that ends well.
use Rattle.std.proofs.Common.{ℕ, ◌+◌, ◌-◌, ◌<◌, ◌∙◌, ◌≡◌, ap, arith, get_or, refl, rules, sym}
use Rattle.body.proofs.Ways.{Turn, turn, taken_told, goes_on, store_next, store_done}
use Rattle.wire.specs.Parts.{slice, splice}
use Rattle.rows.specs.declared.Row.{Row}
use Rattle.rows.specs.Rows.{all_rows, no_row, room_of, step_of}
use Rattle.rows.specs.declared.Fit.TheVariants.{Ends}
use Rattle.rows.proofs.Table.{row_told, told_good}
use Rattle.body_store.proofs.store_rows.Goals as goal

pub loop-k-init : goal.loop-k-init
loop-k-init c = (search rules, search rules, refl, search rules, c.requires.ends_well, refl)

pub carried-n-requires : goal.carried-n-requires
carried-n-requires c =
    let few : c.loop-k.k < 31 = omega (arith, c.loop-k-test.true, c.requires.low_le_high.1) in
    told_good c.loop-k.k (few)

pub copy_part-requires : goal.copy_part-requires
copy_part-requires c =
    let few : c.loop-k.k < 31 = omega (arith, c.loop-k-test.true, c.requires.low_le_high.1) in
    let ends : step_of (get_or all_rows c.loop-k.k no_row) c.args.flags c.args.s.now c.loop-k.p 0 ≡ Ends (c.loop-k.p + c.carried-n.result) 0 = (let a = c.args in
    goes_on c.loop-k.k a.high a.flags a.s.now c.loop-k.p c.loop-k.off c.loop-k.slot c.loop-k-test.true c.requires.low_le_high.1 c.loop-k.invariant.0 c.loop-k.invariant.1 c.loop-k.invariant.4
    (taken_told c.loop-k.k (few) a.flags a.s.now c.loop-k.p c.carried-n.ensures.0)) in
    let turned : Turn c.loop-k.k c.args.high c.args.flags c.args.s.now c.loop-k.p c.loop-k.off c.loop-k.slot c.loop-k-test.true c.requires.low_le_high.1 (c.loop-k.p + c.carried-n.result) = (let a = c.args in
    turn c.loop-k.k a.high a.flags a.s.now c.loop-k.p c.loop-k.off c.loop-k.slot c.loop-k-test.true c.requires.low_le_high.1 (c.loop-k.p + c.carried-n.result) 0
    c.loop-k.invariant.0 c.loop-k.invariant.1 c.loop-k.invariant.3 c.loop-k.invariant.4 (ends)) in
    let t = turned in (omega (arith, t.short, t.room), omega (arith, t.within))

pub overflow_add-off : goal.overflow_add-off
overflow_add-off c =
    let few : c.loop-k.k < 31 = omega (arith, c.loop-k-test.true, c.requires.low_le_high.1) in
    let roomed : c.room-m.result ≡ room_of (get_or all_rows c.loop-k.k no_row) = c.room-m.ensures.0 ∙ ap (λ (r : Row). room_of r) (row_told c.loop-k.k (few)) in
    let ends : step_of (get_or all_rows c.loop-k.k no_row) c.args.flags c.args.s.now c.loop-k.p 0 ≡ Ends (c.loop-k.p + c.carried-n.result) 0 = (let a = c.args in
    goes_on c.loop-k.k a.high a.flags a.s.now c.loop-k.p c.loop-k.off c.loop-k.slot c.loop-k-test.true c.requires.low_le_high.1 c.loop-k.invariant.0 c.loop-k.invariant.1 c.loop-k.invariant.4
    (taken_told c.loop-k.k (few) a.flags a.s.now c.loop-k.p c.carried-n.ensures.0)) in
    let turned : Turn c.loop-k.k c.args.high c.args.flags c.args.s.now c.loop-k.p c.loop-k.off c.loop-k.slot c.loop-k-test.true c.requires.low_le_high.1 (c.loop-k.p + c.carried-n.result) = (let a = c.args in
    turn c.loop-k.k a.high a.flags a.s.now c.loop-k.p c.loop-k.off c.loop-k.slot c.loop-k-test.true c.requires.low_le_high.1 (c.loop-k.p + c.carried-n.result) 0
    c.loop-k.invariant.0 c.loop-k.invariant.1 c.loop-k.invariant.3 c.loop-k.invariant.4 (ends)) in
    omega (arith, (turned).room, roomed, c.loop-k.invariant.2)

pub loop-k-preserved : goal.loop-k-preserved
loop-k-preserved c =
    let few : c.loop-k.k < 31 = omega (arith, c.loop-k-test.true, c.requires.low_le_high.1) in
    let roomed : c.room-m.result ≡ room_of (get_or all_rows c.loop-k.k no_row) = c.room-m.ensures.0 ∙ ap (λ (r : Row). room_of r) (row_told c.loop-k.k (few)) in
    let ends : step_of (get_or all_rows c.loop-k.k no_row) c.args.flags c.args.s.now c.loop-k.p 0 ≡ Ends (c.loop-k.p + c.carried-n.result) 0 = (let a = c.args in
    goes_on c.loop-k.k a.high a.flags a.s.now c.loop-k.p c.loop-k.off c.loop-k.slot c.loop-k-test.true c.requires.low_le_high.1 c.loop-k.invariant.0 c.loop-k.invariant.1 c.loop-k.invariant.4
    (taken_told c.loop-k.k (few) a.flags a.s.now c.loop-k.p c.carried-n.ensures.0)) in
    let turned : Turn c.loop-k.k c.args.high c.args.flags c.args.s.now c.loop-k.p c.loop-k.off c.loop-k.slot c.loop-k-test.true c.requires.low_le_high.1 (c.loop-k.p + c.carried-n.result) = (let a = c.args in
    turn c.loop-k.k a.high a.flags a.s.now c.loop-k.p c.loop-k.off c.loop-k.slot c.loop-k-test.true c.requires.low_le_high.1 (c.loop-k.p + c.carried-n.result) 0
    c.loop-k.invariant.0 c.loop-k.invariant.1 c.loop-k.invariant.3 c.loop-k.invariant.4 (ends)) in
    let t = turned in
    let n = c.carried-n.result in
    let e : c.loop-k.p + n - c.loop-k.p ≡ n = omega arith in (
      omega (arith, t.order, c.loop-k.invariant.0),
      t.within,
      c.copy_part.auto.dst ∙ c.loop-k.invariant.2,
      omega (arith, t.room, roomed, c.copy_part.auto.dst),
      t.well,
      c.loop-k.invariant.5
          ∙ store_next c.loop-k.k c.args.high c.args.flags c.args.s.now c.loop-k.p c.loop-k.off c.loop-k.slot c.loop-k-test.true c.requires.low_le_high.1 (ends) (roomed) (c.copy_part.ensures ∙ ap (λ (i : ℕ). splice c.loop-k.slot c.loop-k.off (slice c.args.s.now c.loop-k.p i)) (sym e)),
    )

pub returns : goal.returns
returns c =
    let a = c.args in
    sym (c.loop-k.invariant.5 ∙ store_done c.loop-k.k a.high a.flags a.s.now c.loop-k.p c.loop-k.off c.loop-k.slot c.loop-k-test.false)
