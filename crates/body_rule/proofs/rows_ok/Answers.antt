-- What the table tells of a row is the row.
use Rattle.std.proofs.Common.{◌-◌, ◌<◌, ◌∙◌, ◌≡◌, ap, arith, get_or, refl, rules, sym}
use Rattle.body_rule.proofs.Ways.{ok_next, ok_stop, ok_done}
use Rattle.rows.specs.declared.Row.{Row}
use Rattle.rows.specs.Rows.{all_rows, no_row, room_of, ok_of}
use Rattle.rows.proofs.Table.{row_told, told_good}
use Rattle.body_rule.proofs.rows_ok.Goals as goal

pub loop-k-init : goal.loop-k-init
loop-k-init c = (search rules, refl)

pub in_set-requires : goal.in_set-requires
in_set-requires c =
    let few : c.loop-k.k < 31 = omega (arith, c.loop-k-test.true, c.requires.1) in
    told_good c.loop-k.k (few)

pub returns-then-not-in_set : goal.returns-then-not-in_set
returns-then-not-in_set c =
    let few : c.loop-k.k < 31 = omega (arith, c.loop-k-test.true, c.requires.1) in
    let told : c.in_set.result ≡ ok_of (get_or all_rows c.loop-k.k no_row) c.args.slot.now c.loop-k.off = c.in_set.ensures ∙ ap (λ (r : Row). ok_of r c.args.slot.now c.loop-k.off) (row_told c.loop-k.k (few)) in
    sym
    (c.loop-k.invariant.1
    ∙ ok_stop c.loop-k.k c.args.high c.args.slot.now c.loop-k.off c.loop-k-test.true c.requires.1 (told) (c.if-not-in_set.true))

pub overflow_add-off : goal.overflow_add-off
overflow_add-off c = omega (arith, c.room-off.ensures.1, c.loop-k.invariant.0, c.loop-k-test.true, c.requires.1)

pub loop-k-preserved : goal.loop-k-preserved
loop-k-preserved c =
    let few : c.loop-k.k < 31 = omega (arith, c.loop-k-test.true, c.requires.1) in
    let told : c.in_set.result ≡ ok_of (get_or all_rows c.loop-k.k no_row) c.args.slot.now c.loop-k.off = c.in_set.ensures ∙ ap (λ (r : Row). ok_of r c.args.slot.now c.loop-k.off) (row_told c.loop-k.k (few)) in
    let roomed : c.room-off.result ≡ room_of (get_or all_rows c.loop-k.k no_row) = c.room-off.ensures.0 ∙ ap (λ (r : Row). room_of r) (row_told c.loop-k.k (few)) in
    let i = c.in_set in (
      omega (arith, c.room-off.ensures.1, c.loop-k.invariant.0),
      c.loop-k.invariant.1
          ∙ ok_next c.loop-k.k c.args.high c.args.slot.now c.loop-k.off c.loop-k-test.true c.requires.1 (told) (c.if-not-in_set.false) (roomed),
    )

pub returns : goal.returns
returns c =
    let a = c.args in
    sym (c.loop-k.invariant.1 ∙ ok_done c.loop-k.k a.high a.slot.now c.loop-k.off c.loop-k-test.false)
