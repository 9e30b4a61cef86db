-- The loop's place in the rows, the function's start, and the room of a row.
use Rattle.std.proofs.Common.{◌+◌, ◌-◌, ◌<◌, ◌∙◌, ◌≡◌, ap, arith, get_or, refl, rules, sym, true}
use Rattle.layout.proofs.LayoutsWritten.{room_next, ok_here, ok_then, fields_next, fields_done, marks_put}
use Rattle.body.specs.Stores.{room_all}
use Rattle.rows.specs.declared.Row.{Row}
use Rattle.rows.specs.Rows.{all_rows, no_row, rows_from, room_of}
use Rattle.rows.proofs.Table.{row_told}
use Rattle.layout.proofs.record.Goals as goal

pub loop-k-init : goal.loop-k-init
loop-k-init c = (
  c.requires.low_le_high.0,
  refl,
  omega (arith, c.copy_part.auto.dst, c.requires.low_le_high.2),
  c.requires.low_le_high.3,
  c.requires.slot_value,
  refl,
)

pub put_field-requires : goal.put_field-requires
put_field-requires c =
    let room : room_all (rows_from c.loop-k.k c.args.high) ≡ room_of (get_or all_rows c.loop-k.k no_row) + room_all (rows_from (c.loop-k.k + 1) c.args.high) = room_next c.loop-k.k c.args.high c.args.slot.now c.loop-k.off c.loop-k-test.true c.requires.low_le_high.1 in
    let few : c.loop-k.k < 31 = omega (arith, c.loop-k-test.true, c.requires.low_le_high.1) in
    let r = room in record {
      k_bound = (few, omega (arith, r, c.loop-k.invariant.2), omega (arith, r, c.loop-k.invariant.3), row_told c.loop-k.k (few));
      off_value = ok_here c.loop-k.k c.args.high c.args.slot.now c.loop-k.off c.loop-k-test.true c.requires.low_le_high.1 c.loop-k.invariant.4;
    }

pub overflow_add-off : goal.overflow_add-off
overflow_add-off c =
    let room : room_all (rows_from c.loop-k.k c.args.high) ≡ room_of (get_or all_rows c.loop-k.k no_row) + room_all (rows_from (c.loop-k.k + 1) c.args.high) = room_next c.loop-k.k c.args.high c.args.slot.now c.loop-k.off c.loop-k-test.true c.requires.low_le_high.1 in
    let few : c.loop-k.k < 31 = omega (arith, c.loop-k-test.true, c.requires.low_le_high.1) in
    let roomed : c.room-n.result ≡ room_of (get_or all_rows c.loop-k.k no_row) = c.room-n.ensures.0 ∙ ap (λ (r : Row). room_of r) (row_told c.loop-k.k (few)) in
    omega (arith, room, c.loop-k.invariant.3, roomed)

pub loop-k-preserved : goal.loop-k-preserved
loop-k-preserved c =
    let room : room_all (rows_from c.loop-k.k c.args.high) ≡ room_of (get_or all_rows c.loop-k.k no_row) + room_all (rows_from (c.loop-k.k + 1) c.args.high) = room_next c.loop-k.k c.args.high c.args.slot.now c.loop-k.off c.loop-k-test.true c.requires.low_le_high.1 in
    let few : c.loop-k.k < 31 = omega (arith, c.loop-k-test.true, c.requires.low_le_high.1) in
    let roomed : c.room-n.result ≡ room_of (get_or all_rows c.loop-k.k no_row) = c.room-n.ensures.0 ∙ ap (λ (r : Row). room_of r) (row_told c.loop-k.k (few)) in
    let r = room in
    let more = c.loop-k-test.true in (
      search rules,
      c.put_field.auto.out ∙ c.loop-k.invariant.1,
      omega (arith, r, c.loop-k.invariant.2, roomed, c.put_field.auto.out),
      omega (arith, r, c.loop-k.invariant.3, roomed),
      ok_then c.loop-k.k c.args.high c.args.slot.now c.loop-k.off more c.requires.low_le_high.1 (roomed) c.loop-k.invariant.4,
      c.loop-k.invariant.5
          ∙ fields_next c.loop-k.k c.args.high c.args.slot.now c.loop-k.off more c.requires.low_le_high.1 c.loop-k.out c.loop-k.invariant.2 (roomed) c.put_field.ensures,
    )

pub returns : goal.returns
returns c =
    let a = c.args in
    sym
    (marks_put (rows_from a.low a.high) a.slot.now a.out.now (omega (arith, c.requires.low_le_high.3)) c.requires.low_le_high.2 c.copy_part.ensures
    ∙ c.loop-k.invariant.5
    ∙ fields_done c.loop-k.k a.high a.slot.now c.loop-k.off c.loop-k.out c.loop-k-test.false)
