-- What the table tells of a row is the row.
use Rattle.std.proofs.Common.{◌∙◌, ◌≡◌, ◌≤◌, ap, arith, get_or, subst, sym}
use Rattle.layout.proofs.LayoutsWritten.{short, field_put}
use Rattle.rows.specs.declared.Row.{Row}
use Rattle.rows.specs.Rows.{all_rows, no_row, room_of, len_of, Good}
use Rattle.rows.proofs.Fields.{row_good}
use Rattle.layout.proofs.put_field.Goals as goal

pub extent-n-requires : goal.extent-n-requires
extent-n-requires c = subst Good (sym c.requires.k_bound.3) (row_good c.args.k)

pub copy_part-requires : goal.copy_part-requires
copy_part-requires c =
    let long : c.extent-n.result ≡ len_of (get_or all_rows c.args.k no_row) c.args.slot.now c.args.off = c.extent-n.ensures.0 ∙ ap (λ (r : Row). len_of r c.args.slot.now c.args.off) c.requires.k_bound.3 in
    let fits : c.extent-n.result ≤ room_of (get_or all_rows c.args.k no_row) = omega (arith, long, short c.args.k c.args.out.now c.args.slot.now c.args.off c.requires.k_bound.0 c.requires.off_value c.requires.k_bound.2) in
    (omega (arith, fits, c.requires.k_bound.1), omega (arith, fits, c.requires.k_bound.2))

pub overflow_sub-most : goal.overflow_sub-most
overflow_sub-most c =
    let roomed : c.room-most.result ≡ room_of (get_or all_rows c.args.k no_row) = c.room-most.ensures.0 ∙ ap (λ (r : Row). room_of r) c.requires.k_bound.3 in
    let long : c.extent-n.result ≡ len_of (get_or all_rows c.args.k no_row) c.args.slot.now c.args.off = c.extent-n.ensures.0 ∙ ap (λ (r : Row). len_of r c.args.slot.now c.args.off) c.requires.k_bound.3 in
    let fits : c.extent-n.result ≤ room_of (get_or all_rows c.args.k no_row) = omega (arith, long, short c.args.k c.args.out.now c.args.slot.now c.args.off c.requires.k_bound.0 c.requires.off_value c.requires.k_bound.2) in
    omega (arith, fits, roomed)

pub clear-requires : goal.clear-requires
clear-requires c =
    let roomed : c.room-most.result ≡ room_of (get_or all_rows c.args.k no_row) = c.room-most.ensures.0 ∙ ap (λ (r : Row). room_of r) c.requires.k_bound.3 in
    let long : c.extent-n.result ≡ len_of (get_or all_rows c.args.k no_row) c.args.slot.now c.args.off = c.extent-n.ensures.0 ∙ ap (λ (r : Row). len_of r c.args.slot.now c.args.off) c.requires.k_bound.3 in
    let fits : c.extent-n.result ≤ room_of (get_or all_rows c.args.k no_row) = omega (arith, long, short c.args.k c.args.out.now c.args.slot.now c.args.off c.requires.k_bound.0 c.requires.off_value c.requires.k_bound.2) in
    omega (arith, fits, roomed, c.requires.k_bound.1, c.copy_part.auto.dst)

pub returns : goal.returns
returns c =
    let long : c.extent-n.result ≡ len_of (get_or all_rows c.args.k no_row) c.args.slot.now c.args.off = c.extent-n.ensures.0 ∙ ap (λ (r : Row). len_of r c.args.slot.now c.args.off) c.requires.k_bound.3 in
    let roomed : c.room-most.result ≡ room_of (get_or all_rows c.args.k no_row) = c.room-most.ensures.0 ∙ ap (λ (r : Row). room_of r) c.requires.k_bound.3 in
    field_put c.args.k c.args.out.now c.args.slot.now c.args.off c.requires.k_bound.0 c.requires.off_value c.requires.k_bound.2 c.args.to (long) (roomed)
    c.requires.k_bound.1
    c.copy_part.ensures
    c.clear.ensures
