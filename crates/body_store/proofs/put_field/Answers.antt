-- The row is the one that the table tells of.
use Rattle.std.proofs.Common.{ℕ, ◌∙◌, ◌≡◌, ap, arith, get_or, subst, sym}
use Rattle.body.proofs.Ways.{put_absent, put_fits, put_carried}
use Rattle.wire.specs.Tests.{has_all}
use Rattle.rows.specs.declared.Row.{Row}
use Rattle.rows.specs.Rows.{all_rows, no_row, len_of, Good}
use Rattle.rows.proofs.Fields.{row_good}
use Rattle.rows.proofs.Table.{flag_is}
use Rattle.body_store.proofs.put_field.Goals as goal

pub returns-then-not-is_flagged : goal.returns-then-not-is_flagged
returns-then-not-is_flagged c =
    let told : c.is_flagged.result ≡ has_all c.args.flags (get_or all_rows c.args.k no_row).flag = (let a = c.args in
    c.is_flagged.ensures ∙ ap (λ (m : ℕ). has_all a.flags m) (flag_is a.flag a.width a.kind ∙ ap (λ (r : Row). r.flag) c.requires.k_bound.4)) in
    let a = c.args in
    put_absent a.k a.off a.flags a.s.now a.at a.slot.now c.requires.k_bound.0 c.requires.k_bound.1 c.requires.k_bound.2 c.requires.ends_well (told) (c.if-not-is_flagged.true)

pub extent-n-requires : goal.extent-n-requires
extent-n-requires c = subst Good (sym c.requires.k_bound.4) (row_good c.args.k)

pub copy_part-requires : goal.copy_part-requires
copy_part-requires c =
    let told : c.is_flagged.result ≡ has_all c.args.flags (get_or all_rows c.args.k no_row).flag = (let a = c.args in
    c.is_flagged.ensures ∙ ap (λ (m : ℕ). has_all a.flags m) (flag_is a.flag a.width a.kind ∙ ap (λ (r : Row). r.flag) c.requires.k_bound.4)) in
    let long : c.extent-n.result ≡ len_of (get_or all_rows c.args.k no_row) c.args.s.now c.args.at = c.extent-n.ensures.0 ∙ ap (λ (r : Row). len_of r c.args.s.now c.args.at) c.requires.k_bound.4 in
    let a = c.args in
    let h = put_fits a.k a.off a.flags a.s.now a.at a.slot.now c.requires.k_bound.0 c.requires.k_bound.1 c.requires.k_bound.2 c.requires.ends_well (told) (c.if-not-is_flagged.false) (long) in
    (omega (arith, h.0, c.requires.k_bound.3), h.1)

pub returns : goal.returns
returns c =
    let told : c.is_flagged.result ≡ has_all c.args.flags (get_or all_rows c.args.k no_row).flag = (let a = c.args in
    c.is_flagged.ensures ∙ ap (λ (m : ℕ). has_all a.flags m) (flag_is a.flag a.width a.kind ∙ ap (λ (r : Row). r.flag) c.requires.k_bound.4)) in
    let long : c.extent-n.result ≡ len_of (get_or all_rows c.args.k no_row) c.args.s.now c.args.at = c.extent-n.ensures.0 ∙ ap (λ (r : Row). len_of r c.args.s.now c.args.at) c.requires.k_bound.4 in
    let a = c.args in
    put_carried a.k a.off a.flags a.s.now a.at a.slot.now c.requires.k_bound.0 c.requires.k_bound.1 c.requires.k_bound.2 c.requires.ends_well (told) (c.if-not-is_flagged.false) (long) c.copy_part.ensures
