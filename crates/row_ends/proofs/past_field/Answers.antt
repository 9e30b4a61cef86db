-- Not carried, outside its set, or past by its length.
use Rattle.std.proofs.Common.{ℕ, ◌∙◌, ◌≡◌, ap}
use Rattle.rows.proofs.Ended.{past_absent, past_outside, past_carried}
use Rattle.rows.proofs.Table.{flag_is}
use Rattle.wire.specs.Tests.{has_all}
use Rattle.rows.specs.Rows.{kind_row}
use Rattle.row_ends.proofs.past_field.Goals as goal

pub returns-then-not-is_flagged : goal.returns-then-not-is_flagged
returns-then-not-is_flagged c =
    let told : c.is_flagged.result ≡ has_all c.args.flags (kind_row c.args.flag c.args.width c.args.kind).flag = (let a = c.args in c.is_flagged.ensures ∙ ap (λ (m : ℕ). has_all a.flags m) (flag_is a.flag a.width a.kind)) in
    let a = c.args in
    let f = c.is_flagged in
    past_absent (kind_row a.flag a.width a.kind) a.flags a.s.now a.at (told) (c.if-not-is_flagged.true)

pub returns-then-not-in_set : goal.returns-then-not-in_set
returns-then-not-in_set c =
    let told : c.is_flagged.result ≡ has_all c.args.flags (kind_row c.args.flag c.args.width c.args.kind).flag = (let a = c.args in c.is_flagged.ensures ∙ ap (λ (m : ℕ). has_all a.flags m) (flag_is a.flag a.width a.kind)) in
    let a = c.args in
    let f = c.is_flagged in
    let g = c.in_set in
    past_outside (kind_row a.flag a.width a.kind) a.flags a.s.now a.at (told) (c.if-not-is_flagged.false)
    g.ensures (c.if-not-in_set.true)

pub returns : goal.returns
returns c =
    let told : c.is_flagged.result ≡ has_all c.args.flags (kind_row c.args.flag c.args.width c.args.kind).flag = (let a = c.args in c.is_flagged.ensures ∙ ap (λ (m : ℕ). has_all a.flags m) (flag_is a.flag a.width a.kind)) in
    let a = c.args in
    let f = c.is_flagged in
    let g = c.in_set in
    past_carried (kind_row a.flag a.width a.kind) a.flags a.s.now a.at (told) (c.if-not-is_flagged.false)
    g.ensures (c.if-not-in_set.false) c.extent.ensures.0 c.extent.ensures.1
