-- The first part that ends past the order is the one that is cut.
use Rattle.std.proofs.Common.{◌-◌, arith}
use Rattle.order.proofs.Pictures.{head_within, cut_head, cut_mask, cut_table, cut_color}
use Rattle.order_icon.proofs.icon_cut.Goals as goal

pub overflow_add-result : goal.overflow_add-result
overflow_add-result c = let a = c.args in omega (arith, c.head_cut-n.ensures, head_within (a.end - a.at))

pub returns-then-end-p : goal.returns-then-end-p
returns-then-end-p c = let a = c.args in cut_head a.at a.end a.p c.if-end-p.true c.head_cut-n.ensures

pub returns-then-end-p-2 : goal.returns-then-end-p-2
returns-then-end-p-2 c = let a = c.args in cut_mask a.at a.end a.p c.if-end-p.false c.if-end-p-2.true

pub returns-then-end-p-3 : goal.returns-then-end-p-3
returns-then-end-p-3 c = let a = c.args in cut_table a.at a.end a.p c.if-end-p.false c.if-end-p-2.false c.if-end-p-3.true

pub returns : goal.returns
returns c = let a = c.args in cut_color a.at a.end a.p c.if-end-p.false c.if-end-p-2.false c.if-end-p-3.false
