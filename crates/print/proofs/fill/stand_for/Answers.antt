-- A number where the byte is a mark, and else the byte.
use Rattle.std.proofs.Common.{ap}
use Rattle.print.specs.Texts.{signed_text}
use Rattle.print.proofs.Laid.{as_text}
use Rattle.print.proofs.Templates.{a_number, a_signed, a_byte}
use Rattle.print.proofs.Signs.{read_back}
use Rattle.print.proofs.fill.stand_for.Goals as goal

pub returns-then-b-eq35 : goal.returns-then-b-eq35
returns-then-b-eq35 c = let a = c.args in a_number a.v a.z c.if-b-eq35.true c.decimal.ensures

pub returns-then-b-eq126 : goal.returns-then-b-eq126
returns-then-b-eq126 c =
    a_signed c.args.v c.args.z c.if-b-eq35.false c.if-b-eq126.true (as_text (ap signed_text (read_back c.args.z c.ranges.z.sfits)) c.signed.ensures)

pub returns : goal.returns
returns c = let a = c.args in a_byte a.v a.z c.if-b-eq35.false c.if-b-eq126.false c.byte.ensures
