-- The flags choose icon, cached icon or none.
use Rattle.std.proofs.Common.{length}
use Rattle.rows.proofs.Fields.{within_of}
use Rattle.order.proofs.Pictures.{picture_icon, picture_cached, picture_none, picture_within}
use Rattle.order_icon.proofs.picture.Goals as goal

pub returns-then-flags-ne0 : goal.returns-then-flags-ne0
returns-then-flags-ne0 c =
    let a = c.args in let e = picture_icon a.s.now a.at a.bad a.flags c.if-flags-ne0.true c.icon_fit.ensures in (e, within_of (length a.s.now) e (picture_within a.s.now a.at a.bad c.requires.0 c.requires.1 a.flags))

pub returns-then-flags-ne0-2 : goal.returns-then-flags-ne0-2
returns-then-flags-ne0-2 c =
    let a = c.args in let e = picture_cached a.s.now a.at a.bad a.flags c.if-flags-ne0.false c.if-flags-ne0-2.true c.cached_fit.ensures in (e, within_of (length a.s.now) e (picture_within a.s.now a.at a.bad c.requires.0 c.requires.1 a.flags))

pub returns : goal.returns
returns c =
    let a = c.args in (picture_none a.s.now a.at a.bad a.flags c.if-flags-ne0.false c.if-flags-ne0-2.false, (c.requires.0, c.requires.1))
