-- Whether it is listed, then whether it fits.
use Rattle.session.proofs.Targets.{refuses_absent, refuses_small, refuses_none}
use Rattle.lookups.proofs.refusal.Goals as goal

pub returns-then-not-listed : goal.returns-then-not-listed
returns-then-not-listed c = let a = c.args in refuses_absent a.x.now a.target a.room c.listed.ensures (c.if-not-listed.true)

pub returns-then-room-size_of : goal.returns-then-room-size_of
returns-then-room-size_of c =
    let a = c.args in
    refuses_small a.x.now a.target a.room c.listed.ensures (c.if-not-listed.false) c.size_of.ensures c.if-room-size_of.true

pub returns : goal.returns
returns c =
    let a = c.args in
    refuses_none a.x.now a.target a.room c.listed.ensures (c.if-not-listed.false) c.size_of.ensures c.if-room-size_of.false
