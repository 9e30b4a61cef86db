-- The flags choose the line of the definition.
use Rattle.std.proofs.Common.{rules}
use Rattle.index.proofs.Ways.{picture_taken, picture_shared, picture_cleared, picture_none, icon_fits, cached_fits}
use Rattle.index_change.proofs.picture.Goals as goal

pub take_at-requires : goal.take_at-requires
take_at-requires c =
    let f = c.requires.1 in
    (search rules, icon_fits c.args.c f c.if-flags-ne0.true, f.pointer, f.place)

pub returns-then-flags-ne0 : goal.returns-then-flags-ne0
returns-then-flags-ne0 c =
    let a = c.args in
    picture_taken a.index.now a.c c.if-flags-ne0.true c.take_at.ensures

pub share-requires : goal.share-requires
share-requires c =
    let f = c.requires.1 in
    (search rules, cached_fits c.args.c f c.if-flags-ne0-2.true, f.pointer)

pub returns-then-flags-ne0-2 : goal.returns-then-flags-ne0-2
returns-then-flags-ne0-2 c =
    let a = c.args in
    picture_shared a.index.now a.c c.if-flags-ne0.false c.if-flags-ne0-2.true c.share.ensures

pub release-requires : goal.release-requires
release-requires c = (search rules, c.requires.1.pointer)

pub returns-then-flags-ne0-3 : goal.returns-then-flags-ne0-3
returns-then-flags-ne0-3 c =
    let a = c.args in
    picture_cleared a.index.now a.c c.if-flags-ne0.false c.if-flags-ne0-2.false c.if-flags-ne0-3.true c.release.ensures

pub returns-else-flags-ne0-3 : goal.returns-else-flags-ne0-3
returns-else-flags-ne0-3 c =
    let a = c.args in
    picture_none a.index.now a.c c.if-flags-ne0.false c.if-flags-ne0-2.false c.if-flags-ne0-3.false
