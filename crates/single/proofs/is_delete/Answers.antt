-- The fields end elsewhere than the order, or type byte, size and flags tell.
use Rattle.std.proofs.Common.{refl}
use Rattle.single.specs.Single.{delete_flags}
use Rattle.single.proofs.SingleTests.{other_end, ended, bare_delete, bare_end}
use Rattle.single.proofs.is_delete.Goals as goal

pub returns-then-s-ne-FIELDS_AT : goal.returns-then-s-ne-FIELDS_AT
returns-then-s-ne-FIELDS_AT c =
    let s = c.args.s.now in other_end delete_flags s refl refl (bare_end delete_flags s bare_delete) c.if-s-ne-FIELDS_AT.true

pub returns : goal.returns
returns c =
    let s = c.args.s.now in
    let f = c.is_framed.ensures in
    ended delete_flags s refl refl (bare_end delete_flags s bare_delete) bare_delete.passing c.if-s-ne-FIELDS_AT.false f.0 f.1 c.read_u32.ensures
