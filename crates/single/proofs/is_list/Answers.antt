-- Other flags; fields that end elsewhere than the order; or type byte and size tell.
use Rattle.std.proofs.Common.{refl}
use Rattle.single.specs.Single.{list_flags}
use Rattle.single.proofs.SingleTests.{other_flags, other_end, ended_with}
use Rattle.single.proofs.is_list.Goals as goal

pub returns-then-read_u32-ne-LIST : goal.returns-then-read_u32-ne-LIST
returns-then-read_u32-ne-LIST c = other_flags list_flags c.args.s.now c.read_u32.ensures c.if-read_u32-ne-LIST.true

pub returns-then-end-s : goal.returns-then-end-s
returns-then-end-s c = other_end list_flags c.args.s.now refl refl c.desktop-end.ensures c.if-end-s.true

pub returns : goal.returns
returns c =
    let f = c.is_framed.ensures in
    ended_with list_flags c.args.s.now refl refl c.desktop-end.ensures (record { one = refl; listed = refl; clean = refl })
    c.if-end-s.false f.0 f.1 c.read_u32.ensures c.if-read_u32-ne-LIST.false
