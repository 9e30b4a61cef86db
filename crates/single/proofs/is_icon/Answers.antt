-- Other flags; type byte, size or an order too short; or what follows the id is an icon that fills the order.
use Rattle.std.proofs.Common.{ap, not}
use Rattle.single.specs.Single.{icon_flags, icon_big_flags}
use Rattle.single.proofs.SingleTests.{frame_within, neither_flags, neither_framed, either_whole, bare_icon, bare_icon_big, icon_named}
use Rattle.single.proofs.is_icon.Goals as goal

pub returns-then-flags : goal.returns-then-flags
returns-then-flags c = neither_flags icon_flags icon_big_flags c.args.s.now c.read_u32-flags.ensures c.if-flags.true

pub returns-then-not-is_framed : goal.returns-then-not-is_framed
returns-then-not-is_framed c =
    neither_framed icon_flags icon_big_flags c.args.s.now c.read_u32-flags.ensures bare_icon bare_icon_big c.is_framed.ensures.0 (ap not c.if-not-is_framed.true)

pub is_whole-requires : goal.is_whole-requires
is_whole-requires c = frame_within c.args.s.now 11 c.is_framed.ensures.0 (ap not c.if-not-is_framed.false)

pub returns : goal.returns
returns c =
    let s = c.args.s.now in
    let f = c.is_framed.ensures in
    let n = icon_named s c.is_whole.ensures in
    either_whole icon_flags icon_big_flags s c.read_u32-flags.ensures bare_icon bare_icon_big f.0 f.1 (ap not c.if-not-is_framed.false) c.if-flags.false n.0 n.1
