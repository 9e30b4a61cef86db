-- An order of another length; other flags; type byte, size or an order too short; or what follows the id is a cached icon that fills the order.
use Rattle.std.proofs.Common.{ap, not}
use Rattle.single.specs.Single.{cached_flags, cached_big_flags}
use Rattle.single.proofs.SingleTests.{frame_within, neither_cached, neither_flags, neither_framed, either_whole, bare_cached, bare_cached_big, cached_named}
use Rattle.single.proofs.is_cached.Goals as goal

pub returns-then-s-ne-CACHED_END : goal.returns-then-s-ne-CACHED_END
returns-then-s-ne-CACHED_END c = neither_cached c.args.s.now c.if-s-ne-CACHED_END.true

pub returns-then-flags : goal.returns-then-flags
returns-then-flags c = neither_flags cached_flags cached_big_flags c.args.s.now c.read_u32-flags.ensures c.if-flags.true

pub returns-then-not-is_framed : goal.returns-then-not-is_framed
returns-then-not-is_framed c =
    neither_framed cached_flags cached_big_flags c.args.s.now c.read_u32-flags.ensures bare_cached bare_cached_big c.is_framed.ensures.0 (ap not c.if-not-is_framed.true)

pub is_whole_cached-requires : goal.is_whole_cached-requires
is_whole_cached-requires c = frame_within c.args.s.now 11 c.is_framed.ensures.0 (ap not c.if-not-is_framed.false)

pub returns : goal.returns
returns c =
    let s = c.args.s.now in
    let f = c.is_framed.ensures in
    let n = cached_named s c.is_whole_cached.ensures in
    either_whole cached_flags cached_big_flags s c.read_u32-flags.ensures bare_cached bare_cached_big f.0 f.1 (ap not c.if-not-is_framed.false) c.if-flags.false n.0 n.1
