-- Each turn passes one entry; the first that is cut or at odds decides.
use Rattle.std.proofs.Common.{false, rules, true}
use Rattle.record.proofs.Scanning.{scan_start, scan_turn, scan_cut, scan_end}
use Rattle.record.proofs.scan.Goals as goal

pub loop-i-init : goal.loop-i-init
loop-i-init c = (search rules, search rules, scan_start _ _ c.requires.0)

pub returns-then-record-offset : goal.returns-then-record-offset
returns-then-record-offset c =
    scan_cut _ _ c.loop-i.i _ _ _ _ c.loop-i-test.true c.read_u32-offset.ensures c.read_u32-size.ensures c.if-record-offset.true c.loop-i.invariant.2

pub loop-i-preserved : goal.loop-i-preserved
loop-i-preserved c = (
  search rules,
  search rules,
  scan_turn _ _ c.loop-i.i _ _ _ _ c.loop-i-test.true c.read_u32-offset.ensures c.read_u32-size.ensures c.if-record-offset.false c.loop-i.invariant.2,
)

pub returns-then-count-end : goal.returns-then-count-end
returns-then-count-end c =
    scan_end _ _ c.loop-i.i _ _ true c.requires.0 c.requires.2 c.loop-i-test.false c.loop-i.invariant.2 c.if-count-end.true

pub returns : goal.returns
returns c =
    scan_end _ _ c.loop-i.i _ _ false c.requires.0 c.requires.2 c.loop-i-test.false c.loop-i.invariant.2 c.if-count-end.false
