-- None clears the slot; else the marks are set, then the fields.
use Rattle.std.proofs.Common.{arith}
use Rattle.table.proofs.Bodied.{desktop_fits}
use Rattle.table.proofs.Ways.{desktop_none_lem, desktop_changed}
use Rattle.table_change.proofs.desktop_slot.Goals as goal

pub returns-then-flags-ne0 : goal.returns-then-flags-ne0
returns-then-flags-ne0 c =
    let a = c.args in
    desktop_none_lem a.flags a.s.now a.slot.now c.if-flags-ne0.true c.prepare.ensures

pub store-requires : goal.store-requires
store-requires c =
    record {
      low_le_high = (omega arith, omega arith, omega arith, c.requires.slot_len.1, omega (arith, desktop_fits, c.requires.slot_len.0, c.hook.auto.slot, c.sync.auto.slot));
      ends_well = c.requires.ends_well;
    }

pub returns : goal.returns
returns c =
    let a = c.args in
    desktop_changed a.flags a.s.now a.slot.now c.if-flags-ne0.false c.hook.ensures c.sync.ensures c.store.ensures
