-- The rows of a window go by constants, any others row by row: the same definition.
use Rattle.std.proofs.Common.{length}
use Rattle.body.proofs.Ways.{is_window_lem, window_long, window_well, window_stored}
use Rattle.body_store.proofs.store.Goals as goal

pub store_window-requires : goal.store_window-requires
store_window-requires c =
    let a = c.args in
    let is = is_window_lem a.low a.high c.if-low-high.true in
    record {
      le_at = (c.requires.low_le_high.2, c.requires.low_le_high.3, window_long is (length a.slot.now) c.requires.low_le_high.4);
      ends_well = window_well is a.flags a.s.now a.at c.requires.ends_well;
    }

pub returns-then-low-high : goal.returns-then-low-high
returns-then-low-high c =
    let a = c.args in
    let is = is_window_lem a.low a.high c.if-low-high.true in
    window_stored is a.flags a.s.now a.at a.slot.now c.store_window.ensures

pub returns : goal.returns
returns c = c.store_rows.ensures
