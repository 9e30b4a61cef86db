-- Each kind's numbers are read where target_of reads them.
use Rattle.run.proofs.Calls.{is_window_lem, is_notification_lem, is_cell_lem, is_windows, is_notifications, is_shares, is_desktop_lem}
use Rattle.run.proofs.target_of.Goals as goal

pub returns-then-kind-eq4 : goal.returns-then-kind-eq4
returns-then-kind-eq4 c = is_window_lem _ _ c.if-kind-eq4.true _ c.read_u32-id.ensures

pub returns-then-kind-eq5 : goal.returns-then-kind-eq5
returns-then-kind-eq5 c = is_notification_lem _ _ c.if-kind-eq5.true _ _ c.read_u32-id.ensures c.read_u32-icon.ensures

pub returns-then-kind-eq6 : goal.returns-then-kind-eq6
returns-then-kind-eq6 c = is_cell_lem _ _ c.if-kind-eq6.true _ _ c.read_u8-cache.ensures c.read_u16-entry.ensures

pub returns-then-kind-eq10 : goal.returns-then-kind-eq10
returns-then-kind-eq10 c = is_windows _ _ c.if-kind-eq10.true

pub returns-then-kind-eq11 : goal.returns-then-kind-eq11
returns-then-kind-eq11 c = is_notifications _ _ c.if-kind-eq11.true

pub returns-then-kind-eq12 : goal.returns-then-kind-eq12
returns-then-kind-eq12 c = is_shares _ _ c.if-kind-eq12.true c.holder_at-g.ensures c.holder_at-k.ensures

pub returns : goal.returns
returns c =
    is_desktop_lem _ _ c.if-kind-eq4.false c.if-kind-eq5.false c.if-kind-eq6.false c.if-kind-eq10.false c.if-kind-eq11.false c.if-kind-eq12.false
