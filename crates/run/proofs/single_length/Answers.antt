-- By the kind: four bytes for the reply, and those of what a call of the kind hands out at most.
use Rattle.run.proofs.Calls.{length_change, length_window, length_notification, length_cell, length_record, length_windows, length_notifications, length_shares, length_desktop}
use Rattle.run.proofs.single_length.Goals as goal

pub returns-then-kind-lt4 : goal.returns-then-kind-lt4
returns-then-kind-lt4 c = length_change _ c.if-kind-lt4.true

pub returns-then-kind-eq4 : goal.returns-then-kind-eq4
returns-then-kind-eq4 c = length_window _ c.if-kind-eq4.true

pub returns-then-kind-eq5 : goal.returns-then-kind-eq5
returns-then-kind-eq5 c = length_notification _ c.if-kind-eq5.true

pub returns-then-kind-eq6 : goal.returns-then-kind-eq6
returns-then-kind-eq6 c = length_cell _ c.if-kind-eq6.true

pub returns-then-kind-eq-RECORD : goal.returns-then-kind-eq-RECORD
returns-then-kind-eq-RECORD c = length_record _ c.if-kind-eq-RECORD.true

pub returns-then-kind-eq10 : goal.returns-then-kind-eq10
returns-then-kind-eq10 c = length_windows _ c.if-kind-eq10.true

pub returns-then-kind-eq11 : goal.returns-then-kind-eq11
returns-then-kind-eq11 c = length_notifications _ c.if-kind-eq11.true

pub returns-then-kind-eq12 : goal.returns-then-kind-eq12
returns-then-kind-eq12 c = length_shares _ c.if-kind-eq12.true

pub returns : goal.returns
returns c =
    length_desktop _ c.if-kind-lt4.false c.if-kind-eq4.false c.if-kind-eq5.false c.if-kind-eq6.false c.if-kind-eq-RECORD.false c.if-kind-eq10.false c.if-kind-eq11.false c.if-kind-eq12.false
