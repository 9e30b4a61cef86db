-- The tests are those of the order's kind; where the branches meet no icon clashes, and those of a desktop are left.
use Rattle.std.proofs.Common.{◌≡◌, false}
use Rattle.order.proofs.FlagsClash.{icons_clash_lem, two_icons, beside_icon, big_overlay, without_icon, none_clash, deleted_clash, icons_clash, other_clash, desktop_clash}
use Rattle.order_flags.proofs.clashes.Goals as goal
use Rattle.order_flags.proofs.clashes.Goals.{then-flags-ne0-2+else-flags-2+else-flags-3+else-flags-4, else-flags-ne0-2+else-flags-5}

pub returns-then-flags : goal.returns-then-flags
returns-then-flags c = none_clash c.args.flags c.if-flags.true

pub returns-then-flags-ne0 : goal.returns-then-flags-ne0
returns-then-flags-ne0 c = deleted_clash c.args.flags c.if-flags-ne0.true

pub returns-then-flags-2 : goal.returns-then-flags-2
returns-then-flags-2 c =
    let flags = c.args.flags in
    icons_clash flags c.if-flags-ne0.false (two_icons flags c.if-flags-ne0-2.true c.if-flags-2.true)

pub returns-then-flags-3 : goal.returns-then-flags-3
returns-then-flags-3 c =
    let flags = c.args.flags in
    icons_clash flags c.if-flags-ne0.false (beside_icon flags c.if-flags-ne0-2.true c.if-flags-2.false c.if-flags-3.true)

pub returns-then-flags-4 : goal.returns-then-flags-4
returns-then-flags-4 c =
    let flags = c.args.flags in
    icons_clash flags c.if-flags-ne0.false (big_overlay flags c.if-flags-ne0-2.true c.if-flags-2.false c.if-flags-3.false c.if-flags-4.true)

pub returns-then-flags-5 : goal.returns-then-flags-5
returns-then-flags-5 c =
    let flags = c.args.flags in
    icons_clash flags c.if-flags-ne0.false (without_icon flags c.if-flags-ne0-2.false c.if-flags-5.true)

pub returns-then-flags-eq0 : goal.returns-then-flags-eq0
returns-then-flags-eq0 c =
    let unclashed : icons_clash_lem c.args.flags ≡ false = (let flags = c.args.flags in
    elim c.if-flags-ne0-2.branch [
      | then-flags-ne0-2+else-flags-2+else-flags-3+else-flags-4 w ↦ big_overlay flags w.if-flags-ne0-2.true w.if-flags-2.false w.if-flags-3.false w.if-flags-4.false
      | else-flags-ne0-2+else-flags-5 w ↦ without_icon flags w.if-flags-ne0-2.false w.if-flags-5.false
    ]) in
    other_clash c.args.flags c.if-flags-ne0.false (unclashed) c.if-flags-eq0.true

pub returns : goal.returns
returns c =
    let unclashed : icons_clash_lem c.args.flags ≡ false = (let flags = c.args.flags in
    elim c.if-flags-ne0-2.branch [
      | then-flags-ne0-2+else-flags-2+else-flags-3+else-flags-4 w ↦ big_overlay flags w.if-flags-ne0-2.true w.if-flags-2.false w.if-flags-3.false w.if-flags-4.false
      | else-flags-ne0-2+else-flags-5 w ↦ without_icon flags w.if-flags-ne0-2.false w.if-flags-5.false
    ]) in
    desktop_clash c.args.flags c.if-flags-ne0.false (unclashed) c.if-flags-eq0.false
