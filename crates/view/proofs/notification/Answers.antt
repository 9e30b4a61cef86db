-- Each part is the view of its field.
use Rattle.view.proofs.ViewsRecords.{notification_is}
use Rattle.view.proofs.notification.Goals as goal

pub returns : goal.returns
returns c =
    notification_is c.args.bytes.now
    c.text-tip.ensures
    c.text-text.ensures
    c.text-title.ensures
    c.read_u8.ensures
    c.marked-icon.ensures
    c.read_u32.ensures
    c.read_u32-2.ensures
    c.read_u32-3.ensures
    c.read_u32-4.ensures
