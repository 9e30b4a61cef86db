-- Each part is the view of its field.
use Rattle.view.proofs.ViewsRecords.{desktop_is}
use Rattle.view.proofs.desktop.Goals as goal

pub returns : goal.returns
returns c =
    desktop_is c.args.bytes.now
    c.stack-stack.ensures
    c.window_id-active.ensures
    c.read_u8-hooked.ensures
    c.read_u8-syncing.ensures
