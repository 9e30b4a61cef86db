-- Each part is the view of its field.
use Rattle.view.proofs.ViewsRecords.{newer_is}
use Rattle.view.proofs.newer.Goals as goal

pub returns : goal.returns
returns c =
    newer_is c.args.bytes.now
    c.text-overlay_description.ensures
    c.read_u8.ensures
    c.marked-overlay.ensures
    c.read_u32.ensures
    c.read_u32-2.ensures
    c.read_u32-3.ensures
    c.read_u32-4.ensures
    c.read_u8-2.ensures
    c.read_u8-3.ensures
    c.read_u8-4.ensures
    c.read_u8-5.ensures
