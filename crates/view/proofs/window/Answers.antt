-- Each part is the view of its field.
use Rattle.view.proofs.ViewsRecords.{window_is}
use Rattle.view.proofs.window.Goals as goal

pub returns : goal.returns
returns c =
    window_is c.args.bytes.now
    c.newer-newer.ensures
    c.text-title.ensures
    c.point-client_offset.ensures
    c.pair-client_size.ensures
    c.point-window_offset.ensures
    c.point-client_delta.ensures
    c.pair-window_size.ensures
    c.rectangles-window_rects.ensures
    c.point-visible_offset.ensures
    c.rectangles-visibility_rects.ensures
    c.read_u8.ensures
    c.marked-small.ensures
    c.read_u8-2.ensures
    c.marked-big.ensures
    c.window_id-owner.ensures
    c.window_id-root_parent.ensures
    c.read_u32.ensures
    c.read_u32-2.ensures
    c.read_u8-3.ensures
    c.read_u8-4.ensures
