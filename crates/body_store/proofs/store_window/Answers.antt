-- Group by group: the function's start, and the slot keeps its length.
use Rattle.std.proofs.Common.{◌∙◌, ◌≡◌, arith, length, sym}
use Rattle.body.proofs.Ways.{store_done}
use Rattle.body_store.proofs.store_window.Goals as goal

pub put_client_area-p-requires : goal.put_client_area-p-requires
put_client_area-p-requires c =
    let same1 : length c.put_owner_to_title-p.new.slot ≡ length c.args.slot.now = c.put_owner_to_title-p.ensures.same in
    let d = c.put_owner_to_title-p.ensures in record {
      le_at = (d.low, d.within, omega (arith, same1, c.requires.le_at.2));
      ends_well = d.well;
    }

pub put_content_to_size-p-requires : goal.put_content_to_size-p-requires
put_content_to_size-p-requires c =
    let same1 : length c.put_owner_to_title-p.new.slot ≡ length c.args.slot.now = c.put_owner_to_title-p.ensures.same in
    let same2 : length c.put_client_area-p.new.slot ≡ length c.args.slot.now = c.put_client_area-p.ensures.same ∙ same1 in
    let d = c.put_client_area-p.ensures in record {
      le_at = (d.low, d.within, omega (arith, same2, c.requires.le_at.2));
      ends_well = d.well;
    }

pub put_rectangles-p-requires : goal.put_rectangles-p-requires
put_rectangles-p-requires c =
    let same1 : length c.put_owner_to_title-p.new.slot ≡ length c.args.slot.now = c.put_owner_to_title-p.ensures.same in
    let same2 : length c.put_client_area-p.new.slot ≡ length c.args.slot.now = c.put_client_area-p.ensures.same ∙ same1 in
    let same3 : length c.put_content_to_size-p.new.slot ≡ length c.args.slot.now = c.put_content_to_size-p.ensures.same ∙ same2 in
    let d = c.put_content_to_size-p.ensures in record {
      le_at = (d.low, d.within, omega (arith, same3, c.requires.le_at.2));
      ends_well = d.well;
    }

pub put_overlay_to_edge-requires : goal.put_overlay_to_edge-requires
put_overlay_to_edge-requires c =
    let same1 : length c.put_owner_to_title-p.new.slot ≡ length c.args.slot.now = c.put_owner_to_title-p.ensures.same in
    let same2 : length c.put_client_area-p.new.slot ≡ length c.args.slot.now = c.put_client_area-p.ensures.same ∙ same1 in
    let same3 : length c.put_content_to_size-p.new.slot ≡ length c.args.slot.now = c.put_content_to_size-p.ensures.same ∙ same2 in
    let same4 : length c.put_rectangles-p.new.slot ≡ length c.args.slot.now = c.put_rectangles-p.ensures.same ∙ same3 in
    let d = c.put_rectangles-p.ensures in record {
      le_at = (d.low, d.within, omega (arith, same4, c.requires.le_at.2));
      ends_well = d.well;
    }

pub shape_of-slot : goal.shape_of-slot
shape_of-slot c =
    let same1 : length c.put_owner_to_title-p.new.slot ≡ length c.args.slot.now = c.put_owner_to_title-p.ensures.same in
    let same2 : length c.put_client_area-p.new.slot ≡ length c.args.slot.now = c.put_client_area-p.ensures.same ∙ same1 in
    let same3 : length c.put_content_to_size-p.new.slot ≡ length c.args.slot.now = c.put_content_to_size-p.ensures.same ∙ same2 in
    let same4 : length c.put_rectangles-p.new.slot ≡ length c.args.slot.now = c.put_rectangles-p.ensures.same ∙ same3 in
    let same5 : length c.put_overlay_to_edge.new.slot ≡ length c.args.slot.now = c.put_overlay_to_edge.ensures.same ∙ same4 in
    same5

pub returns : goal.returns
returns c =
    let a = c.args in
    sym
    (c.put_owner_to_title-p.ensures.stored
    ∙ c.put_client_area-p.ensures.stored
    ∙ c.put_content_to_size-p.ensures.stored
    ∙ c.put_rectangles-p.ensures.stored
    ∙ c.put_overlay_to_edge.ensures.stored
    ∙ store_done 22 22 a.flags a.s.now c.put_overlay_to_edge.result 1392 c.put_overlay_to_edge.new.slot (omega arith))
