-- Fields that are not counted fill their rooms, so a copy puts them as field by field; each piece begins where the one before ends.
use Rattle.std.proofs.Common.{rules}
use Rattle.layout.proofs.LayoutsJoined.{title_ok, rectangles_ok, visibility_ok, window_put}
use Rattle.layout.proofs.window.Goals as goal

pub put_row-requires : goal.put_row-requires
put_row-requires c =
    record {
      k_bound = search rules;
      off_value = title_ok c.args.slot.now c.requires.slot_value;
    }

pub put_row-requires-2 : goal.put_row-requires-2
put_row-requires-2 c =
    record {
      k_bound = search rules;
      off_value = rectangles_ok c.args.slot.now c.requires.slot_value;
    }

pub put_row-requires-3 : goal.put_row-requires-3
put_row-requires-3 c =
    record {
      k_bound = search rules;
      off_value = visibility_ok c.args.slot.now c.requires.slot_value;
    }

pub returns : goal.returns
returns c =
    window_put c.args.slot.now c.requires.window_size_in_bounds.1 c.args.out.now c.requires.window_size_in_bounds.0
    c.copy_part.ensures
    c.put_row.ensures
    c.copy_part-2.ensures
    c.copy_part-3.ensures
    c.put_row-2.ensures
    c.copy_part-4.ensures
    c.put_row-3.ensures
