-- As the older fields, from index at on.
use Rattle.std.proofs.Common.{rules}
use Rattle.layout.proofs.LayoutsJoined.{overlay_ok, newer_put}
use Rattle.layout.proofs.newer.Goals as goal

pub put_row-requires : goal.put_row-requires
put_row-requires c =
    record {
      k_bound = search rules;
      off_value = overlay_ok c.args.slot.now c.requires.slot_value;
    }

pub returns : goal.returns
returns c =
    newer_put c.args.slot.now c.requires.newer_size_in_bounds.1 c.args.out.now c.args.at c.requires.newer_size_in_bounds.0
    c.clear.ensures
    c.copy_part.ensures
    c.put_row.ensures
    c.copy_part-2.ensures
