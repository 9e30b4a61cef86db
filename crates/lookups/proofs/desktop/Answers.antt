-- The figure stands behind the fields of the desktop state.
use Rattle.std.proofs.Common.{arith}
use Rattle.body.specs.Stores.{room_all}
use Rattle.session.proofs.HandedFigures.{desktop_laid}
use Rattle.lookups.proofs.desktop.Goals as goal

pub record-requires : goal.record-requires
unfolding room_all
record-requires c =
    let p = c.requires in record {
      low_le_high = (omega arith, omega arith, omega (arith, p.0), omega (arith, p.1));
      slot_value = p.2;
    }

pub returns : goal.returns
unfolding room_all
returns c = desktop_laid c.args.out.now c.args.m.now c.args.f c.requires.0 c.«record».ensures c.write.ensures
