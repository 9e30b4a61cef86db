-- The numbers are read where the definition reads them.
use Rattle.cache.proofs.Ways.{ok_join}
use Rattle.cache.proofs.picture_ok.Goals as goal

pub runs-n-requires : goal.runs-n-requires
runs-n-requires c = c.read_u8-bits.ensures

pub returns : goal.returns
returns c =
    ok_join c.args.cell.now c.numbers_ok.ensures c.read_u8-bits.ensures c.read_u16-width.ensures c.read_u16-height.ensures c.runs-n.ensures
