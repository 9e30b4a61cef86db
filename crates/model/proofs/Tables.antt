-- Memories whose tables are alike describe one table. Assumes nothing.
use Rattle.table.specs.Memory.{decode}
use Rattle.index.proofs.Decided.{decided}
use Rattle.model.specs.Tables.{SameTables}
use Rattle.table.proofs.Joined.{same_table}

-- The index is decided by what it lists and who shares; the other parts are given.
pub same_tables : SameTables
unfolding SameTables decode
same_tables x y b c p q okx oky n a =
    same_table (decode x b p) (decode y c q) (decided x y okx oky n a.listed a.shares) a.fields a.shown a.desktop
