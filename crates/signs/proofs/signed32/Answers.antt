-- The lower half is cast as it is; from the upper 4,294,967,296 is taken in 64 bits.
use Rattle.std.proofs.Common.{◌∙◌, sym, w32}
use mir.ValLaws.{to_z_pos}
use Rattle.signs.proofs.Bits.{low_4, value_4, sub_4, cast_4, taken_4}
use Rattle.signs.proofs.signed32.Goals as goal

pub returns-then-n-lt2147483648 : goal.returns-then-n-lt2147483648
returns-then-n-lt2147483648 c = to_z_pos w32 c.args.n c.if-n-lt2147483648.true ∙ sym (low_4 c.args.n c.ranges.n c.if-n-lt2147483648.true)

pub overflow_sub-result : goal.overflow_sub-result
overflow_sub-result c = sub_4 c.args.n c.ranges.n w32 (value_4 c.args.n c.ranges.n) c.if-n-lt2147483648.false

pub overflow_cast-result-3 : goal.overflow_cast-result-3
overflow_cast-result-3 c = cast_4 c.args.n c.ranges.n w32 (value_4 c.args.n c.ranges.n) c.if-n-lt2147483648.false

pub returns : goal.returns
returns c = taken_4 c.args.n c.ranges.n w32 (value_4 c.args.n c.ranges.n) c.if-n-lt2147483648.false
