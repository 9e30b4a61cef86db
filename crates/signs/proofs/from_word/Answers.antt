-- A number below 8000 is cast as it is; from one in the upper half 4,294,967,296 is taken in 64 bits.
use Rattle.std.proofs.Common.{◌∙◌, sym, w16}
use mir.ValLaws.{to_z_pos}
use Rattle.signs.proofs.Bits.{low_4, value_short, short_low, sub_4, cast_4, taken_4}
use Rattle.signs.proofs.from_word.Goals as goal

pub overflow_cast-result : goal.overflow_cast-result
overflow_cast-result c = record { sfits = short_low c.args.n c.ranges.n c.requires c.if-n-lt2147483648.true }

pub returns-then-n-lt2147483648 : goal.returns-then-n-lt2147483648
returns-then-n-lt2147483648 c =
    to_z_pos w16 c.args.n (short_low c.args.n c.ranges.n c.requires c.if-n-lt2147483648.true) ∙ sym (low_4 c.args.n c.ranges.n c.if-n-lt2147483648.true)

pub overflow_sub-result : goal.overflow_sub-result
overflow_sub-result c = sub_4 c.args.n c.ranges.n w16 (value_short c.args.n c.ranges.n c.requires) c.if-n-lt2147483648.false

pub overflow_cast-result-3 : goal.overflow_cast-result-3
overflow_cast-result-3 c = cast_4 c.args.n c.ranges.n w16 (value_short c.args.n c.ranges.n c.requires) c.if-n-lt2147483648.false

pub returns : goal.returns
returns c = taken_4 c.args.n c.ranges.n w16 (value_short c.args.n c.ranges.n c.requires) c.if-n-lt2147483648.false
