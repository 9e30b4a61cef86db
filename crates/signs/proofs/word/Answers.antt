-- A negative value and 4,294,967,296 are added in 64 bits, where the sum fits.
use Rattle.std.proofs.Common.{w32, w64}
use Rattle.signs.proofs.Bits.{word_numbered, cast_up, sum_within, cast_sum, sum_number, cast_kept, kept_number}
use Rattle.signs.proofs.word.Goals as goal

pub overflow_cast-result : goal.overflow_cast-result
overflow_cast-result c = cast_up w64 w32 4 c.args.z (word_numbered c.args.z c.ranges.z)

pub overflow_add-result : goal.overflow_add-result
overflow_add-result c = sum_within w64 w32 4 c.args.z (word_numbered c.args.z c.ranges.z) c.if-z-lt0.true

pub overflow_cast-result-then-z-lt0 : goal.overflow_cast-result-then-z-lt0
overflow_cast-result-then-z-lt0 c = cast_sum w64 w32 4 c.args.z (word_numbered c.args.z c.ranges.z) c.if-z-lt0.true

pub returns-then-z-lt0 : goal.returns-then-z-lt0
returns-then-z-lt0 c = sum_number w64 w32 4 c.args.z (word_numbered c.args.z c.ranges.z) c.if-z-lt0.true

pub overflow_cast-result-2 : goal.overflow_cast-result-2
overflow_cast-result-2 c = cast_kept w64 w32 4 c.args.z (word_numbered c.args.z c.ranges.z) c.if-z-lt0.false

pub returns : goal.returns
returns c = kept_number w64 w32 4 c.args.z (word_numbered c.args.z c.ranges.z) c.if-z-lt0.false
