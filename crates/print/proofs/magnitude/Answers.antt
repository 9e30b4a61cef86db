-- A negative number is taken from 0 in 64 bits, where the difference fits.
use Rattle.std.proofs.Common.{ap}
use lib.IntN.{nat_abs}
use Rattle.print.proofs.Signs.{wide, less_fits, less_back, less_castable, same_castable}
use Rattle.print.proofs.magnitude.Goals as goal

pub overflow_cast-result : goal.overflow_cast-result
overflow_cast-result c = wide c.args.v c.ranges.v

pub overflow_sub-result : goal.overflow_sub-result
overflow_sub-result c = less_fits c.args.v c.ranges.v c.if-v-lt0.true

pub overflow_cast-result-then-v-lt0 : goal.overflow_cast-result-then-v-lt0
overflow_cast-result-then-v-lt0 c = less_castable c.args.v c.ranges.v c.if-v-lt0.true

pub returns-then-v-lt0 : goal.returns-then-v-lt0
returns-then-v-lt0 c = ap nat_abs (less_back c.args.v c.ranges.v c.if-v-lt0.true)

pub overflow_cast-result-2 : goal.overflow_cast-result-2
overflow_cast-result-2 c = same_castable c.args.v c.ranges.v c.if-v-lt0.false
