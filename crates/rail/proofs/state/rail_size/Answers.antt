-- A size for each number of the list, 0 past its end.
use Rattle.std.proofs.Common.{refl}
use Rattle.rail.proofs.States.{size_at_lem, size_past}
use Rattle.rail.proofs.state.rail_size.Goals as goal

pub returns-in-0 : goal.returns-in-0
returns-in-0 c = size_at_lem 0 c.in-0.is refl

pub returns-in-1 : goal.returns-in-1
returns-in-1 c = size_at_lem 1 c.in-1.is refl

pub returns-in-2 : goal.returns-in-2
returns-in-2 c = size_at_lem 2 c.in-2.is refl

pub returns-in-3 : goal.returns-in-3
returns-in-3 c = size_at_lem 3 c.in-3.is refl

pub returns-in-4 : goal.returns-in-4
returns-in-4 c = size_at_lem 4 c.in-4.is refl

pub returns-in-5 : goal.returns-in-5
returns-in-5 c = size_at_lem 5 c.in-5.is refl

pub returns-in-6 : goal.returns-in-6
returns-in-6 c = size_at_lem 6 c.in-6.is refl

pub returns-in-7 : goal.returns-in-7
returns-in-7 c = size_at_lem 7 c.in-7.is refl

pub returns-in-8 : goal.returns-in-8
returns-in-8 c = size_at_lem 8 c.in-8.is refl

pub returns-in-9 : goal.returns-in-9
returns-in-9 c = size_at_lem 9 c.in-9.is refl

pub returns-in-10 : goal.returns-in-10
returns-in-10 c = size_at_lem 10 c.in-10.is refl

pub returns-in-11 : goal.returns-in-11
returns-in-11 c = size_at_lem 11 c.in-11.is refl

pub returns-in_default : goal.returns-in_default
returns-in_default c = size_past c.args.what c.in_default.in_default-own.rest
