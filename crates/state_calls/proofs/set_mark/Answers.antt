-- The figures behind the index, then a count of 0.
use Rattle.std.proofs.Common.{arith}
use Rattle.state_calls.proofs.set_mark.Goals as goal

pub write_u16-requires : goal.write_u16-requires
write_u16-requires c = omega (arith, c.requires.2)

pub returns : goal.returns
returns c =
    record {
      index = c.keep.ensures;
      journal = c.write_u16.ensures;
      reply = c.granted.ensures;
      bytes = record { small = λ i. omega (arith, c.shared_slice_known-1.given i) };
    }
