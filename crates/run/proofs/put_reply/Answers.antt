-- The packed reply is written as one number.
use Rattle.std.proofs.Common.{ℕ, ◌∙◌, ap}
use Rattle.wire.specs.Parts.{splice}
use Rattle.wire.specs.Numbers.{bytes_of}
use Rattle.run.proofs.put_reply.Goals as goal

pub returns : goal.returns
returns c = c.write_u32.ensures ∙ ap (λ (n : ℕ). splice c.args.out.now 0 (bytes_of 4 n)) c.packed-head.ensures
