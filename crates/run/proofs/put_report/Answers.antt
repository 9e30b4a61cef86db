-- Both halves of the report, one after the other.
use Rattle.std.proofs.Common.{ℕ, ◌∙◌, List, ap}
use Rattle.wire.specs.Parts.{splice}
use Rattle.wire.specs.Numbers.{bytes_of}
use Rattle.run.proofs.Calls.{report_bytes}
use Rattle.run.proofs.put_report.Goals as goal

pub returns : goal.returns
returns c =
    report_bytes c.args.r c.args.out.now c.requires c.standing-low.ensures c.granted-high.ensures (c.write_u32-2.ensures ∙ ap (λ (x : List ℕ). splice x 4 (bytes_of 4 c.granted-high.result)) c.write_u32.ensures)
