-- What is told of the record: its number alone where it is refused, else also its bodies.
use Rattle.std.proofs.Common.{◌≡◌, ◌∙◌, refl}
use Rattle.print.proofs.Laid.{as_text}
use Rattle.record.specs.Reading.{record_number}
use Rattle.record.proofs.Handing.{told_granted, count_is, told_refused, no_bodies}
use Rattle.lines.specs.Records.{read_text}
use Rattle.lines.proofs.records.read.Goals as goal

pub returns-in-Ok : goal.returns-in-Ok
unfolding read_text
returns-in-Ok c =
    let s = c.args.s.now in
    as_text (rw (told_granted s _ c.in-Ok.ensures, ← count_is s _ c.in-Ok.ensures) refl) c.contents.ensures

pub returns-in-Err : goal.returns-in-Err
unfolding read_text
returns-in-Err c =
    let s = c.args.s.now in
    let number : c.from.result ≡ record_number s = c.from.ensures ∙ told_refused s _ c.in-Err.ensures in
    as_text (rw (number, no_bodies s _ c.in-Err.ensures) refl) c.contents-in-Err.ensures
