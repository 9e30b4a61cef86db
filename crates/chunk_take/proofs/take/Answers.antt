-- What joining gives, told again; a whole message is read where it stands in the memory.
use Rattle.std.proofs.Common.{◌≡◌, Ok, Err, ◌∙◌, ap, sym, rules}
use Rattle.chunk.proofs.Answers.{more_taken, whole_length, whole_inside, whole_taken, refused_taken}
use Rattle.chunk_take.proofs.take.Goals as goal

pub returns-in_err-got : goal.returns-in_err-got
returns-in_err-got c =
    let e : c.from_residual.result ≡ Err c.in_err-got.field-0.0 = search rules in
    rw e (refused_taken c.join.ensures _ c.in_err-got.was)

pub slice_bounds-read_pdu-end : goal.slice_bounds-read_pdu-end
slice_bounds-read_pdu-end c = whole_inside c.join.ensures _ (c.in_ok-got.was ∙ ap Ok c.in-Whole.is)

pub slice_bounds-read_pdu-end-in-Whole : goal.slice_bounds-read_pdu-end-in-Whole
slice_bounds-read_pdu-end-in-Whole c = sym (whole_length c.join.ensures _ (c.in_ok-got.was ∙ ap Ok c.in-Whole.is))

pub returns-in-More : goal.returns-in-More
returns-in-More c = more_taken c.join.ensures _ (c.in_ok-got.was ∙ ap Ok c.in-More.is)

pub returns-in-Whole : goal.returns-in-Whole
returns-in-Whole c = whole_taken c.join.ensures _ (c.in_ok-got.was ∙ ap Ok c.in-Whole.is) _ c.read_pdu-read.ensures.answer
