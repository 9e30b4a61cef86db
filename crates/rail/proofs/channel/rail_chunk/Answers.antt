-- What joining gives, as a number; a whole message is read to words where it stands in the memory.
use Rattle.std.proofs.Common.{Ok, ◌∙◌, ap, arith, sym}
use Rattle.chunk.proofs.Answers.{more_small, whole_length, whole_small, whole_inside}
use Rattle.rail.proofs.Chunks.{more_export, whole_export, unread_export, refused_export}
use Rattle.rail.proofs.channel.rail_chunk.Goals as goal

pub overflow_mul-result : goal.overflow_mul-result
overflow_mul-result c = omega (arith, more_small c.join.ensures _ (c.in-Ok-More.is ∙ ap Ok c.in-Ok-More.field-0-is))

pub slice_bounds-read_words-end : goal.slice_bounds-read_words-end
slice_bounds-read_words-end c = whole_inside c.join.ensures _ (c.in-Ok-Whole.is ∙ ap Ok c.in-Ok-Whole.field-0-is)

pub slice_bounds-read_words-end-in-Ok-Whole : goal.slice_bounds-read_words-end-in-Ok-Whole
slice_bounds-read_words-end-in-Ok-Whole c = sym (whole_length c.join.ensures _ (c.in-Ok-Whole.is ∙ ap Ok c.in-Ok-Whole.field-0-is))

pub returns-then-number-ne0 : goal.returns-then-number-ne0
returns-then-number-ne0 c =
    unread_export c.join.ensures _ (c.in-Ok-Whole.is ∙ ap Ok c.in-Ok-Whole.field-0-is) c.read_words-number.ensures c.if-number-ne0.true

pub overflow_mul-result-in-Ok-Whole : goal.overflow_mul-result-in-Ok-Whole
overflow_mul-result-in-Ok-Whole c = omega (arith, whole_small c.join.ensures _ (c.in-Ok-Whole.is ∙ ap Ok c.in-Ok-Whole.field-0-is))

pub overflow_add-result : goal.overflow_add-result
overflow_add-result c = omega (arith, whole_small c.join.ensures _ (c.in-Ok-Whole.is ∙ ap Ok c.in-Ok-Whole.field-0-is))

pub returns-in-Ok-More : goal.returns-in-Ok-More
returns-in-Ok-More c = more_export c.join.ensures _ (c.in-Ok-More.is ∙ ap Ok c.in-Ok-More.field-0-is)

pub returns-else-number-ne0 : goal.returns-else-number-ne0
returns-else-number-ne0 c =
    whole_export c.join.ensures _ (c.in-Ok-Whole.is ∙ ap Ok c.in-Ok-Whole.field-0-is) c.read_words-number.ensures c.if-number-ne0.false

pub returns-in-Err : goal.returns-in-Err
returns-in-Err c = rw c.from.ensures (refused_export c.join.ensures _ c.in-Err.is)
