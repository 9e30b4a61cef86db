-- It is followed, or no order is for it and the mark has it.
use Rattle.std.proofs.Common.{◌∙◌, arith, sym}
use Rattle.wire.proofs.Numbers.{Bytes}
use Rattle.slots.proofs.Ways.{sound_long}
use Rattle.present.proofs.TouchedStays.{found_slot, marked_figure}
use Rattle.present_count.proofs.window_held.Goals as goal

pub is_touched-requires : goal.is_touched-requires
is_touched-requires c = c.requires.long

pub returns-then-is_touched : goal.returns-then-is_touched
returns-then-is_touched c = c.window_followed.ensures

pub find-requires : goal.find-requires
find-requires c = sound_long c.args.index.now c.requires.sound

pub returns-in_default : goal.returns-in_default
returns-in_default c = c.window_followed-in_default.ensures

pub window_marked-requires : goal.window_marked-requires
window_marked-requires c =
    let k = found_slot c.args.index.now c.args.w.id c.in-Some.i c.find.ensures c.in-Some.is in
    (k.0, c.requires.room)

pub returns : goal.returns
returns c =
    let a = c.args in
    let k = found_slot a.index.now a.w.id c.in-Some.i c.find.ensures c.in-Some.is in
    let bytes : Bytes a.journal.now = record { small = λ i. omega (arith, c.shared_slice_known-3-1.given i) } in
    marked_figure a.index.now a.bodies.now a.journal.now a.count a.w c.in-Some.i c.requires.sound c.requires.room bytes
    (sym c.is_touched.ensures ∙ c.if-is_touched.false) k.1 c.window_marked.ensures
