-- The pointers of the groups before g have their marks; a group that is none needs no marks.
use Rattle.std.proofs.Common.{⊎_elim, ◌*◌, ◌+◌, ◌-◌, ◌∙◌, ◌≡◌, arith, get_or, length, refl, sym}
use Rattle.places.proofs.Ways.{marks_none, marks_skip}
use Rattle.places.specs.Marks.{Marked}
use Rattle.places_free.proofs.marks_of.Goals as goal
use Rattle.places_free.proofs.marks_of.Goals.{then-not-is_none, else-not-is_none}

pub loop-g-init : goal.loop-g-init
loop-g-init c = (refl, marks_none (λ k. get_or c.args.pointers.now k 0))

pub mark_group-requires : goal.mark_group-requires
mark_group-requires c =
    let p = c.requires in
    record {
      group_size_in_bounds = (omega (arith, p.0, c.loop-g-test.true), p.1);
      marks_len = c.loop-g.invariant;
    }

pub loop-g-preserved : goal.loop-g-preserved
loop-g-preserved c =
    let g = c.loop-g.g in
    let ps = c.args.pointers.now in
    let n : 12 * (g + 1) ≡ 12 * g + 12 = omega arith in
    let r : (length c.if-not-is_none.marks ≡ 65) × Marked (λ k. get_or ps k 0) (12 * g + 12) c.if-not-is_none.marks =
    elim c.if-not-is_none.branch [
      | then-not-is_none w ↦ rw w.marks-is w.mark_group.ensures
      | else-not-is_none w ↦ rw w.marks-is (c.loop-g.invariant.0, marks_skip ps (12 * g) (12 * g + 12 - 12 * g) (omega arith) (sym c.is_none.ensures ∙ w.if-not-is_none.false) c.loop-g.marks c.loop-g.invariant.1)
    ] in
    (r.0, rw n r.1)

pub returns : goal.returns
returns c =
    let w = c.loop-g in
    let e : 12 * w.g ≡ 156 = omega arith in
    rw e at w.invariant.1
