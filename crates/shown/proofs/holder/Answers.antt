-- Zeros where the pointer is 0, else the picture at its place.
use Rattle.std.proofs.Common.{◌+◌, arith, rules}
use Rattle.store.specs.Store.{five}
use Rattle.shown.proofs.ShownHanded.{pointer_within, place_ready, none_shown, some_shown}
use Rattle.shown.proofs.holder.Goals as goal

pub bounds-index-h : goal.bounds-index-h
bounds-index-h c =
    let a = c.args in
    pointer_within a.index.now a.bodies.now (five a.a.now a.b.now a.c.now a.d.now a.e.now) a.journal.now a.origins.now c.requires.ready a.h c.requires.picture_size_in_bounds.1

pub overflow_cast-pointer : goal.overflow_cast-pointer
overflow_cast-pointer c = omega (arith, c.shared_slice_known-1.given (c.args.h + 1))

pub returns-then-pointer-eq0 : goal.returns-then-pointer-eq0
returns-then-pointer-eq0 c =
    let a = c.args in
    let all = none_shown a.index.now a.bodies.now (five a.a.now a.b.now a.c.now a.d.now a.e.now) a.journal.now a.origins.now c.requires.ready a.h c.requires.picture_size_in_bounds.1
    c.if-pointer-eq0.true a.out.now a.at c.clear.ensures in
    record { value = all.0; out_after = all.1 }

pub at_place-requires : goal.at_place-requires
at_place-requires c =
    let a = c.args in
    record {
      picture_size_in_bounds = search rules;
      place_ready = place_ready a.index.now a.bodies.now (five a.a.now a.b.now a.c.now a.d.now a.e.now) a.journal.now a.origins.now c.requires.ready a.h c.requires.picture_size_in_bounds.1 c.if-pointer-eq0.false;
    }

pub returns : goal.returns
returns c =
    let a = c.args in
    let all = some_shown a.index.now a.bodies.now (five a.a.now a.b.now a.c.now a.d.now a.e.now) a.journal.now a.origins.now c.requires.ready a.h c.requires.picture_size_in_bounds.1
    c.if-pointer-eq0.false a.out.now a.at c.requires.picture_size_in_bounds.0 c.at_place.ensures in
    record { value = all.0; out_after = all.1 }
