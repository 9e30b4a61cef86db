-- The picture, then its mark.
use Rattle.std.proofs.Common.{arith}
use Rattle.places.specs.Memory.{shown}
use Rattle.store.specs.Store.{five}
use Rattle.shown.specs.Shown.{held_pictures}
use Rattle.session.proofs.Handed.{picture_marked}
use Rattle.lookups.proofs.picture.Goals as goal

pub holder-s-requires : goal.holder-s-requires
holder-s-requires c =
    record {
      picture_size_in_bounds = (c.requires.picture_size_in_bounds.0, c.requires.picture_size_in_bounds.2);
      ready = c.requires.ready;
    }

pub write_u8-requires : goal.write_u8-requires
write_u8-requires c = omega (arith, c.requires.picture_size_in_bounds.1, c.holder-s.auto.out)

pub shape_of-out : goal.shape_of-out
shape_of-out c = omega (arith, c.write_u8.auto.out, c.holder-s.auto.out)

pub returns : goal.returns
returns c =
    let u = c.args in
    picture_marked u.out.now u.at u.mark
    (shown u.x.now (held_pictures u.bodies.now (five u.a.now u.b.now u.c.now u.d.now u.e.now) u.journal.now u.origins.now) u.h)
    c.holder-s.ensures.value c.holder-s.ensures.out_after c.write_u8.ensures
