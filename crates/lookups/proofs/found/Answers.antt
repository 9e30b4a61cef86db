-- What the search answered.
use Rattle.std.proofs.Common.{◌∙◌, refl}
use Rattle.session.proofs.Targets.{listed_found}
use Rattle.lookups.proofs.found.Goals as goal

pub returns : goal.returns
returns c = let a = c.args in c.is_some.ensures ∙ listed_found a.d.now a.family a.window.id a.notify.id c.find.ensures refl
