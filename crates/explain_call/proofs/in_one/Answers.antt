-- 1 where the parts are not whole; else the explanation on them, whatever store lends as many places.
use Rattle.std.proofs.Common.{◌∷◌, [], drop}
use Rattle.explain.specs.OneFile.{places_at, memory_in}
use Rattle.explain.proofs.Answers.{explained_unmet}
use Rattle.explain.proofs.OneFile.{file_short, file_lends}
use Rattle.explain_call.proofs.in_one.Goals as goal

pub returns-then-state-lt-PLACES_AT : goal.returns-then-state-lt-PLACES_AT
returns-then-state-lt-PLACES_AT c =
    let a = c.args in explained_unmet a.s.now (memory_in a.state.now) (file_short a.state.now c.if-state-lt-PLACES_AT.true)

pub returns : goal.returns
returns c =
    let f = c.args.state.now in
    c.explain_at.ensures (drop places_at f ∷ []) (file_lends f)
