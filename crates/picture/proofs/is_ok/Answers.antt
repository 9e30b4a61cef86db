-- The head's numbers, tested in the part where they lie.
use Rattle.std.proofs.Common.{ℕ, ◌*◌, ◌+◌, ◌-◌, ◌∙◌, ◌≡◌, ap, arith, drop, take}
use Rattle.wire.specs.Parts.{slice}
use Rattle.cache.specs.Cells.{cell_ok}
use Rattle.picture.specs.Pictures.{head_length, head_at, head_ok}
use Rattle.picture.proofs.is_ok.Goals as goal

pub returns : goal.returns
unfolding head_at head_ok slice
returns c =
    let a = c.args in
    let at = head_length * a.p in
    let n : at + head_length - at ≡ head_length = omega arith in
    c.picture_ok.ensures ∙ ap (λ (k : ℕ). cell_ok (take k (drop at a.heads.now))) n
