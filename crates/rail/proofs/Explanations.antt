-- An explanation at the C boundary fits its places. Assumes nothing.
use mathlib.Core.Path.{◌≡◌, ap, ◌∙◌}
use mathlib.Core.List.{List}
use Prim.Native.Nat.{ℕ}
use native.Mathlib.Omega.{arith}
use Rattle.wire.specs.Numbers.{Bytes}
use Rattle.journal.specs.View.{Memory}
use Rattle.session.specs.Packed.{packed_of}
use Rattle.explain.specs.declared.Explanation.{Explanation}
use Rattle.explain.specs.Explain.{explain}
use Rattle.explain.proofs.Small.{number_low, at_low}
use Rattle.rail.specs.Explanations.{explained_reply, ExplainExport}

pub explain_export : (s : List ℕ) (m : Memory) → Bytes s → {x : Explanation} → x ≡ explain s m → {r : ℕ} → r ≡ packed_of (explained_reply x) → ExplainExport s m r
unfolding packed_of
explain_export s m b is {r} e =
    let a : r ≡ packed_of (explained_reply (explain s m)) = e ∙ ap (λ (y : Explanation). packed_of (explained_reply y)) is in
    let low = number_low s b m in
    let at = at_low s b m in
    record { answer = a; number = omega (arith, a, low, at); offset = omega (arith, a, low, at) }
