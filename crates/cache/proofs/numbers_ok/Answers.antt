-- The bits alone, then the rest.
use Rattle.cache.proofs.Ways.{bits_bad, bits_fine}
use Rattle.cache.proofs.numbers_ok.Goals as goal

pub returns-then-not-bits : goal.returns-then-not-bits
returns-then-not-bits c =
    let a = c.args in
    bits_bad a.bits a.width a.height a.n (c.if-not-bits.true)

pub returns : goal.returns
returns c =
    let a = c.args in
    bits_fine a.bits a.width a.height a.n (c.if-not-bits.false)
