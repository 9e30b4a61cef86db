-- What writing answers fits where it is packed. Assumes nothing.
use mathlib.Core.Path.{◌≡◌, sym, ◌∙◌}
use mathlib.Core.Bool.{Bool, true, false}
use mathlib.Core.List.{List}
use Prim.Native.Nat.{ℕ, ◌<◌}
use native.Mathlib.Omega.{arith}
use lib.ListN.{length}
use Rattle.std.specs.Prelude.{Result, Ok, Err}
use Rattle.wire.specs.Tests.{pick}
use Rattle.protocol.specs.declared.Refusal.{Refusal}
use Rattle.protocol.specs.declared.Refusal.TheVariants.{OutsideSet}
use Rattle.protocol.specs.Refusals.{number_of}
use Rattle.pdu.proofs.Writing.{allowed_of}
use Rattle.pdu.proofs.ReadBack.{size_small}
use Rattle.pdu.proofs.WriteBack.{err_no_ok}
use Rattle.pdu_words.specs.FromWords.{stand, pdu_of}
use Rattle.pdu_read.proofs.Answers.{refusal_small}
use Rattle.pdu_put.proofs.Ways.{wrote_says}
use Rattle.profile.specs.Counter.{counter_written, counter_words_written, CounterOutcome}
use Rattle.profile.proofs.Plain.{passes_plain}

pub bytes_small : {w src out y : List ℕ} {r : Result ℕ Refusal} {n : ℕ} → CounterOutcome w src out r y → r ≡ Ok n → n < 65536
unfolding counter_words_written
bytes_small {w} {src} {out} {n = n} o q = go (stand w) (sym q ∙ o.answer)
  where
    go : (b : Bool) → Ok n ≡ pick b (counter_written (pdu_of w) src (length out)) (Err OutsideSet) → n < 65536
    go true e =
        let g = wrote_says (pdu_of w) src (length out) n (sym (passes_plain.written (pdu_of w) src (length out) n (sym e))) in
        omega (arith, g.size, size_small (pdu_of w) (allowed_of (pdu_of w) src g.granted))
    go false e = absurd (err_no_ok (sym e))

pub number_small : {w src out y : List ℕ} {r : Result ℕ Refusal} {e : Refusal} → CounterOutcome w src out r y → r ≡ Err e → number_of e < 256
number_small {e = e} o q = refusal_small e
