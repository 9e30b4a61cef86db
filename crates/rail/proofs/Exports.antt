-- What a writer answers, packed. Assumes nothing.
use mathlib.Core.Path.{◌≡◌, refl, subst}
use mathlib.Core.List.{List}
use Prim.Native.Nat.{ℕ, ◌/◌, ◌%◌, ◌*◌, ◌<◌}
use native.Mathlib.Omega.{arith}
use lib.ListN.{get_or}
use Rattle.std.specs.Prelude.{Result, Ok, Err}
use Rattle.protocol.specs.declared.Refusal.{Refusal}
use Rattle.protocol.specs.Refusals.{number_of, says}
use Rattle.pdu_read.proofs.Answers.{refusal_small}
use Rattle.pdu_put.specs.WordsWritten.{WordsOutcome}
use Rattle.pdu_put.proofs.Ways.{bytes_small}
use Rattle.profile.specs.Counter.{CounterOutcome}
use Rattle.profile.proofs.Small as C
use Rattle.session.specs.Packed.{packed_of}
use Rattle.rail.specs.Exports.{written_reply, Packable, WriteExport}

-- the number of a refusal is one of a byte
pub number_small : (e : Refusal) → number_of e < 256
number_small e = refusal_small e

pub packed_bytes : {a : Result ℕ Refusal} {n : ℕ} → n < 65536 → a ≡ Ok n → n * 65536 ≡ packed_of (written_reply a)
unfolding packed_of written_reply
packed_bytes h e = rw e (omega (arith, h))

pub packed_number : {a : Result ℕ Refusal} {e : Refusal} → a ≡ Err e → number_of e ≡ packed_of (written_reply a)
unfolding packed_of written_reply
packed_number q = rw q (omega arith)

unpacked_number : (a : Result ℕ Refusal) → Packable a → packed_of (written_reply a) % 256 ≡ (says a).number
unfolding packed_of written_reply
unpacked_number (Ok n) h = omega arith
unpacked_number (Err e) h = omega (arith, number_small e)

unpacked_bytes : (a : Result ℕ Refusal) → Packable a → packed_of (written_reply a) / 65536 ≡ get_or (says a).values 0 0
unfolding packed_of written_reply
unpacked_bytes (Ok n) h = omega (arith, h.bytes_fit n refl)
unpacked_bytes (Err e) h = omega (arith, number_small e)

-- done is the answer a, and r is done packed
pub exported : {done a : Result ℕ Refusal} {y out' : List ℕ} {r : ℕ} → Packable done → done ≡ a → r ≡ packed_of (written_reply done) → out' ≡ y → WriteExport a y r out'
exported {done} {a} {y} {out'} {r} h q e m =
    subst (λ (x : Result ℕ Refusal). WriteExport x y r out') q
    (record { answer = e; number = rw e (unpacked_number done h); bytes = rw e (unpacked_bytes done h); memory = m })

pub written_packs : {w src out y : List ℕ} {a : Result ℕ Refusal} → WordsOutcome w src out a y → Packable a
written_packs o = record { bytes_fit = λ n. bytes_small o }

pub counter_packs : {w src out y : List ℕ} {a : Result ℕ Refusal} → CounterOutcome w src out a y → Packable a
counter_packs o = record { bytes_fit = λ n. C.bytes_small o }
