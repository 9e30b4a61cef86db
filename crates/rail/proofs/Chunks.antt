-- The answer to a chunk at the C boundary, from what joining it and reading the message give. Assumes nothing.
use mathlib.Core.Path.{◌≡◌, refl, sym, ap, ◌∙◌}
use mathlib.Core.Bool.{Bool, true, false}
use mathlib.Core.List.{List}
use Prim.Native.Nat.{ℕ, ◌+◌, ◌*◌, ◌%◌, ◌≤◌, ◌<◌}
use native.Mathlib.Omega.{arith}
use lib.ListN.{length, take}
use lib.Dec.{eqb}
use borrow.Author.Tests.{ne_eqb, eqb-true}
use Rattle.wire.specs.Tests.{pick}
use Rattle.std.specs.Prelude.{Result, Ok, Err}
use Rattle.protocol.specs.declared.Refusal.{Refusal}
use Rattle.protocol.specs.Refusals.{number_of, refused_by}
use Rattle.pdu.specs.declared.Pdu.{Pdu}
use Rattle.pdu.specs.Reading.{read_number, read_of}
use Rattle.pdu_read.specs.Told.{Told}
use Rattle.chunk.specs.Chunk.{Answer, awaited, message, refused, most}
use Rattle.chunk.specs.Memory.{view_of, answer_on}
use Rattle.chunk.specs.Outcome.{taken_as, taken_number, Served, JoinOutcome}
use Rattle.chunk.specs.declared.Joined.{Joined}
use Rattle.chunk.specs.declared.Joined.TheVariants as J
use Rattle.chunk.proofs.Answers.{Small, small, number_read, take_number_lem, told, more_is, more_small, whole_is, whole_length, whole_small, refused_is}
use Rattle.session.specs.declared.Reply.{Reply}
use Rattle.session.specs.Packed.{packed_of, Unpacks, Unpacked}
use Rattle.session.proofs.Unpacks.{unpacks}
use Rattle.rail.proofs.Exports.{number_small}
use Rattle.rail.specs.Chunks.{read_reply, chunk_reply, chunk_packed, ChunkUnpacks, chunk_words, ChunkExport}

-- ---- each value of a reply fits its place

read_small : (s : List ℕ) → read_number s < 256
unfolding read_number
read_small s = go (read_of s)
  where
    go : (a : Result Pdu Refusal) → refused_by a < 256
    go (Ok p) = omega arith
    go (Err e) = number_small e

unpacked : (a : Answer) → Small a → Unpacked (chunk_reply a)
unfolding chunk_reply read_reply Unpacks
unpacked (awaited got) s = unpacks (record { number = 0; count = 0; bytes = got }) (omega arith) (omega arith) (omega (arith, s))
unpacked (message bytes) s = go (eqb (read_number bytes) 0)
  where
    go : (t : Bool) → Unpacked (pick t (record { number = 0; count = 1; bytes = length bytes }) (record { number = read_number bytes; count = 0; bytes = 0 }))
    go true = unpacks (record { number = 0; count = 1; bytes = length bytes }) (omega arith) (omega arith) (omega (arith, s))
    go false = unpacks (record { number = read_number bytes; count = 0; bytes = 0 }) (read_small bytes) (omega arith) (omega arith)
unpacked (refused e) s = unpacks (record { number = number_of e; count = 0; bytes = 0 }) s (omega arith) (omega arith)

pub chunk_unpacks : ChunkUnpacks
unfolding ChunkUnpacks
chunk_unpacks v chunk = unpacked (answer_on v chunk) (small v chunk)

-- ---- its number

reply_number : (a : Answer) → (chunk_reply a).number ≡ taken_number (taken_as a)
unfolding chunk_reply read_reply taken_number taken_as
reply_number (awaited got) = refl
reply_number (message bytes) = go (read_number bytes) (eqb (read_number bytes) 0) refl ∙ sym (number_read bytes)
  where
    go : (n : ℕ) (t : Bool) → eqb n 0 ≡ t → (pick {A = Reply} t (record { number = 0; count = 1; bytes = length bytes }) (record { number = n; count = 0; bytes = 0 })).number ≡ n
    go n true e = sym (eqb-true n 0 e)
    go n false e = refl
reply_number (refused e) = refl

-- ---- the ways through a call

is_number : (s : List ℕ) {words words' : List ℕ} {n : ℕ} → Told (read_of s) words n words' → n ≡ read_number s
is_number s t = t.answer ∙ number_read s

module _ {mem chunk words mem' : List ℕ} where
  exported : {r : ℕ} {words' : List ℕ} → Served chunk_packed mem chunk r mem' → words' ≡ chunk_words (answer_on (view_of mem) chunk) words → ChunkExport mem chunk words r mem' words'
  unfolding chunk_packed ChunkUnpacks
  exported o e =
      record {
        served = o;
        number = ap (λ (x : ℕ). x % 256) o.answer ∙ (chunk_unpacks (view_of mem) chunk).number ∙ reply_number (answer_on (view_of mem) chunk) ∙ take_number_lem (view_of mem) chunk;
        told = e;
      }

  module _ {j : Result Joined Refusal} (o : JoinOutcome mem chunk j mem') where
    pub more_export : (got : ℕ) → j ≡ Ok (J.More got) → ChunkExport mem chunk words (65536 * got) mem' words
    unfolding chunk_packed chunk_reply packed_of chunk_words
    more_export got e =
        let s : got ≤ most = more_small o got e in
        let q : got % 65536 ≡ got = omega (arith, s) in
        exported (told o chunk_packed (65536 * got) (awaited got) (more_is o got e) (rw q (omega arith))) (rw (more_is o got e))

    module _ (len : ℕ) (e : j ≡ Ok (J.Whole len)) {n : ℕ} {words' : List ℕ} (t : Told (read_of (take len mem')) words n words') where
      pub whole_export : n ≡ 0 → ChunkExport mem chunk words (256 + 65536 * len) mem' words'
      unfolding chunk_packed chunk_reply read_reply packed_of chunk_words
      whole_export z =
          let s : len ≤ most = whole_small o len e in
          let q : len % 65536 ≡ len = omega (arith, s) in
          let y : read_number (take len mem') ≡ 0 = sym (is_number (take len mem') t) ∙ z in
          exported
          (told o chunk_packed (256 + 65536 * len) (message (take len mem')) (whole_is o len e) (rw (y, whole_length o len e, q) (omega arith)))
          (rw (whole_is o len e) t.memory)

      pub unread_export : (n ≡ 0 → ⊥) → ChunkExport mem chunk words n mem' words'
      unfolding chunk_packed chunk_reply read_reply packed_of chunk_words
      unread_export z =
          let y : eqb n 0 ≡ false = ne_eqb n 0 z in
          exported
          (told o chunk_packed n (message (take len mem')) (whole_is o len e) (rw (sym (is_number (take len mem') t), y) (omega arith)))
          (rw (whole_is o len e) t.memory)

    pub refused_export : (e : Refusal) → j ≡ Err e → ChunkExport mem chunk words (number_of e) mem' words
    unfolding chunk_packed chunk_reply packed_of chunk_words
    refused_export e q = exported (told o chunk_packed (number_of e) (refused e) (refused_is o e q) (omega arith)) (rw (refused_is o e q))
