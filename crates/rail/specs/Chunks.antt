-- A chunk of the channel at the C boundary: the answer as one number, the words of a message. Assumes nothing.
use Rattle.std.specs.Prelude.{ℕ, ◌%◌, ◌≡◌, List, length, eqb}
use Rattle.wire.specs.Tests.{pick}
use Rattle.protocol.specs.Refusals.{number_of}
use Rattle.pdu.specs.Reading.{read_number, read_of}
use Rattle.pdu_read.specs.Told.{words_after}
use Rattle.chunk.specs.Chunk.{Answer, awaited, message, refused}
use Rattle.chunk.specs.Memory.{View, view_of, answer_on}
use Rattle.chunk.specs.Outcome.{Served, take_number}
use Rattle.session.specs.declared.Reply.{Reply}
use Rattle.session.specs.Packed.{packed_of, Unpacked}

-- a whole message of so many bytes, read with this number: handed out where it is 0
unfoldable pub read_reply : ℕ → ℕ → Reply
read_reply n len = pick (eqb n 0) (record { number = 0; count = 1; bytes = len }) (record { number = n; count = 0; bytes = 0 })

-- the number, the messages handed out, the bytes of the message that came
unfoldable pub chunk_reply : Answer → Reply
chunk_reply (awaited got) = record { number = 0; count = 0; bytes = got }
chunk_reply (message bytes) = read_reply (read_number bytes) (length bytes)
chunk_reply (refused e) = record { number = number_of e; count = 0; bytes = 0 }

-- packed as the answers of the state calls are
unfoldable pub chunk_packed : Answer → ℕ
chunk_packed a = packed_of (chunk_reply a)

-- so a caller takes it apart again
unfoldable pub ChunkUnpacks : Type 0
ChunkUnpacks = (v : View) (chunk : List ℕ) → Unpacked (chunk_reply (answer_on v chunk))

-- the words lent, as they were but for a message that is read
unfoldable pub chunk_words : Answer → List ℕ → List ℕ
chunk_words (awaited got) words = words
chunk_words (message bytes) words = words_after (read_of bytes) words
chunk_words (refused e) words = words

-- the answer with the memory afterwards; its number; the words afterwards
pub record ChunkExport (mem chunk words : List ℕ) (r : ℕ) (mem' words' : List ℕ) : Type 0 where
  pub served : Served chunk_packed mem chunk r mem'
  pub number : r % 256 ≡ take_number (view_of mem) chunk
  pub told : words' ≡ chunk_words (answer_on (view_of mem) chunk) words
