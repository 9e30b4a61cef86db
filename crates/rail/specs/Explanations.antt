-- An explanation at the C boundary: as one number. Assumes nothing.
use Rattle.std.specs.Prelude.{ℕ, ◌/◌, ◌%◌, ◌≡◌, List}
use Rattle.journal.specs.View.{Memory}
use Rattle.session.specs.declared.Reply.{Reply}
use Rattle.session.specs.Packed.{packed_of}
use Rattle.explain.specs.declared.Explanation.{Explanation}
use Rattle.explain.specs.Explain.{explain}

-- the number and the offset, packed as the answers of the state calls are
abbrev pub explained_reply : Explanation → Reply
explained_reply e = record { number = e.number; count = 0; bytes = e.at }

-- so a caller takes it apart again
pub record ExplainExport (s : List ℕ) (m : Memory) (r : ℕ) : Type 0 where
  pub answer : r ≡ packed_of (explained_reply (explain s m))
  pub number : r % 256 ≡ (explain s m).number
  pub offset : r / 65536 ≡ (explain s m).at
