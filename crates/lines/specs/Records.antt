-- The lines of the session record. Assumes nothing.
use Rattle.std.specs.Prelude.{ℕ, List, [], ◌∷◌, ◌++◌, eqb, length, get_or}
use Rattle.wire.specs.Tests.{pick}
use Rattle.print.specs.Texts.{hex_text, decimal_text, laid_list_text}
use Rattle.print.specs.Templates.{ascii, fill_text}
use Rattle.record.specs.Reading.{record_number, bodies_of}
use Rattle.session.specs.declared.Reply.{Reply}
use Rattle.lines.specs.Lines.{if_granted, reply_text}

-- the line of a write: the answer, and of a granted one the record
unfoldable pub written_text : Reply → List ℕ → List ℕ
written_text r s = reply_text 79 r ++ if_granted r (ascii " " ++ hex_text s)

-- the first k bodies in hex, parted by commas
unfoldable pub bodies_text : List ℕ → ℕ → List ℕ
bodies_text s k = laid_list_text 44 (λ i. hex_text (get_or (bodies_of s) i [])) k

-- the number of a record, and where that is 0 its bodies, k of them
unfoldable pub contents_text : List ℕ → ℕ → ℕ → List ℕ
contents_text s number k =
    ascii "V " ++ decimal_text number ++ pick (eqb number 0) (fill_text (ascii " # bodies=") (k ∷ []) [] ++ bodies_text s k) []

-- the line of a record read
unfoldable pub read_text : List ℕ → List ℕ
read_text s = contents_text s (record_number s) (length (bodies_of s))
