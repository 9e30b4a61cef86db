-- A session record at the C boundary: what is told of it as one number, and where a body lies as one. Assumes nothing.
use Rattle.std.specs.Prelude.{Option, Some, None, unwrap_or, ℕ, ◌+◌, ◌*◌, ◌/◌, ◌%◌, ◌≡◌, List, [], length, get_or}
use Rattle.wire.specs.Parts.{slice}
use Rattle.journal.specs.State.{bytes_in}
use Rattle.record.specs.declared.Entry.{Entry}
use Rattle.record.specs.Layout.{entry}
use Rattle.record.specs.Reading.{record_number, bodies_of, place_of}
use Rattle.session.specs.declared.Reply.{Reply}
use Rattle.session.specs.Packed.{packed_of, Unpacked}

-- its number, how many bodies it hands out and their bytes, packed as the answers of the state calls are
abbrev pub record_reply : List ℕ → Reply
record_reply r = record { number = record_number r; count = length (bodies_of r); bytes = bytes_in (bodies_of r) }

-- so a caller takes it apart again
pub record CheckExport (r : List ℕ) (n : ℕ) : Type 0 where
  pub answer : n ≡ packed_of (record_reply r)
  pub unpacks : Unpacked (record_reply r)

-- the offset, and 65,536 times the size; 0 where there is no body
abbrev pub packed_place : Option Entry → ℕ
packed_place None = 0
packed_place (Some e) = e.offset + 65536 * e.size

-- where the i-th body lies; 0 and 0 where there is none
abbrev pub entry_of : List ℕ → ℕ → Entry
entry_of r i = unwrap_or (place_of r i) (entry 0 0)

-- so a caller takes it apart again; that part of the record is the body, and empty where there is none
pub record BodyExport (r : List ℕ) (i n : ℕ) : Type 0 where
  pub answer : n ≡ packed_place (place_of r i)
  pub offset : n % 65536 ≡ (entry_of r i).offset
  pub size : n / 65536 ≡ (entry_of r i).size
  pub body : slice r (n % 65536) (n / 65536) ≡ get_or (bodies_of r) i []
