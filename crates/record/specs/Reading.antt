-- What any bytes say as a session record: its number (0; 18 where it is cut; 19 where it is no list's record), and the bodies that
-- it hands out. Assumes nothing.
use Rattle.std.specs.Prelude.{Option, Some, None, ℕ, zero, suc, ◌+◌, Bool, true, false, not, List, [], ◌∷◌, map, eqb, ltb, length, get_or}
use Rattle.wire.specs.Tests.{pick, both, either, any}
use Rattle.wire.specs.Numbers.{num_at}
use Rattle.wire.specs.Parts.{slice}
use Rattle.protocol.specs.Refusals.{Answer, answers}
use Rattle.journal.specs.Limits.{most_orders, most_bytes}
use Rattle.journal.specs.State.{bytes_in}
use Rattle.record.specs.declared.Entry.{Entry}
use Rattle.record.specs.declared.Contents.{Contents}
use Rattle.record.specs.Layout.{entry, head_of}

-- how many orders it counts
abbrev pub count_in : List ℕ → ℕ
count_in r = num_at 2 r 0

-- the n entries from index p on
unfoldable pub entries_from : ℕ → ℕ → List ℕ → List Entry
entries_from zero p r = []
entries_from (suc n) p r = entry (num_at 4 r p) (num_at 4 r (p + 4)) ∷ entries_from n (p + 8) r

abbrev pub contents_of : List ℕ → List Entry
contents_of r = entries_from (count_in r) 2 r

-- an offset plus size is past the end
unfoldable pub past_end : ℕ → List Entry → Bool
past_end n [] = false
past_end n (e ∷ es) = either (ltb n (e.offset + e.size)) (past_end n es)

-- the sizes in all
unfoldable pub sizes_in : List Entry → ℕ
sizes_in [] = 0
sizes_in (e ∷ es) = e.size + sizes_in es

-- the offsets are those of bodies that touch, from p on
unfoldable pub placed_from : ℕ → List Entry → Bool
placed_from p [] = true
placed_from p (e ∷ es) = both (eqb e.offset p) (placed_from (p + e.size) es)

-- 18: fewer than 2 bytes, or than 2 plus 8 for each counted order, or an offset plus size past the end
unfoldable pub cut_short : List ℕ → Bool
cut_short r = any (ltb (length r) 2 ∷ ltb (length r) (head_of (count_in r)) ∷ past_end (length r) (contents_of r) ∷ [])

-- 19: count over 128, sizes over 32,768 in all, offsets not those of the layout, or bytes left over
unfoldable pub irregular : List ℕ → Bool
irregular r =
    any
    (ltb most_orders (count_in r)
    ∷ ltb most_bytes (sizes_in (contents_of r))
    ∷ not (placed_from (head_of (count_in r)) (contents_of r))
    ∷ ltb (head_of (count_in r) + sizes_in (contents_of r)) (length r)
    ∷ [])

-- the first that applies, each over the whole record
unfoldable pub record_number : List ℕ → ℕ
record_number r = pick (cut_short r) 18 (pick (irregular r) 19 0)

-- the part of a record where a body lies; empty where it does not lie within
unfoldable pub part_of : List ℕ → Entry → List ℕ
part_of r e = pick (ltb (length r) (e.offset + e.size)) [] (slice r e.offset e.size)

-- the parts that the table of contents names
unfoldable pub parts_of : List ℕ → List (List ℕ)
parts_of r = map (part_of r) (contents_of r)

-- the bodies that are handed out: none of a record that is refused
unfoldable pub bodies_of : List ℕ → List (List ℕ)
bodies_of r = pick (eqb (record_number r) 0) (parts_of r) []

-- the number, and where it is 0 how many they are and their bytes in all
unfoldable pub inspected_of : List ℕ → Answer Contents
inspected_of r = answers (record_number r) (record { count = length (bodies_of r); bytes = bytes_in (bodies_of r) })

-- where the i-th of them lies: none past the last
unfoldable pub place_of : List ℕ → ℕ → Option Entry
place_of r i = pick (ltb i (length (bodies_of r))) (Some (get_or (contents_of r) i (entry 0 0))) None
