-- Memory in which a total and how many bytes came are noted: its length, its bytes elsewhere, what it describes. Assumes nothing.
use mathlib.Core.Path.{◌≡◌, ◌∙◌}
use mathlib.Core.List.{List}
use Prim.Native.Nat.{ℕ, ◌+◌, ◌≤◌, ◌<◌}
use native.Mathlib.Omega.{arith}
use lib.ListN.{length, take, drop}
use lib.Dec.{eqb}
use borrow.Author.Tests.{le-leb, le-ltb}
use Rattle.wire.specs.Tests.{pick}
use Rattle.wire.specs.Parts.{splice}
use Rattle.wire.specs.Numbers.{bytes_of}
use Rattle.wire.proofs.Parts.{length_splice, take_splice, drop_splice}
use Rattle.wire.proofs.Numbers.{length_bytes, num_before, num_put, fits4}
use Rattle.chunk.specs.Chunk.{nothing, begun, most}
use Rattle.chunk.specs.Memory.{total_place, got_place, memory_size, total_at, got_at, well_formed, state_at, formed, view_of, noted, emptied}

module _ (mem : List ℕ) (total got : ℕ) (long : memory_size ≤ length mem) where
  room : total_place + length (bytes_of 4 total) ≤ length mem
  room = omega (arith, length_bytes 4 total)

  first_length : length (splice mem total_place (bytes_of 4 total)) ≡ length mem
  first_length = length_splice mem total_place (bytes_of 4 total) room

  room_after : got_place + length (bytes_of 4 got) ≤ length (splice mem total_place (bytes_of 4 total))
  room_after = omega (arith, length_bytes 4 got, first_length)

  pub length_noted : length (noted mem total got) ≡ length mem
  unfolding noted
  length_noted = length_splice (splice mem total_place (bytes_of 4 total)) got_place (bytes_of 4 got) room_after ∙ first_length

  pub take_noted : (n : ℕ) → n ≤ total_place → take n (noted mem total got) ≡ take n mem
  unfolding noted
  take_noted n h =
      take_splice (splice mem total_place (bytes_of 4 total)) got_place (bytes_of 4 got) room_after n (omega arith)
      ∙ take_splice mem total_place (bytes_of 4 total) room n h

  pub drop_noted : drop memory_size (noted mem total got) ≡ drop memory_size mem
  unfolding noted
  drop_noted =
      drop_splice (splice mem total_place (bytes_of 4 total)) got_place (bytes_of 4 got) room_after memory_size (omega (arith, length_bytes 4 got))
      ∙ drop_splice mem total_place (bytes_of 4 total) room memory_size (omega (arith, length_bytes 4 total))

  pub total_noted : total < 4294967296 → total_at (noted mem total got) ≡ total
  unfolding noted
  total_noted h =
      num_before 4 (splice mem total_place (bytes_of 4 total)) got_place (bytes_of 4 got) room_after total_place (omega arith)
      ∙ num_put 4 mem total_place total (omega arith) (fits4 total h)

  pub got_noted : got < 4294967296 → got_at (noted mem total got) ≡ got
  unfolding noted
  got_noted h = num_put 4 (splice mem total_place (bytes_of 4 total)) got_place got (omega (arith, first_length)) (fits4 got h)

  -- the noted memory describes the noted state
  pub view_noted : total ≤ most → got ≤ total
      → view_of (noted mem total got) ≡ formed (pick (eqb total 0) nothing (begun total (take got mem)))
  unfolding view_of well_formed state_at
  view_noted t g =
      rw (length_noted, le-ltb (length mem) memory_size long, total_noted (omega arith), got_noted (omega arith), le-leb total most t, le-leb got total g, take_noted got (omega arith))

-- ---- nothing begun

module _ (mem : List ℕ) (long : memory_size ≤ length mem) where
  pub length_emptied : length (emptied mem) ≡ length mem
  unfolding emptied
  length_emptied = length_noted mem 0 0 long

  pub take_emptied : (n : ℕ) → n ≤ total_place → take n (emptied mem) ≡ take n mem
  unfolding emptied
  take_emptied n h = take_noted mem 0 0 long n h

  pub drop_emptied : drop memory_size (emptied mem) ≡ drop memory_size mem
  unfolding emptied
  drop_emptied = drop_noted mem 0 0 long

  pub view_emptied : view_of (emptied mem) ≡ formed nothing
  unfolding emptied
  view_emptied = view_noted mem 0 0 long (omega arith) (omega arith)
