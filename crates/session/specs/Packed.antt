-- A reply as one number: at the C boundary, and at the head of a block of `run`. Assumes nothing.
use Rattle.std.specs.Prelude.{ℕ, ◌+◌, ◌*◌, ◌/◌, ◌%◌, ◌≤◌, ◌<◌, ◌≡◌}
use Rattle.session.specs.declared.Reply.{Reply}

-- the number, 256 times the count, 65,536 times the bytes. Neither passes its place: a count is at most 128, the bytes 32,768
unfoldable pub packed_of : Reply → ℕ
packed_of r = r.number + 256 * (r.count % 256) + 65536 * (r.bytes % 65536)

-- so a caller takes it apart again
pub record Unpacked (r : Reply) : Type 0 where
  pub number : packed_of r % 256 ≡ r.number
  pub count : packed_of r / 256 % 256 ≡ r.count
  pub bytes : packed_of r / 65536 ≡ r.bytes

unfoldable pub Unpacks : Type 0
Unpacks = (r : Reply) → r.number < 256 → r.count ≤ 128 → r.bytes ≤ 32768 → Unpacked r
