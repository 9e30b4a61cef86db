-- The orders that a journal holds: their number, where they end, and their bytes. Assumes nothing.
use mathlib.Core.Path.{◌≡◌, refl}
use mathlib.Core.Bool.{Bool, true, false}
use mathlib.Core.List.{List}
use Prim.Native.Nat.{ℕ, zero, suc, ◌+◌, ◌-◌, ◌≤◌}
use native.Mathlib.Omega.{arith}
use lib.Dec.{ltb}
use lib.ListN.{length}
use borrow.Author.Tests.{ltb-false}
use Rattle.wire.specs.Tests.{pick}
use Rattle.wire.proofs.Parts.{length_slice}
use Rattle.journal.specs.Limits.{journal_length}
use Rattle.journal.specs.State.{bytes_in}
use Rattle.journal.specs.Journal.{size_at, order_at, orders_from, end_from, within_from}

-- a test that must fail, and what follows it
pub fails_left : (t b : Bool) → pick t false b ≡ true → t ≡ false
fails_left true b e = let z : ◌≡◌ {A = ℕ} 0 1 = cc in absurd (omega arith)
fails_left false b e = refl

pub fails_right : (t b : Bool) → pick t false b ≡ true → b ≡ true
fails_right true b e = let z : ◌≡◌ {A = ℕ} 0 1 = cc in absurd (omega arith)
fails_right false b e = e

-- the first order ends within the room, and so do those after it
pub within_first : (n p : ℕ) (j : List ℕ) → within_from (suc n) p j ≡ true → size_at j p ≤ journal_length - p
unfolding within_from
within_first n p j h =
    ltb-false (journal_length - p) (size_at j p) (fails_left (ltb (journal_length - p) (size_at j p)) (within_from n (p + size_at j p) j) h)

pub within_rest : (n p : ℕ) (j : List ℕ) → within_from (suc n) p j ≡ true → within_from n (p + size_at j p) j ≡ true
unfolding within_from
within_rest n p j h = fails_right (ltb (journal_length - p) (size_at j p)) (within_from n (p + size_at j p) j) h

-- they end behind where they begin, and within the room
pub end_past : (n p : ℕ) (j : List ℕ) → p ≤ end_from n p j
unfolding end_from
end_past zero p j = omega arith
end_past (suc n) p j = omega (arith, end_past n (p + size_at j p) j)

-- their bytes stand between
bytes_past : (n p : ℕ) (j : List ℕ) → within_from n p j ≡ true → p ≤ journal_length → journal_length ≤ length j → p + bytes_in (orders_from n p j) ≡ end_from n p j
unfolding orders_from bytes_in end_from
bytes_past zero p j w h l = omega arith
bytes_past (suc n) p j w h l =
    let f = within_first n p j w in
    let e : length (order_at j p) ≡ size_at j p = length_slice j p (size_at j p) (omega arith) in
    let r = bytes_past n (p + size_at j p) j (within_rest n p j w) (omega arith) l in
    omega (arith, e, r)

pub bytes_orders : (n p : ℕ) (j : List ℕ) → within_from n p j ≡ true → p ≤ journal_length → journal_length ≤ length j → bytes_in (orders_from n p j) ≡ end_from n p j - p
bytes_orders n p j w h l = omega (arith, bytes_past n p j w h l)
