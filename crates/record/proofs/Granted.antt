-- What a record's number says: the facts of a granted record, and the ways to a number. Assumes nothing.
use mathlib.Core.Path.{◌≡◌, refl}
use mathlib.Core.Bool.{Bool, true, false, not}
use mathlib.Core.List.{List}
use Prim.Native.Nat.{ℕ, ◌+◌, ◌≤◌}
use native.Mathlib.Omega.{arith}
use lib.Dec.{ltb}
use lib.ListN.{length}
use borrow.Author.Tests.{le-ltb, ltb-false, not-false}
use Rattle.wire.specs.Tests.{pick, either}
use Rattle.journal.specs.Limits.{most_bytes, most_orders}
use Rattle.record.specs.Layout.{head_of}
use Rattle.record.specs.Reading.{count_in, contents_of, past_end, sizes_in, placed_from, cut_short, irregular, record_number}
use Rattle.record.proofs.Entries.{placed_within}
use Rattle.wire.proofs.Tests.{either_left, either_right}

pub record Granted (r : List ℕ) : Type 0 where
  pub few : count_in r ≤ most_orders
  pub head : head_of (count_in r) ≤ length r
  pub within : past_end (length r) (contents_of r) ≡ false
  pub small : sizes_in (contents_of r) ≤ most_bytes
  pub placed : placed_from (head_of (count_in r)) (contents_of r) ≡ true
  pub whole : head_of (count_in r) + sizes_in (contents_of r) ≡ length r

pub granted : (r : List ℕ) → Granted r → record_number r ≡ 0
unfolding record_number cut_short irregular
granted r g =
    let head = g.head in
    let whole = g.whole in
    let a : ltb (length r) 2 ≡ false = le-ltb (length r) 2 (omega arith) in
    let b : ltb (length r) (head_of (count_in r)) ≡ false = le-ltb (length r) (head_of (count_in r)) (omega arith) in
    let c : ltb most_orders (count_in r) ≡ false = le-ltb most_orders (count_in r) g.few in
    let d : ltb most_bytes (sizes_in (contents_of r)) ≡ false = le-ltb most_bytes (sizes_in (contents_of r)) g.small in
    let e : ltb (head_of (count_in r) + sizes_in (contents_of r)) (length r) ≡ false =
    le-ltb (head_of (count_in r) + sizes_in (contents_of r)) (length r) (omega arith) in
    rw (a, b, g.within, c, d, g.placed, e)

-- a number 0 says that neither test holds
none_cut : (a b : Bool) → ◌≡◌ {A = ℕ} (pick a 18 (pick b 19 0)) 0 → a ≡ false
none_cut true b e = absurd (omega arith)
none_cut false b e = refl

none_irregular : (a b : Bool) → ◌≡◌ {A = ℕ} (pick a 18 (pick b 19 0)) 0 → b ≡ false
none_irregular true b e = absurd (omega arith)
none_irregular false true e = absurd (omega arith)
none_irregular false false e = refl

pub granted_facts : (r : List ℕ) → record_number r ≡ 0 → Granted r
unfolding record_number cut_short irregular
granted_facts r e =
    let n = length r in
    let c = count_in r in
    let es = contents_of r in
    let cut = none_cut (cut_short r) (irregular r) e in
    let irr = none_irregular (cut_short r) (irregular r) e in
    let c12 = either_left (either (ltb n 2) (ltb n (head_of c))) (past_end n es) cut in
    let head = ltb-false n (head_of c) (either_right (ltb n 2) (ltb n (head_of c)) c12) in
    let within = either_right (either (ltb n 2) (ltb n (head_of c))) (past_end n es) cut in
    let i123 = either_left (either (either (ltb most_orders c) (ltb most_bytes (sizes_in es))) (not (placed_from (head_of c) es))) (ltb (head_of c + sizes_in es) n) irr in
    let left = ltb-false (head_of c + sizes_in es) n
    (either_right (either (either (ltb most_orders c) (ltb most_bytes (sizes_in es))) (not (placed_from (head_of c) es))) (ltb (head_of c + sizes_in es) n) irr) in
    let i12 = either_left (either (ltb most_orders c) (ltb most_bytes (sizes_in es))) (not (placed_from (head_of c) es)) i123 in
    let placed = not-false (placed_from (head_of c) es) (either_right (either (ltb most_orders c) (ltb most_bytes (sizes_in es))) (not (placed_from (head_of c) es)) i123) in
    let few = ltb-false most_orders c (either_left (ltb most_orders c) (ltb most_bytes (sizes_in es)) i12) in
    let small = ltb-false most_bytes (sizes_in es) (either_right (ltb most_orders c) (ltb most_bytes (sizes_in es)) i12) in
    let most = placed_within n (head_of c) es head placed within in
    record { few = few; head = head; within = within; small = small; placed = placed; whole = omega arith }
