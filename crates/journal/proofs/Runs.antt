-- Runs of orders: one after another, the first of them, and what an accepted one has. Assumes nothing.
use mathlib.Core.Path.{◌≡◌, refl}
use mathlib.Core.Bool.{true}
use mathlib.Core.List.{List, [], ◌∷◌, ◌++◌}
use Prim.Native.Nat.{ℕ, zero, suc, ◌+◌}
use native.Mathlib.Omega.{arith}
use lib.Dec.{eqb}
use lib.ListN.{take}
use borrow.Author.Tests.{eqb-true}
use Rattle.std.specs.Prelude.{Ok, Err}
use Rattle.wire.proofs.Tests.{both_left, both_right}
use Rattle.order.specs.declared.Order.TheVariants.{Window, Notification, Desktop}
use Rattle.order.specs.Judge.{Judged, judge_of, number_of}
use Rattle.order.proofs.Accepted.{Accepted, accepted}
use Rattle.index.specs.Orders.{on_judged}
use Rattle.index.specs.Index.{Index, number_in, record_number}
use Rattle.table.specs.Table.{Table, number, after}
use Rattle.journal.specs.State.{run, bytes_in, all_accepted}

pub run_append : (t : Table) (a b : List (List ℕ)) → run t (a ++ b) ≡ run (run t a) b
unfolding run
run_append t [] b = refl
run_append t (o ∷ a) b = run_append (after t o) a b

pub bytes_append : (a b : List (List ℕ)) → bytes_in (a ++ b) ≡ bytes_in a + bytes_in b
unfolding bytes_in
bytes_append [] b = omega arith
bytes_append (o ∷ a) b = omega (arith, bytes_append a b)

pub accepted_first : (t : Table) (o : List ℕ) (os : List (List ℕ)) → all_accepted t (o ∷ os) ≡ true → number t o ≡ 0
unfolding all_accepted
accepted_first t o os h = eqb-true (number t o) 0 (both_left (eqb (number t o) 0) (all_accepted (after t o) os) h)

pub accepted_rest : (t : Table) (o : List ℕ) (os : List (List ℕ)) → all_accepted t (o ∷ os) ≡ true → all_accepted (after t o) os ≡ true
unfolding all_accepted
accepted_rest t o os h = both_right (eqb (number t o) 0) (all_accepted (after t o) os) h

-- one more that is accepted
pub accepted_more : (t : Table) (os : List (List ℕ)) (o : List ℕ) → all_accepted t os ≡ true → number (run t os) o ≡ 0 → all_accepted t (os ++ (o ∷ [])) ≡ true
unfolding run all_accepted
accepted_more t [] o h z = rw z
accepted_more t (p ∷ os) o h z = rw (accepted_first t p os h) (accepted_more (after t p) os o (accepted_rest t p os h) z)

-- the first k
pub accepted_take : (t : Table) (k : ℕ) (os : List (List ℕ)) → all_accepted t os ≡ true → all_accepted t (take k os) ≡ true
unfolding all_accepted
accepted_take t zero os h = refl
accepted_take t (suc k) [] h = refl
accepted_take t (suc k) (o ∷ os) h = rw (accepted_first t o os h) (accepted_take (after t o) k os (accepted_rest t o os h))

-- an accepted order is accepted on its bytes
number_bytes : (d : Index) (s : List ℕ) (j : Judged) → on_judged j (record_number d s) (λ flags. 0) (λ n. n) ≡ 0 → number_of j ≡ 0
number_bytes d s (Ok (Window o)) h = refl
number_bytes d s (Ok (Notification o)) h = refl
number_bytes d s (Ok (Desktop o)) h = refl
number_bytes d s (Err r) h = h

pub accepted_order : (t : Table) (s : List ℕ) → number t s ≡ 0 → Accepted s
unfolding number number_in
accepted_order t s h = accepted s (number_bytes t.index s (judge_of s) h)
