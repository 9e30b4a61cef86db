-- A whole update: orders cut from its bytes and delivered one by one, by the single call's own definition. Assumes nothing.
use Rattle.std.specs.Prelude.{ℕ, zero, suc, ◌≡◌, Bool, eqb, ltb, length, take, drop}
use mathlib.Core.List.{List, [], ◌∷◌, flatten}
use Rattle.wire.specs.Tests.{pick, either}
use Rattle.wire.specs.Numbers.{num_at}
use Rattle.journal.specs.State.{State}
use Rattle.session.specs.Calls.{deliver, answer, next}

-- ---- cutting

-- the type byte and OrderSize; the fewest bytes of an order
abbrev pub head_size : ℕ
head_size = 3

abbrev pub fewest : ℕ
fewest = 7

abbrev pub order_size : List ℕ → ℕ
order_size s = num_at 2 s 1

-- the OrderSize at the start of s is missing, under 7 or past the end
abbrev pub is_rest : List ℕ → Bool
is_rest s = either (ltb (length s) head_size) (either (ltb (order_size s) fewest) (ltb (length s) (order_size s)))

-- the bytes of the first order of s: its OrderSize, else all the rest
unfoldable pub first_size : List ℕ → ℕ
first_size s = pick (is_rest s) (length s) (order_size s)

-- the first f orders of s; an update has no more orders than bytes
unfoldable pub cut_from : ℕ → List ℕ → List (List ℕ)
cut_from zero s = []
cut_from (suc f) s = pick (eqb (length s) 0) [] (take (first_size s) s ∷ cut_from f (drop (first_size s) s))

unfoldable pub orders_of : List ℕ → List (List ℕ)
orders_of s = cut_from (length s) s

-- no byte is dropped
unfoldable pub CutWhole : Type 0
CutWhole = (s : List ℕ) → flatten (orders_of s) ≡ s

-- ---- delivering

-- the orders granted, the number of the one delivered last (0 where none was), and the state then
pub record Course : Type 0 where
  pub granted : List (List ℕ)
  pub number : ℕ
  pub state : State

abbrev pub stopped : ℕ → State → Course
stopped n s = record { granted = []; number = n; state = s }

abbrev pub granted_first : List ℕ → Course → Course
granted_first o c = record { granted = o ∷ c.granted; number = c.number; state = c.state }

-- one by one until so many are granted, none is left or one is refused
unfoldable pub deliver_all : ℕ → List (List ℕ) → State → Course
deliver_all zero os s = stopped 0 s
deliver_all (suc limit) [] s = stopped 0 s
deliver_all (suc limit) (o ∷ os) s =
    pick (eqb (answer (deliver o) s).number 0) (granted_first o (deliver_all limit os (next (deliver o) s)))
    (stopped (answer (deliver o) s).number (next (deliver o) s))
