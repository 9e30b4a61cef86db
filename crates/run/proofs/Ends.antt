-- Where a run ends: reading the next item of a script. Assumes nothing.
use Prim.Native.Nat.{ℕ, zero, suc, ◌+◌, ◌-◌, ◌≤◌, ◌<◌}
use mathlib.Core.Path.{◌≡◌, refl, sym, ap, ◌∙◌}
use mathlib.Core.Bool.{Bool, true, false}
use mathlib.Core.List.{List}
use mathlib.Core.Option.{Option, none, some}
use native.Mathlib.Omega.{arith}
use lib.Dec.{eqb, ltb}
use lib.ListN.{length, take, drop, length-drop}
use lib.Seq.{drop-drop}
use borrow.Author.Tests.{ne_eqb, lt-ltb, le-ltb, ltb-false}
use Rattle.wire.specs.Tests.{pick}
use Rattle.wire.specs.Parts.{slice}
use Rattle.wire.specs.Numbers.{num_at}
use Rattle.wire.proofs.Numbers.{num_drop}
use Rattle.run.specs.Script.{step_of, last_kind, kind_of, item_length, first_call, block_length, ends_with, ends_here, call_first, course_from}
use Rattle.run.specs.Steps.{Takes, end_number, EndsAt}

-- ---- from the number to the tests

-- the first call of a script is done
pub record Going (lent : ℕ) (s : List ℕ) (room : ℕ) : Type 0 where
  pub on : ends_with lent s room ≡ none
  pub whole : item_length s ≤ length s
  pub fits : block_length (first_call lent s) ≤ room

pub going : (lent : ℕ) (s : List ℕ) (room : ℕ) → end_number (ends_with lent s room) ≡ 255 → Going lent s room
unfolding ends_with
going lent s room e =
    go (eqb (length s) 0) refl (ltb (length s) 3) refl (ltb (length s) (item_length s)) refl (ltb last_kind (kind_of s)) refl (ltb room (block_length (first_call lent s))) refl
  where
    not-here : {n : ℕ} → ends_with lent s room ≡ some n → (n ≡ 255 → ⊥) → Going lent s room
    not-here w x = absurd (x (sym (ap end_number w) ∙ e))

    go : (a : Bool) → eqb (length s) 0 ≡ a → (b : Bool) → ltb (length s) 3 ≡ b → (c : Bool) → ltb (length s) (item_length s) ≡ c → (d : Bool) → ltb last_kind (kind_of s) ≡ d
        → (f : Bool) → ltb room (block_length (first_call lent s)) ≡ f → Going lent s room
    go true p b q c r d t f u = not-here {n = 0} (rw p) (λ x. omega (arith, x))
    go false p true q c r d t f u = not-here {n = 2} (rw (p, q)) (λ x. omega (arith, x))
    go false p false q true r d t f u = not-here {n = 3} (rw (p, q, r)) (λ x. omega (arith, x))
    go false p false q false r true t f u = not-here {n = 4} (rw (p, q, r, t)) (λ x. omega (arith, x))
    go false p false q false r false t true u = not-here {n = 14} (rw (p, q, r, t, u)) (λ x. omega (arith, x))
    go false p false q false r false t false u =
        record {
          on = rw (p, q, r, t, u);
          whole = ltb-false (length s) (item_length s) r;
          fits = ltb-false room (block_length (first_call lent s)) u;
        }

ended : (x : Option ℕ) {n : ℕ} → n ≡ end_number x → (n ≡ 255 → ⊥) → x ≡ some n
ended none e k = absurd (k e)
ended (some n) e k = ap some (sym e)

some_same : {a b : ℕ} → some a ≡ some b → a ≡ b
some_same e = ap end_number e

pub number_small : (lent : ℕ) (s : List ℕ) (room : ℕ) → end_number (ends_with lent s room) ≤ 255
unfolding ends_with
number_small lent s room =
    go (eqb (length s) 0) (ltb (length s) 3) (ltb (length s) (item_length s)) (ltb last_kind (kind_of s)) (ltb room (block_length (first_call lent s)))
  where
    go : (a b c d e : Bool) → end_number (pick a (some 0) (pick b (some 2) (pick c (some 3) (pick d (some 4) (pick e (some 14) none))))) ≤ 255
    go true b c d e = omega arith
    go false true c d e = omega arith
    go false false true d e = omega arith
    go false false false true e = omega arith
    go false false false false true = omega arith
    go false false false false false = omega arith

-- ---- the course

-- no call more is done
course_ends : (lent f : ℕ) (s : List ℕ) (room n : ℕ) → length s ≤ f → ends_with lent s room ≡ some n → course_from lent f s room ≡ ends_here n
unfolding course_from ends_with
course_ends lent zero s room n l e =
    let z : length s ≡ 0 = omega (arith, l) in
    let w : some 0 ≡ some n = rw z at e in
    ap ends_here (some_same w)
course_ends lent (suc f) s room n l e = rw e

pub course_end : (lent f : ℕ) (s : List ℕ) (room : ℕ) {n : ℕ} → length s ≤ f → n ≡ end_number (ends_with lent s room) → (n ≡ 255 → ⊥) → course_from lent f s room ≡ ends_here n
course_end lent f s room {n} l e k = course_ends lent f s room n l (ended (ends_with lent s room) e k)

-- one call more is done
pub course_more : (lent f : ℕ) (s : List ℕ) {room : ℕ} → Going lent s room → course_from lent (suc f) s room ≡ call_first (first_call lent s) (course_from lent f (drop (item_length s) s) (room - block_length (first_call lent s)))
unfolding course_from
course_more lent f s g = rw g.on

-- ---- reading at an index

module _ (s : List ℕ) (at : ℕ) where
  pub kind_at : kind_of (drop at s) ≡ num_at 1 s at
  kind_at = num_drop 1 at 0 s ∙ (let e : at + 0 ≡ at = omega arith in ap (num_at 1 s) e)

  pub size_at_lem : num_at 2 (drop at s) 1 ≡ num_at 2 s (at + 1)
  size_at_lem = num_drop 2 at 1 s

  module _ {kind size : ℕ} (k : kind ≡ num_at 1 s at) (z : size ≡ num_at 2 s (at + 1)) where
    -- the call at the index, as it is read
    pub call_at : (lent : ℕ) → first_call lent (drop at s) ≡ step_of lent kind (take (at + 3 + size - (at + 3)) (drop (at + 3) s))
    unfolding first_call slice
    call_at lent =
        let e : num_at 2 (drop at s) 1 ≡ at + 3 + size - (at + 3) = omega (arith, size_at_lem, z) in
        rw (kind_at, sym k, e, drop-drop 3 at s)

    pub block_at : (lent : ℕ) {block : ℕ} → Takes kind block → block_length (first_call lent (drop at s)) ≡ block
    block_at lent b = ap block_length (call_at lent) ∙ sym (b.takes lent (take (at + 3 + size - (at + 3)) (drop (at + 3) s)))

-- ---- from the tests to the number, as the code makes them

module _ (s : List ℕ) (at room : ℕ) where
  abbrev rest : List ℕ
  rest = drop at s

  pub ends_0 : length s - at ≡ 0 → EndsAt 0 rest room
  unfolding ends_with
  ends_0 e = record { is = λ lent. rw (length-drop at s ∙ e) }

  module _ (some_left : length s - at ≡ 0 → ⊥) where
    not-over : eqb (length rest) 0 ≡ false
    not-over = ne_eqb (length rest) 0 (λ z. some_left (sym (length-drop at s) ∙ z))

    pub ends_2 : length s - at < 3 → EndsAt 2 rest room
    unfolding ends_with
    ends_2 l = record { is = λ lent. rw (not-over, lt-ltb (length rest) 3 (omega (arith, length-drop at s, l))) }

    module _ (has-head : 3 ≤ length s - at) {kind size : ℕ} (k : kind ≡ num_at 1 s at) (z : size ≡ num_at 2 s (at + 1)) where
      headed : ltb (length rest) 3 ≡ false
      headed = le-ltb (length rest) 3 (omega (arith, length-drop at s, has-head))

      pub ends_3 : length s - at < 3 + size → EndsAt 3 rest room
      unfolding ends_with
      ends_3 l = record { is = λ lent. rw (not-over, headed, lt-ltb (length rest) (item_length rest) (omega (arith, length-drop at s, size_at_lem s at, z, l))) }

      module _ (Has-All : 3 + size ≤ length s - at) where
        whole : ltb (length rest) (item_length rest) ≡ false
        whole = le-ltb (length rest) (item_length rest) (omega (arith, length-drop at s, size_at_lem s at, z, Has-All))

        pub ends_4 : last_kind < kind → EndsAt 4 rest room
        unfolding ends_with
        ends_4 l = record { is = λ lent. rw (not-over, headed, whole, lt-ltb last_kind (kind_of rest) (omega (arith, kind_at s at, k, l))) }

        module _ (is_Known : kind ≤ last_kind) {block : ℕ} (b : Takes kind block) where
          known : ltb last_kind (kind_of rest) ≡ false
          known = le-ltb last_kind (kind_of rest) (omega (arith, kind_at s at, k, is_Known))

          pub ends_14 : room < block → EndsAt 14 rest room
          unfolding ends_with
          ends_14 l = record { is = λ lent. rw (not-over, headed, whole, known, lt-ltb room (block_length (first_call lent rest)) (omega (arith, block_at s at k z lent b, l))) }

          pub goes_on : block ≤ room → EndsAt 255 rest room
          unfolding ends_with
          goes_on l = record { is = λ lent. rw (not-over, headed, whole, known, le-ltb room (block_length (first_call lent rest)) (omega (arith, block_at s at k z lent b, l))) }
