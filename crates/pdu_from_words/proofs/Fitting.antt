-- Words that fit a type make a record of it. Assumes nothing.
use mathlib.Core.Path.{◌≡◌, sym, ap}
use mathlib.Core.Bool.{Bool, true}
use mathlib.Core.List.{List, [], ◌∷◌, map}
use Prim.Native.Nat.{ℕ, ◌<◌}
use native.Mathlib.Omega.{arith}
use lib.ListN.{get_or}
use Rattle.wire.specs.Tests.{both, all_after}
use Rattle.wire.proofs.Tests.{both_left, both_right, one_of_lem}
use Rattle.pdu.specs.Layout.{types, known}
use Rattle.pdu_words.specs.FromWords.{limits, within, position_words, is_position, fitting, Stands, record_from, pdu_of}
use Rattle.pdu_words.proofs.FromWords.{all_within, fitting_as, known_type}
use Rattle.pdu_from_words.specs.Fitting.{all_positions, Fitting}

-- tests that all hold: the first, and that each word is a position
each_holds : (w : List ℕ) (a : Bool) (is : List ℕ) → all_after a (map (is_position w) is) ≡ true → (a ≡ true) × all_positions w is
each_holds w a [] e = (e, tt)
each_holds w a (i ∷ is) e =
    let rest = each_holds w (both a (is_position w i)) is e in
    (both_left a (is_position w i) rest.0, (both_right a (is_position w i) rest.0, rest.1))

pub fitting_words : (k : ℕ) (w : List ℕ) → fitting k w ≡ true → Fitting k w
fitting_words k w e =
    let each = each_holds w (within w (limits k (get_or w 1 0))) (position_words k) e in
    record { within = all_within w (limits k (get_or w 1 0)) each.0; positions = each.1 }

-- words that stand for a record fit its type
pub standing_fits : (k : ℕ) (w : List ℕ) → Stands w → get_or w 0 0 ≡ k → Fitting k w
standing_fits k w h q = fitting_words k w (fitting_as k h q)

-- the record of words whose type is k
pub of_type : (k : ℕ) (w : List ℕ) → get_or w 0 0 ≡ k → record_from k w ≡ pdu_of w
unfolding pdu_of
of_type k w q = ap (λ (i : ℕ). record_from i w) (sym q)

-- a known type fits two bytes
pub type_small : (w : List ℕ) → Stands w → get_or w 0 0 < 65536
unfolding known
type_small w h =
    let small : (k : ℕ) → k < 256 → k < 65536 = λ k l. omega arith in
    small (get_or w 0 0) (one_of_lem (λ (k : ℕ). k < 256) types (get_or w 0 0) (known_type w h.holds)
    (omega arith, (omega arith, (omega arith, (omega arith, (omega arith, (omega arith, (omega arith, (omega arith, (omega arith, (omega arith, (omega arith, (omega arith, (omega arith, (omega arith, (omega arith, tt))))))))))))))))
