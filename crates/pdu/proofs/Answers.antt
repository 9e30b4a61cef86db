-- What reading and writing answer says the number of its refusal, and the value. Assumes nothing.
use mathlib.Core.Path.{◌≡◌, refl}
use mathlib.Core.Bool.{Bool, true, false, not}
use mathlib.Core.List.{List}
use Prim.Native.Nat.{ℕ}
use lib.ListN.{length}
use lib.Dec.{leb, ltb, eqb}
use Rattle.std.specs.Prelude.{Result, Ok, Err}
use Rattle.wire.specs.Tests.{pick}
use Rattle.protocol.specs.declared.Refusal.{Refusal}
use Rattle.protocol.specs.declared.Refusal.TheVariants.{TooShort, LengthDiffers, UnknownType, NotFilled, OutsideSet, OutputTooSmall}
use Rattle.protocol.specs.Refusals.{answers, says, refused_by}
use Rattle.pdu.specs.declared.Pdu.{Pdu}
use Rattle.pdu.specs.Layout.{known}
use Rattle.pdu.specs.Records.{size_of}
use Rattle.pdu.specs.Rules.{allowed}
use Rattle.pdu.specs.Reading.{type_at, length_at, record_as, unknown_setting, lengths_agree, body_of, read_of, read_number}
use Rattle.pdu.specs.Writing.{grants, written_of, written_number}

-- the ladder of reading by its tests, with the record p
abbrev pub ladder : Bool → Bool → Bool → Bool → Bool → Bool → Bool → Bool → Pdu → Result Pdu Refusal
ladder a b d u v e g f p =
    pick a (Err TooShort) (pick b (Err LengthDiffers) (pick d (Err UnknownType) (pick u (pick v (Err NotFilled) (Err OutsideSet)) (pick e (Err NotFilled) (pick g (Err NotFilled) (pick f (Err OutsideSet) (Ok p)))))))

pub read_says_lem : (s : List ℕ) → says (read_of s) ≡ answers (read_number s) (record_as (type_at s) s)
unfolding read_of body_of read_number
read_says_lem s =
    let k = type_at s in
    let p = record_as k s in
    go p (ltb (length s) 4) (not (eqb (length_at s) (length s))) (not (known k)) (unknown_setting k s) (ltb (length s) 8) (not (eqb (size_of p) (length s))) (not (lengths_agree k s)) (not (allowed p))
  where
    go : (p : Pdu) (a b d u v e g f : Bool) → says (ladder a b d u v e g f p) ≡ answers (refused_by (ladder a b d u v e g f p)) p
    go p true b d u v e g f = refl
    go p false true d u v e g f = refl
    go p false false true u v e g f = refl
    go p false false false true true e g f = refl
    go p false false false true false e g f = refl
    go p false false false false v true g f = refl
    go p false false false false v false true f = refl
    go p false false false false v false false true = refl
    go p false false false false v false false false = refl

pub written_says_lem : (p : Pdu) (src : List ℕ) (n : ℕ) → says (written_of p src n) ≡ answers (written_number p src n) (size_of p)
unfolding written_of written_number
written_says_lem p src n = go (grants p src) (leb (size_of p) n)
  where
    go : (g t : Bool) → says (pick g (pick t (Ok (size_of p)) (Err OutputTooSmall)) (Err OutsideSet)) ≡ answers (refused_by (pick g (pick t (Ok (size_of p)) (Err OutputTooSmall)) (Err OutsideSet))) (size_of p)
    go true true = refl
    go true false = refl
    go false t = refl
