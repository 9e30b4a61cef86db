-- The account of the round trip over all kinds, and what it says of what a call wrote. Assumes nothing.
use mathlib.Core.Path.{◌≡◌, sym, ap, ◌∙◌, subst}
use mathlib.Core.Bool.{true}
use mathlib.Core.List.{List, ◌++◌}
use Prim.Native.Nat.{ℕ, ◌≤◌}
use lib.ListN.{length, take, drop}
use lib.Seq.{take_at}
use borrow.Author.Tests.{le-leb}
use Rattle.pdu.specs.declared.Pdu.{Pdu}
use Rattle.pdu.specs.Records.{size_of}
use Rattle.pdu.specs.Writing.{encode, grants, written_of, out_after_of}
use Rattle.pdu.specs.RoundTrip.{typed, ReadsBack, RoundTrip}
use Rattle.pdu.proofs.Writing.{length_encode}
use Rattle.pdu.proofs.ReadBack.{reads_back}
use Rattle.pdu.proofs.WriteBack.{writes_back}

pub round_trip : RoundTrip
round_trip = record { written = reads_back; read = λ b p ok e. writes_back b p (record { small = ok }) e }

module _ (p : Pdu) (src out : List ℕ) (g : grants p src ≡ true) (fits : size_of p ≤ length out) where
  first : out_after_of p src out ≡ encode p src ++ drop (size_of p) out
  unfolding out_after_of written_of
  first = rw (g, le-leb (size_of p) (length out) fits)

  -- the output memory after a granted call reads back
  pub after_reads : (n : ℕ) (y : List ℕ) → n ≡ size_of p → typed p ≡ true → y ≡ out_after_of p src out → ReadsBack (take n y) p src
  after_reads n y en t ey =
      let e : take n y ≡ encode p src = ap (take n) (ey ∙ first) ∙ take_at (encode p src) (drop (size_of p) out) n (length_encode p src g ∙ sym en) in
      subst (λ (b : List ℕ). ReadsBack b p src) (sym e) (round_trip.written p src g t)
