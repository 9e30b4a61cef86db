-- The counter profile beside the plain rules: it passes only what they pass, and as they do. Assumes nothing.
use Rattle.std.specs.Prelude.{ℕ, Bool, false, List, [], ◌∷◌, ◌≡◌, length, Result, Ok, Err}
use Rattle.protocol.specs.declared.Refusal.{Refusal}
use Rattle.protocol.specs.Refusals.{number_of}
use Rattle.pdu.specs.declared.Pdu.{Pdu}
use Rattle.pdu.specs.Layout.{one_of}
use Rattle.pdu.specs.Reading.{read_of}
use Rattle.pdu.specs.Writing.{written_of, out_after_of}
use Rattle.profile.specs.Counter.{counter_read, counter_written, counter_out}

-- the numbers that the plain rules do not have: of a kind from the wrong end, of a program not permitted
abbrev pub counter_numbers : List ℕ
counter_numbers = 20 ∷ 21 ∷ []

-- a refusal is the profile's own
abbrev pub is_own : Refusal → Bool
is_own e = one_of (number_of e) counter_numbers

pub record PassesPlain : Type 0 where
  -- what is read is read by the plain rules, as the same record; what is refused otherwise than by the profile's own they refuse so, and what they refuse is refused so
  pub read : (s : List ℕ) (p : Pdu) → counter_read s ≡ Ok p → read_of s ≡ Ok p
  pub refused : (s : List ℕ) (e : Refusal) → is_own e ≡ false → counter_read s ≡ Err e → read_of s ≡ Err e
  pub refused_first : (s : List ℕ) (e : Refusal) → read_of s ≡ Err e → counter_read s ≡ Err e
  -- the same of writing, the output memory with it
  pub written : (p : Pdu) (src : List ℕ) (m n : ℕ) → counter_written p src m ≡ Ok n → written_of p src m ≡ Ok n
  pub same_memory : (p : Pdu) (src out : List ℕ) (n : ℕ) → counter_written p src (length out) ≡ Ok n → counter_out p src out ≡ out_after_of p src out
  pub unwritten : (p : Pdu) (src : List ℕ) (m : ℕ) (e : Refusal) → is_own e ≡ false → counter_written p src m ≡ Err e → written_of p src m ≡ Err e
  pub unwritten_first : (p : Pdu) (src : List ℕ) (m : ℕ) (e : Refusal) → written_of p src m ≡ Err e → counter_written p src m ≡ Err e
  -- a refused write leaves the output memory untouched
  pub untouched : (p : Pdu) (src out : List ℕ) (e : Refusal) → counter_written p src (length out) ≡ Err e → counter_out p src out ≡ out
