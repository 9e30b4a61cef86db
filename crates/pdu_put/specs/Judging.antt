-- What stands between judging a record and writing it. Assumes nothing.
use Rattle.std.specs.Prelude.{ℕ, ◌+◌, ◌≤◌, true, List, ◌≡◌, Option, Some, None, length}
use Rattle.wire.specs.Tests.{pick, both}
use Rattle.wire.specs.Parts.{splice}
use Rattle.pdu.specs.declared.Execute.{Execute}
use Rattle.pdu.specs.declared.Span.{Span}
use Rattle.pdu.specs.declared.Pdu.{Pdu}
use Rattle.pdu.specs.Records.{size_of, spans_of}
use Rattle.pdu.specs.Rules.{allowed}
use Rattle.pdu.specs.Writing.{all_lie, encode, grants}

-- what p takes where number 8 does not apply to it, its strings in n bytes
abbrev pub judged : Pdu → ℕ → Option ℕ
judged p n = pick (both (allowed p) (all_lie n (spans_of p))) (Some (size_of p)) None

-- p passes number 8, and out has room for it
pub record Ready (p : Pdu) (src out : List ℕ) : Type 0 where
  pub granted : grants p src ≡ true
  pub room : size_of p ≤ length out

-- y is out with p, its strings taken from src, at its start
pub record Encoded (p : Pdu) (src out y : List ℕ) : Type 0 where
  pub bytes : y ≡ splice out 0 (encode p src)

-- `Ready` in numbers, for the kinds with strings: a string of at most most bytes in src
pub record Text (t : Span) (most : ℕ) (src : List ℕ) : Type 0 where
  pub small : t.len ≤ most
  pub inside : t.at + t.len ≤ length src

pub record ExecuteReady (e : Execute) (src out : List ℕ) : Type 0 where
  pub file : Text e.exe_or_file 520 src
  pub directory : Text e.working_dir 520 src
  pub argument : Text e.arguments 16000 src
  pub room : 12 + e.exe_or_file.len + e.working_dir.len + e.arguments.len ≤ length out

-- the string of a record that has one, and n bytes with it
pub record TextReady (t : Span) (n : ℕ) (src out : List ℕ) : Type 0 where
  pub text : Text t 520 src
  pub room : n ≤ length out
