-- A table that becomes the one at the mark: its figures stand behind its index, and no order stands after it. Assumes nothing.
use Rattle.std.specs.Prelude.{ℕ, ◌≡◌, List}
use Rattle.wire.specs.Numbers.{bytes_of, Bytes}
use Rattle.wire.specs.Parts.{splice}
use Rattle.figure.specs.Kept.{kept_of}
use Rattle.session.specs.declared.Reply.{Reply}

abbrev pub nothing_stands : Reply
nothing_stands = record { number = 0; count = 0; bytes = 0 }

-- of its index x and its bodies b, which are bytes, and a journal j
pub record MarkSet (x b j : List ℕ) (r : Reply) (x' j' : List ℕ) : Type 0 where
  pub index : x' ≡ kept_of x b
  pub journal : j' ≡ splice j 0 (bytes_of 2 0)
  pub reply : r ≡ nothing_stands
  pub bytes : Bytes b
