-- Words that a record of one kind is made of. Assumes nothing.
use Rattle.std.specs.Prelude.{ℕ, true, List, [], ◌∷◌, ◌≡◌, get_or}
use Rattle.pdu_words.specs.FromWords.{limits, Within, position_words, is_position}

-- the words at these indices are positions
abbrev pub all_positions : List ℕ → List ℕ → Type 0
all_positions w [] = Unit {0}
all_positions w (i ∷ is) = (is_position w i ≡ true) × all_positions w is

-- each word is within its field of a record of type k, and its positions are sign-extended
pub record Fitting (k : ℕ) (w : List ℕ) : Type 0 where
  pub within : Within w (limits k (get_or w 1 0))
  pub positions : all_positions w (position_words k)
