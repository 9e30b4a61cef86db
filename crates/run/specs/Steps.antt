-- What the steps of a run state. Assumes nothing.
use Rattle.std.specs.Prelude.{ℕ, ◌+◌, ◌≤◌, ◌<◌, ◌≡◌, List, [], ◌∷◌}
use Rattle.std.proofs.Math.Option.{Option, none, some}
use Rattle.journal.specs.View.{Memory}
use Rattle.session.specs.Outcome.{needed_for}
use Rattle.model.specs.Updates.{Step, Said}
use Rattle.model.specs.Claim.{Calls}
use Rattle.run.specs.Script.{call_of, step_of, block_of, block_length, ends_with}

-- n bytes are a block's, whatever a call of the kind carries; the same of a single call
pub record Takes (kind n : ℕ) : Type 0 where
  pub takes : (lent : ℕ) (arg : List ℕ) → n ≡ block_length (step_of lent kind arg)

pub record TakesOne (kind n : ℕ) : Type 0 where
  pub takes : (lent : ℕ) (arg : List ℕ) → n ≡ 4 + needed_for (call_of lent kind arg)

-- as one number: 255 where the call is done
abbrev pub end_number : Option ℕ → ℕ
end_number none = 255
end_number (some n) = n

-- whatever the number of places lent
pub record EndsAt (r : ℕ) (s : List ℕ) (room : ℕ) : Type 0 where
  pub is : (lent : ℕ) → r ≡ end_number (ends_with lent s room)

-- a call is done, and its block stands in the output
pub record Done (x : Step) (m e : Memory) (out' : List ℕ) : Type 0 where
  pub said : Said
  pub outcome : Calls m (x ∷ []) (said ∷ []) e
  pub block : out' ≡ block_of said

-- the kinds that change the journal alone: 1, 3 and 8
pub record Journaled (kind : ℕ) : Type 0 where
  pub no_reset : kind ≡ 0 → ⊥
  pub no_checkpoint : kind ≡ 2 → ⊥
  pub early : (kind ≡ 8 → ⊥) → kind < 4

-- those that hand something out
pub record Handed (kind : ℕ) : Type 0 where
  pub late : 4 ≤ kind
  pub no_update : kind ≡ 8 → ⊥
