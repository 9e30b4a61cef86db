-- The orders of a memory that meets the rule are accepted in turn and lie within the history room. Assumes nothing.
use mathlib.Core.Path.{◌≡◌}
use mathlib.Core.Bool.{true, false}
use Prim.Native.Nat.{◌≤◌}
use native.Mathlib.Omega.{arith}
use lib.ListN.{length}
use Rattle.journal.specs.Limits.{most_orders, most_bytes}
use Rattle.journal.specs.State.{bytes_in, all_accepted}
use Rattle.journal.specs.View.{Memory, too_short, well_formed, state_of}
use Rattle.journal.proofs.Logged.{formed_logged, logged_bytes, logged_high}

pub record Fits (m : Memory) : Type 0 where
  pub accepted : all_accepted (state_of m).marked (state_of m).log ≡ true
  pub few : length (state_of m).log ≤ most_orders
  pub bytes : bytes_in (state_of m).log ≤ most_bytes

pub fits : (m : Memory) → too_short m ≡ false → well_formed m ≡ true → Fits m
unfolding state_of
fits m t f =
    let l = formed_logged m t f in
    record { accepted = l.accepted; few = omega (arith, l.many, l.few); bytes = omega (arith, logged_bytes l, logged_high l) }
