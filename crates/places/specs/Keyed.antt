-- Who shares among holders that go by ids, from the numbers under which a memory keeps them: a holder that is not kept
-- has a number that is no holder's. Assumes nothing.
use Rattle.std.specs.Prelude.{ℕ}
use Rattle.places.specs.Sharing.{Sharing}

unfoldable pub keyed : {H : Type 0} → (H → ℕ) → Sharing ℕ → Sharing H
keyed num t =
    record {
      shares = λ g k. t.shares (num g) (num k);
      users = λ g. t.users (num g);
      used = t.used;
      places = t.places;
    }
