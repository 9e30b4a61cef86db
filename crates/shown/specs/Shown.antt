-- The picture that a holder shows, handed out: from the store at the mark, or from the order of the journal that brought it.
-- Assumes nothing.
use Rattle.std.specs.Prelude.{ℕ, ◌+◌, ◌-◌, ◌≤◌, ◌≡◌, Bool, true, false, List, [], length}
use Rattle.std.proofs.Math.Option.{Option, none, some}
use Rattle.places.specs.Memory.{places_of, pointer_at}
use Rattle.slots.specs.Sound.{sound_index}
use Rattle.store.specs.Store.{places_in}
use Rattle.picture.specs.Pictures.{picture_at, head_ok}
use Rattle.layout.specs.Layouts.{picture_bytes}
use Rattle.table.specs.Memory.{bodies_length, heads_of}
use Rattle.follow.specs.Follow.{origins_length, origin_at, carried_by, present_pictures}
use Rattle.journal.specs.Limits.{journal_length}
use Rattle.journal.specs.Journal.{size_at, order_at}

-- 1 for a picture, 0 for none
abbrev pub is_there : Option (List ℕ) → ℕ
is_there none = 0
is_there (some p) = 1

abbrev pub shows : Option (List ℕ) → Bool
shows none = false
shows (some p) = true

-- in the fixed layout: zeros for none
abbrev pub shown_bytes : Option (List ℕ) → List ℕ
shown_bytes none = picture_bytes []
shown_bytes (some p) = picture_bytes p

-- the pictures at the places
abbrev pub held_pictures : List ℕ → List (List ℕ) → List ℕ → List ℕ → ℕ → List ℕ
held_pictures bodies store journal origins =
    present_pictures (picture_at (heads_of bodies) store) (λ q. carried_by (order_at journal q)) origins

-- what handing out asks
pub record Ready (d bodies : List ℕ) (store : List (List ℕ)) (journal origins : List ℕ) : Type 0 where
  pub sound : sound_index d ≡ true
  pub room : bodies_length ≤ length bodies
  pub places : places_of d ≤ places_in store
  pub long : journal_length ≤ length journal
  pub many : length origins ≡ origins_length
  pub heads : (h : ℕ) → (pointer_at d h ≡ 0 → ⊥) → origin_at origins (pointer_at d h - 1) ≡ 0 → head_ok (heads_of bodies) (pointer_at d h - 1) ≡ true
  pub within : (p : ℕ) → (origin_at origins p ≡ 0 → ⊥) → origin_at origins p + size_at journal (origin_at origins p) ≤ journal_length
