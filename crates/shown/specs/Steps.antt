-- What the steps of handing out a picture state. Assumes nothing.
use Rattle.std.specs.Prelude.{ℕ, ◌+◌, ◌-◌, ◌≤◌, ◌<◌, ◌≡◌, true, List, length}
use Rattle.wire.specs.Tests.{pick}
use Rattle.wire.specs.Parts.{slice}
use Rattle.places.specs.Sizes.{most_places}
use Rattle.index.specs.Orders.{brings_icon}
use Rattle.store.specs.Store.{places_in}
use Rattle.picture.specs.Pictures.{head_ok}
use Rattle.layout.specs.Layouts.{picture_size}
use Rattle.table.specs.Memory.{bodies_length, heads_of}
use Rattle.follow.specs.Follow.{origin_at, carried_by}
use Rattle.journal.specs.Limits.{journal_length}
use Rattle.journal.specs.Journal.{size_at}

-- where the picture begins that an order with an icon at index icon carries: at its end where it brings none
abbrev pub begins_at : List ℕ → ℕ → ℕ → ℕ
begins_at s flags icon = pick (brings_icon flags) (icon + 3) (length s)

-- from there to its end it carries the picture, which fits the fixed layout
pub record Carries (s : List ℕ) (from : ℕ) : Type 0 where
  pub is : carried_by s ≡ slice s from (length s - from)
  pub within : from ≤ length s
  pub fits : length s - from ≤ picture_size

-- what handing out the picture at place p asks
pub record PlaceReady (bodies : List ℕ) (store : List (List ℕ)) (journal origins : List ℕ) (p : ℕ) : Type 0 where
  pub room : bodies_length ≤ length bodies
  pub long : journal_length ≤ length journal
  pub small : p < most_places
  pub lent : p < places_in store
  pub head : origin_at origins p ≡ 0 → head_ok (heads_of bodies) p ≡ true
  pub within : (origin_at origins p ≡ 0 → ⊥) → origin_at origins p + size_at journal (origin_at origins p) ≤ journal_length
