-- What putting an icon at a place does to the pictures. Assumes nothing.
use Rattle.std.specs.Prelude.{ℕ, ◌+◌, ◌*◌, ◌-◌, ◌≤◌, ◌<◌, ◌≡◌, true, List, length}
use Rattle.wire.specs.Numbers.{num_at}
use Rattle.order.specs.Icons.{parts_of, bits_ok, side_ok}
use Rattle.cache.specs.Cells.{carried_picture}
use Rattle.store.specs.Store.{place_length, places_in}
use Rattle.picture.specs.Pictures.{head_length, picture_at, head_ok, heads_after_of, store_after}

-- an icon at index icon of an order that reaches to its end, as judging accepts it
pub record IconThere (s : List ℕ) (icon : ℕ) : Type 0 where
  pub ends : (parts_of s icon).end ≡ length s
  pub bits : bits_ok (num_at 1 s (icon + 3)) ≡ true
  pub width : side_ok (num_at 2 s (icon + 4)) ≡ true
  pub height : side_ok (num_at 2 s (icon + 6)) ≡ true
  pub bytes : (parts_of s icon).end - (parts_of s icon).mask ≤ place_length

-- the place shows the picture that the icon carries, in its sets; every other place shows what it did
pub record PutsPicture (heads : List ℕ) (parts : List (List ℕ)) (p : ℕ) (s : List ℕ) (icon : ℕ) : Type 0 where
  pub there : picture_at (heads_after_of heads p s icon) (store_after parts p s icon) p ≡ carried_picture s icon
  pub ok : head_ok (heads_after_of heads p s icon) p ≡ true
  pub others : (q : ℕ) → (q ≡ p → ⊥) → picture_at (heads_after_of heads p s icon) (store_after parts p s icon) q ≡ picture_at heads parts q
  pub others_ok : (q : ℕ) → (q ≡ p → ⊥) → head_ok (heads_after_of heads p s icon) q ≡ head_ok heads q
  pub long : length (heads_after_of heads p s icon) ≡ length heads

unfoldable pub PutsOnePicture : Type 0
PutsOnePicture =
    (heads : List ℕ) (parts : List (List ℕ)) (p : ℕ) (s : List ℕ) (icon : ℕ) → head_length * p + head_length ≤ length heads → p < places_in parts → IconThere s icon
    → PutsPicture heads parts p s icon
