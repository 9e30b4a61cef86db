-- What the stores into a slot of bodies do to it. Assumes nothing.
use Rattle.std.specs.Prelude.{ℕ, ◌+◌, ◌*◌, ◌-◌, ◌≤◌, ◌≡◌, Bool, List, [], ◌∷◌, length, get_or, replicate}
use Rattle.wire.specs.Tests.{pick, has}
use Rattle.wire.specs.Numbers.{bytes_of}
use Rattle.wire.specs.Parts.{slice, splice}
use Rattle.rows.specs.declared.Row.{Row}
use Rattle.rows.specs.declared.Fit.TheVariants.{Ends}
use Rattle.rows.specs.Rows.{all_rows, no_row, rows_from, room_of, step_of, on_fit, walk_of}
use Rattle.protocol.specs.Flags.{desktop_arc_began, desktop_arc_completed, desktop_hooked}

-- the flagged fields put into their places, the first row's at index off
unfoldable pub store_of : List Row → ℕ → ℕ → List ℕ → ℕ → List ℕ → List ℕ
store_of [] off flags s at slot = slot
store_of (r ∷ rs) off flags s at slot =
    on_fit (step_of r flags s at 0) (λ cut. slot)
    (λ q bad. store_of rs (off + room_of r) flags s q (splice slot off (slice s at (q - at))))

-- a new record's slot: zeros
unfoldable pub prepared_of : Bool → List ℕ → List ℕ
prepared_of fresh slot = pick fresh (splice slot 0 (replicate (length slot) 0)) slot

-- the desktop's marks: 2 sets hooked; 8 starts syncing, 4 ends it
unfoldable pub hooked_of : ℕ → List ℕ → List ℕ
hooked_of flags slot = pick (has flags desktop_hooked) (splice slot 0 (bytes_of 1 1)) slot

unfoldable pub synced_of : ℕ → List ℕ → List ℕ
synced_of flags slot =
    pick (has flags desktop_arc_began) (splice slot 1 (bytes_of 1 1))
    (pick (has flags desktop_arc_completed) (splice slot 1 (bytes_of 1 0)) slot)

-- the places that the fields take
unfoldable pub room_all : List Row → ℕ
room_all [] = 0
room_all (r ∷ rs) = room_of r + room_all rs

-- the flagged fields end within the order, each in its set
pub record EndsWell (rows : List Row) (flags : ℕ) (s : List ℕ) (at : ℕ) : Type 0 where
  pub end : ℕ
  pub well : walk_of rows flags s at 0 ≡ Ends end 0

-- one turn of a store of the window's fields: row k is put at index off, and the next row begins at index q
pub record Turned (k off flags : ℕ) (s : List ℕ) (at : ℕ) (slot : List ℕ) (q : ℕ) (after : List ℕ) : Type 0 where
  pub stored : store_of (rows_from k 22) off flags s at slot ≡ store_of (rows_from (k + 1) 22) (off + room_of (get_or all_rows k no_row)) flags s q after
  pub on : at ≤ q
  pub within : q ≤ length s
  pub well : EndsWell (rows_from (k + 1) 22) flags s q

-- rows k to m are put, row k's place at index off and row m's at to, and row m begins at index q
pub record Placed (k off m to flags : ℕ) (s : List ℕ) (at : ℕ) (before : List ℕ) (q : ℕ) (slot : List ℕ) : Type 0 where
  pub stored : store_of (rows_from k 22) off flags s at before ≡ store_of (rows_from m 22) to flags s q slot
  pub low : 1 ≤ q
  pub within : q ≤ length s
  pub well : EndsWell (rows_from m 22) flags s q
  pub same : length slot ≡ length before
