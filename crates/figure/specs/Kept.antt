-- Request No. 9: the figures that stand behind the index: the pixels of each slot's window in 4 bytes, then the windows that are
-- shown in 4 and the pixels in all in 8. Assumes nothing.
use Rattle.std.specs.Prelude.{ℕ, zero, suc, ◌+◌, ◌*◌, Bool, List, eqb}
use Rattle.wire.specs.Tests.{both}
use Rattle.wire.specs.Numbers.{num_at, bytes_of}
use Rattle.wire.specs.Parts.{splice}
use Rattle.places.specs.declared.Family.TheVariants.{Windows}
use Rattle.places.specs.Counts.{each_below}
use Rattle.slots.specs.Families.{capacity, index_length}
use Rattle.figure.specs.declared.Figure.{Figure}
use Rattle.figure.specs.Figure.{pixels_at, figure_of, figure_bytes}

-- where the totals begin, and where they end; the bytes of all figures
abbrev pub totals_start : ℕ
totals_start = 717

abbrev pub kept_length : ℕ
kept_length = 729

abbrev pub figures_length : ℕ
figures_length = 140

-- where the pixels of slot i's window stand
abbrev pub pixels_place : ℕ → ℕ
pixels_place i = index_length + 4 * i

-- ---- what is stored

-- for slot i
abbrev pub kept_pixels : List ℕ → ℕ → ℕ
kept_pixels index i = num_at 4 index (pixels_place i)

-- in all
unfoldable pub kept_figure : List ℕ → Figure
kept_figure index = record { windows = num_at 4 index totals_start; pixels = num_at 8 index (totals_start + 4) }

-- it is what the windows of the table have: 0 for one that is hidden, and for a free slot
unfoldable pub figures_ok : List ℕ → List ℕ → Bool
figures_ok index bodies =
    both (each_below (capacity Windows) (λ i. eqb (kept_pixels index i) (pixels_at index bodies i)))
    (both (eqb (kept_figure index).windows (figure_of index bodies).windows) (eqb (kept_figure index).pixels (figure_of index bodies).pixels))

-- ---- what is written

-- the pixels of the first n slots
unfoldable pub pixels_kept : ℕ → List ℕ → List ℕ → List ℕ
pixels_kept zero index bodies = index
pixels_kept (suc n) index bodies = splice (pixels_kept n index bodies) (pixels_place n) (bytes_of 4 (pixels_at index bodies n))

-- the index with its figures
unfoldable pub kept_of : List ℕ → List ℕ → List ℕ
kept_of index bodies = splice (pixels_kept (capacity Windows) index bodies) totals_start (figure_bytes (figure_of index bodies))
