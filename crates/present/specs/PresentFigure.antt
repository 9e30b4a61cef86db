-- The figure of the present table, which no memory holds: each window that the table's index lists, followed from the mark. Assumes
-- nothing.
use Rattle.std.specs.Prelude.{Some, ℕ, ◌≤◌, ◌≡◌, true, List, length, replicate}
use Rattle.wire.specs.Tests.{pick}
use Rattle.wire.specs.Numbers.{Bytes}
use Rattle.protocol.specs.declared.WindowId.{WindowId}
use Rattle.places.specs.declared.Family.TheVariants as family
use Rattle.slots.specs.Families.{index_length, capacity}
use Rattle.slots.specs.Slots.{first_id, is_used}
use Rattle.slots.specs.Sound.{sound_index}
use Rattle.index.specs.Memory.{index_of}
use Rattle.body.specs.Bodies.{Body, window_fields, body_of}
use Rattle.area.specs.Area.{sum_below, one}
use Rattle.area.specs.Cutting.{most_points}
use Rattle.figure.specs.declared.Figure.{Figure}
use Rattle.figure.specs.Figure.{is_shown, pixels_of}
use Rattle.table.specs.Memory.{bodies_length}
use Rattle.follow.specs.declared.Want.TheVariants as want
use Rattle.follow.specs.Follow.{record_room, held_slot}
use Rattle.journal.specs.Limits.{journal_length}
use Rattle.journal.specs.State.{present}
use Rattle.journal.specs.Journal.{count_of}
use Rattle.journal.specs.View.{Memory, meets_rule, state_of}
use Rattle.journal.specs.Replay.{from_mark}
use Rattle.present.specs.TableFigure.{figure_in}

-- what following from the mark asks of its memories
pub record Followable (index bodies journal : List ℕ) : Type 0 where
  pub sound : sound_index index ≡ true
  pub room : bodies_length ≤ length bodies
  pub long : journal_length ≤ length journal

-- the window of an id after the first n orders
unfoldable pub window_held : List ℕ → List ℕ → List ℕ → ℕ → WindowId → Body
window_held index bodies journal n w =
    body_of window_fields
    (held_slot family.Windows (from_mark (Some (want.Window w)) index bodies journal n (replicate index_length 0) (replicate (record_room family.Windows) 0)).followed)

-- a number of the window that slot i of the index x has, 0 for none
abbrev pub held_at : (Body → ℕ) → List ℕ → List ℕ → List ℕ → List ℕ → ℕ → ℕ → ℕ
held_at f x index bodies journal n i = pick (is_used x i) (f (window_held index bodies journal n (record { id = first_id x i }))) 0

-- whether it is shown, as a number
abbrev pub shown_one : Body → ℕ
shown_one b = one (is_shown b)

-- the figure of one window, or of none
pub record FigureIs (r : Figure) (w p : ℕ) : Type 0 where
  pub windows : r.windows ≡ w
  pub pixels : r.pixels ≡ p
  pub few : r.windows ≤ 1
  pub most : r.pixels ≤ most_points

-- of all slots
unfoldable pub figure_held : List ℕ → List ℕ → List ℕ → List ℕ → ℕ → Figure
figure_held x index bodies journal n =
    record {
      windows = sum_below (capacity family.Windows) (held_at shown_one x index bodies journal n);
      pixels = sum_below (capacity family.Windows) (held_at pixels_of x index bodies journal n);
    }

-- it is the figure of the present table, whose index x is
unfoldable pub PresentHasFigure : Type 0
PresentHasFigure =
    (m : Memory) (x : List ℕ) → Bytes m.journal → Bytes x → meets_rule m ≡ true → sound_index x ≡ true → index_of x ≡ (present (state_of m)).index
    → figure_held x m.index m.bodies m.journal (count_of m.journal) ≡ figure_in (present (state_of m))

abbrev pub no_figure : Figure
no_figure = record { windows = 0; pixels = 0 }
