-- A lookup's target: what is followed for it, whether an index lists it, the figure that goes with it, and what the memory that
-- holds it hands out. Assumes nothing.
use Rattle.std.specs.Prelude.{Option, Some, None, ℕ, Bool, true, List, [], ◌∷◌}
use Rattle.std.proofs.Math.Option as math
use Rattle.wire.specs.Tests.{both}
use Rattle.places.specs.declared.Family.{Family}
use Rattle.places.specs.declared.Family.TheVariants as family
use Rattle.places.specs.Holder.{cell, icon}
use Rattle.index.specs.Index.{Index}
use Rattle.index.specs.Memory.{index_of}
use Rattle.ids.specs.Ids.{ids_in}
use Rattle.body.specs.Bodies.{desktop_fields, fields_of, body_of}
use Rattle.table.specs.Table.{field_rows}
use Rattle.table.specs.Memory.{shown_in}
use Rattle.follow.specs.declared.Want.{Want}
use Rattle.follow.specs.declared.Want.TheVariants as want
use Rattle.follow.specs.Follow.{held_slot}
use Rattle.figure.specs.declared.Figure.{Figure}
use Rattle.present.specs.PresentFigure.{figure_held, no_figure}
use Rattle.session.specs.declared.LookupTarget.{LookupTarget}
use Rattle.session.specs.declared.LookupTarget.TheVariants.{Window, Notification, Cell, Desktop, Windows, Notifications, Shares}
use Rattle.session.specs.Calls.{Payload, listed, desktop, ids, shared, a_picture, cell_number, holder_of}

unfoldable pub want_of : LookupTarget → Option Want
want_of (Window w) = Some (want.Window w)
want_of (Notification w n) = Some (want.Notification w n)
want_of (Cell cache entry) = Some want.Pictures
want_of Desktop = Some want.Desktop
want_of Windows = None
want_of Notifications = None
want_of (Shares g k) = None

-- the desktop state and the lists are always there
unfoldable pub listed_in : LookupTarget → Index → Bool
listed_in (Window w) d = d.listed family.Windows w.id 0
listed_in (Notification w n) d = d.listed family.Notifications w.id n.id
listed_in (Cell cache entry) d = d.sharing.shares (cell (cell_number cache entry)) (cell (cell_number cache entry))
listed_in Desktop d = true
listed_in Windows d = true
listed_in Notifications d = true
listed_in (Shares g k) d = both (d.sharing.shares (holder_of g) (holder_of g)) (d.sharing.shares (holder_of k) (holder_of k))

-- the figure that is handed out with a target: with the desktop state alone
unfoldable pub figure_for : LookupTarget → List ℕ → List ℕ → List ℕ → List ℕ → ℕ → Figure
figure_for (Window w) x index bodies journal n = no_figure
figure_for (Notification w k) x index bodies journal n = no_figure
figure_for (Cell cache entry) x index bodies journal n = no_figure
figure_for Desktop x index bodies journal n = figure_held x index bodies journal n
figure_for Windows x index bodies journal n = no_figure
figure_for Notifications x index bodies journal n = no_figure
figure_for (Shares g k) x index bodies journal n = no_figure

-- the pictures of a record's icons
abbrev pub icons_held : List ℕ → (ℕ → List ℕ) → Family → ℕ → ℕ → List (math.Option (List ℕ))
icons_held d pictures family.Windows a b =
    shown_in d pictures (icon family.Windows a b 0) ∷ shown_in d pictures (icon family.Windows a b 1) ∷ shown_in d pictures (icon family.Windows a b 2) ∷ []
icons_held d pictures family.Notifications a b = shown_in d pictures (icon family.Notifications a b 0) ∷ []

-- what the index d of the present table, the memory m of the target and the pictures at the places hold; the figure f goes with the
-- desktop state
unfoldable pub payload_held : LookupTarget → List ℕ → List ℕ → Figure → (ℕ → List ℕ) → Payload
payload_held (Window w) d m f pictures =
    listed family.Windows (fields_of (field_rows family.Windows) 2 (held_slot family.Windows m)) (icons_held d pictures family.Windows w.id 0)
payload_held (Notification w n) d m f pictures =
    listed family.Notifications (fields_of (field_rows family.Notifications) 2 (held_slot family.Notifications m)) (icons_held d pictures family.Notifications w.id n.id)
payload_held (Cell cache entry) d m f pictures = a_picture (shown_in d pictures (cell (cell_number cache entry)))
payload_held Desktop d m f pictures = desktop (body_of desktop_fields m) f
payload_held Windows d m f pictures = ids family.Windows (ids_in (index_of d) family.Windows)
payload_held Notifications d m f pictures = ids family.Notifications (ids_in (index_of d) family.Notifications)
payload_held (Shares g k) d m f pictures = shared ((index_of d).sharing.shares (holder_of g) (holder_of k))
