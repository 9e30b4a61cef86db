-- What is handed out tells what the table has: both sides of demand 3 pass through the fixed layout, and it loses nothing. Assumes
-- nothing.
use Rattle.std.specs.Prelude.{ℕ, ◌+◌, ◌≤◌, ◌≡◌, Bool, true, List, [], ◌∷◌, length}
use Rattle.std.proofs.Math.Option.{Option, none, some}
use Rattle.wire.specs.Numbers.{fits_in}
use Rattle.protocol.specs.declared.WindowId.{WindowId}
use Rattle.protocol.specs.declared.NotifyIconId.{NotifyIconId}
use Rattle.order.specs.Icons.{parts_of}
use Rattle.places.specs.declared.Family.TheVariants as family
use Rattle.ids.specs.Typed.{ListFits}
use Rattle.body.specs.Bodies.{Body, window_fields, notification_fields, desktop_fields}
use Rattle.layout.specs.Layouts.{picture_size}
use Rattle.layout.specs.Valid.{ValidFields, ValidBody}
use Rattle.session.specs.declared.PictureHolder.{PictureHolder}
use Rattle.session.specs.declared.LookupTarget.{LookupTarget}
use Rattle.session.specs.declared.LookupTarget.TheVariants.{Window, Notification, Cell, Desktop, Windows, Notifications, Shares}
use Rattle.figure.specs.declared.Figure.{Figure}
use Rattle.session.specs.Calls.{Payload, nothing, listed, desktop, picture, ids, shared}
use Rattle.session.specs.Outcome.{payload_bytes}

-- a picture, from its bits per pixel on, ends where its numbers say, and fits its place
pub record ValidPicture (p : List ℕ) : Type 0 where
  pub ends : (parts_of (0 ∷ 0 ∷ 0 ∷ p) 0).end ≡ 3 + length p
  pub few : length p ≤ picture_size

pub data ValidShown : Option (List ℕ) → Type 0 where
  nothing_shown : ValidShown none
  shown : {p : List ℕ} → ValidPicture p → ValidShown (some p)

-- the totals of a figure fit their bytes
pub record ValidFigure (f : Figure) : Type 0 where
  pub windows : fits_in 4 f.windows ≡ true
  pub pixels : fits_in 8 f.pixels ≡ true

-- a payload of a target as memory that meets the rule holds it: fields in their sets, pictures that end where they say, lists within
-- their room
pub data ValidPayload : LookupTarget → Payload → Type 0 where
  absent : {target : LookupTarget} → ValidPayload target nothing
  window : {w : WindowId} {fs : List (List ℕ)} {small big overlay : Option (List ℕ)} → ValidFields window_fields fs → ValidShown small → ValidShown big → ValidShown overlay
      → ValidPayload (Window w) (listed family.Windows fs (small ∷ big ∷ overlay ∷ []))
  notification : {w : WindowId} {n : NotifyIconId} {fs : List (List ℕ)} {icon : Option (List ℕ)} → ValidFields notification_fields fs → ValidShown icon
      → ValidPayload (Notification w n) (listed family.Notifications fs (icon ∷ []))
  cell : {cache entry : ℕ} {p : List ℕ} → ValidPicture p → ValidPayload (Cell cache entry) (picture p)
  desktop_state : {b : Body} {f : Figure} → ValidBody desktop_fields 1 1 b → ValidFigure f → ValidPayload Desktop (desktop b f)
  windows : {ks : List ℕ} → ListFits family.Windows ks → ValidPayload Windows (ids family.Windows ks)
  notifications : {ks : List ℕ} → ListFits family.Notifications ks → ValidPayload Notifications (ids family.Notifications ks)
  shares : {g k : PictureHolder} {b : Bool} → ValidPayload (Shares g k) (shared b)

-- payloads with the same bytes are the same
unfoldable pub LayoutLosesNothing : Type 0
LayoutLosesNothing =
    (target : LookupTarget) (p q : Payload) → ValidPayload target p → ValidPayload target q → payload_bytes target p ≡ payload_bytes target q → p ≡ q
