-- A notification icon as text. Assumes nothing.
use Rattle.std.specs.Prelude.{ℕ, List, [], ◌∷◌, ◌++◌, drop}
use Rattle.body.specs.Bodies.{notification_fields, body_of}
use Rattle.layout.specs.Layouts.{notification_size}
use Rattle.print.specs.Texts.{decimal_text}
use Rattle.print.specs.Templates.{ascii, fill_text}
use Rattle.protocol.specs.declared.WindowId.{WindowId}
use Rattle.protocol.specs.declared.NotifyIconId.{NotifyIconId}
use Rattle.view.specs.declared.NotificationRecord.{NotificationRecord}
use Rattle.view.specs.Views.{notification_of}
use Rattle.field_text.specs.Fields.{string_text}
use Rattle.field_text.specs.Pictures.{icon_text}

unfoldable pub ids_text : WindowId → NotifyIconId → ℕ → List ℕ
ids_text window icon version = fill_text (ascii " window=# icon=# version=#") (window.id ∷ icon.id ∷ version ∷ []) []

unfoldable pub limits_text : ℕ → ℕ → List ℕ
limits_text timeout flags = fill_text (ascii " timeout=# flags=#") (timeout ∷ flags ∷ []) []

unfoldable pub tip_text : NotificationRecord → List ℕ
tip_text r = string_text (ascii " tip=") r.tip ++ limits_text r.timeout r.flags

unfoldable pub balloon_text : NotificationRecord → List ℕ
balloon_text r = string_text (ascii " text=") r.text ++ string_text (ascii " title=") r.title ++ (ascii " state=" ++ decimal_text r.state)

-- its picture stands after its record
abbrev pub shown_as : WindowId → NotifyIconId → List ℕ → NotificationRecord → List ℕ
shown_as window icon s r = ids_text window icon r.version ++ tip_text r ++ balloon_text r ++ icon_text (ascii " picture=") r.icon (drop notification_size s)

unfoldable pub notification_text : WindowId → NotifyIconId → List ℕ → List ℕ
notification_text window icon s = shown_as window icon s (notification_of (body_of notification_fields s))
