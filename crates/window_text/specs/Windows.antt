-- A window as text. Assumes nothing.
use Rattle.std.specs.Prelude.{ℕ, ◌+◌, List, [], ◌∷◌, ◌++◌, drop}
use Rattle.wire.specs.Numbers.{num_at}
use Rattle.layout.specs.Layouts.{window_size, newer_size, picture_size, newer_start}
use Rattle.print.specs.Texts.{decimal_text}
use Rattle.print.specs.Templates.{ascii, fill_text}
use Rattle.protocol.specs.declared.WindowId.{WindowId}
use Rattle.view.specs.declared.Point.{Point}
use Rattle.view.specs.declared.Pair.{Pair}
use Rattle.view.specs.declared.NewerRecord.{NewerRecord}
use Rattle.view.specs.declared.WindowRecord.{WindowRecord}
use Rattle.view.specs.Views.{window_in, window_of}
use Rattle.field_text.specs.Fields.{string_text, rectangles_field}
use Rattle.field_text.specs.Pictures.{icon_text}

-- ---- its fields

unfoldable pub looks_text : WindowId → WindowId → ℕ → ℕ → ℕ → List ℕ
looks_text id owner style extended show = fill_text (ascii " id=# owner=# style=# ext=# show=#") (id.id ∷ owner.id ∷ style ∷ extended ∷ show ∷ []) []

unfoldable pub client_text : Point → Pair → List ℕ
client_text offset size = fill_text (ascii " client=~,~ client_size=#,#") (size.x ∷ size.y ∷ []) (offset.x ∷ offset.y ∷ [])

unfoldable pub margins_text : ℕ → ℕ → ℕ → ℕ → List ℕ
margins_text left right top bottom = fill_text (ascii " margin_x=#,# margin_y=#,#") (left ∷ right ∷ top ∷ bottom ∷ []) []

unfoldable pub root_text : ℕ → WindowId → List ℕ
root_text content parent = fill_text (ascii " rp=# root=#") (content ∷ parent.id ∷ []) []

unfoldable pub places_text : Point → Point → Pair → List ℕ
places_text offset delta size =
    fill_text (ascii " offset=~,~ delta=~,~ size=#,#") (size.x ∷ size.y ∷ []) (offset.x ∷ offset.y ∷ delta.x ∷ delta.y ∷ [])

unfoldable pub visible_text : Point → List ℕ
visible_text offset = fill_text (ascii " visible=~,~") [] (offset.x ∷ offset.y ∷ [])

unfoldable pub bars_text : ℕ → ℕ → ℕ → ℕ → List ℕ
bars_text taskbar order state edge = fill_text (ascii " taskbar=# server_z=# app_bar=# edge=#") (taskbar ∷ order ∷ state ∷ edge ∷ []) []

-- ---- joined

unfoldable pub titled_text : WindowId → WindowRecord → List ℕ
titled_text id w = looks_text id w.owner w.style w.extended_style w.show_state ++ string_text (ascii " title=") w.title

unfoldable pub inner_text : WindowRecord → List ℕ
inner_text w =
    client_text w.client_offset w.client_size
    ++ margins_text w.newer.left_resize_margin w.newer.right_resize_margin w.newer.top_resize_margin w.newer.bottom_resize_margin

unfoldable pub outer_text : WindowRecord → List ℕ
outer_text w = root_text w.rp_content w.root_parent ++ places_text w.window_offset w.client_delta w.window_size

unfoldable pub areas_text : WindowRecord → List ℕ
areas_text w =
    rectangles_field (ascii " rects=") w.window_rects ++ visible_text w.visible_offset ++ rectangles_field (ascii " vis_rects=") w.visibility_rects

unfoldable pub newest_text : NewerRecord → List ℕ
newest_text w =
    string_text (ascii " overlay_text=") w.overlay_description
    ++ bars_text w.taskbar_button w.enforce_server_z_order w.app_bar_state w.app_bar_edge

unfoldable pub fields_text : WindowId → WindowRecord → List ℕ
fields_text id w = titled_text id w ++ inner_text w ++ outer_text w ++ areas_text w ++ newest_text w.newer

-- ---- its icons and its pixels

-- two pictures stand after its older fields, one after its newer ones, and then its pixels
abbrev pub big_start : ℕ
big_start = window_size + picture_size

abbrev pub overlay_start : ℕ
overlay_start = newer_start + newer_size

abbrev pub pixels_start : ℕ
pixels_start = overlay_start + picture_size

unfoldable pub icons_text : WindowRecord → List ℕ → List ℕ
icons_text w s =
    icon_text (ascii " small=") w.small (drop window_size s) ++ icon_text (ascii " big=") w.big (drop big_start s)
    ++ icon_text (ascii " overlay=") w.newer.overlay (drop overlay_start s)

unfoldable pub pixels_text : List ℕ → List ℕ
pixels_text s = ascii " pixels=" ++ decimal_text (num_at 4 s pixels_start)

-- ---- the window that bytes are

abbrev pub shown_as : WindowId → List ℕ → WindowRecord → List ℕ
shown_as id s w = fields_text id w ++ icons_text w s ++ pixels_text s

unfoldable pub window_text : WindowId → List ℕ → List ℕ
window_text id s = shown_as id s (window_of (window_in s))
