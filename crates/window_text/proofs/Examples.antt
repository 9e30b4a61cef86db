-- A window's fields of docs/FORMATS.md, as the definitions have them. Assumes nothing.
use mathlib.Core.Path.{◌≡◌, refl}
use mathlib.Core.Bool.{false}
use mathlib.Core.List.{[], ◌∷◌}
use lib.IntN.{pos, negsuc}
use Rattle.wire.specs.Parts.{slice}
use Rattle.print.specs.Texts.{hex_text, decimal_in, decimal_text, signed_text, laid_list_text, numbers_text, laid_rectangles_text}
use Rattle.print.specs.Templates.{ascii, ascii_from, stands_for, next_after, fill_from, fill_text}
use Rattle.view.specs.declared.Point.{Point}
use Rattle.view.specs.declared.Pair.{Pair}
use Rattle.view.specs.declared.Text.{Text}
use Rattle.view.specs.declared.Rectangles.{Rectangles}
use Rattle.view.specs.declared.NewerRecord.{NewerRecord}
use Rattle.view.specs.declared.WindowRecord.{WindowRecord}
use Rattle.view.specs.Views.{window_id}
use Rattle.field_text.specs.Fields.{string_text, sides_text, rectangles_field}
use Rattle.window_text.specs.Windows.{looks_text, client_text, margins_text, root_text, places_text, visible_text, bars_text, titled_text, inner_text, outer_text, areas_text, newest_text, fields_text}

-- ---- a window that has a title, and offsets to the left of the origin

abbrev origin : Point
origin = record { x = pos 0; y = pos 0 }

abbrev no_size : Pair
no_size = record { x = 0; y = 0 }

abbrev no_text : Text
no_text = record { count = 0; bytes = [] }

abbrev one : Rectangles
one = record { count = 1; sides = 1 ∷ 2 ∷ 30 ∷ 40 ∷ [] }

abbrev newer : NewerRecord
newer =
    record {
      left_resize_margin = 3;
      right_resize_margin = 4;
      top_resize_margin = 5;
      bottom_resize_margin = 6;
      overlay_description = no_text;
      taskbar_button = 0;
      enforce_server_z_order = 0;
      app_bar_state = 0;
      app_bar_edge = 0;
      overlay = false;
    }

abbrev window : WindowRecord
window =
    record {
      owner = window_id 0;
      style = 0;
      extended_style = 0;
      show_state = 5;
      title = record { count = 2; bytes = 65 ∷ 0 ∷ [] };
      client_offset = origin;
      client_size = no_size;
      rp_content = 0;
      root_parent = window_id 0;
      window_offset = record { x = negsuc 99; y = pos 0 };
      client_delta = origin;
      window_size = record { x = 980; y = 700 };
      window_rects = one;
      visible_offset = origin;
      visibility_rects = record { count = 0; sides = [] };
      small = false;
      big = false;
      newer = newer;
    }

a_window : fields_text (window_id 65624) window ≡ ascii " id=65624 owner=0 style=0 ext=0 show=5 title=4100 client=0,0 client_size=0,0 margin_x=3,4 margin_y=5,6 rp=0 root=0 offset=-100,0 delta=0,0 size=980,700 rects=1,2,30,40 visible=0,0 vis_rects= overlay_text= taskbar=0 server_z=0 app_bar=0 edge=0"
unfolding fields_text titled_text inner_text outer_text areas_text newest_text looks_text client_text margins_text root_text places_text visible_text bars_text string_text sides_text rectangles_field slice hex_text decimal_text decimal_in signed_text laid_list_text numbers_text laid_rectangles_text ascii ascii_from stands_for next_after fill_from fill_text
a_window = refl
