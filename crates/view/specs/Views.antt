-- Records as they are handed out: the typed view of a raw record. Assumes nothing.
use Rattle.std.specs.Prelude.{ℕ, zero, suc, ◌+◌, ◌*◌, ◌-◌, ◌/◌, ◌%◌, Bool, List, [], ◌∷◌, eqb, get_or, drop}
use Rattle.wire.specs.Tests.{pick}
use Rattle.wire.specs.Numbers.{num_at}
use Rattle.wire.specs.Parts.{padded}
use Rattle.signs.specs.TwosComplement.{signed_at}
use Rattle.protocol.specs.declared.WindowId.{WindowId}
use Rattle.order.specs.Icons.{tabled}
use Rattle.body.specs.Bodies.{Body, body_of}
use Rattle.layout.specs.Layouts.{newer_start, older_fields, newer_fields}
use Rattle.view.specs.declared.Point.{Point}
use Rattle.view.specs.declared.Pair.{Pair}
use Rattle.view.specs.declared.Text.{Text}
use Rattle.view.specs.declared.Rectangles.{Rectangles}
use Rattle.view.specs.declared.Stack.{Stack}
use Rattle.view.specs.declared.NewerRecord.{NewerRecord}
use Rattle.view.specs.declared.WindowRecord.{WindowRecord}
use Rattle.view.specs.declared.NotificationRecord.{NotificationRecord}
use Rattle.view.specs.declared.DesktopRecord.{DesktopRecord}
use Rattle.view.specs.declared.PictureRecord.{PictureRecord}

-- ---- one field

abbrev pub window_id : ℕ → WindowId
window_id v = record { id = v }

-- n numbers of w bytes one after the other, the first at index at, each as make gives it
unfoldable pub each_of : {A : Type 0} → (ℕ → A) → ℕ → ℕ → List ℕ → ℕ → List A
each_of make w zero s at = []
each_of make w (suc n) s at = make (num_at w s at) ∷ each_of make w n s (at + w)

-- two signed numbers of 4
unfoldable pub point_of : List ℕ → Point
point_of f = record { x = signed_at 4 f 0; y = signed_at 4 f 4 }

unfoldable pub pair_of : List ℕ → Pair
pair_of f = record { x = num_at 4 f 0; y = num_at 4 f 4 }

-- count 2, bytes
unfoldable pub text_of : List ℕ → Text
text_of f = record { count = num_at 2 f 0; bytes = padded 0 520 (each_of (λ v. v) 1 (num_at 2 f 0) f 2) }

-- count 2, rectangles of four numbers of 2
unfoldable pub rectangles_of : List ℕ → Rectangles
rectangles_of f = record { count = num_at 2 f 0; sides = padded 0 64 (each_of (λ v. v) 2 (4 * num_at 2 f 0) f 2) }

-- count 1, ids of 4
unfoldable pub stack_of : List ℕ → Stack
stack_of f = record { count = num_at 1 f 0; ids = padded (window_id 0) 64 (each_of window_id 4 (num_at 1 f 0) f 1) }

-- a mark: 1 where it is set
abbrev pub is_marked : ℕ → Bool
is_marked v = eqb v 1

-- ---- a record

abbrev pub field_of : Body → ℕ → List ℕ
field_of b k = get_or b.fields k []

-- the newer fields of a window
unfoldable pub newer_of : Body → NewerRecord
newer_of b =
    record {
      left_resize_margin = num_at 4 (field_of b 0) 0;
      right_resize_margin = num_at 4 (field_of b 0) 4;
      top_resize_margin = num_at 4 (field_of b 1) 0;
      bottom_resize_margin = num_at 4 (field_of b 1) 4;
      overlay_description = text_of (field_of b 2);
      taskbar_button = num_at 1 (field_of b 3) 0;
      enforce_server_z_order = num_at 1 (field_of b 4) 0;
      app_bar_state = num_at 1 (field_of b 5) 0;
      app_bar_edge = num_at 1 (field_of b 6) 0;
      overlay = is_marked b.first;
    }

-- a window's two records, and where they stand in its bytes
pub record WindowParts : Type 0 where
  pub older : Body
  pub newer : Body

unfoldable pub window_in : List ℕ → WindowParts
window_in s = record { older = body_of older_fields s; newer = body_of newer_fields (drop newer_start s) }

unfoldable pub window_of : WindowParts → WindowRecord
window_of w =
    record {
      owner = window_id (num_at 4 (field_of w.older 0) 0);
      style = num_at 4 (field_of w.older 1) 0;
      extended_style = num_at 4 (field_of w.older 1) 4;
      show_state = num_at 1 (field_of w.older 2) 0;
      title = text_of (field_of w.older 3);
      client_offset = point_of (field_of w.older 4);
      client_size = pair_of (field_of w.older 5);
      rp_content = num_at 1 (field_of w.older 6) 0;
      root_parent = window_id (num_at 4 (field_of w.older 7) 0);
      window_offset = point_of (field_of w.older 8);
      client_delta = point_of (field_of w.older 9);
      window_size = pair_of (field_of w.older 10);
      window_rects = rectangles_of (field_of w.older 11);
      visible_offset = point_of (field_of w.older 12);
      visibility_rects = rectangles_of (field_of w.older 13);
      small = is_marked w.older.first;
      big = is_marked w.older.second;
      newer = newer_of w.newer;
    }

unfoldable pub notification_of : Body → NotificationRecord
notification_of b =
    record {
      version = num_at 4 (field_of b 0) 0;
      tip = text_of (field_of b 1);
      timeout = num_at 4 (field_of b 2) 0;
      flags = num_at 4 (field_of b 2) 4;
      text = text_of (field_of b 3);
      title = text_of (field_of b 4);
      state = num_at 4 (field_of b 5) 0;
      icon = is_marked b.first;
    }

unfoldable pub desktop_of : Body → DesktopRecord
desktop_of b =
    record {
      active = window_id (num_at 4 (field_of b 0) 0);
      hooked = eqb b.first 1;
      syncing = eqb b.second 1;
      stack = stack_of (field_of b 1);
    }

-- the picture's numbers: bits 1, width 2, height 2, the color table's length 2 if there is one, mask's 2, color's 2
abbrev pub head_size : List ℕ → ℕ
head_size p = pick (tabled (num_at 1 p 0)) 11 9

-- then its bytes
unfoldable pub picture_view : List ℕ → PictureRecord
picture_view p =
    pick (tabled (num_at 1 p 0))
    (record {
      bits = num_at 1 p 0;
      width = num_at 2 p 1;
      height = num_at 2 p 3;
      mask = num_at 2 p 7;
      table = num_at 2 p 5;
      color = num_at 2 p 9;
      bytes = padded 0 4224 (drop 11 p);
    })
    (record {
      bits = num_at 1 p 0;
      width = num_at 2 p 1;
      height = num_at 2 p 3;
      mask = num_at 2 p 5;
      table = 0;
      color = num_at 2 p 7;
      bytes = padded 0 4224 (drop 9 p);
    })
