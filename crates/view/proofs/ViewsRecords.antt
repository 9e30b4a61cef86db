-- Each record is the view of the body in its bytes: every part is read from the place of its field. Assumes nothing.
use mathlib.Core.Path.{◌≡◌, sym, ap, ◌∙◌}
use mathlib.Core.Bool.{Bool, true, false}
use mathlib.Core.List.{List}
use Prim.Native.Nat.{ℕ, ◌+◌}
use native.Mathlib.Omega.{arith}
use lib.Dec.{eqb}
use lib.ListN.{get_or, take, drop, replicate}
use lib.Seq.{drop-drop}
use Rattle.wire.specs.Numbers.{num_at}
use Rattle.wire.specs.Parts.{slice, splice}
use Rattle.wire.proofs.Numbers.{num_drop}
use Rattle.protocol.specs.declared.WindowId.{WindowId}
use Rattle.rows.specs.declared.Row.{Row}
use Rattle.rows.specs.Rows.{no_row, numbers_row, text_row, rectangles_row, ids_row, room_of}
use Rattle.order.specs.Icons.{tabled}
use Rattle.body.specs.Bodies.{notification_fields, desktop_fields, field_in, fields_of, body_of}
use Rattle.layout.specs.Layouts.{newer_start, older_fields, newer_fields, field_at}
use Rattle.view.specs.declared.Point.{Point}
use Rattle.view.specs.declared.Pair.{Pair}
use Rattle.view.specs.declared.Text.{Text}
use Rattle.view.specs.declared.Rectangles.{Rectangles}
use Rattle.view.specs.declared.Stack.{Stack}
use Rattle.view.specs.declared.NewerRecord.{NewerRecord}
use Rattle.view.specs.Views.{window_id, point_of, pair_of, text_of, rectangles_of, stack_of, is_marked, newer_of, window_in, window_of, notification_of, desktop_of, picture_view}
use Rattle.view.proofs.ViewsRead.{num_field, num_start, numbers_flag, text_flag, rectangles_flag, ids_flag, content_is}

-- a mark that is read
marked : {p : Bool} {v w : ℕ} → p ≡ is_marked v → v ≡ w → p ≡ is_marked w
marked e f = e ∙ ap is_marked f

-- ---- the newer fields of a window

-- a field after k bytes
place_drop : (r : Row) (k off : ℕ) (s : List ℕ) → field_at r s (k + off) ≡ field_at r (drop k s) off
unfolding slice
place_drop r k off s = ap (λ (x : List ℕ). field_in r (take (room_of r) x)) (sym (drop-drop off k s))

module _ (t : List ℕ) where
  pub newer_is : {left right top bottom : ℕ} {description : Text} {button order bar edge v : ℕ} {overlay : Bool}
      → description ≡ text_of (field_at (text_row 0 520) t (newer_start + 18)) → v ≡ num_at 1 t (newer_start + 0) → overlay ≡ is_marked v → left ≡ num_at 4 t (newer_start + 2)
      → right ≡ num_at 4 t (newer_start + 6) → top ≡ num_at 4 t (newer_start + 10) → bottom ≡ num_at 4 t (newer_start + 14) → button ≡ num_at 1 t (newer_start + 540)
      → order ≡ num_at 1 t (newer_start + 541) → bar ≡ num_at 1 t (newer_start + 542) → edge ≡ num_at 1 t (newer_start + 543)
      → record {
        left_resize_margin = left;
        right_resize_margin = right;
        top_resize_margin = top;
        bottom_resize_margin = bottom;
        overlay_description = description;
        taskbar_button = button;
        enforce_server_z_order = order;
        app_bar_state = bar;
        app_bar_edge = edge;
        overlay = overlay;
      } ≡ newer_of (body_of newer_fields (drop newer_start t))
  unfolding body_of fields_of newer_of
  newer_is description v overlay left right top bottom button order bar edge =
      let s = drop newer_start t in
      let r : ℕ → Row = λ k. get_or newer_fields k no_row in
      rw (
        left ∙ sym (num_drop 4 newer_start 2 t) ∙ num_start (r 0) s 2 4 (omega arith) (omega arith),
        right ∙ sym (num_drop 4 newer_start 6 t) ∙ num_field (r 0) s 2 4 4 (omega arith) (omega arith),
        top ∙ sym (num_drop 4 newer_start 10 t) ∙ num_start (r 1) s 10 4 (omega arith) (omega arith),
        bottom ∙ sym (num_drop 4 newer_start 14 t) ∙ num_field (r 1) s 10 4 4 (omega arith) (omega arith),
        description ∙ ap text_of (place_drop (text_row 0 520) newer_start 18 t ∙ text_flag 0x00400000 520 s 18),
        button ∙ sym (num_drop 1 newer_start 540 t) ∙ num_start (r 3) s 540 1 (omega arith) (omega arith),
        order ∙ sym (num_drop 1 newer_start 541 t) ∙ num_start (r 4) s 541 1 (omega arith) (omega arith),
        bar ∙ sym (num_drop 1 newer_start 542 t) ∙ num_start (r 5) s 542 1 (omega arith) (omega arith),
        edge ∙ sym (num_drop 1 newer_start 543 t) ∙ num_start (r 6) s 543 1 (omega arith) (omega arith),
        marked overlay (v ∙ sym (num_drop 1 newer_start 0 t)),
      )

-- ---- a window

module _ (s : List ℕ) where
  pub window_is : {owner : WindowId} {style extended show : ℕ} {title : Text} {offset : Point} {size : Pair} {content : ℕ} {root : WindowId} {place delta : Point} {whole : Pair} {rects : Rectangles}
      {visible : Point} {shown : Rectangles} {v w : ℕ} {small big : Bool} {newer : NewerRecord} → newer ≡ newer_of (body_of newer_fields (drop newer_start s))
      → title ≡ text_of (field_at (text_row 0 520) s 15) → offset ≡ point_of (field_at (numbers_row 0 8) s 537) → size ≡ pair_of (field_at (numbers_row 0 8) s 545)
      → place ≡ point_of (field_at (numbers_row 0 8) s 558) → delta ≡ point_of (field_at (numbers_row 0 8) s 566) → whole ≡ pair_of (field_at (numbers_row 0 8) s 574)
      → rects ≡ rectangles_of (field_at (rectangles_row 0) s 582) → visible ≡ point_of (field_at (numbers_row 0 8) s 712) → shown ≡ rectangles_of (field_at (rectangles_row 0) s 720)
      → v ≡ num_at 1 s 0 → small ≡ is_marked v → w ≡ num_at 1 s 1 → big ≡ is_marked w → owner ≡ window_id (num_at 4 s 2) → root ≡ window_id (num_at 4 s 554)
      → style ≡ num_at 4 s 6 → extended ≡ num_at 4 s 10 → show ≡ num_at 1 s 14 → content ≡ num_at 1 s 553
      → record {
        owner = owner;
        style = style;
        extended_style = extended;
        show_state = show;
        title = title;
        client_offset = offset;
        client_size = size;
        rp_content = content;
        root_parent = root;
        window_offset = place;
        client_delta = delta;
        window_size = whole;
        window_rects = rects;
        visible_offset = visible;
        visibility_rects = shown;
        small = small;
        big = big;
        newer = newer;
      } ≡ window_of (window_in s)
  unfolding window_in body_of fields_of window_of
  window_is newer title offset size place delta whole rects visible shown v small w big owner root style extended show content =
      let r : ℕ → Row = λ k. get_or older_fields k no_row in
      rw (
        owner ∙ ap window_id (num_start (r 0) s 2 4 (omega arith) (omega arith)),
        style ∙ num_start (r 1) s 6 4 (omega arith) (omega arith),
        extended ∙ num_field (r 1) s 6 4 4 (omega arith) (omega arith),
        show ∙ num_start (r 2) s 14 1 (omega arith) (omega arith),
        title ∙ ap text_of (text_flag 0x00000004 520 s 15),
        offset ∙ ap point_of (numbers_flag 0x00004000 8 s 537),
        size ∙ ap pair_of (numbers_flag 0x00010000 8 s 545),
        content ∙ num_start (r 6) s 553 1 (omega arith) (omega arith),
        root ∙ ap window_id (num_start (r 7) s 554 4 (omega arith) (omega arith)),
        place ∙ ap point_of (numbers_flag 0x00000800 8 s 558),
        delta ∙ ap point_of (numbers_flag 0x00008000 8 s 566),
        whole ∙ ap pair_of (numbers_flag 0x00000400 8 s 574),
        rects ∙ ap rectangles_of (rectangles_flag 0x00000100 s 582),
        visible ∙ ap point_of (numbers_flag 0x00001000 8 s 712),
        shown ∙ ap rectangles_of (rectangles_flag 0x00000200 s 720),
        marked small v,
        marked big w,
        newer,
      )

-- ---- a notification icon

module _ (s : List ℕ) where
  pub notification_is : {version : ℕ} {tip : Text} {timeout flags : ℕ} {text title : Text} {state v : ℕ} {icon : Bool}
      → tip ≡ text_of (field_at (text_row 0 256) s 6) → text ≡ text_of (field_at (text_row 0 510) s 272) → title ≡ text_of (field_at (text_row 0 126) s 784)
      → v ≡ num_at 1 s 0 → icon ≡ is_marked v → version ≡ num_at 4 s 2 → timeout ≡ num_at 4 s 264 → flags ≡ num_at 4 s 268 → state ≡ num_at 4 s 912
      → record { version = version; tip = tip; timeout = timeout; flags = flags; text = text; title = title; state = state; icon = icon } ≡ notification_of (body_of notification_fields s)
  unfolding body_of fields_of notification_of
  notification_is tip text title v icon version timeout flags state =
      let r : ℕ → Row = λ k. get_or notification_fields k no_row in
      rw (
        version ∙ num_start (r 0) s 2 4 (omega arith) (omega arith),
        tip ∙ ap text_of (text_flag 0x00000001 256 s 6),
        timeout ∙ num_start (r 2) s 264 4 (omega arith) (omega arith),
        flags ∙ num_field (r 2) s 264 4 4 (omega arith) (omega arith),
        text ∙ ap text_of (text_flag 0x00000002 510 s 272),
        title ∙ ap text_of (text_flag 0x00000002 126 s 784),
        state ∙ num_start (r 5) s 912 4 (omega arith) (omega arith),
        marked icon v,
      )

-- ---- the desktop

module _ (s : List ℕ) where
  pub desktop_is : {active : WindowId} {a b : ℕ} {stack : Stack} → stack ≡ stack_of (field_at (ids_row 0) s 6) → active ≡ window_id (num_at 4 s 2) → a ≡ num_at 1 s 0 → b ≡ num_at 1 s 1
      → record { active = active; hooked = eqb a 1; syncing = eqb b 1; stack = stack } ≡ desktop_of (body_of desktop_fields s)
  unfolding body_of fields_of desktop_of
  desktop_is stack active a b =
      let r : ℕ → Row = λ k. get_or desktop_fields k no_row in
      rw (
        active ∙ ap window_id (num_start (r 0) s 2 4 (omega arith) (omega arith)),
        ap (λ (n : ℕ). eqb n 1) a,
        ap (λ (n : ℕ). eqb n 1) b,
        stack ∙ ap stack_of (ids_flag 0x00000010 s 6),
      )

-- ---- a picture

module _ (s : List ℕ) {bits width height first second : ℕ} (a : bits ≡ num_at 1 s 0) (b : width ≡ num_at 2 s 1) (c : height ≡ num_at 2 s 3)
    (d : first ≡ num_at 2 s 5) (e : second ≡ num_at 2 s 7) where
  pub tabled_is : {third : ℕ} {bytes : List ℕ} → tabled bits ≡ true → third ≡ num_at 2 s 9 → bytes ≡ splice (replicate 4224 0) 0 (slice s 11 4224)
      → record { bits = bits; width = width; height = height; mask = second; table = first; color = third; bytes = bytes } ≡ picture_view s
  unfolding picture_view
  tabled_is t f g =
      let u : tabled (num_at 1 s 0) ≡ true = ap (λ (n : ℕ). tabled n) (sym a) ∙ t in
      rw (u, a, b, c, d, e, f, content_is s 11 g)

  pub untabled_is : {bytes : List ℕ} → tabled bits ≡ false → bytes ≡ splice (replicate 4224 0) 0 (slice s 9 4224)
      → record { bits = bits; width = width; height = height; mask = first; table = 0; color = second; bytes = bytes } ≡ picture_view s
  unfolding picture_view
  untabled_is t g =
      let u : tabled (num_at 1 s 0) ≡ false = ap (λ (n : ℕ). tabled n) (sym a) ∙ t in
      rw (u, a, b, c, d, e, content_is s 9 g)
