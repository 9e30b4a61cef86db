-- The typed views of records lose nothing: one law for fields of fixed numbers, one for counted numbers, one for marks and one for
-- switches; a record is its fields. Assumes nothing.
use mathlib.Core.Path.{◌≡◌, refl, sym, ap, ◌∙◌}
use mathlib.Core.Bool.{Bool, true, false}
use mathlib.Core.List.{List, [], ◌∷◌, map}
use Prim.Native.Nat.{ℕ, zero, suc, ◌+◌, ◌*◌, ◌-◌, ◌≤◌, ◌<◌}
use native.Mathlib.Nat.{add-zero, zero-add, mul-suc, mul-zero}
use native.Mathlib.Omega.{arith}
use lib.Dec.{eqb}
use lib.ListN.{length, get_or, replicate}
use lib.Seq.{ext_get_or}
use borrow.Author.Tests.{eqb-true, eqb-false}
use Rattle.wire.specs.Numbers.{num_at, nums_at, total, Bytes}
use Rattle.wire.specs.Parts.{padded}
use Rattle.wire.proofs.Parts.{padded_same}
use Rattle.wire.proofs.Numbers.{nums_same}
use Rattle.signs.specs.TwosComplement.{unsigned, signed_at}
use Rattle.signs.proofs.TwosComplement.{forth_4, num_under}
use Rattle.protocol.specs.declared.WindowId.{WindowId}
use Rattle.rows.specs.declared.Row.{Row}
use Rattle.rows.specs.Rows.{no_row, text_row, rectangles_row, ids_row, first_of, len_of}
use Rattle.body.specs.Bodies.{Body, notification_fields, desktop_fields}
use Rattle.body.proofs.Placed.{Placed}
use Rattle.layout.specs.Valid.{ValidField, ValidFields}
use Rattle.layout.specs.Layouts.{older_fields, newer_fields}
use Rattle.layout.proofs.LayoutsWritten.{placed_at}
use Rattle.layout.proofs.LayoutsLossless.{short_field}
use Rattle.view.specs.declared.Point.{Point}
use Rattle.view.specs.declared.Pair.{Pair}
use Rattle.view.specs.declared.Text.{Text}
use Rattle.view.specs.declared.Rectangles.{Rectangles}
use Rattle.view.specs.declared.Stack.{Stack}
use Rattle.view.specs.declared.NewerRecord.{NewerRecord}
use Rattle.view.specs.declared.WindowRecord.{WindowRecord}
use Rattle.view.specs.declared.NotificationRecord.{NotificationRecord}
use Rattle.view.specs.declared.DesktopRecord.{DesktopRecord}
use Rattle.view.specs.Views.{window_id, each_of, point_of, pair_of, text_of, rectangles_of, stack_of, newer_of, WindowParts, window_of, notification_of, desktop_of}
use Rattle.view.specs.Lossless.{BytesEach, ValidRecord, ValidWindow}
use Rattle.view.proofs.ViewsRead.{length_each}

-- a valid field, in bytes
record Whole (r : Row) (f : List ℕ) : Type 0 where
  pub valid : ValidField r f
  pub bytes : Bytes f

-- ---- a field of fixed numbers

nums_one : (w : ℕ) (f g : List ℕ) → num_at w f 0 ≡ num_at w g 0 → nums_at (w ∷ []) f 0 ≡ nums_at (w ∷ []) g 0
unfolding nums_at
nums_one w f g e = ap (λ (n : ℕ). n ∷ []) e

eight : total (4 ∷ 4 ∷ []) ≡ 8
unfolding total
eight = refl

nums_two : (f g : List ℕ) → num_at 4 f 0 ≡ num_at 4 g 0 → num_at 4 f 4 ≡ num_at 4 g 4 → nums_at (4 ∷ 4 ∷ []) f 0 ≡ nums_at (4 ∷ 4 ∷ []) g 0
unfolding nums_at
nums_two f g a b = rw (a, b)

-- n numbers of w bytes, with what was made of each taken back
plain : {A : Type 0} (make : ℕ → A) (back : A → ℕ) → ((i : ℕ) → back (make i) ≡ i) → (w n : ℕ) (s : List ℕ) (at : ℕ)
    → map back (each_of make w n s at) ≡ nums_at (replicate n w) s at
unfolding each_of nums_at
plain make back inv w zero s at = refl
plain make back inv w (suc n) s at = rw (inv (num_at w s at), plain make back inv w n s (at + w))

total_each : (w n : ℕ) → total (replicate n w) ≡ w * n
unfolding total
total_each w zero = sym (mul-zero w)
total_each w (suc n) = rw (total_each w n, mul-suc w n) (omega arith)

module _ (r : Row) {f g : List ℕ} (v : Whole r f) (u : Whole r g) where
  fixed : (ws : List ℕ) → r.unit ≡ 0 → total ws ≡ r.size → nums_at ws f 0 ≡ nums_at ws g 0 → f ≡ g
  unfolding len_of
  fixed ws z t e =
      let lf : length f ≡ total ws = v.valid.long ∙ rw (z, t) (omega arith) in
      let lg : length g ≡ total ws = u.valid.long ∙ rw (z, t) (omega arith) in
      nums_same ws f g v.bytes u.bytes lf lg e

  -- one number, of 4 bytes or of 1
  number : (w : ℕ) → r.unit ≡ 0 → w ≡ r.size → num_at w f 0 ≡ num_at w g 0 → f ≡ g
  unfolding total
  number w z t e = fixed (w ∷ []) z (add-zero w ∙ t) (nums_one w f g e)

  -- a signed number decides the number
  same_number : (at : ℕ) → signed_at 4 f at ≡ signed_at 4 g at → num_at 4 f at ≡ num_at 4 g at
  same_number at e =
      sym (forth_4 (num_at 4 f at) (num_under 4 f at v.bytes)) ∙ ap (unsigned 4) e ∙ forth_4 (num_at 4 g at) (num_under 4 g at u.bytes)

  point : r.unit ≡ 0 → r.size ≡ 8 → point_of f ≡ point_of g → f ≡ g
  unfolding total point_of
  point z t e = fixed (4 ∷ 4 ∷ []) z (sym t) (nums_two f g (same_number 0 (ap (λ (p : Point). p.x) e)) (same_number 4 (ap (λ (p : Point). p.y) e)))

  pair : r.unit ≡ 0 → r.size ≡ 8 → pair_of f ≡ pair_of g → f ≡ g
  unfolding total pair_of
  pair z t e = fixed (4 ∷ 4 ∷ []) z (sym t) (nums_two f g (ap (λ (p : Pair). p.x) e) (ap (λ (p : Pair). p.y) e))

  -- ---- a field of counted numbers: a count of h bytes, then n numbers of w

  counted : {A : Type 0} (make : ℕ → A) (back : A → ℕ) (z : A) (w h n m : ℕ) → ((i : ℕ) → back (make i) ≡ i) → length f ≡ h + w * n → length g ≡ h + w * n → n ≤ m
      → num_at h f 0 ≡ num_at h g 0 → padded z m (each_of make w n f h) ≡ padded z m (each_of make w n g h) → f ≡ g
  unfolding total nums_at
  counted {A} make back z w h n m inv lf lg few e ee =
      let l : length (each_of make w n f h) ≡ n = length_each make w n f h in
      let same : each_of make w n f h ≡ each_of make w n g h =
      padded_same z m (each_of make w n f h) (each_of make w n g h) (l ∙ sym (length_each make w n g h)) (omega arith) ee in
      let nums : nums_at (replicate n w) f h ≡ nums_at (replicate n w) g h = sym (plain make back inv w n f h) ∙ ap (map back) same ∙ plain make back inv w n g h in
      let t : total (h ∷ replicate n w) ≡ h + w * n = ap (λ (k : ℕ). h + k) (total_each w n) in
      nums_same (h ∷ replicate n w) f g v.bytes u.bytes (lf ∙ sym t) (lg ∙ sym t) (rw (zero-add h, e, nums))

-- ---- by kind: a valid field has no more numbers than its row allows

module _ (flag : ℕ) {f g : List ℕ} where
  text : (most : ℕ) → most ≤ 520 → Placed (text_row flag most) → Whole (text_row flag most) f → Whole (text_row flag most) g → text_of f ≡ text_of g → f ≡ g
  unfolding text_of len_of first_of
  text most few p v u e =
      let c : num_at 2 f 0 ≡ num_at 2 g 0 = ap (λ (t : Text). t.count) e in
      let h = short_field (text_row flag most) f p v.valid in
      counted (text_row flag most) v u (λ (n : ℕ). n) (λ (n : ℕ). n) 0 1 2 (num_at 2 f 0) 520 (λ i. refl)
      v.valid.long (u.valid.long ∙ ap (λ (n : ℕ). 2 + 1 * n) (sym c)) (omega (arith, v.valid.long)) c
      (ap (λ (t : Text). t.bytes) e ∙ ap (λ (n : ℕ). padded 0 520 (each_of (λ (k : ℕ). k) 1 n g 2)) (sym c))

  rectangles : Placed (rectangles_row flag) → Whole (rectangles_row flag) f → Whole (rectangles_row flag) g → rectangles_of f ≡ rectangles_of g → f ≡ g
  unfolding rectangles_of len_of first_of
  rectangles p v u e =
      let c : num_at 2 f 0 ≡ num_at 2 g 0 = ap (λ (t : Rectangles). t.count) e in
      let h = short_field (rectangles_row flag) f p v.valid in
      counted (rectangles_row flag) v u (λ (n : ℕ). n) (λ (n : ℕ). n) 0 2 2 (4 * num_at 2 f 0) 64 (λ i. refl)
      (omega (arith, v.valid.long)) (omega (arith, u.valid.long)) (omega (arith, v.valid.long)) c
      (ap (λ (t : Rectangles). t.sides) e ∙ ap (λ (n : ℕ). padded 0 64 (each_of (λ (k : ℕ). k) 2 (4 * n) g 2)) (sym c))

  stack : Placed (ids_row flag) → Whole (ids_row flag) f → Whole (ids_row flag) g → stack_of f ≡ stack_of g → f ≡ g
  unfolding stack_of len_of first_of
  stack p v u e =
      let c : num_at 1 f 0 ≡ num_at 1 g 0 = ap (λ (t : Stack). t.count) e in
      let h = short_field (ids_row flag) f p v.valid in
      counted (ids_row flag) v u window_id (λ (w : WindowId). w.id) (window_id 0) 4 1 (num_at 1 f 0) 64 (λ i. refl)
      v.valid.long (u.valid.long ∙ ap (λ (n : ℕ). 1 + 4 * n) (sym c)) (omega (arith, v.valid.long)) c
      (ap (λ (t : Stack). t.ids) e ∙ ap (λ (n : ℕ). padded (window_id 0) 64 (each_of window_id 4 n g 1)) (sym c))

-- ---- a mark

-- a mark that is 0 or 1
switch : (v w : ℕ) → v ≤ 1 → w ≤ 1 → eqb v 1 ≡ eqb w 1 → v ≡ w
switch v w hv hw e = go (eqb v 1) refl (eqb w 1) refl e
  where
    go : (a : Bool) → eqb v 1 ≡ a → (b : Bool) → eqb w 1 ≡ b → a ≡ b → v ≡ w
    go true ta true tb e = eqb-true v 1 ta ∙ sym (eqb-true w 1 tb)
    go true ta false tb e = let z : ◌≡◌ {A = ℕ} 0 1 = cc in absurd (omega arith)
    go false ta true tb e = let z : ◌≡◌ {A = ℕ} 0 1 = cc in absurd (omega arith)
    go false ta false tb e = low v hv (eqb-false v 1 ta) ∙ sym (low w hw (eqb-false w 1 tb))
      where
        low : (n : ℕ) → n ≤ 1 → (n ≡ 1 → ⊥) → n ≡ 0
        low zero h k = refl
        low (suc n) h k = absurd (k (omega arith))

-- ---- a record is its marks and its fields

abbrev Alike : List Row → ℕ → List (List ℕ) → List (List ℕ) → Type 0
Alike [] k fs gs = Unit {0}
Alike (r ∷ rs) k fs gs = (get_or fs k [] ≡ get_or gs k []) × Alike rs (suc k) fs gs

many : (rows : List Row) (fs : List (List ℕ)) → ValidFields rows fs → length fs ≡ length rows
many [] [] v = refl
many [] (f ∷ fs) v = absurd v
many (r ∷ rs) [] v = absurd v
many (r ∷ rs) (f ∷ fs) v = ap suc (many rs fs v.1)

valid_at : (rows : List Row) (fs : List (List ℕ)) → ValidFields rows fs → BytesEach fs → (k : ℕ) → k < length rows → Whole (get_or rows k no_row) (get_or fs k [])
valid_at [] fs v b k h = absurd (omega arith)
valid_at (r ∷ rs) [] v b k h = absurd v
valid_at (r ∷ rs) (f ∷ fs) v b zero h = record { valid = v.0; bytes = b.0 }
valid_at (r ∷ rs) (f ∷ fs) v b (suc k) h = valid_at rs fs v.1 b.1 k (omega arith)

alike_at : (rows : List Row) (k : ℕ) (fs gs : List (List ℕ)) → Alike rows k fs gs → (i : ℕ) → i < length rows → get_or fs (k + i) [] ≡ get_or gs (k + i) []
alike_at [] k fs gs a i h = absurd (omega arith)
alike_at (r ∷ rs) k fs gs a zero h = rw (add-zero k) a.0
alike_at (r ∷ rs) k fs gs a (suc i) h =
    let e : k + suc i ≡ suc k + i = omega arith in
    ap (λ (j : ℕ). get_or fs j []) e ∙ alike_at rs (suc k) fs gs a.1 i (omega arith) ∙ ap (λ (j : ℕ). get_or gs j []) (sym e)

module _ (rows : List Row) (m n : ℕ) (a b : Body) (va : ValidRecord rows m n a) (vb : ValidRecord rows m n b) where
  fields_same : Alike rows 0 a.fields b.fields → a.fields ≡ b.fields
  fields_same e =
      let la = many rows a.fields va.body.fields in
      let lb = many rows b.fields vb.body.fields in
      ext_get_or [] a.fields b.fields (la ∙ sym lb)
      (λ i h. ap (λ (j : ℕ). get_or a.fields j []) (sym (zero-add i)) ∙ alike_at rows 0 a.fields b.fields e i (omega arith)
      ∙ ap (λ (j : ℕ). get_or b.fields j []) (zero-add i))

  body_same : a.first ≡ b.first → a.second ≡ b.second → Alike rows 0 a.fields b.fields → a ≡ b
  body_same e f g = λ i. record { first = e i; second = f i; fields = fields_same g i }

  fa : (k : ℕ) → k < length rows → Whole (get_or rows k no_row) (get_or a.fields k [])
  fa = valid_at rows a.fields va.body.fields va.bytes

  fb : (k : ℕ) → k < length rows → Whole (get_or rows k no_row) (get_or b.fields k [])
  fb = valid_at rows b.fields vb.body.fields vb.bytes

-- the older fields of a window
older_same : (a b x y : Body) → ValidRecord older_fields 1 1 a → ValidRecord older_fields 1 1 b → window_of (record { older = a; newer = x }) ≡ window_of (record { older = b; newer = y }) → a ≡ b
unfolding window_of point_of pair_of
older_same a b x y va vb e =
    let u = fa older_fields 1 1 a b va vb in
    let v = fb older_fields 1 1 a b va vb in
    let r : ℕ → Row = λ k. get_or older_fields k no_row in
    body_same older_fields 1 1 a b va vb
    (switch a.first b.first va.body.first vb.body.first (ap (λ (x : WindowRecord). x.small) e))
    (switch a.second b.second va.body.second vb.body.second (ap (λ (x : WindowRecord). x.big) e)) (
      number (r 0) (u 0 (omega arith)) (v 0 (omega arith)) 4 refl refl (ap (λ (x : WindowRecord). x.owner.id) e),
      (
        fixed (r 1) (u 1 (omega arith)) (v 1 (omega arith)) (4 ∷ 4 ∷ []) refl eight
            (nums_two (get_or a.fields 1 []) (get_or b.fields 1 []) (ap (λ (x : WindowRecord). x.style) e) (ap (λ (x : WindowRecord). x.extended_style) e)),
        (
          number (r 2) (u 2 (omega arith)) (v 2 (omega arith)) 1 refl refl (ap (λ (x : WindowRecord). x.show_state) e),
          (
            text 0x00000004 520 (omega arith) (placed_at 4 (omega arith)) (u 3 (omega arith)) (v 3 (omega arith)) (ap (λ (x : WindowRecord). x.title) e),
            (
              point (r 4) (u 4 (omega arith)) (v 4 (omega arith)) refl refl (ap (λ (x : WindowRecord). x.client_offset) e),
              (
                pair (r 5) (u 5 (omega arith)) (v 5 (omega arith)) refl refl (ap (λ (x : WindowRecord). x.client_size) e),
                (
                  number (r 6) (u 6 (omega arith)) (v 6 (omega arith)) 1 refl refl (ap (λ (x : WindowRecord). x.rp_content) e),
                  (
                    number (r 7) (u 7 (omega arith)) (v 7 (omega arith)) 4 refl refl (ap (λ (x : WindowRecord). x.root_parent.id) e),
                    (
                      point (r 8) (u 8 (omega arith)) (v 8 (omega arith)) refl refl (ap (λ (x : WindowRecord). x.window_offset) e),
                      (
                        point (r 9) (u 9 (omega arith)) (v 9 (omega arith)) refl refl (ap (λ (x : WindowRecord). x.client_delta) e),
                        (
                          pair (r 10) (u 10 (omega arith)) (v 10 (omega arith)) refl refl (ap (λ (x : WindowRecord). x.window_size) e),
                          (
                            rectangles 0x00000100 (placed_at 14 (omega arith)) (u 11 (omega arith)) (v 11 (omega arith)) (ap (λ (x : WindowRecord). x.window_rects) e),
                            (
                              point (r 12) (u 12 (omega arith)) (v 12 (omega arith)) refl refl (ap (λ (x : WindowRecord). x.visible_offset) e),
                              (
                                rectangles 0x00000200 (placed_at 16 (omega arith)) (u 13 (omega arith)) (v 13 (omega arith)) (ap (λ (x : WindowRecord). x.visibility_rects) e),
                                tt,
                              ),
                            ),
                          ),
                        ),
                      ),
                    ),
                  ),
                ),
              ),
            ),
          ),
        ),
      ),
    )

-- its newer ones
newer_same : (a b : Body) → ValidRecord newer_fields 1 0 a → ValidRecord newer_fields 1 0 b → newer_of a ≡ newer_of b → a ≡ b
unfolding newer_of
newer_same a b va vb e =
    let u = fa newer_fields 1 0 a b va vb in
    let v = fb newer_fields 1 0 a b va vb in
    let r : ℕ → Row = λ k. get_or newer_fields k no_row in
    body_same newer_fields 1 0 a b va vb
    (switch a.first b.first va.body.first vb.body.first (ap (λ (x : NewerRecord). x.overlay) e))
    (omega (arith, va.body.second, vb.body.second)) (
      fixed (r 0) (u 0 (omega arith)) (v 0 (omega arith)) (4 ∷ 4 ∷ []) refl eight
          (nums_two (get_or a.fields 0 []) (get_or b.fields 0 []) (ap (λ (x : NewerRecord). x.left_resize_margin) e) (ap (λ (x : NewerRecord). x.right_resize_margin) e)),
      (
        fixed (r 1) (u 1 (omega arith)) (v 1 (omega arith)) (4 ∷ 4 ∷ []) refl eight
            (nums_two (get_or a.fields 1 []) (get_or b.fields 1 []) (ap (λ (x : NewerRecord). x.top_resize_margin) e) (ap (λ (x : NewerRecord). x.bottom_resize_margin) e)),
        (
          text 0x00400000 520 (omega arith) (placed_at 17 (omega arith)) (u 2 (omega arith)) (v 2 (omega arith)) (ap (λ (x : NewerRecord). x.overlay_description) e),
          (
            number (r 3) (u 3 (omega arith)) (v 3 (omega arith)) 1 refl refl (ap (λ (x : NewerRecord). x.taskbar_button) e),
            (
              number (r 4) (u 4 (omega arith)) (v 4 (omega arith)) 1 refl refl (ap (λ (x : NewerRecord). x.enforce_server_z_order) e),
              (
                number (r 5) (u 5 (omega arith)) (v 5 (omega arith)) 1 refl refl (ap (λ (x : NewerRecord). x.app_bar_state) e),
                (
                  number (r 6) (u 6 (omega arith)) (v 6 (omega arith)) 1 refl refl (ap (λ (x : NewerRecord). x.app_bar_edge) e),
                  tt,
                ),
              ),
            ),
          ),
        ),
      ),
    )

pub window_same : (a b : WindowParts) → ValidWindow a → ValidWindow b → window_of a ≡ window_of b → a ≡ b
unfolding window_of
window_same a b va vb e =
    let o : a.older ≡ b.older = older_same a.older b.older a.newer b.newer va.older vb.older e in
    let n : a.newer ≡ b.newer = newer_same a.newer b.newer va.newer vb.newer (ap (λ (x : WindowRecord). x.newer) e) in
    λ i. record { older = o i; newer = n i }

pub notification_same : (a b : Body) → ValidRecord notification_fields 1 0 a → ValidRecord notification_fields 1 0 b → notification_of a ≡ notification_of b → a ≡ b
unfolding notification_of
notification_same a b va vb e =
    let u = fa notification_fields 1 0 a b va vb in
    let v = fb notification_fields 1 0 a b va vb in
    let r : ℕ → Row = λ k. get_or notification_fields k no_row in
    body_same notification_fields 1 0 a b va vb
    (switch a.first b.first va.body.first vb.body.first (ap (λ (x : NotificationRecord). x.icon) e))
    (omega (arith, va.body.second, vb.body.second)) (
      number (r 0) (u 0 (omega arith)) (v 0 (omega arith)) 4 refl refl (ap (λ (x : NotificationRecord). x.version) e),
      (
        text 0x00000001 256 (omega arith) (placed_at 24 (omega arith)) (u 1 (omega arith)) (v 1 (omega arith)) (ap (λ (x : NotificationRecord). x.tip) e),
        (
          fixed (r 2) (u 2 (omega arith)) (v 2 (omega arith)) (4 ∷ 4 ∷ []) refl eight
              (nums_two (get_or a.fields 2 []) (get_or b.fields 2 []) (ap (λ (x : NotificationRecord). x.timeout) e) (ap (λ (x : NotificationRecord). x.flags) e)),
          (
            text 0x00000002 510 (omega arith) (placed_at 26 (omega arith)) (u 3 (omega arith)) (v 3 (omega arith)) (ap (λ (x : NotificationRecord). x.text) e),
            (
              text 0x00000002 126 (omega arith) (placed_at 27 (omega arith)) (u 4 (omega arith)) (v 4 (omega arith)) (ap (λ (x : NotificationRecord). x.title) e),
              (
                number (r 5) (u 5 (omega arith)) (v 5 (omega arith)) 4 refl refl (ap (λ (x : NotificationRecord). x.state) e),
                tt,
              ),
            ),
          ),
        ),
      ),
    )

pub desktop_same : (a b : Body) → ValidRecord desktop_fields 1 1 a → ValidRecord desktop_fields 1 1 b → desktop_of a ≡ desktop_of b → a ≡ b
unfolding desktop_of
desktop_same a b va vb e =
    let u = fa desktop_fields 1 1 a b va vb in
    let v = fb desktop_fields 1 1 a b va vb in
    body_same desktop_fields 1 1 a b va vb
    (switch a.first b.first va.body.first vb.body.first (ap (λ (x : DesktopRecord). x.hooked) e))
    (switch a.second b.second va.body.second vb.body.second (ap (λ (x : DesktopRecord). x.syncing) e)) (
      number (get_or desktop_fields 0 no_row) (u 0 (omega arith)) (v 0 (omega arith)) 4 refl refl (ap (λ (x : DesktopRecord). x.active.id) e),
      (
        stack 0x00000010 (placed_at 30 (omega arith)) (u 1 (omega arith)) (v 1 (omega arith)) (ap (λ (x : DesktopRecord). x.stack) e),
        tt,
      ),
    )
