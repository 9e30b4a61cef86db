-- Handing out: a record with the pictures of its icons behind it, the picture of a cell, and the other targets. Assumes nothing.
use mathlib.Core.Path.{◌≡◌, refl, sym, ap, ap₂, subst, ◌∙◌}
use mathlib.Core.Bool.{Bool, true, false, not}
use mathlib.Core.List.{List, [], ◌∷◌, ◌++◌, flatten, append_assoc, append-nil}
use mathlib.Core.Option.{Option, none, some}
use Prim.Native.Nat.{ℕ, ◌+◌, ◌-◌, ◌≤◌, ◌<◌}
use native.Mathlib.Omega.{arith}
use mir.Val.{bool_byte}
use lib.Dec.{eqb, ltb}
use lib.ListN.{length, take, drop, length-append}
use lib.Seq.{drop-drop}
use borrow.Author.Tests.{lt-ltb, ltb-true, not-true}
use Rattle.std.specs.Prelude.{Option as StdOption, None, Some}
use Rattle.wire.specs.Tests.{pick}
use Rattle.wire.specs.Numbers.{bytes_of}
use Rattle.wire.specs.Parts.{slice, splice}
use Rattle.wire.proofs.Tests.{both_left, never}
use Rattle.wire.proofs.Parts.{length_slice, length_splice, length_padded, take_splice, drop_splice_at, splice_after}
use Rattle.rows.specs.declared.Row.{Row}
use Rattle.protocol.specs.declared.WindowId.{WindowId}
use Rattle.protocol.specs.declared.NotifyIconId.{NotifyIconId}
use Rattle.places.specs.declared.Family.{Family}
use Rattle.places.specs.declared.Family.TheVariants as family
use Rattle.places.specs.Counts.{on_found}
use Rattle.places.specs.Sizes.{cell_count, holder_count}
use Rattle.places.specs.Memory.{pointer_at, shown_of, shown}
use Rattle.places.specs.Holder.{cell, icon, icon_number, number_of}
use Rattle.slots.specs.Slots.{slot_of}
use Rattle.index.specs.Memory.{index_of}
use Rattle.ids.specs.Ids.{ids_in, list_bytes}
use Rattle.ids.specs.Steps.{family_of}
use Rattle.body.specs.Bodies.{Body, window_fields, notification_fields, desktop_fields, fields_of, body_of, fields_ok}
use Rattle.body.specs.Stores.{room_all}
use Rattle.layout.specs.Layouts.{picture_size, desktop_size, window_size, newer_start, newer_size, notification_size, older_fields, newer_fields, older_part, newer_part, fields_bytes, record_bytes, picture_bytes}
use Rattle.layout.proofs.LayoutsWritten.{length_record}
use Rattle.table.specs.Memory.{shown_in}
use Rattle.figure.specs.declared.Figure.{Figure}
use Rattle.figure.specs.Figure.{figure_length, figure_bytes}
use Rattle.follow.specs.Follow.{held_slot}
use Rattle.shown.specs.Shown.{is_there, shows, shown_bytes, held_pictures, Ready}
use Rattle.present.specs.PresentFigure.{no_figure}
use Rattle.session.specs.declared.PictureHolder.{PictureHolder}
use Rattle.session.specs.declared.LookupTarget.{LookupTarget}
use Rattle.session.specs.declared.LookupTarget.TheVariants.{Window, Notification, Cell, Desktop, Windows, Notifications, Shares}
use Rattle.session.specs.Calls.{a_picture, cell_number, holder_of}
use Rattle.session.specs.Outcome.{window_bytes, listed_bytes, payload_bytes}
use Rattle.session.specs.Targets.{want_of, listed_in, payload_held}
use Rattle.session.specs.Handing.{marked_picture, records_held, bytes_held, valid_held, ReadyFor, HandsOut}
use Rattle.session.proofs.Targets.{slot_below, shares_by, no_pointer}

-- ---- a record and its pictures

pub length_shown : (p : Option (List ℕ)) → length (shown_bytes p) ≡ picture_size
unfolding picture_bytes
length_shown none = length_padded {A = ℕ} 0 picture_size []
length_shown (some p) = length_padded {A = ℕ} 0 picture_size p

-- whether a picture is there, as the code writes it
mark_is : (p : Option (List ℕ)) {b : Bool} → b ≡ shows p → bytes_of 1 (bool_byte b) ≡ is_there p ∷ []
unfolding bytes_of
mark_is none e = rw e
mark_is (some p) e = rw e

-- a picture and its mark, as the code writes them
pub picture_marked : (out : List ℕ) (at mark : ℕ) (p : Option (List ℕ)) {y z : List ℕ} {b : Bool} → b ≡ shows p → y ≡ splice out at (shown_bytes p)
    → z ≡ splice y mark (bytes_of 1 (bool_byte b)) → z ≡ marked_picture out at mark p
picture_marked out at mark p {y = y} e f g = g ∙ ap (splice y mark) (mark_is p e) ∙ ap (λ (w : List ℕ). splice w mark (is_there p ∷ [])) f

-- the marks of a record at the start, written again
module _ (out : List ℕ) (rows : List Row) (b : Body) (rest : List ℕ) (s : ℕ) where
  first_mark : splice (splice out 0 (record_bytes rows b ++ rest)) 0 (s ∷ []) ≡ splice out 0 (record_bytes rows (record { first = s; second = b.second; fields = b.fields }) ++ rest)
  unfolding splice record_bytes
  first_mark = refl

  second_mark : splice (splice out 0 (record_bytes rows b ++ rest)) 1 (s ∷ []) ≡ splice out 0 (record_bytes rows (record { first = b.first; second = s; fields = b.fields }) ++ rest)
  unfolding splice record_bytes
  second_mark = refl

-- a picture behind what stands at the start
picture_put : (out front : List ℕ) (n : ℕ) (p : Option (List ℕ)) → length front ≡ n → n + picture_size ≤ length out
    → splice (splice out 0 front) n (shown_bytes p) ≡ splice out 0 (front ++ shown_bytes p)
picture_put out front n p size room =
    let l = length_shown p in
    splice_after out 0 front (shown_bytes p) n (omega (arith, size)) (omega (arith, size, l, room))

module _ (out : List ℕ) (rows : List Row) (b : Body) {n : ℕ} (size : 2 + room_all rows ≡ n) {x : List ℕ} (fields : x ≡ splice out 0 (record_bytes rows b)) (p : Option (List ℕ)) where
  abbrev once : Body
  once = record { first = is_there p; second = b.second; fields = b.fields }

  -- a record with a picture
  one_put : n + picture_size ≤ length out → {y : List ℕ} → y ≡ marked_picture x n 0 p → y ≡ splice out 0 (record_bytes rows once ++ shown_bytes p)
  one_put room e =
      let k : length (record_bytes rows b) ≡ n = length_record rows b ∙ size in
      e ∙ ap (λ (z : List ℕ). marked_picture z n 0 p) fields ∙ ap (λ (z : List ℕ). splice z 0 (is_there p ∷ [])) (picture_put out (record_bytes rows b) n p k room)
      ∙ first_mark out rows b (shown_bytes p) (is_there p)

  -- and with a second
  two_put : (q : Option (List ℕ)) → n + (picture_size + picture_size) ≤ length out → {y z : List ℕ} → y ≡ marked_picture x n 0 p → z ≡ marked_picture y (n + picture_size) 1 q
      → z ≡ splice out 0 (record_bytes rows (record { first = is_there p; second = is_there q; fields = b.fields }) ++ (shown_bytes p ++ shown_bytes q))
  two_put q room e f =
      let k = length_record rows once in
      let l = length_shown p in
      let j : length (record_bytes rows once ++ shown_bytes p) ≡ n + picture_size = length-append (record_bytes rows once) (shown_bytes p) ∙ omega (arith, k, size, l) in
      f ∙ ap (λ (w : List ℕ). marked_picture w (n + picture_size) 1 q) (one_put (omega arith) e)
      ∙ ap (λ (w : List ℕ). splice w 1 (is_there q ∷ []))
      (picture_put out (record_bytes rows once ++ shown_bytes p) (n + picture_size) q j (omega arith) ∙ ap (splice out 0) (append_assoc (record_bytes rows once) (shown_bytes p) (shown_bytes q)))
      ∙ second_mark out rows once (shown_bytes p ++ shown_bytes q) (is_there q)

-- a byte written over
over_front : (out : List ℕ) (n a : ℕ) (zs : List ℕ) → n + length (a ∷ zs) ≤ length out → take n (splice out n (a ∷ zs)) ≡ take n out
over_front out n a zs room = take_splice out n (a ∷ zs) room n (omega arith)

over_back : (out : List ℕ) (n a : ℕ) (zs : List ℕ) → n + length (a ∷ zs) ≤ length out → drop (n + 1) (splice out n (a ∷ zs)) ≡ zs ++ drop (n + length (a ∷ zs)) out
over_back out n a zs room = sym (drop-drop 1 n (splice out n (a ∷ zs))) ∙ ap (λ (x : List ℕ). drop 1 x) (drop_splice_at out n (a ∷ zs) room)

over : (out : List ℕ) (n a o : ℕ) (zs : List ℕ) → n + length (a ∷ zs) ≤ length out → splice (splice out n (a ∷ zs)) n (o ∷ []) ≡ splice out n (o ∷ zs)
unfolding splice
over out n a o zs room = ap₂ (λ (y z : List ℕ). y ++ (o ∷ z)) (over_front out n a zs room) (over_back out n a zs room)

-- the first byte behind what is put first
third_put : (out front : List ℕ) (n a o : ℕ) (zs : List ℕ) → length front ≡ n → n + length (a ∷ zs) ≤ length out
    → splice (splice out 0 (front ++ (a ∷ zs))) n (o ∷ []) ≡ splice out 0 (front ++ (o ∷ zs))
third_put out front n a o zs size room =
    let l : length (splice out 0 front) ≡ length out = length_splice out 0 front (omega (arith, size, room)) in
    ap (λ (x : List ℕ). splice x n (o ∷ [])) (sym (splice_after out 0 front (a ∷ zs) n (omega (arith, size)) (omega (arith, size, room))))
    ∙ over (splice out 0 front) n a o zs (omega (arith, l, room))
    ∙ splice_after out 0 front (o ∷ zs) n (omega (arith, size)) (omega (arith, size, room))

-- a window's two records, two pictures between them and one behind
module _ (out : List ℕ) (c : Body) (p q o : Option (List ℕ)) (room : newer_start + (newer_size + picture_size) ≤ length out) where
  abbrev newer : List ℕ
  newer = record_bytes newer_fields c

  abbrev two : List ℕ
  two = shown_bytes p ++ shown_bytes q

  front_long : (d : Body) → length (record_bytes older_fields d ++ two) ≡ newer_start
  unfolding room_all
  front_long d =
      length-append (record_bytes older_fields d) two
      ∙ omega (arith, length_record older_fields d, length-append (shown_bytes p) (shown_bytes q), length_shown p, length_shown q)

  newer_long : (d : Body) → length (record_bytes newer_fields d) ≡ newer_size
  unfolding room_all
  newer_long d = length_record newer_fields d

  behind_long : (d : Body) → length (record_bytes newer_fields d ++ shown_bytes o) ≡ newer_size + picture_size
  behind_long d = length-append (record_bytes newer_fields d) (shown_bytes o) ∙ omega (arith, newer_long d, length_shown o)

  -- the newer fields and the last picture, behind the older fields and two pictures
  behind_put : (d : Body) {y z v : List ℕ} → y ≡ splice out 0 (record_bytes older_fields d ++ two) → z ≡ splice y newer_start newer → v ≡ splice z (newer_start + newer_size) (shown_bytes o)
      → v ≡ splice out 0 (record_bytes older_fields d ++ (two ++ (newer ++ shown_bytes o)))
  behind_put d e f g =
      let front = record_bytes older_fields d ++ two in
      let k = front_long d in
      let l = newer_long c in
      let j : length (front ++ newer) ≡ newer_start + newer_size = length-append front newer ∙ omega (arith, k, l) in
      g
      ∙ ap (λ (w : List ℕ). splice w (newer_start + newer_size) (shown_bytes o))
      (f ∙ ap (λ (w : List ℕ). splice w newer_start newer) e ∙ splice_after out 0 front newer newer_start (omega (arith, k)) (omega (arith, k, l, room)))
      ∙ picture_put out (front ++ newer) (newer_start + newer_size) o j (omega (arith, room))
      ∙ ap (splice out 0) (append_assoc front newer (shown_bytes o) ∙ append_assoc (record_bytes older_fields d) two (newer ++ shown_bytes o))

  -- the mark of the newer fields
  third_mark : (d : Body) (t : ℕ) {y z : List ℕ} → y ≡ splice out 0 (record_bytes older_fields d ++ (two ++ (newer ++ shown_bytes o))) → z ≡ splice y newer_start (t ∷ [])
      → z ≡ splice out 0 (record_bytes older_fields d ++ (two ++ (record_bytes newer_fields (record { first = t; second = c.second; fields = c.fields }) ++ shown_bytes o)))
  third_mark d t e f =
      let front = record_bytes older_fields d in
      let marked : Body = record { first = t; second = c.second; fields = c.fields } in
      f
      ∙ ap (λ (w : List ℕ). splice w newer_start (t ∷ [])) (e ∙ ap (splice out 0) (sym (append_assoc front two (newer ++ shown_bytes o))))
      ∙ put
      ∙ ap (splice out 0) (append_assoc front two (record_bytes newer_fields marked ++ shown_bytes o))
    where
      put : splice (splice out 0 ((record_bytes older_fields d ++ two) ++ (newer ++ shown_bytes o))) newer_start (t ∷ [])
          ≡ splice out 0 ((record_bytes older_fields d ++ two) ++ (record_bytes newer_fields (record { first = t; second = c.second; fields = c.fields }) ++ shown_bytes o))
      put =
          let l = behind_long c in
          unfold record_bytes in
          third_put out (record_bytes older_fields d ++ two) newer_start c.first t (c.second ∷ (fields_bytes newer_fields c.fields ++ shown_bytes o)) (front_long d) (omega (arith, l, room))

module _ (out slot : List ℕ) {x y v : List ℕ} where
  -- the records of a window
  pub window_laid : {z : List ℕ} (p q o : Option (List ℕ)) → newer_start + (newer_size + picture_size) ≤ length out
      → x ≡ splice out 0 (record_bytes older_fields (older_part (body_of window_fields slot))) → y ≡ marked_picture x window_size 0 p → v ≡ marked_picture y (window_size + picture_size) 1 q
      → z ≡ splice v newer_start (record_bytes newer_fields (newer_part (body_of window_fields slot))) → {a : List ℕ} → a ≡ marked_picture z (newer_start + newer_size) newer_start o
      → a ≡ splice out 0 (window_bytes (fields_of window_fields 2 slot) (p ∷ q ∷ o ∷ []))
  unfolding body_of room_all flatten
  window_laid p q o room e f g h i =
      let m = older_part (body_of window_fields slot) in
      let n = newer_part (body_of window_fields slot) in
      let marked : Body = record { first = is_there p; second = is_there q; fields = m.fields } in
      let older = record_bytes older_fields marked in
      let newer = record_bytes newer_fields (record { first = is_there o; second = 0; fields = n.fields }) in
      third_mark out n p q o room marked (is_there o) (behind_put out n p q o room marked (two_put out older_fields m refl e p q (omega (arith, room)) f g) h refl) i
      ∙ ap (λ (u : List ℕ). splice out 0 (older ++ ((shown_bytes p ++ u) ++ (newer ++ shown_bytes o)))) (sym (append-nil (shown_bytes q)))
      ∙ ap (λ (u : List ℕ). splice out 0 (older ++ ((shown_bytes p ++ (shown_bytes q ++ [])) ++ (newer ++ u)))) (sym (append-nil (shown_bytes o)))

  -- a notification icon
  pub notification_laid : (p : Option (List ℕ)) → notification_size + picture_size ≤ length out
      → x ≡ splice out 0 (record_bytes notification_fields (body_of notification_fields slot)) → y ≡ marked_picture x notification_size 0 p
      → v ≡ splice y 1 (bytes_of 1 0) → v ≡ splice out 0 (listed_bytes family.Notifications (fields_of notification_fields 2 slot) (p ∷ []))
  unfolding listed_bytes body_of room_all bytes_of flatten
  notification_laid p room e f h =
      let b = body_of notification_fields slot in
      h
      ∙ ap (λ (w : List ℕ). splice w 1 (0 ∷ [])) (one_put out notification_fields b refl e p room f)
      ∙ second_mark out notification_fields (record { first = is_there p; second = b.second; fields = b.fields }) (shown_bytes p) 0
      ∙ ap (λ (k : List ℕ). splice out 0 (record_bytes notification_fields (record { first = is_there p; second = 0; fields = fields_of notification_fields 2 slot }) ++ k))
      (sym (append-nil (shown_bytes p)))

-- ---- holders that are listed have numbers

pub icon_in : (x : List ℕ) (f : Family) (a b w : ℕ) → (index_of x).listed f a b ≡ true → w < 3 → {n : ℕ} → n ≡ number_of (slot_of x) (icon f a b w) → n < holder_count
unfolding index_of number_of
icon_in x f a b w e l is = omega (arith, is, go (slot_of x f a b) refl e)
  where
    go : (r : StdOption ℕ) → slot_of x f a b ≡ r → on_found r false (λ i. true) ≡ true → on_found r holder_count (λ i. pick (ltb w 3) (icon_number i w) holder_count) < holder_count
    go None s e = never e
    go (Some i) s e = let h = slot_below x f a b i s in rw (lt-ltb w 3 l) (omega arith)

-- the icons of a record follow each other
icon_after : (x : List ℕ) (f : Family) (a b k : ℕ) → (index_of x).listed f a b ≡ true → k < 3 → {n : ℕ} → n ≡ number_of (slot_of x) (icon f a b 0) → n + k ≡ number_of (slot_of x) (icon f a b k)
unfolding index_of number_of
icon_after x f a b k e l is = ap (λ (n : ℕ). n + k) is ∙ go (slot_of x f a b) e
  where
    go : (r : StdOption ℕ) → on_found r false (λ i. true) ≡ true
        → on_found r holder_count (λ i. pick (ltb 0 3) (icon_number i 0) holder_count) + k ≡ on_found r holder_count (λ i. pick (ltb k 3) (icon_number i k) holder_count)
    go None e = never e
    go (Some i) e = rw (lt-ltb k 3 l) (omega arith)

module _ (x : List ℕ) (c : ℕ) (listed : (index_of x).sharing.shares (cell c) (cell c) ≡ true) where
  abbrev pointer : ℕ
  pointer = pointer_at x (number_of (slot_of x) (cell c))

  points : eqb pointer 0 ≡ false
  points = not-true (eqb pointer 0) (both_left (not (eqb pointer 0)) (eqb pointer pointer) (shares_by x (cell c) (cell c) ∙ listed))

  pub cell_in : c < cell_count
  unfolding number_of
  cell_in = go (ltb c cell_count) refl
    where
      go : (b : Bool) → ltb c cell_count ≡ b → c < cell_count
      go true e = ltb-true c cell_count e
      go false e =
          let n : number_of (slot_of x) (cell c) ≡ holder_count = rw e in
          let z : 0 ≡ pointer = no_pointer x holder_count (omega arith) ∙ ap (pointer_at x) (sym n) in
          never (sym points ∙ ap (λ (k : ℕ). eqb k 0) (sym z))

  cell_is : number_of (slot_of x) (cell c) ≡ c
  unfolding number_of
  cell_is = rw (lt-ltb c cell_count cell_in)

  pub cell_some : (pictures : ℕ → List ℕ) → shown_in x pictures (cell c) ≡ some (pictures (pointer - 1))
  unfolding shown shown_of
  cell_some pictures = rw points

  cell_bytes : (pictures : ℕ → List ℕ) (target : LookupTarget) → payload_bytes target (a_picture (shown_in x pictures (cell c))) ≡ shown_bytes (shown x pictures c)
  unfolding payload_bytes
  cell_bytes pictures target =
      let s : shown x pictures c ≡ some (pictures (pointer - 1)) = ap (shown x pictures) (sym cell_is) ∙ cell_some pictures in
      rw (cell_some pictures, s)

-- ---- what handing out asks, and leaves

module _ {x bodies : List ℕ} {store : List (List ℕ)} {journal m out : List ℕ} where
  pub hands_as : {target v : LookupTarget} → target ≡ v → HandsOut target x bodies store journal m out → HandsOut v x bodies store journal m out
  hands_as e h = subst (λ (t : LookupTarget). HandsOut t x bodies store journal m out) e h

  pub handed_as : {target v : LookupTarget} (f : Figure) {out' : List ℕ} → target ≡ v → HandsOut target x bodies store journal m out
      → out' ≡ splice out 0 (bytes_held v x bodies store journal m f) → out' ≡ splice out 0 (bytes_held target x bodies store journal m f)
  handed_as f e h p = p ∙ ap (λ (t : LookupTarget). splice out 0 (bytes_held t x bodies store journal m f)) (sym e)

  -- a window
  module _ {w : WindowId} (h : HandsOut (Window w) x bodies store journal m out) where
    pub window_size_lem : length m ≡ 1520
    unfolding want_of
    window_size_lem = h.size

    pub window_asks : ((window_size ≤ length out) × (1392 ≤ length (held_slot family.Windows m))) × (fields_ok window_fields 2 (held_slot family.Windows m) ≡ true)
    unfolding valid_held
    window_asks =
        let n = length_slice m 0 1392 (omega (arith, window_size_lem)) in
        ((omega (arith, h.room), omega (arith, n)), h.valid)

    pub window_icon : (i : ℕ) → i < 3 → {n : ℕ} → n ≡ number_of (slot_of x) (icon family.Windows w.id 0 i) → n < holder_count
    unfolding listed_in
    window_icon i l e = icon_in x family.Windows w.id 0 i h.listed l e

    pub window_big : {n : ℕ} → n ≡ number_of (slot_of x) (icon family.Windows w.id 0 0) → n + 1 ≡ number_of (slot_of x) (icon family.Windows w.id 0 1)
    unfolding listed_in
    window_big e = icon_after x family.Windows w.id 0 1 h.listed (omega arith) e

    pub window_ready : Ready x bodies store journal (slice m 1392 128)
    unfolding ReadyFor
    window_ready = h.ready

    pub window_overlay : {n : ℕ} → n ≡ number_of (slot_of x) (icon family.Windows w.id 0 0) → n + 2 ≡ number_of (slot_of x) (icon family.Windows w.id 0 2)
    unfolding listed_in
    window_overlay e = icon_after x family.Windows w.id 0 2 h.listed (omega arith) e

    pub records_handed : {n k l : ℕ} → n ≡ number_of (slot_of x) (icon family.Windows w.id 0 0) → k ≡ number_of (slot_of x) (icon family.Windows w.id 0 1)
        → l ≡ number_of (slot_of x) (icon family.Windows w.id 0 2) → {p q r s t : List ℕ}
        → p ≡ splice out 0 (record_bytes older_fields (older_part (body_of window_fields (held_slot family.Windows m))))
        → q ≡ marked_picture p window_size 0 (shown x (held_pictures bodies store journal (slice m 1392 128)) n)
        → r ≡ marked_picture q (window_size + picture_size) 1 (shown x (held_pictures bodies store journal (slice m 1392 128)) k)
        → s ≡ splice r newer_start (record_bytes newer_fields (newer_part (body_of window_fields (held_slot family.Windows m))))
        → t ≡ marked_picture s (newer_start + newer_size) newer_start (shown x (held_pictures bodies store journal (slice m 1392 128)) l)
        → t ≡ splice out 0 (records_held w x bodies store journal m)
    unfolding records_held want_of
    records_handed {n = n} {k = k} {l = l} e f g a b c d i =
        let pictures = held_pictures bodies store journal (slice m 1392 128) in
        let fields = fields_of window_fields 2 (held_slot family.Windows m) in
        let small = shown_in x pictures (icon family.Windows w.id 0 0) in
        let big = shown_in x pictures (icon family.Windows w.id 0 1) in
        window_laid out (held_slot family.Windows m) (shown x pictures n) (shown x pictures k) (shown x pictures l) (omega (arith, h.room)) a b c d i
        ∙ ap (λ (v : ℕ). splice out 0 (window_bytes fields (shown x pictures v ∷ shown x pictures k ∷ shown x pictures l ∷ []))) e
        ∙ ap (λ (v : ℕ). splice out 0 (window_bytes fields (small ∷ shown x pictures v ∷ shown x pictures l ∷ []))) f
        ∙ ap (λ (v : ℕ). splice out 0 (window_bytes fields (small ∷ big ∷ shown x pictures v ∷ []))) g

  -- a notification icon
  module _ {w : WindowId} {i : NotifyIconId} (h : HandsOut (Notification w i) x bodies store journal m out) where
    pub notification_size_lem : length m ≡ 1044
    unfolding want_of
    notification_size_lem = h.size

    pub notification_asks : ((23 ≤ 29) × (29 ≤ 31) × (2 + room_all notification_fields ≤ length out) × (2 + room_all notification_fields ≤ length (held_slot family.Notifications m)))
        × (fields_ok notification_fields 2 (held_slot family.Notifications m) ≡ true)
    unfolding room_all valid_held
    notification_asks =
        let n = length_slice m 0 916 (omega (arith, notification_size_lem)) in
        ((omega arith, omega arith, omega (arith, h.room), omega (arith, n)), h.valid)

    pub notification_icon : {n : ℕ} → n ≡ number_of (slot_of x) (icon family.Notifications w.id i.id 0) → n < holder_count
    unfolding listed_in
    notification_icon e = icon_in x family.Notifications w.id i.id 0 h.listed (omega arith) e

    pub notification_ready : Ready x bodies store journal (slice m 916 128)
    unfolding ReadyFor
    notification_ready = h.ready

    pub notification_handed : {n : ℕ} → n ≡ number_of (slot_of x) (icon family.Notifications w.id i.id 0) → {p q r : List ℕ}
        → p ≡ splice out 0 (record_bytes notification_fields (body_of notification_fields (held_slot family.Notifications m)))
        → q ≡ marked_picture p notification_size 0 (shown x (held_pictures bodies store journal (slice m 916 128)) n)
        → r ≡ splice q 1 (bytes_of 1 0) → r ≡ splice out 0 (bytes_held (Notification w i) x bodies store journal m no_figure)
    unfolding bytes_held payload_held payload_bytes want_of
    notification_handed {n = n} e a b c =
        let pictures = held_pictures bodies store journal (slice m 916 128) in
        notification_laid out (held_slot family.Notifications m) (shown x pictures n) h.room a b c
        ∙ ap (λ (z : ℕ). splice out 0 (listed_bytes family.Notifications (fields_of notification_fields 2 (held_slot family.Notifications m)) (shown x pictures z ∷ []))) e

  -- a cell
  module _ {cache entry : ℕ} (h : HandsOut (Cell cache entry) x bodies store journal m out) where
    is_listed_lem : (index_of x).sharing.shares (cell (cell_number cache entry)) (cell (cell_number cache entry)) ≡ true
    unfolding listed_in
    is_listed_lem = h.listed

    pub cell_size : length m ≡ 128
    unfolding want_of
    cell_size = h.size

    pub cell_number_in : {k : ℕ} → k ≡ cell_number cache entry → k < holder_count
    cell_number_in e = omega (arith, e, cell_in x (cell_number cache entry) is_listed_lem)

    pub cell_ready : Ready x bodies store journal (slice m 0 128)
    unfolding ReadyFor
    cell_ready = h.ready

    pub cell_handed : {k : ℕ} {out' : List ℕ} → k ≡ cell_number cache entry → out' ≡ splice out 0 (shown_bytes (shown x (held_pictures bodies store journal (slice m 0 128)) k))
        → out' ≡ splice out 0 (bytes_held (Cell cache entry) x bodies store journal m no_figure)
    unfolding bytes_held payload_held want_of
    cell_handed e f =
        let pictures = held_pictures bodies store journal (slice m 0 128) in
        f ∙ ap (λ (k : ℕ). splice out 0 (shown_bytes (shown x pictures k))) e
        ∙ ap (splice out 0) (sym (cell_bytes x (cell_number cache entry) is_listed_lem pictures (Cell cache entry)))

  -- the desktop state, the lists, and whether two share
  pub desktop_asks : HandsOut Desktop x bodies store journal m out → (desktop_size + figure_length ≤ length out) × (desktop_size ≤ length m) × (fields_ok desktop_fields 2 m ≡ true)
  unfolding want_of valid_held
  desktop_asks h = (h.room, omega (arith, h.size), h.valid)

  module _ (f : Figure) where
    -- the figure goes with the desktop state alone
    pub window_with : {w : WindowId} → HandsOut (Window w) x bodies store journal m out → {out' : List ℕ} → out' ≡ splice out 0 (bytes_held (Window w) x bodies store journal m no_figure)
        → out' ≡ splice out 0 (bytes_held (Window w) x bodies store journal m f)
    unfolding bytes_held payload_held
    window_with h e = e

    pub notification_with : {w : WindowId} {n : NotifyIconId} → HandsOut (Notification w n) x bodies store journal m out → {out' : List ℕ}
        → out' ≡ splice out 0 (bytes_held (Notification w n) x bodies store journal m no_figure)
        → out' ≡ splice out 0 (bytes_held (Notification w n) x bodies store journal m f)
    unfolding bytes_held payload_held
    notification_with h e = e

    pub cell_with : {cache entry : ℕ} → HandsOut (Cell cache entry) x bodies store journal m out → {out' : List ℕ}
        → out' ≡ splice out 0 (bytes_held (Cell cache entry) x bodies store journal m no_figure)
        → out' ≡ splice out 0 (bytes_held (Cell cache entry) x bodies store journal m f)
    unfolding bytes_held payload_held
    cell_with h e = e

    pub desktop_handed : HandsOut Desktop x bodies store journal m out → {out' : List ℕ} → out' ≡ splice out 0 (record_bytes desktop_fields (body_of desktop_fields m) ++ figure_bytes f)
        → out' ≡ splice out 0 (bytes_held Desktop x bodies store journal m f)
    unfolding bytes_held payload_held payload_bytes
    desktop_handed h e = e

    pub windows_handed : HandsOut Windows x bodies store journal m out → {out' : List ℕ} → out' ≡ splice out 0 (list_bytes (family_of false) (ids_in (index_of x) (family_of false))) → out' ≡ splice out 0 (bytes_held Windows x bodies store journal m f)
    unfolding bytes_held payload_held payload_bytes
    windows_handed h e = e

    pub notifications_handed : HandsOut Notifications x bodies store journal m out → {out' : List ℕ} → out' ≡ splice out 0 (list_bytes (family_of true) (ids_in (index_of x) (family_of true))) → out' ≡ splice out 0 (bytes_held Notifications x bodies store journal m f)
    unfolding bytes_held payload_held payload_bytes
    notifications_handed h e = e

    pub shares_handed : (g k : PictureHolder) → HandsOut (Shares g k) x bodies store journal m out → {b : Bool} {out' : List ℕ} → b ≡ (index_of x).sharing.shares (holder_of g) (holder_of k)
        → out' ≡ splice out 0 (bytes_of 1 (bool_byte b)) → out' ≡ splice out 0 (bytes_held (Shares g k) x bodies store journal m f)
    unfolding bytes_held payload_held payload_bytes
    shares_handed g k h {b = b} e p = p ∙ ap (splice out 0) (one b ∙ ap (λ (b : Bool). pick b 1 0 ∷ []) e)
      where
        one : (b : Bool) → bytes_of 1 (bool_byte b) ≡ pick b 1 0 ∷ []
        one true = unfold bytes_of in refl
        one false = unfold bytes_of in refl
