-- The fixed layout loses nothing of a payload. Assumes nothing.
use Prim.Native.Nat.{ℕ, ◌+◌, ◌≤◌}
use mathlib.Core.Path.{◌≡◌, refl, sym, ap, ap₂, ◌∙◌}
use mathlib.Core.Bool.{Bool, true, false}
use mathlib.Core.List.{List, [], ◌∷◌, ◌++◌, map, flatten}
use mathlib.Core.Option.{Option, none, some}
use native.Mathlib.Omega.{arith}
use lib.ListN.{length, take, drop, replicate, length-append, length-replicate}
use lib.Seq.{take-append_seam, drop-append_seam}
use Rattle.wire.specs.Tests.{pick}
use Rattle.wire.specs.Numbers.{num_at, bytes_of, fits_in}
use Rattle.wire.specs.Parts.{padded, splice}
use Rattle.wire.proofs.Numbers.{num_drop, num_padded, num_put, length_bytes}
use Rattle.wire.proofs.Parts.{padded_same}
use Rattle.rows.specs.declared.Row.{Row}
use Rattle.rows.specs.Rows.{rows_from}
use Rattle.order.specs.Icons.{parts_of}
use Rattle.places.specs.declared.Family.TheVariants as family
use Rattle.ids.proofs.TypedTells.{same_ids, no_list}
use Rattle.body.specs.Bodies.{Body, window_fields, body_of}
use Rattle.body.specs.Stores.{room_all}
use Rattle.layout.specs.Valid.{ValidFields, ValidBody}
use Rattle.layout.specs.Layouts.{picture_size, older_fields, newer_fields, older_of, newer_of, record_bytes, picture_bytes, KeepsRecord, PartsTell}
use Rattle.layout.proofs.LayoutsLossless.{keeps_record}
use Rattle.layout.proofs.LayoutsParts.{valid_older, valid_newer, parts_tell, keeps_older, keeps_newer}
use Rattle.shown.specs.Shown.{is_there, shown_bytes}
use Rattle.figure.specs.declared.Figure.{Figure}
use Rattle.figure.specs.Figure.{pixels_of, figure_bytes}
use Rattle.present.specs.TableFigure.{unmarked}
use Rattle.session.specs.Calls.{listed, desktop, picture, ids, shared}
use Rattle.session.specs.Outcome.{first_there, second_there, pixels_size, listed_bytes, payload_bytes}
use Rattle.model.specs.Lossless.{ValidPicture, ValidShown, ValidFigure, nothing_shown, shown, absent, window, notification, cell, desktop_state, windows, notifications, shares, LayoutLosesNothing}
use Rattle.shown.proofs.ShownHanded.{length_picture}
use Rattle.session.proofs.Handed.{length_shown}

-- ---- lists one after the other, the first as long as the other's first

tells : (a b x y : List ℕ) → length a ≡ length b → a ++ x ≡ b ++ y → (a ≡ b) × (x ≡ y)
tells a b x y l e = (
  sym (take-append_seam a x) ∙ ap (take (length a)) e ∙ ap (λ (n : ℕ). take n (b ++ y)) l ∙ take-append_seam b y,
  sym (drop-append_seam a x) ∙ ap (drop (length a)) e ∙ ap (λ (n : ℕ). drop n (b ++ y)) l ∙ drop-append_seam b y,
)

-- ---- a number by its bytes, and a figure

same_number : (w v u : ℕ) → fits_in w v ≡ true → fits_in w u ≡ true → bytes_of w v ≡ bytes_of w u → v ≡ u
same_number w v u a b e =
    let room : 0 + w ≤ length (replicate {A = ℕ} w 0) = omega (arith, length-replicate {A = ℕ} w 0) in
    sym (num_put w (replicate w 0) 0 v room a) ∙ ap (λ (x : List ℕ). num_at w (splice (replicate w 0) 0 x) 0) e ∙ num_put w (replicate w 0) 0 u room b

abbrev figure : ℕ → ℕ → Figure
figure m n = record { windows = m; pixels = n }

same_figure : (f g : Figure) → ValidFigure f → ValidFigure g → figure_bytes f ≡ figure_bytes g → f ≡ g
unfolding figure_bytes
same_figure f g v w e =
    let t =
    tells (bytes_of 4 f.windows) (bytes_of 4 g.windows) (bytes_of 8 f.pixels) (bytes_of 8 g.pixels)
    (length_bytes 4 f.windows ∙ sym (length_bytes 4 g.windows)) e in
    ap₂ figure (same_number 4 f.windows g.windows v.windows w.windows t.0)
    (same_number 8 f.pixels g.pixels v.pixels w.pixels t.1)

-- ---- records: one is read back from its bytes, so the bytes tell it; it has some

module _ (low high m n : ℕ) (b : Body) (v : ValidBody (rows_from low high) m n b) where
  some_before : (more : List ℕ) → record_bytes (rows_from low high) b ++ more ≡ [] → ⊥
  some_before more e = omega (arith, ap (λ (x : List ℕ). length x) e, (keeps_record low high m n b v).long, length-append (record_bytes (rows_from low high) b) more)

  module _ (c : Body) (w : ValidBody (rows_from low high) m n c) where
    as_long : length (record_bytes (rows_from low high) b) ≡ length (record_bytes (rows_from low high) c)
    as_long = (keeps_record low high m n b v).long ∙ sym (keeps_record low high m n c w).long

    same_body : record_bytes (rows_from low high) b ≡ record_bytes (rows_from low high) c → b ≡ c
    same_body e = sym (keeps_record low high m n b v).back ∙ ap (body_of (rows_from low high)) e ∙ (keeps_record low high m n c w).back

-- ---- pictures: the numbers in the layout say where one ends

no_picture_lem : (p : List ℕ) → picture_bytes p ≡ [] → ⊥
no_picture_lem p e = omega (arith, ap (λ (x : List ℕ). length x) e, length_picture p)

number_is : (w i : ℕ) (p : List ℕ) → i + w ≤ picture_size → num_at w (0 ∷ 0 ∷ 0 ∷ picture_bytes p) (3 + i) ≡ num_at w (0 ∷ 0 ∷ 0 ∷ p) (3 + i)
unfolding picture_bytes
number_is w i p h =
    sym (num_drop w 3 i (0 ∷ 0 ∷ 0 ∷ padded 0 picture_size p)) ∙ num_padded w picture_size i p h ∙ num_drop w 3 i (0 ∷ 0 ∷ 0 ∷ p)

end_is : (p : List ℕ) → (parts_of (0 ∷ 0 ∷ 0 ∷ picture_bytes p) 0).end ≡ (parts_of (0 ∷ 0 ∷ 0 ∷ p) 0).end
unfolding parts_of
end_is p = rw (number_is 1 0 p (omega arith), number_is 2 5 p (omega arith), number_is 2 7 p (omega arith), number_is 2 9 p (omega arith))

module _ (p q : List ℕ) (v : ValidPicture p) (w : ValidPicture q) (e : picture_bytes p ≡ picture_bytes q) where
  same_length : length p ≡ length q
  same_length =
      let x : 3 + length p ≡ 3 + length q =
      sym v.ends ∙ sym (end_is p) ∙ ap (λ (x : List ℕ). (parts_of (0 ∷ 0 ∷ 0 ∷ x) 0).end) e ∙ end_is q ∙ w.ends in
      omega (arith, x)

  same_picture : p ≡ q
  unfolding picture_bytes
  same_picture = padded_same {A = ℕ} 0 picture_size p q same_length v.few e

-- ---- what an icon shows, with its mark

mark_low : (x : Option (List ℕ)) → is_there x ≤ 1
mark_low none = omega arith
mark_low (some p) = omega arith

same_shown : (x y : Option (List ℕ)) → ValidShown x → ValidShown y → is_there x ≡ is_there y → shown_bytes x ≡ shown_bytes y → x ≡ y
same_shown x y nothing_shown nothing_shown m e = refl
same_shown x y nothing_shown (shown w) m e = absurd (omega (arith, m))
same_shown x y (shown v) nothing_shown m e = absurd (omega (arith, m))
same_shown x y (shown {p = p} v) (shown {p = q} w) m e = ap some (same_picture p q v w e)

-- ---- a record with its icons

abbrev body_with : List (Option (List ℕ)) → List (List ℕ) → Body
body_with ps fs = record { first = first_there ps; second = second_there ps; fields = fs }

-- the bytes of its icons
abbrev shown_all : List (Option (List ℕ)) → List ℕ
shown_all ps = flatten (map shown_bytes ps)

first_low : (ps : List (Option (List ℕ))) → first_there ps ≤ 1
first_low [] = omega arith
first_low (p ∷ ps) = mark_low p

second_low : (ps : List (Option (List ℕ))) → second_there ps ≤ 1
second_low [] = omega arith
second_low (p ∷ ps) = first_low ps

-- an icon first, whatever follows
icon_tells : (x y : Option (List ℕ)) (r s : List ℕ) → ValidShown x → ValidShown y → is_there x ≡ is_there y → shown_bytes x ++ r ≡ shown_bytes y ++ s → (x ≡ y) × (r ≡ s)
icon_tells x y r s v w m e =
    let t = tells (shown_bytes x) (shown_bytes y) r s (length_shown x ∙ sym (length_shown y)) e in
    (same_shown x y v w m t.0, t.1)

module _ (low high : ℕ) (ps : List (Option (List ℕ))) (fs : List (List ℕ)) (v : ValidFields (rows_from low high) fs) where
  valid_body : ValidBody (rows_from low high) 1 1 (body_with ps fs)
  valid_body = record { first = first_low ps; second = second_low ps; fields = v }

  some_listed : record_bytes (rows_from low high) (body_with ps fs) ++ shown_all ps ≡ [] → ⊥
  some_listed e =
      let l = (keeps_record low high 1 1 (body_with ps fs) valid_body).long in
      let m = length-append (record_bytes (rows_from low high) (body_with ps fs)) (shown_all ps) in
      omega (arith, ap (λ (x : List ℕ). length x) e, l, m)

  -- its fields and marks, and the bytes of its icons
  module _ (qs : List (Option (List ℕ))) (gs : List (List ℕ)) (w : ValidFields (rows_from low high) gs)
      (e : record_bytes (rows_from low high) (body_with ps fs) ++ shown_all ps ≡ record_bytes (rows_from low high) (body_with qs gs) ++ shown_all qs) where
    valid-other : ValidBody (rows_from low high) 1 1 (body_with qs gs)
    valid-other = record { first = first_low qs; second = second_low qs; fields = w }

    listed-tells : (body_with ps fs ≡ body_with qs gs) × (shown_all ps ≡ shown_all qs)
    listed-tells =
        let b = body_with ps fs in
        let c = body_with qs gs in
        let t = tells (record_bytes (rows_from low high) b) (record_bytes (rows_from low high) c) (shown_all ps) (shown_all qs) (as_long low high 1 1 b valid_body c valid-other) e in
        (same_body low high 1 1 b valid_body c valid-other t.0, t.1)

    same-fields : fs ≡ gs
    same-fields = ap (λ (b : Body). b.fields) listed-tells.0

    same_first : first_there ps ≡ first_there qs
    same_first = ap (λ (b : Body). b.first) listed-tells.0

    same_second : second_there ps ≡ second_there qs
    same_second = ap (λ (b : Body). b.second) listed-tells.0

-- ---- a window: two records, each with pictures after it

fields_count : (rs : List Row) (fs : List (List ℕ)) → ValidFields rs fs → length fs ≡ length rs
fields_count [] [] v = refl
fields_count [] (f ∷ fs) v = absurd v
fields_count (r ∷ rs) [] v = absurd v
fields_count (r ∷ rs) (f ∷ fs) v = omega (arith, fields_count rs fs v.1)

abbrev older : List (List ℕ) → Option (List ℕ) → Option (List ℕ) → Body
older fs x y = record { first = is_there x; second = is_there y; fields = older_of fs }

abbrev newer : List (List ℕ) → Option (List ℕ) → Body
newer fs z = record { first = is_there z; second = 0; fields = newer_of fs }

abbrev behind : List (List ℕ) → Option (List ℕ) → List ℕ
behind fs z = record_bytes newer_fields (newer fs z) ++ shown_all (z ∷ [])

abbrev window_bytes : List (List ℕ) → Option (List ℕ) → Option (List ℕ) → Option (List ℕ) → List ℕ
window_bytes fs x y z = record_bytes older_fields (older fs x y) ++ (shown_all (x ∷ y ∷ []) ++ behind fs z)

two_long : (x y : Option (List ℕ)) → length (shown_all (x ∷ y ∷ [])) ≡ picture_size + picture_size
unfolding flatten
two_long x y = length-append (shown_bytes x) (shown_bytes y ++ []) ∙ omega (arith, length-append (shown_bytes y) [], length_shown x, length_shown y)

module _ (fs : List (List ℕ)) (v : ValidFields window_fields fs) (x y z : Option (List ℕ)) where
  older_kept : KeepsRecord older_fields (older fs x y)
  older_kept = keeps_older 1 1 (older fs x y) (record { first = mark_low x; second = mark_low y; fields = valid_older fs v })

  newer_kept : KeepsRecord newer_fields (newer fs z)
  newer_kept = keeps_newer 1 0 (newer fs z) (record { first = mark_low z; second = omega arith; fields = valid_newer fs v })

  last_long : length (shown_all (z ∷ [])) ≡ picture_size
  unfolding flatten
  last_long = length-append (shown_bytes z) [] ∙ omega (arith, length_shown z)

  window_long : length (window_bytes fs x y z) ≡ (2 + room_all older_fields) + ((picture_size + picture_size) + ((2 + room_all newer_fields) + picture_size))
  window_long =
      length-append (record_bytes older_fields (older fs x y)) (shown_all (x ∷ y ∷ []) ++ behind fs z)
      ∙ omega (arith, older_kept.long, length-append (shown_all (x ∷ y ∷ [])) (behind fs z), two_long x y, length-append (record_bytes newer_fields (newer fs z)) (shown_all (z ∷ [])), newer_kept.long, last_long)

  -- its pixels after it
  some_window : (more : List ℕ) → window_bytes fs x y z ++ more ≡ [] → ⊥
  some_window more e = omega (arith, ap (λ (b : List ℕ). length b) e, window_long, length-append (window_bytes fs x y z) more)

module _ (fs gs : List (List ℕ)) (v : ValidFields window_fields fs) (w : ValidFields window_fields gs) (x y z a b c : Option (List ℕ))
    (e : window_bytes fs x y z ≡ window_bytes gs a b c) where
  in_older : (record_bytes older_fields (older fs x y) ≡ record_bytes older_fields (older gs a b)) × (shown_all (x ∷ y ∷ []) ++ behind fs z ≡ shown_all (a ∷ b ∷ []) ++ behind gs c)
  in_older =
      tells (record_bytes older_fields (older fs x y)) (record_bytes older_fields (older gs a b)) (shown_all (x ∷ y ∷ []) ++ behind fs z) (shown_all (a ∷ b ∷ []) ++ behind gs c)
      ((older_kept fs v x y z).long ∙ sym (older_kept gs w a b c).long) e

  in_two : (shown_all (x ∷ y ∷ []) ≡ shown_all (a ∷ b ∷ [])) × (behind fs z ≡ behind gs c)
  in_two = tells (shown_all (x ∷ y ∷ [])) (shown_all (a ∷ b ∷ [])) (behind fs z) (behind gs c) (two_long x y ∙ sym (two_long a b)) in_older.1

  in_newer : (record_bytes newer_fields (newer fs z) ≡ record_bytes newer_fields (newer gs c)) × (shown_all (z ∷ []) ≡ shown_all (c ∷ []))
  in_newer =
      tells (record_bytes newer_fields (newer fs z)) (record_bytes newer_fields (newer gs c)) (shown_all (z ∷ [])) (shown_all (c ∷ []))
      ((newer_kept fs v x y z).long ∙ sym (newer_kept gs w a b c).long) in_two.1

  same_older : older fs x y ≡ older gs a b
  same_older = sym (older_kept fs v x y z).back ∙ ap (body_of older_fields) in_older.0 ∙ (older_kept gs w a b c).back

  same_newer : newer fs z ≡ newer gs c
  same_newer = sym (newer_kept fs v x y z).back ∙ ap (body_of newer_fields) in_newer.0 ∙ (newer_kept gs w a b c).back

  window_fields_lem : fs ≡ gs
  unfolding PartsTell
  window_fields_lem =
      parts_tell fs gs (fields_count window_fields fs v) (fields_count window_fields gs w) (ap (λ (k : Body). k.fields) same_older) (ap (λ (k : Body). k.fields) same_newer)

  window_icons : ValidShown x → ValidShown y → ValidShown z → ValidShown a → ValidShown b → ValidShown c → x ∷ y ∷ z ∷ [] ≡ a ∷ b ∷ c ∷ []
  unfolding flatten
  window_icons vx vy vz va vb vc =
      let s = icon_tells x a (shown_all (y ∷ [])) (shown_all (b ∷ [])) vx va (ap (λ (k : Body). k.first) same_older) in_two.0 in
      let t = icon_tells y b [] [] vy vb (ap (λ (k : Body). k.second) same_older) s.1 in
      let u = icon_tells z c [] [] vz vc (ap (λ (k : Body). k.first) same_newer) in_newer.1 in
      ap₂ (λ (m : Option (List ℕ)) (ms : List (Option (List ℕ))). m ∷ ms) s.0 (ap₂ (λ (m n : Option (List ℕ)). m ∷ n ∷ []) t.0 u.0)

-- with its pixels after it
abbrev pixels_after : List (List ℕ) → List ℕ
pixels_after fs = bytes_of pixels_size (pixels_of (unmarked fs))

before_pixels : (fs gs : List (List ℕ)) → ValidFields window_fields fs → ValidFields window_fields gs → (x y z a b c : Option (List ℕ))
    → window_bytes fs x y z ++ pixels_after fs ≡ window_bytes gs a b c ++ pixels_after gs → window_bytes fs x y z ≡ window_bytes gs a b c
before_pixels fs gs v w x y z a b c e =
    (tells (window_bytes fs x y z) (window_bytes gs a b c) (pixels_after fs) (pixels_after gs) (window_long fs v x y z ∙ sym (window_long gs w a b c)) e).0

-- ---- whether two share

same_shared : (b c : Bool) → ◌≡◌ {A = List ℕ} (pick b 1 0 ∷ []) (pick c 1 0 ∷ []) → b ≡ c
same_shared true true e = refl
same_shared true false e = let z : ◌≡◌ {A = ℕ} 1 0 = cc in absurd (omega (arith, z))
same_shared false true e = let z : ◌≡◌ {A = ℕ} 0 1 = cc in absurd (omega (arith, z))
same_shared false false e = refl

no_shared : (n : ℕ) → n ∷ [] ≡ [] → ⊥
no_shared n e = omega (arith, ap (λ (x : List ℕ). length x) e)

pub layout_loses_nothing : LayoutLosesNothing
unfolding LayoutLosesNothing payload_bytes listed_bytes flatten
layout_loses_nothing target p q absent absent e = refl
layout_loses_nothing target p q absent (window {fs = gs} {small = x} {big = y} {overlay = z} w a b c) e = absurd (some_window gs w x y z (pixels_after gs) (sym e))
layout_loses_nothing target p q absent (notification {fs = gs} {icon = x} w a) e = absurd (some_listed 23 29 (x ∷ []) gs w (sym e))
layout_loses_nothing target p q absent (desktop_state {b = c} {f = g} w y) e = absurd (some_before 29 31 1 1 c w (figure_bytes g) (sym e))
layout_loses_nothing target p q absent (cell {p = x} w) e = absurd (no_picture_lem x (sym e))
layout_loses_nothing target p q absent (windows {ks = js} w) e = absurd (no_list family.Windows js (sym e))
layout_loses_nothing target p q absent (notifications {ks = js} w) e = absurd (no_list family.Notifications js (sym e))
layout_loses_nothing target p q absent (shares {b = b}) e = absurd (no_shared (pick b 1 0) (sym e))
layout_loses_nothing target p q (windows {ks = ks} v) absent e = absurd (no_list family.Windows ks e)
layout_loses_nothing target p q (windows {ks = ks} v) (windows {ks = js} w) e = ap (ids family.Windows) (same_ids family.Windows ks js v w e)
layout_loses_nothing target p q (notifications {ks = ks} v) absent e = absurd (no_list family.Notifications ks e)
layout_loses_nothing target p q (notifications {ks = ks} v) (notifications {ks = js} w) e =
    ap (ids family.Notifications) (same_ids family.Notifications ks js v w e)
layout_loses_nothing target p q (window {fs = fs} {small = x} {big = y} {overlay = z} v a b c) absent e = absurd (some_window fs v x y z (pixels_after fs) e)
layout_loses_nothing target p q (window {fs = fs} {small = x} {big = y} {overlay = z} v a b c) (window {fs = gs} {small = k} {big = l} {overlay = m} w d f g) e =
    let t = before_pixels fs gs v w x y z k l m e in
    ap₂ (listed family.Windows) (window_fields_lem fs gs v w x y z k l m t) (window_icons fs gs v w x y z k l m t a b c d f g)
layout_loses_nothing target p q (notification {fs = fs} {icon = x} v a) absent e = absurd (some_listed 23 29 (x ∷ []) fs v e)
layout_loses_nothing target p q (notification {fs = fs} {icon = x} v a) (notification {fs = gs} {icon = z} w c) e =
    let t = icon_tells x z [] [] a c (same_first 23 29 (x ∷ []) fs v (z ∷ []) gs w e) (listed-tells 23 29 (x ∷ []) fs v (z ∷ []) gs w e).1 in
    ap₂ (listed family.Notifications) (same-fields 23 29 (x ∷ []) fs v (z ∷ []) gs w e) (ap (λ (m : Option (List ℕ)). m ∷ []) t.0)
layout_loses_nothing target p q (desktop_state {b = b} {f = f} v x) absent e = absurd (some_before 29 31 1 1 b v (figure_bytes f) e)
layout_loses_nothing target p q (desktop_state {b = b} {f = f} v x) (desktop_state {b = c} {f = g} w y) e =
    let t = tells (record_bytes (rows_from 29 31) b) (record_bytes (rows_from 29 31) c) (figure_bytes f) (figure_bytes g) (as_long 29 31 1 1 b v c w) e in
    ap₂ desktop (same_body 29 31 1 1 b v c w t.0) (same_figure f g x y t.1)
layout_loses_nothing target p q (cell {p = x} v) absent e = absurd (no_picture_lem x e)
layout_loses_nothing target p q (cell {p = x} v) (cell {p = y} w) e = ap picture (same_picture x y v w e)
layout_loses_nothing target p q (shares {b = b}) absent e = absurd (no_shared (pick b 1 0) e)
layout_loses_nothing target p q (shares {b = b}) (shares {b = c}) e = ap shared (same_shared b c e)
