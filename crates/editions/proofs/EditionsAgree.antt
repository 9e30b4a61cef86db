-- The earlier edition of the rules beside the newer one. Assumes nothing.
use mathlib.Core.Path.{◌≡◌, refl, sym, ap, ◌∙◌}
use mathlib.Core.Bool.{Bool, true, false, not}
use mathlib.Core.List.{List, [], ◌∷◌}
use Prim.Native.Nat.{ℕ, zero, suc, ◌+◌, ◌*◌, ◌/◌, ◌%◌, ◌-◌, ◌≤◌, ◌<◌, min}
use native.Mathlib.Omega.{arith}
use lib.Dec.{eqb, ltb, leb}
use lib.Bits.{bit_and, and_step, and_zero_l, and_le_l}
use lib.ListN.{length, replicate}
use borrow.Author.Tests.{ne_eqb, eq-eqb, eqb-true, leb-true, not-false}
use Rattle.std.specs.Prelude.{Ok, Err}
use Rattle.wire.specs.Tests.{pick, both, either, any, has, has_all}
use Rattle.wire.specs.Numbers.{num_at}
use Rattle.wire.proofs.Tests.{both_left, both_right}
use Rattle.rows.specs.declared.Row.{Row}
use Rattle.rows.specs.declared.Fit.{Fit}
use Rattle.rows.specs.declared.Fit.TheVariants.{Ends, Short}
use Rattle.rows.specs.Rows.{window_rows, len_of, step_of, on_fit, walk_of}
use Rattle.order.specs.declared.Order.TheVariants.{Window, Notification, Desktop}
use Rattle.order.specs.declared.WindowOrder.{WindowOrder}
use Rattle.order.specs.declared.NotificationOrder.{NotificationOrder}
use Rattle.order.specs.Flags.{is_window, is_notification, is_desktop, one_type, in_list, closed_in, closed}
use Rattle.order.specs.Judge.{Judged, refuse, number_of, flags_of, fields_fit, judge_by, judge_of}
use Rattle.editions.specs.Editions.{earlier_flags, newer_flags, rows_in, earlier_fit, earlier_judge, fields_within, earlier_record_number, earlier_number_in, SameRecords, Unchanged, EditionsAgree}
use Rattle.rows.proofs.Absent.{unlisted}
use Rattle.order.proofs.Accepted.{a_window, a_notification}
use Rattle.index.specs.declared.RecordOrder.{RecordOrder}
use Rattle.index.specs.Orders.{on_judged, cell_at}
use Rattle.index.specs.Index.{Index, not_there, no_room, no_picture, no_place, record_number, number_in}
use Rattle.index.proofs.Ordered.{window_order, notification_order}
use Rattle.body.specs.Bodies.{window_fields, first, rest, set_flagged, empty_fields}
use Rattle.wire.specs.Parts.{slice}
use Rattle.protocol.specs.Flags.{desktop_flags, flag_window, flags_overlay, notification_flags, window_flags}
use Rattle.protocol.specs.declared.Refusal.TheVariants.{TooShort, LengthDiffers, UnknownType, UnknownFlag}

-- ---- a mask in two parts that have no bit in common

least_split : (p q r : ℕ) → p < 2 → q < 2 → r < 2 → min q r ≡ 0 → min p (q + r) ≡ min p q + min p r
least_split zero zero zero a b c e = refl
least_split zero zero (suc zero) a b c e = refl
least_split zero (suc zero) zero a b c e = refl
least_split (suc zero) zero zero a b c e = refl
least_split (suc zero) zero (suc zero) a b c e = refl
least_split (suc zero) (suc zero) zero a b c e = refl
least_split zero (suc zero) (suc zero) a b c e = let z : ◌≡◌ {A = ℕ} 1 0 = e in absurd (omega arith)
least_split (suc zero) (suc zero) (suc zero) a b c e = let z : ◌≡◌ {A = ℕ} 1 0 = e in absurd (omega arith)
least_split (suc (suc p)) q r a b c e = absurd (omega arith)
least_split zero (suc (suc q)) r a b c e = absurd (omega arith)
least_split (suc zero) (suc (suc q)) r a b c e = absurd (omega arith)
least_split zero zero (suc (suc r)) a b c e = absurd (omega arith)
least_split zero (suc zero) (suc (suc r)) a b c e = absurd (omega arith)
least_split (suc zero) zero (suc (suc r)) a b c e = absurd (omega arith)
least_split (suc zero) (suc zero) (suc (suc r)) a b c e = absurd (omega arith)

split_to : (n a x y : ℕ) → a ≤ n → bit_and x y ≡ 0 → bit_and a (x + y) ≡ bit_and a x + bit_and a y
split_to zero a x y l e =
    let z : a ≡ 0 = omega arith in
    rw (z, and_zero_l (x + y), and_zero_l x, and_zero_l y)
split_to (suc n) a x y l e =
    let s = and_step x y in
    let h : bit_and (x / 2) (y / 2) ≡ 0 = omega (arith, s, e) in
    let m : min (x % 2) (y % 2) ≡ 0 = omega (arith, s, e) in
    let p = x % 2 in
    let q = y % 2 in
    let apart = least_split (a % 2) (x % 2) (y % 2) (omega arith) (omega arith) (omega arith) m in
    let few : x % 2 + y % 2 < 2 = one_of_lem (x % 2) (y % 2) (omega arith) (omega arith) m in
    let d : (x + y) / 2 ≡ x / 2 + y / 2 = omega (arith, few) in
    let k : (x + y) % 2 ≡ x % 2 + y % 2 = omega (arith, few) in
    let ih = split_to n (a / 2) (x / 2) (y / 2) (omega arith) h in
    let t : bit_and a (x + y) ≡ bit_and (a / 2) (x / 2 + y / 2) * 2 + min (a % 2) (x % 2 + y % 2) = and_step a (x + y) ∙ rw (d, k) in
    omega (arith, t, ih, apart, and_step a x, and_step a y)
  where
    one_of_lem : (p q : ℕ) → p < 2 → q < 2 → min p q ≡ 0 → p + q < 2
    one_of_lem zero q a b e = omega arith
    one_of_lem (suc zero) zero a b e = omega arith
    one_of_lem (suc zero) (suc q) a b e = let z : ◌≡◌ {A = ℕ} 1 0 = both_one q b e in absurd (omega arith)
      where
        both_one : (q : ℕ) → suc q < 2 → min 1 (suc q) ≡ 0 → ◌≡◌ {A = ℕ} 1 0
        both_one zero b e = e
        both_one (suc q) b e = absurd (omega arith)
    one_of_lem (suc (suc p)) q a b e = absurd (omega arith)

and_split : (a x y : ℕ) → bit_and x y ≡ 0 → bit_and a (x + y) ≡ bit_and a x + bit_and a y
and_split a x y e = split_to a a x y (omega arith) e

-- the closed list is the earlier one and the newer bits
lists : (flags : ℕ) → bit_and flags window_flags ≡ bit_and flags earlier_flags + bit_and flags newer_flags
lists flags = and_split flags earlier_flags newer_flags refl

-- ---- rows that no newer bit flags

-- a flag that is not in the earlier list is among the newer bits
abbrev is_newer : ℕ → Bool
is_newer f = both (both (leb f newer_flags) (eqb (bit_and f (newer_flags - f)) 0)) (not (eqb f 0))

parted : List Row → Bool
parted [] = true
parted (r ∷ rs) = both (either (in_list r.flag earlier_flags) (is_newer r.flag)) (parted rs)

module _ (flags : ℕ) (none : bit_and flags newer_flags ≡ 0) where
  newer_none : (f : ℕ) → both (leb f newer_flags) (eqb (bit_and f (newer_flags - f)) 0) ≡ true → bit_and flags f ≡ 0
  newer_none f t =
      let low : f ≤ newer_flags = leb-true f newer_flags (both_left (leb f newer_flags) (eqb (bit_and f (newer_flags - f)) 0) t) in
      let apart : bit_and f (newer_flags - f) ≡ 0 = eqb-true (bit_and f (newer_flags - f)) 0 (both_right (leb f newer_flags) (eqb (bit_and f (newer_flags - f)) 0) t) in
      let whole : f + (newer_flags - f) ≡ newer_flags = omega (arith, low) in
      let sum : bit_and flags newer_flags ≡ bit_and flags f + bit_and flags (newer_flags - f) = ap (bit_and flags) (sym whole) ∙ and_split flags f (newer_flags - f) apart in
      omega (arith, sum, none)

  newer_absent : (f : ℕ) → is_newer f ≡ true → has_all flags f ≡ false
  newer_absent f t =
      let within : both (leb f newer_flags) (eqb (bit_and f (newer_flags - f)) 0) ≡ true = both_left (both (leb f newer_flags) (eqb (bit_and f (newer_flags - f)) 0)) (not (eqb f 0)) t in
      let some : not (eqb f 0) ≡ true = both_right (both (leb f newer_flags) (eqb (bit_and f (newer_flags - f)) 0)) (not (eqb f 0)) t in
      let zero : bit_and flags f ≡ 0 = newer_none f within in
      go (eqb f 0) refl some zero
    where
      go : (b : Bool) → eqb f 0 ≡ b → not b ≡ true → bit_and flags f ≡ 0 → has_all flags f ≡ false
      go true e h z = let w : ◌≡◌ {A = ℕ} 0 1 = cc in absurd (omega arith)
      go false e h z = ne_eqb (bit_and flags f) f (λ k. let n : f ≡ 0 = sym k ∙ z in let w : true ≡ false = sym (eq-eqb f 0 n) ∙ e in let v : ◌≡◌ {A = ℕ} 0 1 = cc in omega arith)

  walk_same : (rs : List Row) → parted rs ≡ true → (s : List ℕ) (at bad : ℕ) → walk_of (rows_in earlier_flags rs) flags s at bad ≡ walk_of rs flags s at bad
  unfolding walk_of step_of rows_in parted
  walk_same [] t s at bad = refl
  walk_same (r ∷ rs) t s at bad =
      go (in_list r.flag earlier_flags) refl (both_left (either (in_list r.flag earlier_flags) (is_newer r.flag)) (parted rs) t)
      (walk_same rs (both_right (either (in_list r.flag earlier_flags) (is_newer r.flag)) (parted rs) t) s)
    where
      then : (f : Fit) → ((p b : ℕ) → walk_of (rows_in earlier_flags rs) flags s p b ≡ walk_of rs flags s p b)
          → on_fit f (λ cut. Short cut) (λ p b. walk_of (rows_in earlier_flags rs) flags s p b) ≡ on_fit f (λ cut. Short cut) (λ p b. walk_of rs flags s p b)
      then (Ends p b) ih = ih p b
      then (Short c) ih = refl

      go : (b : Bool) → in_list r.flag earlier_flags ≡ b → either b (is_newer r.flag) ≡ true
          → ((p b : ℕ) → walk_of (rows_in earlier_flags rs) flags s p b ≡ walk_of rs flags s p b)
          → walk_of (pick b (r ∷ rows_in earlier_flags rs) (rows_in earlier_flags rs)) flags s at bad ≡ walk_of (r ∷ rs) flags s at bad
      go true e h ih = then (step_of r flags s at bad) ih
      go false e h ih = rw (newer_absent r.flag h) (ih at bad)

  -- ---- what they make of a window's fields

  fields_same : (rs : List Row) → parted rs ≡ true → (s : List ℕ) (at : ℕ) (old : List (List ℕ))
      → fields_within earlier_flags rs (set_flagged rs flags s at old) ≡ set_flagged (rows_in earlier_flags rs) flags s at (fields_within earlier_flags rs old)
  unfolding set_flagged fields_within rows_in parted
  fields_same [] t s at old = refl
  fields_same (r ∷ rs) t s at old =
      go (in_list r.flag earlier_flags) (has_all flags r.flag) refl (both_left (either (in_list r.flag earlier_flags) (is_newer r.flag)) (parted rs) t)
      (λ p. fields_same rs (both_right (either (in_list r.flag earlier_flags) (is_newer r.flag)) (parted rs) t) s p (rest old))
    where
      here : (p : ℕ) → List (List ℕ)
      here p = set_flagged rs flags s p (rest old)

      go : (b h : Bool) → has_all flags r.flag ≡ h → either b (is_newer r.flag) ≡ true
          → ((p : ℕ) → fields_within earlier_flags rs (here p) ≡ set_flagged (rows_in earlier_flags rs) flags s p (fields_within earlier_flags rs (rest old)))
          → pick b
          (first (pick h (slice s at (len_of r s at) ∷ here (at + len_of r s at)) (first old ∷ here at))
          ∷ fields_within earlier_flags rs (rest (pick h (slice s at (len_of r s at) ∷ here (at + len_of r s at)) (first old ∷ here at))))
          (fields_within earlier_flags rs (rest (pick h (slice s at (len_of r s at) ∷ here (at + len_of r s at)) (first old ∷ here at))))
          ≡ set_flagged (pick b (r ∷ rows_in earlier_flags rs) (rows_in earlier_flags rs)) flags s at
          (pick b (first old ∷ fields_within earlier_flags rs (rest old)) (fields_within earlier_flags rs (rest old)))
      go true true e k ih = rw e (ap (λ (l : List (List ℕ)). slice s at (len_of r s at) ∷ l) (ih (at + len_of r s at)))
      go true false e k ih = rw e (ap (λ (l : List (List ℕ)). first old ∷ l) (ih at))
      go false true e k ih = let z : true ≡ false = sym e ∙ newer_absent r.flag k in let v : ◌≡◌ {A = ℕ} 0 1 = cc in absurd (omega arith)
      go false false e k ih = ih at

fields_parted : parted window_fields ≡ true
unfolding parted
fields_parted = refl

windows_parted : parted window_rows ≡ true
unfolding parted
windows_parted = refl

-- ---- the ladder

lacks : (flags mask : ℕ) → has flags mask ≡ false → bit_and flags mask ≡ 0
lacks flags mask h = eqb-true (bit_and flags mask) 0 (not-false (eqb (bit_and flags mask) 0) h)

-- no list of another kind has the bit of window orders
other_list : (flags list : ℕ) → is_window flags ≡ true → bit_and flags list ≡ flags → list / 16777216 % 2 ≡ 0 → ◌≡◌ {A = ℕ} 0 1
other_list flags list w l z =
    let n : bit_and flags flag_window ≡ 0 = unlisted flags list 24 l z in
    let e : has flags flag_window ≡ false = rw (eq-eqb (bit_and flags flag_window) 0 n) in
    cc

no_other : (flags list : ℕ) (k : Bool) → is_window flags ≡ true → list / 16777216 % 2 ≡ 0 → both k (in_list flags list) ≡ false
no_other flags list k w z = go k (in_list flags list) refl
  where
    go : (k b : Bool) → in_list flags list ≡ b → both k b ≡ false
    go true true e = let v = other_list flags list w (eqb-true (bit_and flags list) flags e) z in absurd (omega (arith, v))
    go true false e = refl
    go false b e = refl

newer_outside : (flags : ℕ) → is_window flags ≡ true → has flags newer_flags ≡ true → closed_in earlier_flags flags ≡ false
newer_outside flags w h = rw (no_other flags notification_flags (is_notification flags) w refl, no_other flags desktop_flags (is_desktop flags) w refl, none, w)
  where
    none : in_list flags earlier_flags ≡ false
    none =
        ne_eqb (bit_and flags earlier_flags) flags
        (λ e. let z : bit_and flags newer_flags ≡ 0 = omega (arith, lists flags, e, and_le_l flags window_flags) in
        let f : has flags newer_flags ≡ false = rw (eq-eqb (bit_and flags newer_flags) 0 z) in
        let v : ◌≡◌ {A = ℕ} 0 1 = cc in omega arith)

early_refused : (s : List ℕ) → is_window (flags_of s) ≡ true → has (flags_of s) newer_flags ≡ true → (2 ≤ number_of (earlier_judge s)) × (number_of (earlier_judge s) ≤ 5)
unfolding earlier_judge
early_refused s w h =
    rw (newer_outside (flags_of s) w h) (go (ltb (length s) 7) (eqb (num_at 2 s 1) (length s)) (eqb (num_at 1 s 0) 0x2E) (one_type (flags_of s)) (judge_by (λ flags. true) earlier_fit s))
  where
    go : (a b c d : Bool) (rest : Judged)
        → (2 ≤ number_of (pick a (refuse TooShort 0) (pick (not b) (refuse LengthDiffers 1) (pick (not c) (refuse UnknownType 0) (pick (not d) (refuse UnknownType 3) (refuse UnknownFlag 3))))))
        × (number_of (pick a (refuse TooShort 0) (pick (not b) (refuse LengthDiffers 1) (pick (not c) (refuse UnknownType 0) (pick (not d) (refuse UnknownType 3) (refuse UnknownFlag 3))))) ≤ 5)
    go true b c d rest = (omega arith, omega arith)
    go false false c d rest = (omega arith, omega arith)
    go false true false d rest = (omega arith, omega arith)
    go false true true false rest = (omega arith, omega arith)
    go false true true true rest = (omega arith, omega arith)

early_same : (s : List ℕ) → Unchanged s → earlier_judge s ≡ judge_of s
unfolding earlier_judge judge_of earlier_fit fields_fit
early_same s h = rw (listed (is_window (flags_of s)) refl h, fits (is_window (flags_of s)) refl h)
  where
    listed : (w : Bool) → is_window (flags_of s) ≡ w → both w (has (flags_of s) newer_flags) ≡ false → closed_in earlier_flags (flags_of s) ≡ closed_in window_flags (flags_of s)
    listed true e h =
        let flags = flags_of s in
        let z : bit_and flags newer_flags ≡ 0 = lacks flags newer_flags h in
        let m : bit_and flags earlier_flags ≡ bit_and flags window_flags = omega (arith, lists flags, z) in
        rw m
    listed false e h = rw e

    fits : (w : Bool) → is_window (flags_of s) ≡ w → both w (has (flags_of s) newer_flags) ≡ false → earlier_fit (flags_of s) s ≡ fields_fit (flags_of s) s
    fits true e h = rw e (walk_same (flags_of s) (lacks (flags_of s) newer_flags h) window_rows windows_parted s 7 0)
    fits false e h = rw e

empty_same : (list : ℕ) (rs : List Row) → fields_within list rs (empty_fields rs) ≡ empty_fields (rows_in list rs)
unfolding fields_within rows_in empty_fields
empty_same list [] = refl
empty_same list (r ∷ rs) = go (in_list r.flag list) (empty_same list rs)
  where
    go : (b : Bool) → fields_within list rs (empty_fields rs) ≡ empty_fields (rows_in list rs)
        → pick b (replicate r.size 0 ∷ fields_within list rs (empty_fields rs)) (fields_within list rs (empty_fields rs)) ≡ empty_fields (pick b (r ∷ rows_in list rs) (rows_in list rs))
    go true e = ap (λ (l : List (List ℕ)). replicate r.size 0 ∷ l) e
    go false e = e

-- ---- the number on an index

-- flags that are all in a list have no bit outside it
outside : (flags list mask : ℕ) → bit_and list mask ≡ 0 → in_list flags list ≡ true → has flags mask ≡ false
outside flags list mask apart l =
    let all : bit_and flags list ≡ flags = eqb-true (bit_and flags list) flags l in
    let none : bit_and flags mask ≡ 0 = omega (arith, and_split flags list mask apart, all, and_le_l flags (list + mask)) in
    rw (eq-eqb (bit_and flags mask) 0 none)

-- so no accepted order without a newer bit has to do with the overlay icon
no_overlay : (flags : ℕ) → closed flags ≡ true → both (is_window flags) (has flags newer_flags) ≡ false → has flags flags_overlay ≡ false
no_overlay flags c h = go (is_window flags) (both (is_notification flags) (in_list flags notification_flags)) (both (is_desktop flags) (in_list flags desktop_flags)) refl refl c h
  where
    go : (w n d : Bool) → both (is_notification flags) (in_list flags notification_flags) ≡ n → both (is_desktop flags) (in_list flags desktop_flags) ≡ d
        → any (both w (in_list flags window_flags) ∷ n ∷ d ∷ []) ≡ true → both w (has flags newer_flags) ≡ false → has flags flags_overlay ≡ false
    go true n d k l c h = rw (newer_none flags (lacks flags newer_flags h) flags_overlay refl)
    go false true d k l c h = outside flags notification_flags flags_overlay refl (both_right (is_notification flags) (in_list flags notification_flags) k)
    go false false true k l c h = outside flags desktop_flags flags_overlay refl (both_right (is_desktop flags) (in_list flags desktop_flags) l)
    go false false false k l c h = let z : ◌≡◌ {A = ℕ} 0 1 = cc in absurd (omega arith)

record_same : (d : Index) (s : List ℕ) (o : RecordOrder) → has o.flags flags_overlay ≡ false → earlier_record_number d s o ≡ record_number d s o
unfolding earlier_record_number record_number no_place
record_same d s o h = rw h

number_same : (d : Index) (s : List ℕ) → Unchanged s → earlier_number_in d s ≡ number_in d s
unfolding earlier_number_in number_in
number_same d s h = rw (early_same s h) (go (judge_of s) refl)
  where
    go : (j : Judged) → judge_of s ≡ j
        → on_judged j (earlier_record_number d s) (λ flags. 0) (λ number. number) ≡ on_judged j (record_number d s) (λ flags. 0) (λ number. number)
    go (Ok (Window o)) e =
        let w = a_window s o e in
        let f : o.flags ≡ flags_of s = ap (λ (o : WindowOrder). o.flags) w.is in
        record_same d s (window_order o) (rw f (no_overlay (flags_of s) w.whole.listed h))
    go (Ok (Notification o)) e =
        let w = a_notification s o e in
        let f : o.flags ≡ flags_of s = ap (λ (o : NotificationOrder). o.flags) w.is in
        record_same d s (notification_order o) (rw f (no_overlay (flags_of s) w.whole.listed h))
    go (Ok (Desktop o)) e = refl
    go (Err r) e = refl

-- on two indexes with the same records
record_other : (d e : Index) (s : List ℕ) (o : RecordOrder) → SameRecords d e
    → (record_number e s o ≡ 17 → ⊥) → (record_number d s o ≡ 17 → ⊥) → record_number e s o ≡ record_number d s o
unfolding record_number not_there no_room no_picture
record_other d e s o r =
    rw (r.listed o.family o.window.id o.notify.id, r.many o.family, r.cells (cell_at s o.icon))
    (go (not_there e o) (no_room e o) (no_picture e s o) (no_place e s o) (no_place d s o))
  where
    ladder : (a b c p : Bool) → ℕ
    ladder a b c p = pick a 9 (pick b 10 (pick c 11 (pick p 17 0)))

    go : (a b c p q : Bool) → (ladder a b c p ≡ 17 → ⊥) → (ladder a b c q ≡ 17 → ⊥) → ladder a b c p ≡ ladder a b c q
    go true b c p q x y = refl
    go false true c p q x y = refl
    go false false true p q x y = refl
    go false false false true q x y = absurd (x refl)
    go false false false false true x y = absurd (y refl)
    go false false false false false x y = refl

number_other : (d e : Index) (s : List ℕ) → Unchanged s → SameRecords d e → (earlier_number_in e s ≡ 17 → ⊥) → (number_in d s ≡ 17 → ⊥) → earlier_number_in e s ≡ number_in d s
unfolding number_in
number_other d e s h r x y = number_same e s h ∙ go (judge_of s) (λ z. x (number_same e s h ∙ z)) y
  where
    go : (j : Judged) → (on_judged j (record_number e s) (λ flags. 0) (λ number. number) ≡ 17 → ⊥)
        → (on_judged j (record_number d s) (λ flags. 0) (λ number. number) ≡ 17 → ⊥)
        → on_judged j (record_number e s) (λ flags. 0) (λ number. number) ≡ on_judged j (record_number d s) (λ flags. 0) (λ number. number)
    go (Ok (Window o)) x y = record_other d e s (window_order o) r x y
    go (Ok (Notification o)) x y = record_other d e s (notification_order o) r x y
    go (Ok (Desktop o)) x y = refl
    go (Err r) x y = refl

pub editions_agree : EditionsAgree
editions_agree =
    record {
      refused = early_refused;
      same = early_same;
      fields = λ flags s at old h. fields_same flags (lacks flags newer_flags h) window_fields fields_parted s at old;
      empty = empty_same earlier_flags window_fields;
      number = number_same;
      other = number_other;
    }
