-- The promises of an accepted order, from the definition of `after`. Assumes nothing.
use mathlib.Core.Path.{◌≡◌, refl, sym, ap, ◌∙◌}
use mathlib.Core.Bool.{Bool, true, false}
use mathlib.Core.List.{List, [], ◌∷◌}
use mathlib.Core.Option.{Option, none, some}
use Prim.Native.Nat.{ℕ}
use native.Mathlib.Omega.{arith}
use lib.Dec.{eqb}
use borrow.Author.Tests.{eq-eqb}
use Rattle.std.specs.Prelude.{Ok, Err}
use Rattle.wire.specs.Tests.{pick, both, either}
use Rattle.order.specs.declared.Order.TheVariants.{Window, Notification, Desktop}
use Rattle.order.specs.Judge.{Judged, judge_of}
use Rattle.places.specs.declared.Family.{Family}
use Rattle.places.specs.Sharing.{is_one}
use Rattle.places.specs.Holder.{Holder, cell, icon, same_family, same_holder}
use Rattle.slots.specs.Families.{same_record}
use Rattle.index.specs.declared.RecordOrder.{RecordOrder}
use Rattle.index.specs.Orders.{on_judged, brings_icon, brings_cached, clears_overlay, cell_at, sent_once, which_of, pointer_of, holders_of}
use Rattle.index.specs.Index as index
use Rattle.index.specs.Promises.{touched}
use Rattle.index.proofs.Ordered.{window_order, notification_order}
use Rattle.index.proofs.Promises.{records_keep}
use Rattle.body.specs.Bodies.{set_flagged}
use Rattle.body.proofs.Each.{sets_flagged}
use Rattle.cache.specs.Cells.{carried_picture}
use Rattle.table.specs.Table.{Table, field_rows, fields_at, fields_before, record_fields, fields_after, shown_after, change_record, change_desktop, after}
use Rattle.table.specs.Promises.{record_order, Updates, Updated, UpdatesKeep}
use Rattle.wire.proofs.Tests.{never}
use Rattle.places.proofs.Named.{family_same}
use Rattle.index.proofs.Shared.{own_record}

module _ (t : Table) (s : List ℕ) (o : RecordOrder) (u : Updates t s o) where
  changed_on : (j : Judged) → record_order j ≡ some o → on_judged j (change_record t s) (change_desktop t s) (λ n. t) ≡ change_record t s o
  changed_on (Ok (Window w)) e = let k : window_order w ≡ o = cc in ap (change_record t s) k
  changed_on (Ok (Notification w)) e = let k : notification_order w ≡ o = cc in ap (change_record t s) k
  changed_on (Ok (Desktop w)) e = let z : ◌≡◌ {A = ℕ} 0 1 = cc in absurd (omega arith)
  changed_on (Err r) e = let z : ◌≡◌ {A = ℕ} 0 1 = cc in absurd (omega arith)

  pub after_is : after t s ≡ change_record t s o
  unfolding after
  after_is = rw u.accepted (changed_on (judge_of s) u.judged)

  abbrev family : Family
  family = o.family

  abbrev a : ℕ
  a = o.window.id

  abbrev b : ℕ
  b = o.notify.id

  listed_is : (change_record t s o).index.listed family a b ≡ true
  unfolding change_record index.change_record
  listed_is = rw (u.stays, own_record family a b)

  fields_are : (change_record t s o).fields family a b ≡ record_fields t s o
  unfolding change_record fields_after
  fields_are = rw (own_record family a b)

  others_are : (g : Family) (x y : ℕ) → same_record family a b g x y ≡ false
      → ((change_record t s o).fields g x y ≡ t.fields g x y) × ((change_record t s o).index.listed g x y ≡ t.index.listed g x y)
  unfolding change_record fields_after
  others_are g x y e = (rw e, records_keep.listed t.index s o g x y e)

  abbrev shown : Holder → Option (List ℕ)
  shown = (change_record t s o).shown

  brought_is : brings_icon o.flags ≡ true → (h : Holder) → is_one same_holder (holders_of s o) h ≡ true → shown h ≡ some (carried_picture s o.icon)
  unfolding change_record shown_after
  brought_is e h i = rw (u.stays, e) (go (is_one same_holder (holders_of s o) h) i)
    where
      go : (b : Bool) → b ≡ true → pick b (some (carried_picture s o.icon)) (t.shown h) ≡ some (carried_picture s o.icon)
      go true e = refl
      go false e = never e

  own_pointer : same_holder (pointer_of o) (pointer_of o) ≡ true
  own_pointer = rw (family_same family, eq-eqb a a refl, eq-eqb b b refl, eq-eqb (which_of o.flags) (which_of o.flags) refl)

  cached_is : brings_icon o.flags ≡ false → brings_cached o.flags ≡ true → shown (pointer_of o) ≡ t.shown (cell (cell_at s o.icon))
  unfolding change_record shown_after
  cached_is e f = rw (u.stays, e, f) (ap (λ (b : Bool). pick b (t.shown (cell (cell_at s o.icon))) (t.shown (pointer_of o))) own_pointer)

  cleared_is : brings_icon o.flags ≡ false → brings_cached o.flags ≡ false → clears_overlay o.flags ≡ true → shown (pointer_of o) ≡ none
  unfolding change_record shown_after
  cleared_is e f n = rw (u.stays, e, f, n) (ap (λ (b : Bool). pick b none (t.shown (pointer_of o))) own_pointer)

  -- what is not touched
  pictures_are : (h : Holder) → is_one same_holder (touched s o) h ≡ false → shown h ≡ t.shown h
  unfolding change_record shown_after touched
  pictures_are h = rw u.stays (go (brings_icon o.flags) (brings_cached o.flags) (clears_overlay o.flags))
    where
      one : (b : Bool) (x y : Option (List ℕ)) → b ≡ false → pick b x y ≡ y
      one true x y e = never (sym e)
      one false x y e = refl

      left : (b : Bool) → either b false ≡ false → b ≡ false
      left true e = e
      left false e = refl

      go : (i c n : Bool) → is_one same_holder (pick i (holders_of s o) (pick c (pointer_of o ∷ []) (pick n (pointer_of o ∷ []) []))) h ≡ false
          → pick i (pick (is_one same_holder (holders_of s o) h) (some (carried_picture s o.icon)) (t.shown h))
          (pick c (pick (same_holder h (pointer_of o)) (t.shown (cell (cell_at s o.icon))) (t.shown h))
          (pick n (pick (same_holder h (pointer_of o)) none (t.shown h)) (t.shown h))) ≡ t.shown h
      go true c n e = one (is_one same_holder (holders_of s o) h) (some (carried_picture s o.icon)) (t.shown h) e
      go false true n e = one (same_holder h (pointer_of o)) (t.shown (cell (cell_at s o.icon))) (t.shown h) (left (same_holder h (pointer_of o)) e)
      go false false true e = one (same_holder h (pointer_of o)) none (t.shown h) (left (same_holder h (pointer_of o)) e)
      go false false false e = refl

  -- an icon of another record is none of the order's
  other_icon : (g : Family) (x y w : ℕ) → same_record family a b g x y ≡ false → is_one same_holder (touched s o) (icon g x y w) ≡ false
  unfolding touched
  other_icon g x y w e = rw u.stays (go (brings_icon o.flags) (brings_cached o.flags) (clears_overlay o.flags) (pointer (same_family g family) (eqb x a) (eqb y b) (eqb w (which_of o.flags)) e))
    where
      pointer : (f i j k : Bool) → both f (both i j) ≡ false → both f (both i (both j k)) ≡ false
      pointer true true true k e = never (sym e)
      pointer true true false k e = refl
      pointer true false j k e = refl
      pointer false i j k e = refl

      own : (t : Bool) → same_holder (icon g x y w) (pointer_of o) ≡ false
          → is_one same_holder (pick t (pointer_of o ∷ []) (cell (cell_at s o.icon) ∷ pointer_of o ∷ [])) (icon g x y w) ≡ false
      own true n = rw n
      own false n = rw n

      go : (i c q : Bool) → same_holder (icon g x y w) (pointer_of o) ≡ false
          → is_one same_holder (pick i (holders_of s o) (pick c (pointer_of o ∷ []) (pick q (pointer_of o ∷ []) []))) (icon g x y w) ≡ false
      go true c q n = own (sent_once s o.icon) n
      go false true q n = rw n
      go false false true n = rw n
      go false false false n = refl

  updated : Updated t s o
  unfolding record_fields change_record
  updated =
      let f : (after t s).fields family a b ≡ set_flagged (field_rows family) o.flags s (fields_at family) (fields_before t o) =
      ap (λ (v : Table). v.fields family a b) after_is ∙ fields_are ∙ rw u.stays in
      record {
        listed = ap (λ (v : Table). v.index.listed family a b) after_is ∙ listed_is;
        fields = rw f (sets_flagged (field_rows family) o.flags s (fields_at family) (fields_before t o));
        others = λ g x y e. (ap (λ (v : Table). v.fields g x y) after_is ∙ (others_are g x y e).0, ap (λ (v : Table). v.index.listed g x y) after_is ∙ (others_are g x y e).1);
        desktop = ap (λ (v : Table). v.desktop) after_is;
        brought = λ e h i. ap (λ (v : Table). v.shown h) after_is ∙ brought_is e h i;
        cached = λ e f. ap (λ (v : Table). v.shown (pointer_of o)) after_is ∙ cached_is e f;
        cleared = λ e f n. ap (λ (v : Table). v.shown (pointer_of o)) after_is ∙ cleared_is e f n;
        pictures = λ h e. ap (λ (v : Table). v.shown h) after_is ∙ pictures_are h e;
        icons = λ g x y w e. ap (λ (v : Table). v.shown (icon g x y w)) after_is ∙ pictures_are (icon g x y w) (other_icon g x y w e);
      }

pub updates_keep : UpdatesKeep
unfolding UpdatesKeep
updates_keep t s o u = updated t s o u
