-- An order for a record changes the sharing of its own holders alone. Assumes nothing.
use mathlib.Core.Path.{◌≡◌, refl, sym, ap, ◌∙◌}
use mathlib.Core.Bool.{Bool, true, false}
use mathlib.Core.List.{List, [], ◌∷◌}
use Prim.Native.Nat.{ℕ}
use lib.Dec.{eqb}
use Rattle.wire.specs.Tests.{pick, both}
use Rattle.places.specs.declared.Family.{Family}
use Rattle.places.specs.Sharing.{Sharing, is_one, drop, drop_all, via, join, fresh, full, taken}
use Rattle.places.specs.Holder.{Holder, cell, icon, same_family, same_holder, icons_of}
use Rattle.slots.specs.Families.{same_record}
use Rattle.index.specs.declared.RecordOrder.{RecordOrder}
use Rattle.index.specs.Orders.{is_delete, brings_icon, brings_cached, clears_overlay, cell_at, sent_once, which_of, pointer_of, holders_of}
use Rattle.index.specs.Index.{Index, pictured, without, with_record, change_record}
use Rattle.index.specs.Promises.{touched, OthersKeep, RecordsKeep}
use Rattle.wire.proofs.Tests.{never, either_left, either_right}

-- ---- holders that are none of those changed

module _ (t : Sharing Holder) (g k : Holder) where
  drop_keeps : (h : Holder) → same_holder g h ≡ false → same_holder k h ≡ false → (drop same_holder h t).shares g k ≡ t.shares g k
  unfolding drop
  drop_keeps h e f = rw (e, f)

  join_keeps : (h c : Holder) → same_holder g h ≡ false → same_holder k h ≡ false → (join same_holder h c t).shares g k ≡ t.shares g k
  unfolding join
  join_keeps h c e f =
      ap (λ (m : Holder). t.shares m (via same_holder h c k)) (ap (λ (u : Bool). pick u c g) e) ∙ ap (t.shares g) (ap (λ (u : Bool). pick u c k) f)

  fresh_keeps : (hs : List Holder) → is_one same_holder hs g ≡ false → is_one same_holder hs k ≡ false → (fresh same_holder hs t).shares g k ≡ t.shares g k
  unfolding fresh
  fresh_keeps hs e f = rw (e, f)

drops_keep : (hs : List Holder) (t : Sharing Holder) (g k : Holder) → is_one same_holder hs g ≡ false → is_one same_holder hs k ≡ false → (drop_all same_holder hs t).shares g k ≡ t.shares g k
drops_keep [] t g k e f = refl
drops_keep (h ∷ hs) t g k e f =
    drops_keep hs (drop same_holder h t) g k (either_right (same_holder g h) (is_one same_holder hs g) e) (either_right (same_holder k h) (is_one same_holder hs k) f)
    ∙ drop_keeps t g k h (either_left (same_holder g h) (is_one same_holder hs g) e) (either_left (same_holder k h) (is_one same_holder hs k) f)

taken_keeps : (hs : List Holder) (t : Sharing Holder) (g k : Holder) → is_one same_holder hs g ≡ false → is_one same_holder hs k ≡ false → (taken same_holder hs t).shares g k ≡ t.shares g k
unfolding taken
taken_keeps hs t g k e f = go (full same_holder hs t)
  where
    go : (u : Bool) → (pick u t (fresh same_holder hs (drop_all same_holder hs t))).shares g k ≡ t.shares g k
    go true = refl
    go false = fresh_keeps (drop_all same_holder hs t) g k hs e f ∙ drops_keep hs t g k e f

pub others_keep : OthersKeep
unfolding change_record pictured touched
others_keep d s o g k = go (is_delete o.flags) (brings_icon o.flags) (brings_cached o.flags) (clears_overlay o.flags)
  where
    go : (t u v n : Bool)
        → is_one same_holder (pick t (icons_of o.family o.window.id o.notify.id) (pick u (holders_of s o) (pick v (pointer_of o ∷ []) (pick n (pointer_of o ∷ []) [])))) g ≡ false
        → is_one same_holder (pick t (icons_of o.family o.window.id o.notify.id) (pick u (holders_of s o) (pick v (pointer_of o ∷ []) (pick n (pointer_of o ∷ []) [])))) k ≡ false
        → (pick t (without d o)
        (record {
          listed = (with_record d s o).listed;
          many = (with_record d s o).many;
          sharing =
              pick u (taken same_holder (holders_of s o) d.sharing)
              (pick v (join same_holder (pointer_of o) (cell (cell_at s o.icon)) (drop same_holder (pointer_of o) d.sharing))
              (pick n (drop same_holder (pointer_of o) d.sharing) d.sharing));
        })).sharing.shares g k ≡ d.sharing.shares g k
    go true u v n e f = drops_keep (icons_of o.family o.window.id o.notify.id) d.sharing g k e f
    go false true v n e f = taken_keeps (holders_of s o) d.sharing g k e f
    go false false true n e f =
        let x = either_left (same_holder g (pointer_of o)) false e in
        let y = either_left (same_holder k (pointer_of o)) false f in
        join_keeps (drop same_holder (pointer_of o) d.sharing) g k (pointer_of o) (cell (cell_at s o.icon)) x y
        ∙ drop_keeps d.sharing g k (pointer_of o) x y
    go false false false true e f =
        drop_keeps d.sharing g k (pointer_of o) (either_left (same_holder g (pointer_of o)) false e) (either_left (same_holder k (pointer_of o)) false f)
    go false false false false e f = refl

-- ---- other records

-- an icon of another record
other_icon : (f g : Family) (a b v x y w : ℕ) → same_record f a b g x y ≡ false → same_holder (icon g x y w) (icon f a b v) ≡ false
other_icon f g a b v x y w = go (same_family g f) (eqb x a) (eqb y b) (eqb w v)
  where
    go : (t u r q : Bool) → both t (both u r) ≡ false → both t (both u (both r q)) ≡ false
    go true true true q e = never (sym e)
    go true true false q e = refl
    go true false r q e = refl
    go false u r q e = refl

untouched : (s : List ℕ) (o : RecordOrder) (g : Family) (x y w : ℕ) → same_record o.family o.window.id o.notify.id g x y ≡ false
    → is_one same_holder (touched s o) (icon g x y w) ≡ false
unfolding touched
untouched s o g x y w e = go (is_delete o.flags) (brings_icon o.flags) (brings_cached o.flags) (clears_overlay o.flags)
  where
    n : (v : ℕ) → same_holder (icon g x y w) (icon o.family o.window.id o.notify.id v) ≡ false
    n v = other_icon o.family g o.window.id o.notify.id v x y w e

    own : (t : Bool) → is_one same_holder (pick t (pointer_of o ∷ []) (cell (cell_at s o.icon) ∷ pointer_of o ∷ [])) (icon g x y w) ≡ false
    own true = rw (n (which_of o.flags))
    own false = rw (n (which_of o.flags))

    go : (t u v q : Bool)
        → is_one same_holder (pick t (icons_of o.family o.window.id o.notify.id) (pick u (holders_of s o) (pick v (pointer_of o ∷ []) (pick q (pointer_of o ∷ []) [])))) (icon g x y w) ≡ false
    go true u v q = rw (n 0, n 1, n 2)
    go false true v q = own (sent_once s o.icon)
    go false false true q = rw (n (which_of o.flags))
    go false false false true = rw (n (which_of o.flags))
    go false false false false = refl

pub records_keep : RecordsKeep
unfolding change_record
records_keep =
    record {
      shares = λ d s o f g a b v x y w e h. others_keep d s o (icon f a b v) (icon g x y w) (untouched s o f a b v e) (untouched s o g x y w h);
      listed = λ d s o f a b e. go d s o f a b e (is_delete o.flags);
    }
  where
    go : (d : Index) (s : List ℕ) (o : RecordOrder) (f : Family) (a b : ℕ) → same_record o.family o.window.id o.notify.id f a b ≡ false → (t : Bool)
        → (pick t (without d o) (with_record d s o)).listed f a b ≡ d.listed f a b
    go d s o f a b e true = rw e
    go d s o f a b e false = rw e
