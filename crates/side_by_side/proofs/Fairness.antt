-- Sharing is fair in every table that a memory describes: pointers share fairly, and every order keeps it. Assumes nothing.
use Prim.Native.Nat.{ℕ, ◌+◌}
use mathlib.Core.Path.{◌≡◌, refl, sym, ap, ap₂, ◌∙◌}
use mathlib.Core.Bool.{Bool, true, false, not}
use mathlib.Core.List.{List}
use lib.Dec.{eqb}
use lib.ListN.{length}
use borrow.Author.Tests.{eqb-true}
use Rattle.std.specs.Prelude.{Ok, Err}
use Rattle.wire.specs.Tests.{pick, both, either, has}
use Rattle.wire.proofs.Tests.{both_left, both_right, never}
use Rattle.order.specs.declared.Order.TheVariants.{Window, Notification, Desktop}
use Rattle.order.specs.Judge.{Judged, judge_of}
use Rattle.protocol.specs.Flags.{desktop_none}
use Rattle.places.specs.Counts.{one}
use Rattle.places.specs.Sharing.{Sharing, is_one, drop, drop_all, via, join, fresh, full, taken, cells_only}
use Rattle.places.specs.Memory.{places_of, pointer_at, count_at, shares_of, sharing_of, decode}
use Rattle.places.specs.Keyed.{keyed}
use Rattle.places.specs.Holder.{cell, same_holder, is_cell_holder, icons_of, number_of}
use Rattle.places.proofs.Pointers.{eqb_sym}
use Rattle.slots.specs.Slots.{slot_of}
use Rattle.index.specs.declared.RecordOrder.{RecordOrder}
use Rattle.index.specs.Orders.{on_judged, is_delete, brings_icon, brings_cached, clears_overlay, cell_at, pointer_of, holders_of}
use Rattle.index.specs.Index.{Index, number_in, pictured, change_record, change_desktop, empty_index, index_after}
use Rattle.index.specs.Memory.{index_of}
use Rattle.index.proofs.Ordered.{window_order, notification_order}
use Rattle.side_by_side.specs.SideBySide.{Fair}
use Rattle.side_by_side.proofs.Drops.{fair_drop, fair_drops}

-- ---- pointers, by numbers or by ids

pub fair_pointers : (m : ℕ) (ptr : ℕ → ℕ) (n : ℕ) → Fair (sharing_of m ptr n)
unfolding sharing_of
fair_pointers m ptr n =
    record {
      turned = λ g k. go g k (eqb (ptr g) (ptr k)) refl;
      alike = λ g k j e. ap (λ (v : ℕ). both (not (eqb v 0)) (eqb v (ptr j))) (same g k e);
      even = λ g k e. ap (λ (v : ℕ). pick (eqb v 0) 0 (count_at m ptr v)) (same g k e);
    }
  where
    same : (g k : ℕ) → shares_of ptr g k ≡ true → ptr g ≡ ptr k
    same g k e = eqb-true (ptr g) (ptr k) (both_right (not (eqb (ptr g) 0)) (eqb (ptr g) (ptr k)) e)

    nothing : (t : Bool) → both t false ≡ false
    nothing true = refl
    nothing false = refl

    go : (g k : ℕ) (s : Bool) → eqb (ptr g) (ptr k) ≡ s → both (not (eqb (ptr g) 0)) (eqb (ptr g) (ptr k)) ≡ both (not (eqb (ptr k) 0)) (eqb (ptr k) (ptr g))
    go g k true e = let x : ptr g ≡ ptr k = eqb-true (ptr g) (ptr k) e in rw x
    go g k false e =
        let y : eqb (ptr k) (ptr g) ≡ false = eqb_sym (ptr k) (ptr g) ∙ e in
        rw (e, y) (nothing (not (eqb (ptr g) 0)) ∙ sym (nothing (not (eqb (ptr k) 0))))

pub fair_keyed : {H : Type 0} (num : H → ℕ) (t : Sharing ℕ) → Fair t → Fair (keyed num t)
unfolding keyed
fair_keyed num t f =
    record {
      turned = λ g k. f.turned (num g) (num k);
      alike = λ g k j e. f.alike (num g) (num k) (num j) e;
      even = λ g k e. f.even (num g) (num k) e;
    }

-- ---- holders that join another, or take a place

module _ {H : Type 0} (same : H → H → Bool) where
  pub fair_join : (t : Sharing H) → Fair t → (h c : H) → Fair (join same h c t)
  unfolding join
  fair_join t f h c =
      record {
        turned = λ g k. f.turned (via same h c g) (via same h c k);
        alike = λ g k j e. f.alike (via same h c g) (via same h c k) (via same h c j) e;
        even =
            λ g k e.
            ap₂ (λ (n : ℕ) (s : Bool). n + one s) (f.even (via same h c g) (via same h c k) e) (f.alike (via same h c g) (via same h c k) c e);
      }

  pub fair_fresh : (t : Sharing H) → Fair t → (hs : List H) → Fair (fresh same hs t)
  unfolding fresh
  fair_fresh t f hs =
      record {
        turned = λ g k. turn (is_one same hs g) (is_one same hs k) (t.shares g k) (t.shares k g) (f.turned g k);
        alike = λ g k j e. go g k j (is_one same hs g) (is_one same hs k) e;
        even = λ g k e. count g k (is_one same hs g) (is_one same hs k) e;
      }
    where
      turn : (a b x y : Bool) → x ≡ y → pick (either a b) (both a b) x ≡ pick (either b a) (both b a) y
      turn true true x y e = refl
      turn true false x y e = refl
      turn false true x y e = refl
      turn false false x y e = e

      go : (g k j : H) (a b : Bool) → pick (either a b) (both a b) (t.shares g k) ≡ true
          → pick (either a (is_one same hs j)) (both a (is_one same hs j)) (t.shares g j) ≡ pick (either b (is_one same hs j)) (both b (is_one same hs j)) (t.shares k j)
      go g k j true true e = refl
      go g k j true false e = never e
      go g k j false true e = never e
      go g k j false false e = ap (pick (is_one same hs j) false) (f.alike g k j e)

      count : (g k : H) (a b : Bool) → pick (either a b) (both a b) (t.shares g k) ≡ true → pick a (length hs) (t.users g) ≡ pick b (length hs) (t.users k)
      count g k true true e = refl
      count g k true false e = never e
      count g k false true e = never e
      count g k false false e = f.even g k e

  pub fair_taken : (t : Sharing H) → Fair t → (hs : List H) → Fair (taken same hs t)
  unfolding taken
  fair_taken t f hs = go (full same hs t)
    where
      go : (b : Bool) → Fair (pick b t (fresh same hs (drop_all same hs t)))
      go true = f
      go false = fair_fresh (drop_all same hs t) (fair_drops same hs t f) hs

-- ---- the cells alone

pub fair_cells : {H : Type 0} (is_cell : H → Bool) (at : ℕ → H) (t : Sharing H) → Fair t → Fair (cells_only is_cell at t)
unfolding cells_only
fair_cells is_cell at t f =
    record {
      turned = λ g k. turn (is_cell g) (is_cell k) (t.shares g k) (t.shares k g) (f.turned g k);
      alike =
          λ g k j e.
          let c = both_left (both (is_cell g) (is_cell k)) (t.shares g k) e in
          let a : is_cell g ≡ true = both_left (is_cell g) (is_cell k) c in
          let b : is_cell k ≡ true = both_right (is_cell g) (is_cell k) c in
          rw (a, b) (ap (both (is_cell j)) (f.alike g k j (both_right (both (is_cell g) (is_cell k)) (t.shares g k) e)));
      even =
          λ g k e.
          let c = both_left (both (is_cell g) (is_cell k)) (t.shares g k) e in
          let s = both_right (both (is_cell g) (is_cell k)) (t.shares g k) e in
          let a : is_cell g ≡ true = both_left (is_cell g) (is_cell k) c in
          let b : is_cell k ≡ true = both_right (is_cell g) (is_cell k) c in
          rw (a, b) (ap one (f.alike g k g s ∙ sym (f.turned g k) ∙ f.alike g k k s));
    }
  where
    turn : (a b x y : Bool) → x ≡ y → both (both a b) x ≡ both (both b a) y
    turn true true x y e = e
    turn true false x y e = refl
    turn false true x y e = refl
    turn false false x y e = refl

-- ---- every order keeps it

module _ (d : Index) (f : Fair d.sharing) (s : List ℕ) where
  pictured_fair : (o : RecordOrder) → Fair (pictured s o d.sharing)
  unfolding pictured
  pictured_fair o = go (brings_icon o.flags) (brings_cached o.flags) (clears_overlay o.flags)
    where
      go : (t u n : Bool)
          → Fair (pick t (taken same_holder (holders_of s o) d.sharing)
          (pick u (join same_holder (pointer_of o) (cell (cell_at s o.icon)) (drop same_holder (pointer_of o) d.sharing))
          (pick n (drop same_holder (pointer_of o) d.sharing) d.sharing)))
      go true u n = fair_taken same_holder d.sharing f (holders_of s o)
      go false true n =
          fair_join same_holder (drop same_holder (pointer_of o) d.sharing) (fair_drop same_holder d.sharing f (pointer_of o)) (pointer_of o) (cell (cell_at s o.icon))
      go false false true = fair_drop same_holder d.sharing f (pointer_of o)
      go false false false = f

  record_fair : (o : RecordOrder) → Fair (change_record d s o).sharing
  unfolding change_record
  record_fair o = go (is_delete o.flags) refl
    where
      go : (t : Bool) → is_delete o.flags ≡ t → Fair (change_record d s o).sharing
      go true h = rw h (fair_drops same_holder (icons_of o.family o.window.id o.notify.id) d.sharing f)
      go false h = rw h (pictured_fair o)

  desktop_fair : (flags : ℕ) → Fair (change_desktop d flags).sharing
  unfolding change_desktop
  desktop_fair flags = go (has flags desktop_none) refl
    where
      go : (t : Bool) → has flags desktop_none ≡ t → Fair (change_desktop d flags).sharing
      go true h = rw h (fair_cells is_cell_holder cell d.sharing f)
      go false h = rw h f

  judged_fair : (j : Judged) → Fair (on_judged j (change_record d s) (change_desktop d) (λ number. d)).sharing
  judged_fair (Ok (Window o)) = record_fair (window_order o)
  judged_fair (Ok (Notification o)) = record_fair (notification_order o)
  judged_fair (Ok (Desktop o)) = desktop_fair o.flags
  judged_fair (Err r) = f

  pub order_fair : Fair (index_after d s).sharing
  unfolding index_after
  order_fair = go (eqb (number_in d s) 0)
    where
      go : (t : Bool) → Fair (pick t (on_judged (judge_of s) (change_record d s) (change_desktop d) (λ number. d)) d).sharing
      go true = judged_fair (judge_of s)
      go false = f

pub memory_fair : (x : List ℕ) → Fair (index_of x).sharing
unfolding index_of decode
memory_fair x = fair_keyed (number_of (slot_of x)) (decode x) (fair_pointers 156 (pointer_at x) (places_of x))

pub empty_fair : (n : ℕ) → Fair (empty_index n).sharing
unfolding empty_index
empty_fair n = record { turned = λ g k. refl; alike = λ g k j e. refl; even = λ g k e. refl }
