-- A lookup's target by its kind: what is followed for it, the figure that goes with it, whether an index lists it; and holders by
-- their numbers. Assumes nothing.
use mathlib.Core.Path.{◌≡◌, refl, sym, ap, ◌∙◌}
use mathlib.Core.Bool.{Bool, true, false, not}
use mathlib.Core.List.{List, [], ◌∷◌}
use mathlib.Core.Logic.{inl, inr}
use Prim.Native.Nat.{ℕ, ◌+◌, ◌*◌, ◌≤◌, ◌<◌}
use native.Mathlib.Omega.{arith}
use denote.Enum.Declared.{tag_of}
use types.Run.{OneOf}
use lib.Dec.{eqb}
use lib.ListN.{get_or}
use borrow.Author.Tests.{lt-ltb, le-ltb}
use Rattle.std.specs.Prelude.{Option, Some, None, is_some}
use Rattle.wire.specs.Tests.{both}
use Rattle.protocol.specs.declared.WindowId.{WindowId}
use Rattle.protocol.specs.declared.NotifyIconId.{NotifyIconId}
use Rattle.places.specs.declared.Family.{Family}
use Rattle.places.specs.declared.Family.TheVariants as family
use Rattle.places.specs.Counts.{on_found}
use Rattle.places.specs.Sizes.{cell_count, holder_count}
use Rattle.places.specs.Memory.{pointer_at, shares_of, sharing_of, decode}
use Rattle.places.specs.Keyed.{keyed}
use Rattle.places.specs.Holder.{Holder, cell, icon, icon_number, number_of}
use Rattle.slots.specs.declared.Searched.{Searched}
use Rattle.slots.specs.Families.{start, capacity}
use Rattle.slots.specs.Slots.{is_at, slot_of, search_of}
use Rattle.slots.proofs.Ways.{found_is}
use Rattle.slots.proofs.Soundness.{found_within}
use Rattle.index.specs.Memory.{index_of}
use Rattle.figure.specs.declared.Figure.{Figure}
use Rattle.std.specs.Prelude.{Option, Some, None}
use Rattle.follow.specs.declared.Want.{Want}
use Rattle.follow.specs.declared.Want.TheVariants as want
use Rattle.follow.specs.Follow.{room_for}
use Rattle.present.specs.PresentFigure.{no_figure}
use Rattle.session.specs.declared.PictureHolder.{PictureHolder}
use Rattle.session.specs.declared.PictureHolder.TheVariants as holder
use Rattle.session.specs.declared.LookupTarget.{LookupTarget}
use Rattle.session.specs.declared.LookupTarget.TheVariants.{Window, Notification, Cell, Desktop, Windows, Notifications, Shares}
use Rattle.session.specs.Calls.{in_caches, cell_number, holder_of}
use Rattle.session.specs.Outcome.{layout_size}
use Rattle.session.specs.Targets.{want_of, listed_in, figure_for}
use Rattle.session.specs.Handing.{refusal_of}
use Rattle.session.specs.contracts.LookupTarget.{the_type}

-- ---- the cell

pub cell_outside : (cache entry : ℕ) → in_caches cache entry ≡ false → 12 ≡ cell_number cache entry
cell_outside cache entry e = rw e

pub cell_inside : (cache entry : ℕ) → in_caches cache entry ≡ true → 6 * cache + entry ≡ cell_number cache entry
cell_inside cache entry e = rw e

-- ---- what is followed

pub wanted_as : {target v : LookupTarget} {x : Option Want} → target ≡ v → x ≡ want_of v → x ≡ want_of target
wanted_as e f = f ∙ ap want_of (sym e)

-- ---- the figure that goes with it

pub figure_as : (x index bodies journal : List ℕ) (n : ℕ) {target v : LookupTarget} {f : Figure} → target ≡ v → f ≡ figure_for v x index bodies journal n
    → f ≡ figure_for target x index bodies journal n
figure_as x index bodies journal n e g = g ∙ ap (λ (t : LookupTarget). figure_for t x index bodies journal n) (sym e)

-- with no other target than the desktop state, by its tag
pub figure_other : (x index bodies journal : List ℕ) (n : ℕ) (target : LookupTarget) → OneOf (0 ∷ 1 ∷ 2 ∷ 4 ∷ 5 ∷ 6 ∷ []) (tag_of the_type target)
    → no_figure ≡ figure_for target x index bodies journal n
unfolding figure_for
figure_other x index bodies journal n (Window w) k = refl
figure_other x index bodies journal n (Notification w i) k = refl
figure_other x index bodies journal n (Cell cache entry) k = refl
figure_other x index bodies journal n Desktop (inl e) = absurd (omega (arith, e))
figure_other x index bodies journal n Desktop (inr (inl e)) = absurd (omega (arith, e))
figure_other x index bodies journal n Desktop (inr (inr (inl e))) = absurd (omega (arith, e))
figure_other x index bodies journal n Desktop (inr (inr (inr (inl e)))) = absurd (omega (arith, e))
figure_other x index bodies journal n Desktop (inr (inr (inr (inr (inl e))))) = absurd (omega (arith, e))
figure_other x index bodies journal n Desktop (inr (inr (inr (inr (inr e))))) = absurd (omega (arith, e))
figure_other x index bodies journal n Windows k = refl
figure_other x index bodies journal n Notifications k = refl
figure_other x index bodies journal n (Shares g h) k = refl

-- ---- holders by their numbers

module _ (d : List ℕ) where
  module _ (f : Family) (a b : ℕ) {s : Searched} {h : Option ℕ} (searched : s ≡ search_of d f a b) (found : s.found ≡ h) where
    slot_is : slot_of d f a b ≡ h
    slot_is = found_is (is_at d a b) (start f) (capacity f) searched found

    pub listed_found : is_some h ≡ (index_of d).listed f a b
    unfolding index_of
    listed_found = go h ∙ ap (λ (r : Option ℕ). on_found r false (λ i. true)) (sym slot_is)
      where
        go : (r : Option ℕ) → is_some r ≡ on_found r false (λ i. true)
        go (Some i) = refl
        go None = refl

    pub icon_found : (w : ℕ) → w < 3 → on_found h holder_count (λ i. icon_number i w) ≡ number_of (slot_of d) (icon f a b w)
    unfolding number_of
    icon_found w l = rw (lt-ltb w 3 l) (ap (λ (r : Option ℕ). on_found r holder_count (λ i. icon_number i w)) (sym slot_is))

  pub slot_below : (f : Family) (a b i : ℕ) → slot_of d f a b ≡ Some i → i < 48
  slot_below family.Windows a b i e = omega (arith, (found_within family.Windows d a b i e).high)
  slot_below family.Notifications a b i e = omega (arith, (found_within family.Notifications d a b i e).high)

  pub icon_below : (f : Family) (a b : ℕ) {s : Searched} {i : ℕ} → s ≡ search_of d f a b → s.found ≡ Some i → i < 48
  icon_below f a b {i = i} e g = slot_below f a b i (slot_is f a b e g)

  cell_kept : (c : ℕ) → c < cell_count → c ≡ number_of (slot_of d) (cell c)
  unfolding number_of
  cell_kept c l = rw (lt-ltb c cell_count l)

  cell_unkept : (c : ℕ) → cell_count ≤ c → holder_count ≡ number_of (slot_of d) (cell c)
  unfolding number_of
  cell_unkept c l = rw (le-ltb c cell_count l)

  -- the number of a cell that the code made
  module _ (cache entry : ℕ) {k : ℕ} (is : k ≡ cell_number cache entry) where
    pub cell_number_lem : k < cell_count → k ≡ number_of (slot_of d) (holder_of (holder.Cell cache entry))
    unfolding holder_of
    cell_number_lem l = is ∙ cell_kept (cell_number cache entry) (omega (arith, l, is))

    pub no_cell_number : cell_count ≤ k → holder_count ≡ number_of (slot_of d) (holder_of (holder.Cell cache entry))
    unfolding holder_of
    no_cell_number l = cell_unkept (cell_number cache entry) (omega (arith, l, is))

  pub small_number : (w : WindowId) {n : ℕ} → n ≡ number_of (slot_of d) (icon family.Windows w.id 0 0) → n ≡ number_of (slot_of d) (holder_of (holder.Small w))
  unfolding holder_of
  small_number w e = e

  pub big_number : (w : WindowId) {n : ℕ} → n ≡ number_of (slot_of d) (icon family.Windows w.id 0 1) → n ≡ number_of (slot_of d) (holder_of (holder.Big w))
  unfolding holder_of
  big_number w e = e

  pub overlay_number : (w : WindowId) {n : ℕ} → n ≡ number_of (slot_of d) (icon family.Windows w.id 0 2) → n ≡ number_of (slot_of d) (holder_of (holder.Overlay w))
  unfolding holder_of
  overlay_number w e = e

  pub notification_number : (w : WindowId) (i : NotifyIconId) {n : ℕ} → n ≡ number_of (slot_of d) (icon family.Notifications w.id i.id 0)
      → n ≡ number_of (slot_of d) (holder_of (holder.Notification w i))
  unfolding holder_of
  notification_number w i e = e

  pub holder_as : {g v : PictureHolder} {n : ℕ} → g ≡ v → n ≡ number_of (slot_of d) (holder_of v) → n ≡ number_of (slot_of d) (holder_of g)
  holder_as e f = f ∙ ap (λ (g : PictureHolder). number_of (slot_of d) (holder_of g)) (sym e)

  -- ---- pointers

  pub no_pointer : (h : ℕ) → holder_count ≤ h → 0 ≡ pointer_at d h
  unfolding pointer_at
  no_pointer h l = rw (le-ltb h holder_count l)

  pub pointer_read : (h : ℕ) → h < holder_count → get_or d (h + 1) 0 ≡ pointer_at d h
  unfolding pointer_at
  pointer_read h l = rw (lt-ltb h holder_count l)

  pub shares_by : (g k : Holder) → shares_of (pointer_at d) (number_of (slot_of d) g) (number_of (slot_of d) k) ≡ (index_of d).sharing.shares g k
  unfolding index_of keyed decode sharing_of
  shares_by g k = refl

  pub shares_read : (g k : PictureHolder) {m n p q : ℕ} → m ≡ number_of (slot_of d) (holder_of g) → p ≡ pointer_at d m → n ≡ number_of (slot_of d) (holder_of k)
      → q ≡ pointer_at d n → both (not (eqb p 0)) (eqb p q) ≡ (index_of d).sharing.shares (holder_of g) (holder_of k)
  shares_read g k m p n q =
      let x = p ∙ ap (pointer_at d) m in
      let y = q ∙ ap (pointer_at d) n in
      rw (x, y) (shares_by (holder_of g) (holder_of k))

  -- ---- whether a target is listed

  pub listed_as : {target v : LookupTarget} {r : Bool} → target ≡ v → r ≡ listed_in v (index_of d) → r ≡ listed_in target (index_of d)
  listed_as e f = f ∙ ap (λ (t : LookupTarget). listed_in t (index_of d)) (sym e)

  pub window_listed : (w : WindowId) {r : Bool} → r ≡ (index_of d).listed family.Windows w.id 0 → r ≡ listed_in (Window w) (index_of d)
  unfolding listed_in
  window_listed w e = e

  pub notification_listed : (w : WindowId) (n : NotifyIconId) {r : Bool} → r ≡ (index_of d).listed family.Notifications w.id n.id
      → r ≡ listed_in (Notification w n) (index_of d)
  unfolding listed_in
  notification_listed w n e = e

  pub cell_listed : (cache entry : ℕ) {r : Bool} → r ≡ (index_of d).sharing.shares (holder_of (holder.Cell cache entry)) (holder_of (holder.Cell cache entry))
      → r ≡ listed_in (Cell cache entry) (index_of d)
  unfolding listed_in holder_of
  cell_listed cache entry e = e

  pub desktop_listed : true ≡ listed_in Desktop (index_of d)
  unfolding listed_in
  desktop_listed = refl

  pub windows_listed : true ≡ listed_in Windows (index_of d)
  unfolding listed_in
  windows_listed = refl

  pub notifications_listed : true ≡ listed_in Notifications (index_of d)
  unfolding listed_in
  notifications_listed = refl

  pub shares_listed : (g k : PictureHolder) {r t : Bool} → r ≡ (index_of d).sharing.shares (holder_of g) (holder_of g) → t ≡ (index_of d).sharing.shares (holder_of k) (holder_of k)
      → both r t ≡ listed_in (Shares g k) (index_of d)
  unfolding listed_in
  shares_listed g k e f = rw (e, f)

-- ---- whether a lookup is refused

module _ (d : List ℕ) (target : LookupTarget) (room : ℕ) {b : Bool} (says : b ≡ listed_in target (index_of d)) where
  pub refuses_absent : b ≡ false → 9 ≡ refusal_of target (index_of d) room
  unfolding refusal_of
  refuses_absent e = let l : listed_in target (index_of d) ≡ false = sym says ∙ e in rw l

  module _ (there : b ≡ true) {size : ℕ} (is : size ≡ layout_size target) where
    pub refuses_small : room < size → 14 ≡ refusal_of target (index_of d) room
    unfolding refusal_of
    refuses_small h =
        let l : listed_in target (index_of d) ≡ true = sym says ∙ there in
        let s = lt-ltb room (layout_size target) (omega (arith, is)) in
        rw (l, s)

    pub refuses_none : size ≤ room → 0 ≡ refusal_of target (index_of d) room
    unfolding refusal_of
    refuses_none h =
        let l : listed_in target (index_of d) ≡ true = sym says ∙ there in
        let s = le-ltb room (layout_size target) (omega (arith, is)) in
        rw (l, s)

-- ---- the memory of what is followed

pub room_most : (w : Option Want) → room_for w ≤ 1520
room_most None = omega arith
room_most (Some (want.Window w)) = omega arith
room_most (Some (want.Notification w n)) = omega arith
room_most (Some want.Pictures) = omega arith
room_most (Some want.Desktop) = omega arith
