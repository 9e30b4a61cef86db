-- The holders of the picture that an icon brings, by ids and by the numbers under which the memory keeps them: a cell and a pointer,
-- or a pointer alone, whose number then stands twice. Assumes nothing.
use mathlib.Core.Path.{◌≡◌, refl, sym, ap, ◌∙◌}
use mathlib.Core.Bool.{Bool, true, false}
use mathlib.Core.List.{List, [], ◌∷◌, map}
use Prim.Native.Nat.{ℕ, zero, suc, ◌+◌, ◌*◌, ◌<◌}
use native.Mathlib.Omega.{arith}
use lib.Dec.{eqb, leb}
use lib.ListN.{set}
use borrow.Author.Tests.{ne_eqb, lt-leb, leb-false}
use Rattle.std.specs.Prelude.{Option, Some}
use Rattle.wire.specs.Tests.{pick, either, has}
use Rattle.protocol.specs.Flags.{flag_big_icon, flags_overlay}
use Rattle.places.specs.declared.Family.{Family}
use Rattle.places.specs.Sharing.{is_one, full, taken}
use Rattle.places.specs.Counts.{on_found}
use Rattle.places.specs.Memory.{decode, valid}
use Rattle.places.specs.Changes.{point_to, point_all, free_place, take_of}
use Rattle.places.specs.Keyed.{keyed}
use Rattle.places.specs.Holder.{Holder, cell, icon, same_holder, number_of}
use Rattle.places.proofs.Bytes.{Holders}
use Rattle.places.proofs.Keyed.{Own, keyed_one}
use Rattle.places.proofs.Meaning.{holders, take_valid, take_one_valid}
use Rattle.places.proofs.Named.{cell_number_lem, icon_number_lem, own_cell, own_icon, icon_means, icon_full, alone_means, alone_full}
use Rattle.places.proofs.Ways as places
use Rattle.slots.specs.Slots.{slot_of}
use Rattle.slots.proofs.Soundness.{within_slots, found_within, Sound, slots_of}
use Rattle.index.specs.declared.RecordOrder.{RecordOrder}
use Rattle.index.specs.Orders.{brings_icon, cell_at, sent_once, which_of, holders_of}
use Rattle.index.specs.Plans.{pointer_for, beside_of, cell_for}
use Rattle.index.proofs.Memory.{points_slotted}
use Rattle.index.proofs.Ordered.{Ordered, icon_names}
use Rattle.index.proofs.Shared.{sharing_at, same_slots}

pub which_small : (flags : ℕ) → which_of flags < 3
which_small flags = go (has flags flag_big_icon) (has flags flags_overlay)
  where
    go : (t u : Bool) → ◌<◌ (pick t 1 (pick u 2 0)) 3
    go true u = omega arith
    go false true = omega arith
    go false false = omega arith

-- the numbers ns are those of the holders hs, and the icons among them are of slot i
pub record Held (z : List ℕ) (i : ℕ) (ns : List ℕ) (hs : List Holder) : Type 0 where
  pub all : Holders ns
  pub among : (g : Holder) → is_one eqb ns (number_of (slot_of z) g) ≡ is_one same_holder hs g
  pub others : (j v : ℕ) → (j ≡ i → ⊥) → v < 3 → is_one eqb ns (12 + 3 * j + v) ≡ false
  -- 17
  pub refuses : on_found (free_place z ns) true (λ p. false) ≡ full same_holder hs (sharing_at z)
  -- they take a place that is free once they let go
  pub shares : (p : ℕ) → free_place z ns ≡ Some p → sharing_at (point_all z ns (p + 1)) ≡ taken same_holder hs (sharing_at z)
  pub kept : (p : ℕ) → free_place z ns ≡ Some p → valid (point_all z ns (p + 1)) ≡ true

-- ---- a holder that stands twice

set_again : (l : List ℕ) (k v : ℕ) → set (set l k v) k v ≡ set l k v
set_again [] k v = refl
set_again (x ∷ xs) zero v = refl
set_again (x ∷ xs) (suc k) v = ap (λ (r : List ℕ). x ∷ r) (set_again xs k v)

point_once : (z : List ℕ) (q v : ℕ) → point_all z (q ∷ q ∷ []) v ≡ point_all z (q ∷ []) v
unfolding point_to
point_once z q v = set_again z (q + 1) v

free_once : (z : List ℕ) (q : ℕ) → free_place z (q ∷ q ∷ []) ≡ free_place z (q ∷ [])
free_once z q = places.free_once z q refl

twice : (t : Bool) → either t (either t false) ≡ either t false
twice true = refl
twice false = refl

taken_is : (z ns : List ℕ) (p : ℕ) → free_place z ns ≡ Some p → take_of z ns ≡ point_all z ns (p + 1)
unfolding take_of
taken_is z ns p e = rw e

module _ (z : List ℕ) (s : Sound z) (f : Family) (a b w i : ℕ) (at_i : slot_of z f a b ≡ Some i) (lw : w < 3) where
  abbrev num : Holder → ℕ
  num = number_of (slot_of z)

  abbrev own : Holder
  own = icon f a b w

  abbrev q : ℕ
  q = 12 + 3 * i + w

  low : i < 48
  low = within_slots f i (found_within f z a b i at_i)

  own_is : num own ≡ q
  own_is = icon_number_lem (slot_of z) (slots_of z) f a b w i at_i lw

  owned : Own same_holder num own
  owned = own_icon (slot_of z) (slots_of z) f a b w i at_i lw

  apart_from : (j v : ℕ) → (j ≡ i → ⊥) → v < 3 → eqb (12 + 3 * j + v) q ≡ false
  apart_from j v ne l = ne_eqb (12 + 3 * j + v) q (λ e. ne (omega arith))

  -- every holder keeps its number
  pointed : (ns : List ℕ) (p : ℕ) → Holders ns → sharing_at (point_all z ns (p + 1)) ≡ keyed num (decode (point_all z ns (p + 1)))
  pointed ns p all =
      let y = point_all z ns (p + 1) in
      ap (λ (slot : Family → ℕ → ℕ → Option ℕ). keyed (number_of slot) (decode y)) (same_slots z y (points_slotted ns z (p + 1) all s.long))

  alone_held : Held z i (q ∷ q ∷ []) (own ∷ [])
  alone_held =
      let l = low in
      let all = holders q q (omega arith) (omega arith) in
      record {
        all = all;
        among = λ g. twice (eqb (num g) q) ∙ ap (λ (k : ℕ). either (eqb (num g) k) false) (sym own_is) ∙ ap (λ (t : Bool). either t false) (owned g);
        others = λ j v ne l. rw (apart_from j v ne l);
        refuses =
            ap (λ (m : Option ℕ). on_found m true (λ p. false)) (free_once z q ∙ ap (λ (k : ℕ). free_place z (k ∷ [])) (sym own_is))
            ∙ alone_full (slot_of z) (slots_of z) z s.holders f a b w i at_i lw;
        shares = λ p e.
            pointed (q ∷ q ∷ []) p all
            ∙ ap (λ (m : List ℕ). keyed num (decode m)) (point_once z q (p + 1) ∙ sym (taken_is z (q ∷ []) p (sym (free_once z q) ∙ e)))
            ∙ ap (λ (k : ℕ). keyed num (decode (take_of z (k ∷ [])))) (sym own_is)
            ∙ alone_means (slot_of z) (slots_of z) z s.holders f a b w i at_i lw;
        kept = λ p e.
            ap valid (point_once z q (p + 1) ∙ sym (taken_is z (q ∷ []) p (sym (free_once z q) ∙ e)))
            ∙ take_one_valid z s.holders q (omega arith) (omega arith);
      }

  module _ (c : ℕ) (lc : c < 12) where
    abbrev hs : List Holder
    hs = cell c ∷ own ∷ []

    numbers : map num hs ≡ c ∷ q ∷ []
    numbers = rw (cell_number_lem (slot_of z) (slots_of z) c lc, own_is)

    cell-held : Held z i (c ∷ q ∷ []) hs
    cell-held =
        let l = low in
        let all = holders c q (omega arith) (omega arith) in
        record {
          all = all;
          among = λ g.
              ap (λ (ns : List ℕ). is_one eqb ns (num g)) (sym numbers)
              ∙ keyed_one same_holder num hs (own_cell (slot_of z) (slots_of z) c lc, (owned, tt)) g;
          others = λ j v ne l. rw (ne_eqb (12 + 3 * j + v) c (λ e. omega arith), apart_from j v ne l);
          refuses =
              ap (λ (ns : List ℕ). on_found (free_place z ns) true (λ p. false)) (sym numbers)
              ∙ icon_full (slot_of z) (slots_of z) z s.holders f a b w i at_i lw c lc;
          shares = λ p e.
              pointed (c ∷ q ∷ []) p all
              ∙ ap (λ (m : List ℕ). keyed num (decode m)) (sym (taken_is z (c ∷ q ∷ []) p e))
              ∙ ap (λ (ns : List ℕ). keyed num (decode (take_of z ns))) (sym numbers)
              ∙ icon_means (slot_of z) (slots_of z) z s.holders f a b w i at_i lw c lc;
          kept = λ p e. ap valid (sym (taken_is z (c ∷ q ∷ []) p e)) ∙ take_valid z s.holders c q lc (omega arith) (omega arith);
        }

-- ---- the holders of an order's icon

-- a cell that is named stands beside its pointer
pub beside_cell : (c pointer : ℕ) → c < 12 → beside_of c pointer ≡ c
unfolding beside_of
beside_cell c pointer l = rw (lt-leb 12 c l)

pub beside_small : (c pointer : ℕ) → pointer < 156 → beside_of c pointer < 156
unfolding beside_of
beside_small c pointer l = go (leb 12 c) refl
  where
    go : (t : Bool) → leb 12 c ≡ t → pick t pointer c < 156
    go true e = l
    go false e = let m = leb-false 12 c e in omega arith

pub held : (z s : List ℕ) (o : RecordOrder) (i : ℕ) → Sound z → Ordered s o → slot_of z o.family o.window.id o.notify.id ≡ Some i
    → brings_icon o.flags ≡ true → Held z i (cell_for s o i ∷ pointer_for i o.flags ∷ []) (holders_of s o)
unfolding beside_of
held z s o i sound h at_i t = go (leb 12 (cell_at s o.icon)) refl (sym (icon_names s o h t))
  where
    small : which_of o.flags < 3
    small = which_small o.flags

    go : (u : Bool) → leb 12 (cell_at s o.icon) ≡ u → sent_once s o.icon ≡ leb 12 (cell_at s o.icon)
        → Held z i (pick (leb 12 (cell_at s o.icon)) (pointer_for i o.flags) (cell_at s o.icon) ∷ pointer_for i o.flags ∷ []) (holders_of s o)
    go true e n = rw (n, e) (alone_held z sound o.family o.window.id o.notify.id (which_of o.flags) i at_i small)
    go false e n =
        rw (n, e)
        (cell-held z sound o.family o.window.id o.notify.id (which_of o.flags) i at_i small (cell_at s o.icon) (leb-false 12 (cell_at s o.icon) e))
