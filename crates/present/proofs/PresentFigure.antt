-- The figure of the present table: each window that is followed from the mark has the fields that the table has under its id, and
-- the sums over the slots are those over the ids. Assumes nothing.
use mathlib.Core.Path.{◌≡◌, refl, sym, ap, ◌∙◌}
use mathlib.Core.Bool.{Bool, true, false}
use mathlib.Core.List.{List}
use Prim.Native.Nat.{ℕ, ◌+◌, ◌≤◌}
use native.Mathlib.Omega.{arith}
use mir.Val.{bool_byte}
use lib.ListN.{replicate}
use borrow.Author.Tests.{eq-eqb, ne_eqb}
use Rattle.std.specs.Prelude.{Option, Some, None}
use Rattle.wire.specs.Tests.{pick}
use Rattle.wire.specs.Numbers.{num_at, Bytes}
use Rattle.wire.proofs.Parts.{length_zeros}
use Rattle.protocol.specs.declared.WindowId.{WindowId}
use Rattle.places.specs.declared.Family.TheVariants as family
use Rattle.places.specs.Counts.{on_found}
use Rattle.places.proofs.Counting.{found}
use Rattle.slots.specs.Families.{index_length, slot_at}
use Rattle.slots.specs.Slots.{used_at, first_id, is_used, is_at, slot_of}
use Rattle.slots.specs.Sound.{sound_index}
use Rattle.slots.proofs.Soundness.{sound_has, at_has}
use Rattle.index.specs.Index.{Index}
use Rattle.index.specs.Memory.{index_of}
use Rattle.body.specs.Bodies.{Body, window_fields, body_of}
use Rattle.area.specs.Area.{sum_below, one}
use Rattle.area.specs.Cutting.{most_points}
use Rattle.area.proofs.Counting.{sum_cong}
use Rattle.figure.specs.declared.Figure.{Figure}
use Rattle.figure.specs.Figure.{is_shown, pixels_of, id_end, of_window, figure_by}
use Rattle.figure.proofs.FigureSums.{counts}
use Rattle.figure.proofs.FigureIds.{ids_slots}
use Rattle.table.specs.Table.{Table}
use Rattle.follow.specs.declared.Want.TheVariants as want
use Rattle.follow.specs.Follow.{record_room, held_slot, Holds}
use Rattle.journal.specs.State.{present}
use Rattle.journal.specs.Journal.{count_of}
use Rattle.journal.specs.View.{Memory, meets_rule, state_of}
use Rattle.journal.specs.Replay.{from_mark, Replayed}
use Rattle.journal.proofs.Validations.{from_mark_means}
use Rattle.present.specs.TableFigure.{unmarked, window_in, figure_in}
use Rattle.present.specs.PresentFigure.{window_held, held_at, shown_one, FigureIs, figure_held, no_figure, PresentHasFigure}

-- ---- marks do not count

pub shown_unmarked : (b : Body) → shown_one b ≡ shown_one (unmarked b.fields)
unfolding is_shown
shown_unmarked b = refl

pub pixels_unmarked : (b : Body) → pixels_of b ≡ pixels_of (unmarked b.fields)
unfolding pixels_of is_shown
pixels_unmarked b = refl

-- ---- the windows of the present table

module _ (m : Memory) (x : List ℕ) (journal : Bytes m.journal) (met : meets_rule m ≡ true) (same : index_of x ≡ (present (state_of m)).index) where
  abbrev table : Table
  table = present (state_of m)

  abbrev held : ℕ → Body
  held id = window_held m.index m.bodies m.journal (count_of m.journal) (record { id = id })

  held_fields : (id : ℕ) → table.index.listed family.Windows id 0 ≡ true → (held id).fields ≡ table.fields family.Windows id 0
  unfolding window_held body_of Holds
  held_fields id e =
      (from_mark_means (Some (want.Window (record { id = id }))) m (replicate index_length 0) (replicate (record_room family.Windows) 0) journal (length_zeros index_length)
      (length_zeros (record_room family.Windows)) met).holds.0.fields e

  listed_is : (id : ℕ) → table.index.listed family.Windows id 0 ≡ on_found (slot_of x family.Windows id 0) false (λ i. true)
  unfolding index_of
  listed_is id = ap (λ (d : Index). d.listed family.Windows id 0) (sym same)

  module _ (f : Body → ℕ) (fair : (b : Body) → f b ≡ f (unmarked b.fields)) where
    -- one that is listed, by its id
    some-held : (id : ℕ) → table.index.listed family.Windows id 0 ≡ true → f (held id) ≡ of_window f (window_in table id)
    some-held id e = fair (held id) ∙ ap (λ (fs : List (List ℕ)). f (unmarked fs)) (held_fields id e) ∙ rw e

    by_id : (id : ℕ) → on_found (slot_of x family.Windows id 0) 0 (λ i. f (held (first_id x i))) ≡ of_window f (window_in table id)
    by_id id = go (slot_of x family.Windows id 0) refl
      where
        go : (r : Option ℕ) → slot_of x family.Windows id 0 ≡ r → on_found r 0 (λ i. f (held (first_id x i))) ≡ of_window f (window_in table id)
        go None e =
            let l : table.index.listed family.Windows id 0 ≡ false = listed_is id ∙ rw e in
            rw l
        go (Some i) e =
            let l : table.index.listed family.Windows id 0 ≡ true = listed_is id ∙ rw e in
            ap (λ (k : ℕ). f (held k)) (at_has x id 0 i (found 32 0 (is_at x id 0) i e).2).first ∙ some-held id l

    held-sum : Bytes x → sound_index x ≡ true
        → sum_below 32 (held_at f x m.index m.bodies m.journal (count_of m.journal)) ≡ sum_below id_end (λ id. of_window f (window_in table id))
    held-sum bytes sound =
        sym (ids_slots x bytes (sound_has x sound) (λ i. f (held (first_id x i))))
        ∙ sum_cong id_end (λ id. on_found (slot_of x family.Windows id 0) 0 (λ i. f (held (first_id x i)))) (λ id. of_window f (window_in table id)) by_id

pub present_has_figure : PresentHasFigure
unfolding PresentHasFigure figure_held figure_in figure_by
present_has_figure m x journal bytes met sound same =
    let windows = held-sum m x journal met same shown_one shown_unmarked bytes sound in
    let pixels = held-sum m x journal met same pixels_of pixels_unmarked bytes sound in
    (λ k. record { windows = windows k; pixels = pixels k })

-- ---- what the functions answer

-- a slot, from the memory that it is
pub slot_figure : {part slot : List ℕ} {shown : Bool} {p : ℕ} → part ≡ slot → shown ≡ is_shown (body_of window_fields part)
    → (p ≡ pixels_of (body_of window_fields part)) × (p ≤ most_points)
    → FigureIs (record { windows = bool_byte shown; pixels = p }) (shown_one (body_of window_fields slot)) (pixels_of (body_of window_fields slot))
slot_figure {shown = shown} same s p =
    record {
      windows = (counts shown).0 ∙ ap one (s ∙ ap (λ (x : List ℕ). is_shown (body_of window_fields x)) same);
      pixels = p.0 ∙ ap (λ (x : List ℕ). pixels_of (body_of window_fields x)) same;
      few = (counts shown).1;
      most = p.1;
    }

-- a window, from its slot
pub window_figure : (index bodies journal : List ℕ) (n : ℕ) (w : WindowId) {e : ℕ} {d m : List ℕ} {shown : Bool} {p : ℕ}
    → Replayed (from_mark (Some (want.Window w)) index bodies journal n (replicate index_length 0) (replicate (record_room family.Windows) 0)) e d m
    → shown ≡ is_shown (body_of window_fields (held_slot family.Windows m)) → (p ≡ pixels_of (body_of window_fields (held_slot family.Windows m))) × (p ≤ most_points)
    → FigureIs (record { windows = bool_byte shown; pixels = p }) (shown_one (window_held index bodies journal n w)) (pixels_of (window_held index bodies journal n w))
unfolding window_held
window_figure index bodies journal n w r s p = slot_figure (ap (held_slot family.Windows) r.followed) s p

module _ (x index bodies journal : List ℕ) (n i : ℕ) {u : ℕ} (read : u ≡ num_at 1 x (slot_at i)) where
  used_read : {t : Bool} → is_used x i ≡ t → (f : Body → ℕ)
      → held_at f x index bodies journal n i ≡ pick t (f (window_held index bodies journal n (record { id = first_id x i }))) 0
  used_read e f = ap (λ (t : Bool). pick t (f (window_held index bodies journal n (record { id = first_id x i }))) 0) e

  pub no_window : (u ≡ 1 → ⊥) → {r : Figure} → r ≡ no_figure → FigureIs r (held_at shown_one x index bodies journal n i) (held_at pixels_of x index bodies journal n i)
  no_window h {r = r} z =
      let e : is_used x i ≡ false = unfold is_used used_at in ne_eqb (num_at 1 x (slot_at i)) 1 (λ z. h (read ∙ z)) in
      let w : r.windows ≡ 0 = ap (λ (f : Figure). f.windows) z in
      let p : r.pixels ≡ 0 = ap (λ (f : Figure). f.pixels) z in
      record { windows = w ∙ sym (used_read e shown_one); pixels = p ∙ sym (used_read e pixels_of); few = omega (arith, w); most = omega (arith, p) }

  pub a_window : u ≡ 1 → {id : ℕ} {r : Figure} → id ≡ num_at 4 x (slot_at i + 1)
      → FigureIs r (shown_one (window_held index bodies journal n (record { id = id }))) (pixels_of (window_held index bodies journal n (record { id = id })))
      → FigureIs r (held_at shown_one x index bodies journal n i) (held_at pixels_of x index bodies journal n i)
  a_window h {id = id} is f =
      let e : is_used x i ≡ true = unfold is_used used_at in eq-eqb (num_at 1 x (slot_at i)) 1 (sym read ∙ h) in
      let own : id ≡ first_id x i = unfold first_id in is in
      let same = ap (λ (k : ℕ). window_held index bodies journal n (record { id = k })) own in
      record {
        windows = f.windows ∙ ap shown_one same ∙ sym (used_read e shown_one);
        pixels = f.pixels ∙ ap pixels_of same ∙ sym (used_read e pixels_of);
        few = f.few;
        most = f.most;
      }

-- all slots
pub all_held : (x index bodies journal : List ℕ) (n : ℕ) {w p k : ℕ} → k ≡ 32 → w ≡ sum_below k (held_at shown_one x index bodies journal n)
    → p ≡ sum_below k (held_at pixels_of x index bodies journal n) → ◌≡◌ {A = Figure} (record { windows = w; pixels = p }) (figure_held x index bodies journal n)
unfolding figure_held
all_held x index bodies journal n ek ew ep = rw (ew, ep, ek)
