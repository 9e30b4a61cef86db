-- The answers of the call: 1, 14 and the figure; and after a checkpoint. Assumes nothing.
use mathlib.Core.Path.{◌≡◌, refl, sym, ap, ◌∙◌}
use mathlib.Core.Bool.{Bool, true, false}
use mathlib.Core.List.{List, []}
use Prim.Native.Nat.{ℕ, ◌-◌, ◌<◌, ◌≤◌}
use lib.ListN.{length}
use borrow.Author.Tests.{lt-ltb, le-ltb}
use Rattle.wire.specs.Parts.{splice}
use Rattle.wire.proofs.Numbers.{Bytes}
use Rattle.figure.specs.declared.Figure.{Figure}
use Rattle.figure.specs.Figure.{figure_length, figure_bytes}
use Rattle.figure.specs.Kept.{kept_figure}
use Rattle.figure.proofs.KeptFigures.{kept_figure_lem}
use Rattle.store.specs.Store.{places_in}
use Rattle.table.proofs.Rule.{table_has}
use Rattle.journal.specs.declared.JournalExtent.{JournalExtent}
use Rattle.journal.specs.Limits.{log_start}
use Rattle.journal.specs.State.{present}
use Rattle.journal.specs.View.{Memory, View, short, unformed, formed, too_short, well_formed, meets_rule, view_of}
use Rattle.journal.proofs.Logged.{Logged, marked_in, logged_view}
use Rattle.present.specs.TableFigure.{figure_in}
use Rattle.session.specs.declared.Reply.{Reply}
use Rattle.session.specs.Calls.{checkpoint, nothing, refuse, next, next_view}
use Rattle.session.specs.Outcome.{reply_of}
use Rattle.session.proofs.Outcomes.{reply_in}
use Rattle.visible.specs.TableFigure.{MemoryHasFigure}
use Rattle.visible.specs.Outcome.{figure_answer, figure_out, FigureOutcome, AtTheMark}
use Rattle.visible.proofs.TableFigure.{memory_has_figure}
use Rattle.wire.proofs.Tests.{clash}

-- 1: the rule is not met
pub figure_unmet : (m : Memory) (out : List ℕ) {r : Reply} → meets_rule m ≡ false → r ≡ reply_of (refuse 1) → FigureOutcome m out r out
figure_unmet m out {r = r} u e = go (too_short m) (well_formed m) refl refl
  where
    short_is : too_short m ≡ true → view_of m ≡ short
    short_is t = unfold view_of in rw t

    unformed-is : too_short m ≡ false → well_formed m ≡ false → view_of m ≡ unformed
    unformed-is t w = unfold view_of in rw (t, w)

    by : (v : View) → view_of m ≡ v → reply_of (refuse 1) ≡ reply_of (figure_answer v (length out)) → out ≡ figure_out v out → FigureOutcome m out r out
    by v is a b =
        record {
          says = e ∙ a ∙ ap (λ (x : View). reply_of (figure_answer x (length out))) (sym is);
          gives = b ∙ ap (λ (x : View). figure_out x out) (sym is);
        }

    go : (a b : Bool) → too_short m ≡ a → well_formed m ≡ b → FigureOutcome m out r out
    go true b x y = by short (short_is x) (unfold figure_answer in refl) (unfold figure_out in refl)
    go false false x y = by unformed (unformed-is x y) (unfold figure_answer in refl) (unfold figure_out in refl)
    go false true x y = clash (sym (rw (x, y)) ∙ u)

module _ {m : Memory} {w : JournalExtent} {os : List (List ℕ)} (l : Logged m w os) (out : List ℕ) where
  -- 14: the output is too small
  pub figure_small : {r : Reply} → length out < figure_length → r ≡ reply_of (refuse 14) → FigureOutcome m out r out
  unfolding figure_answer figure_out
  figure_small h e =
      let v = logged_view l in
      let t = lt-ltb (length out) figure_length h in
      record { says = e ∙ rw (v, t); gives = rw (v, t) }

  -- the memory stores the figure of the table at the mark
  pub marked_figure : Bytes m.index → kept_figure m.index ≡ figure_in (marked_in m)
  unfolding MemoryHasFigure
  marked_figure bytes =
      kept_figure_lem m.index m.bodies l.figures
      ∙ memory_has_figure m.index m.bodies m.store bytes (table_has m.index m.bodies (places_in m.store) l.sound).index

  pub figure_given : {r : Reply} {f : Figure} {out' : List ℕ} → Bytes m.index → figure_length ≤ length out → f ≡ kept_figure m.index
      → out' ≡ splice out 0 (figure_bytes f)
      → r ≡ record { number = 0; count = w.count; bytes = w.end - log_start }
      → FigureOutcome m out r out'
  unfolding figure_answer figure_out
  figure_given bytes h is put e =
      let v = logged_view l in
      let t = le-ltb (length out) figure_length h in
      let f = is ∙ marked_figure bytes in
      record { says = e ∙ reply_in l nothing ∙ rw (v, t); gives = put ∙ ap (λ (x : Figure). splice out 0 (figure_bytes x)) f ∙ rw (v, t) }

-- ---- after a checkpoint

pub at_the_mark : AtTheMark
unfolding AtTheMark next_view next figure_answer figure_out
at_the_mark s m m' out out' c r v k o h =
    let marked : view_of m' ≡ formed (record { marked = present s; log = [] }) = k.holds ∙ ap (next_view checkpoint) v in
    let t = le-ltb (length out) figure_length h in
    record {
      says = o.says ∙ rw (marked, t);
      gives = o.gives ∙ rw (marked, t);
    }
