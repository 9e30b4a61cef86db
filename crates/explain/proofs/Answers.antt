-- What the code answers is the explanation. Assumes nothing.
use mathlib.Core.Path.{◌≡◌, refl, sym, ap, ◌∙◌}
use mathlib.Core.Bool.{Bool, true, false}
use mathlib.Core.List.{List, [], ◌∷◌, ◌++◌}
use Prim.Native.Nat.{ℕ}
use native.Mathlib.Omega.{arith}
use lib.Dec.{eqb}
use borrow.Author.Tests.{eqb-true, ne_eqb}
use Rattle.std.specs.Prelude.{Ok, Err}
use Rattle.wire.specs.Tests.{pick}
use Rattle.wire.specs.Numbers.{Bytes}
use Rattle.order.specs.declared.WindowOrder.{WindowOrder}
use Rattle.order.specs.declared.NotificationOrder.{NotificationOrder}
use Rattle.order.specs.declared.DesktopOrder.{DesktopOrder}
use Rattle.order.proofs.Verdicts.{has_number}
use Rattle.order.specs.Judge.{Judged, number_of, judge_of}
use Rattle.index.specs.Index.{Index, number_in}
use Rattle.index.specs.Plans.{plan_of, plan_number}
use Rattle.index.specs.Steps.{step_number}
use Rattle.index.specs.declared.Plan.{Plan}
use Rattle.journal.specs.declared.JournalExtent.{JournalExtent}
use Rattle.journal.specs.State.{run}
use Rattle.journal.specs.View.{Memory, too_short, well_formed, meets_rule, view_of}
use Rattle.journal.proofs.Logged.{marked_in, logged_low, logged_high}
use Rattle.journal.proofs.Indexed.{Indexed}
use Rattle.journal.proofs.Replays.{number_on_lem}
use Rattle.table.specs.Table as table
use Rattle.session.specs.Calls.{Answer, deliver, nothing, refuse, grant, answer_view}
use Rattle.session.specs.Delivery.{is_full, number_on}
use Rattle.session.proofs.Outcomes.{answer_in}
use Rattle.session.proofs.Deliveries.{answers}
use Rattle.explain.specs.declared.Explanation.{Explanation}
use Rattle.explain.specs.Explain.{offset_of, explained, explain}
use Rattle.explain.specs.Steps.{Judgeable, explanation, on_table, by_judged, on_state}
use Rattle.explain.proofs.Offsets.{Tells, judged_tells, passed_seven}

-- ---- the ways through the code

module _ (d s : List ℕ) (w : JournalExtent) {p : Plan} (is : p ≡ plan_of d s) {n : ℕ} (told : n ≡ plan_number p) where
  number_is : plan_number (plan_of d s) ≡ n
  number_is = sym (told ∙ ap plan_number is)

  pub table_refused : (n ≡ 0 → ⊥) → explanation n 7 ≡ on_table d s w
  unfolding on_table number_on step_number
  table_refused h = let z = ne_eqb n 0 h in rw (number_is, z, z)

  module _ (zero : n ≡ 0) where
    pub table_full_lem : is_full w s ≡ true → explanation 12 7 ≡ on_table d s w
    unfolding on_table number_on step_number
    table_full_lem f = rw (number_is, zero, f)

    pub table_done : is_full w s ≡ false → explanation 0 0 ≡ on_table d s w
    unfolding on_table number_on step_number
    table_done f = rw (number_is, zero, f)

-- ---- the explanation

-- 1
pub explained_unmet : (s : List ℕ) (m : Memory) → meets_rule m ≡ false → explanation 1 0 ≡ explain s m
unfolding explain view_of answer_view offset_of
explained_unmet s m u = go (too_short m) (well_formed m) refl refl
  where
    go : (a b : Bool) → too_short m ≡ a → well_formed m ≡ b → explanation 1 0 ≡ explain s m
    go true b x y = rw x
    go false false x y = rw (x, y)
    go false true x y = let z : ◌≡◌ {A = ℕ} 0 1 = absurd (no (sym (rw (x, y)) ∙ u)) in absurd (omega arith)
      where
        no : ◌≡◌ {A = Bool} true false → ⊥
        no e = let z : ◌≡◌ {A = ℕ} 0 1 = cc in omega arith

module _ {m : Memory} {w : JournalExtent} {d : List ℕ} {os : List (List ℕ)} (i : Indexed m w d os) (s : List ℕ) (bytes : Bytes s) where
  abbrev t : Index
  t = (run (marked_in m) os).index

  plan_is : plan_number (plan_of d s) ≡ number_in t s
  plan_is = number_on_lem (run (marked_in m) os) d s i.index bytes i.sound ∙ (unfold table.number in refl)

  pub judgeable : Judgeable d w
  judgeable = let l = i.logged in record { sound = i.sound; few = l.few; low = logged_low l; high = logged_high l }

  -- the number that delivery gives
  pub delivered : (answer_view (deliver s) (view_of m)).number ≡ number_on d w s
  delivered = ap (λ (a : Answer). a.number) (answer_in i.logged (deliver s) ∙ answers i s bytes) ∙ go (eqb (number_on d w s) 0) refl
    where
      go : (b : Bool) → eqb (number_on d w s) 0 ≡ b → (pick b (grant (os ++ (s ∷ [])) nothing) (refuse (number_on d w s))).number ≡ number_on d w s
      go true e = sym (eqb-true (number_on d w s) 0 e)
      go false e = refl

  -- of an order that passes the bytes' rules the offset is 7
  seven : (j : Judged) → judge_of s ≡ j → number_of j ≡ 0 → pick (eqb (number_on d w s) 0) 0 7 ≡ offset_of (number_on d w s) s
  unfolding number_on step_number
  seven j e z = go (eqb (plan_number (plan_of d s)) 0) (is_full w s) refl
    where
      passed : offset_of (plan_number (plan_of d s)) s ≡ pick (eqb (plan_number (plan_of d s)) 0) 0 7
      passed = rw plan_is (unfold number_in in rw e (passed_seven s t j z))

      go : (a b : Bool) → eqb (plan_number (plan_of d s)) 0 ≡ a
          → pick (eqb (pick a (pick b 12 0) (plan_number (plan_of d s))) 0) 0 7 ≡ offset_of (pick a (pick b 12 0) (plan_number (plan_of d s))) s
      go true true x = unfold offset_of in refl
      go true false x = unfold offset_of in refl
      go false b x = sym passed

  -- of a refusal by its bytes it is the one that judging tells
  refused_number : (j : Judged) → judge_of s ≡ j → (number_of j ≡ 0 → ⊥) → number_on d w s ≡ number_of j
  unfolding number_on step_number plan_of
  refused_number (Ok o) e h = absurd (h refl)
  refused_number (Err f) e h = rw (e, ne_eqb (number_of (Err f)) 0 h)

  pub explained_is : on_state d s w ≡ explain s m
  unfolding explain on_state on_table
  explained_is = rw delivered (go (judge_of s) refl (judged_tells s bytes))
    where
      go : (j : Judged) → judge_of s ≡ j → Tells s (judge_of s) → by_judged j (explanation (number_on d w s) (pick (eqb (number_on d w s) 0) 0 7)) ≡ explained (number_on d w s) s
      go (Ok o) e k = ap (explanation (number_on d w s)) (seven (Ok o) e refl)
      go (Err f) e k =
          let told : f.at ≡ offset_of (number_of (Err f)) s = unfold Tells in rw e at k in
          rw (refused_number (Err f) e (has_number f.refusal)) (ap (explanation (number_of (Err f))) told)
