-- Outcomes of calls: refusals of every number, and grants, by the log of the memory then. Assumes nothing.
use mathlib.Core.Path.{◌≡◌, refl, sym, ap, ◌∙◌}
use mathlib.Core.Bool.{Bool, true, false}
use mathlib.Core.List.{List, []}
use Prim.Native.Nat.{ℕ, ◌-◌}
use native.Mathlib.Omega.{arith}
use borrow.Author.Tests.{ne_eqb}
use Rattle.wire.specs.Parts.{splice}
use Rattle.places.specs.Memory.{places_of}
use Rattle.table.proofs.Past.{same_store}
use Rattle.journal.specs.declared.JournalExtent.{JournalExtent}
use Rattle.journal.specs.Limits.{log_start}
use Rattle.journal.specs.State.{State}
use Rattle.journal.specs.View.{Memory, Past, too_short, well_formed, meets_rule, unformed, formed, view_of}
use Rattle.journal.proofs.Logged.{Logged, marked_in, logged_view, logged_bytes}
use Rattle.session.specs.declared.Reply.{Reply}
use Rattle.session.specs.Calls.{Call, reset, deliver, checkpoint, undo, look, write_record, Payload, nothing, Answer, refuse, grant, is_reset, answer, next, answer_view, next_view}
use Rattle.session.specs.Outcome.{Request, plain, Response, replied, handed, size_for, bytes_for, reply_of, answer_within, out_after_of, response_of, CallOutcome}
use Rattle.wire.proofs.Tests.{clash}

-- ---- a call that leaves the memory as it is

pub same_past : (m : Memory) → Past m m
same_past m = record { index = refl; bodies = refl; store = same_store (places_of m.index) m.store; journal = refl }

pub stays : (q : Request) (m : Memory) {a : Answer} {r : Response} → answer_view q.call (view_of m) ≡ a → next_view q.call (view_of m) ≡ view_of m
    → r ≡ response_of q a → CallOutcome q m r m
stays q m e f g = record { says = g ∙ ap (response_of q) (sym e); holds = sym f; kept = λ h. refl; past = same_past m }

-- a refusal, whatever the call
pub refused : (q : Request) (m : Memory) (n : ℕ) {r : Reply} → (n ≡ 0 → ⊥) → answer_view q.call (view_of m) ≡ refuse n → next_view q.call (view_of m) ≡ view_of m
    → r ≡ reply_of (refuse n) → CallOutcome q m (handed r q.out) m
unfolding response_of answer_within out_after_of
refused q m n h e f g = let z = ne_eqb n 0 h in stays q m e f (rw (g, z, z))

-- 1: too short
pub refused_short : (q : Request) (m : Memory) {r : Reply} → too_short m ≡ true → r ≡ reply_of (refuse 1) → CallOutcome q m (handed r q.out) m
unfolding view_of answer_view next_view
refused_short q m t e = refused q m 1 (λ z. omega (arith, z)) (rw t) (rw t) e

-- memory that is not well formed stays so under any call but emptying
unformed_stays : (c : Call) → is_reset c ≡ false → next_view c unformed ≡ unformed
unfolding next_view
unformed_stays (reset n) e = clash e
unformed_stays (deliver o) e = refl
unformed_stays checkpoint e = refl
unformed_stays (undo k) e = refl
unformed_stays (look target) e = refl
unformed_stays write_record e = refl

-- 1: the rule is not met
pub refused_unmet : (q : Request) (m : Memory) {r : Reply} → is_reset q.call ≡ false → meets_rule m ≡ false → r ≡ reply_of (refuse 1) → CallOutcome q m (handed r q.out) m
refused_unmet q m {r = r} c u e = go (too_short m) (well_formed m) refl refl
  where
    unformed-is : too_short m ≡ false → well_formed m ≡ false → view_of m ≡ unformed
    unformed-is t w = unfold view_of in rw (t, w)

    go : (a b : Bool) → too_short m ≡ a → well_formed m ≡ b → CallOutcome q m (handed r q.out) m
    go true b x y = refused_short q m x e
    go false false x y =
        let v = unformed-is x y in
        refused q m 1 (λ z. omega (arith, z)) (unfold answer_view in rw (v, c)) (rw v (unformed_stays q.call c)) e
    go false true x y = clash (sym (rw (x, y)) ∙ u)

-- ---- on a memory that meets the rule

abbrev pub state_in : Memory → List (List ℕ) → State
state_in m os = record { marked = marked_in m; log = os }

module _ {m : Memory} {w : JournalExtent} {os : List (List ℕ)} (l : Logged m w os) where
  pub answer_in : (c : Call) → answer_view c (view_of m) ≡ answer c (state_in m os)
  unfolding answer_view
  answer_in c = rw (logged_view l)

  pub next_in : (c : Call) → next_view c (view_of m) ≡ formed (next c (state_in m os))
  unfolding next_view
  next_in c = rw (logged_view l)

  pub refused_in : (q : Request) (n : ℕ) {r : Reply} → (n ≡ 0 → ⊥) → answer q.call (state_in m os) ≡ refuse n → next q.call (state_in m os) ≡ state_in m os
      → r ≡ reply_of (refuse n) → CallOutcome q m (handed r q.out) m
  refused_in q n h e f g = refused q m n h (answer_in q.call ∙ e) (next_in q.call ∙ ap formed f ∙ sym (logged_view l)) g

  -- what a grant reports
  pub reply_in : (p : Payload) → ◌≡◌ {A = Reply} (record { number = 0; count = w.count; bytes = w.end - log_start }) (reply_of (grant os p))
  reply_in p = rw (l.many, logged_bytes l)

-- a grant that hands nothing out, by the log of the memory then
pub granted : (c : Call) {m m' : Memory} {w : JournalExtent} {os : List (List ℕ)} {r : Reply} → size_for c nothing ≡ 0 → bytes_for c nothing ≡ [] → Logged m' w os
    → answer_view c (view_of m) ≡ grant os nothing → next_view c (view_of m) ≡ formed (state_in m' os) → r ≡ record { number = 0; count = w.count; bytes = w.end - log_start }
    → Past m m' → CallOutcome (plain c) m (replied r) m'
unfolding response_of answer_within out_after_of splice
granted c {os = os} {r = r} room none l a n e p =
    let g : r ≡ reply_of (grant os nothing) = e ∙ reply_in l nothing in
    record {
      says = rw (a, room, none, g);
      holds = logged_view l ∙ sym n;
      kept = λ h. absurd (h (ap (λ (x : Reply). x.number) e));
      past = p;
    }
