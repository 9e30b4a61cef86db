-- From tables to states and memory: where the history has room, a delivery's number and table are those of the order on the
-- present table. Assumes nothing.
use Prim.Native.Nat.{ℕ, ◌+◌, ◌≤◌}
use mathlib.Core.Path.{◌≡◌, refl, sym, ap, ◌∙◌}
use mathlib.Core.Bool.{Bool, true, false, not}
use mathlib.Core.List.{List, [], ◌∷◌, ◌++◌}
use native.Mathlib.Omega.{arith}
use lib.Dec.{eqb, ltb}
use lib.ListN.{length, length-append}
use borrow.Author.Tests.{eqb-true, le-ltb}
use Rattle.wire.specs.Tests.{pick, both, either}
use Rattle.table.specs.Table.{Table, number, after}
use Rattle.journal.specs.Limits.{most_orders, most_bytes}
use Rattle.journal.specs.State.{State, run, present, bytes_in}
use Rattle.journal.specs.View.{Memory, formed, view_of}
use Rattle.journal.proofs.Runs.{run_append, bytes_append}
use Rattle.session.specs.Calls.{deliver, nothing, Answer, refuse, grant, over_full, answer, answer_view, next, next_view}
use Rattle.session.specs.Outcome.{plain, Response, response_of, answer_within, CallOutcome}
use Rattle.model.proofs.Demand3.{moved}
use Rattle.side_by_side.specs.SideBySide.{EitherWay, Claim, SideBySide, SameTable, BothWays}
use Rattle.side_by_side.proofs.Windows.{change_by, Swaps, windows_swap}

-- ---- a delivery that the history has room for

pub record Room (s : State) (o : List ℕ) : Type 0 where
  pub orders : length s.log + 1 ≤ most_orders
  pub bytes : bytes_in s.log + length o ≤ most_bytes

abbrev with_order_lem : State → List ℕ → State
with_order_lem s o = record { marked = s.marked; log = s.log ++ (o ∷ []) }

module _ (s : State) (o : List ℕ) where
  not_full : Room s o → over_full s.log o ≡ false
  not_full r =
      let a : ltb most_orders (length s.log + 1) ≡ false = le-ltb most_orders (length s.log + 1) r.orders in
      let b : ltb most_bytes (bytes_in s.log + length o) ≡ false = le-ltb most_bytes (bytes_in s.log + length o) r.bytes in
      rw (a, b)

  joined_table : run s.marked (s.log ++ (o ∷ [])) ≡ after (present s) o
  unfolding run
  joined_table = run_append s.marked s.log (o ∷ [])

  pub delivered_table : Room s o → present (next (deliver o) s) ≡ after (present s) o
  unfolding next after
  delivered_table r = rw (not_full r) (go (eqb (number (present s) o) 0) refl)
    where
      go : (t : Bool) → eqb (number (present s) o) 0 ≡ t
          → present (pick (either (not t) false) s (with_order_lem s o)) ≡ pick t (change_by (present s) o) (present s)
      go true e = joined_table ∙ rw e
      go false e = refl

  pub delivered_number : Room s o → (answer (deliver o) s).number ≡ number (present s) o
  unfolding answer
  delivered_number r = rw (not_full r) (go (eqb (number (present s) o) 0) refl)
    where
      go : (t : Bool) → eqb (number (present s) o) 0 ≡ t
          → (pick (not t) (refuse (number (present s) o)) (grant (s.log ++ (o ∷ [])) nothing)).number ≡ number (present s) o
      go true e = sym (eqb-true (number (present s) o) 0 e)
      go false e = refl

  grown : (t : Bool) → (length (pick t s (with_order_lem s o)).log ≤ length s.log + 1) × (bytes_in (pick t s (with_order_lem s o)).log ≤ bytes_in s.log + length o)
  unfolding bytes_in
  grown true = (omega arith, omega arith)
  grown false = (omega (arith, length-append s.log (o ∷ [])), omega (arith, bytes_append s.log (o ∷ [])))

  pub log_grows : (length (next (deliver o) s).log ≤ length s.log + 1) × (bytes_in (next (deliver o) s).log ≤ bytes_in s.log + length o)
  unfolding next
  log_grows = grown (either (not (eqb (number (present s) o) 0)) (over_full s.log o))

-- ---- two of them

module _ (s : State) (a b : List ℕ) (orders : length s.log + 2 ≤ most_orders) (bytes : bytes_in s.log + length a + length b ≤ most_bytes) where
  first_room : Room s a
  first_room = record { orders = omega arith; bytes = omega arith }

  second_room : Room s b
  second_room = record { orders = omega arith; bytes = omega arith }

  first_after : Room (next (deliver b) s) a
  first_after = let g = log_grows s b in record { orders = omega (arith, g.0); bytes = omega (arith, g.1) }

  second_after : Room (next (deliver a) s) b
  second_after = let g = log_grows s a in record { orders = omega (arith, g.0); bytes = omega (arith, g.1) }

  -- whatever the two orders are, if only they swap on the present table
  pub swaps_either_way : Swaps (present s) a b → EitherWay s a b
  swaps_either_way w =
      record {
        first =
            delivered_number (next (deliver b) s) a first_after
            ∙ ap (λ (t : Table). number t a) (delivered_table s b second_room)
            ∙ w.first
            ∙ sym (delivered_number s a first_room);
        second =
            delivered_number (next (deliver a) s) b second_after
            ∙ ap (λ (t : Table). number t b) (delivered_table s a first_room)
            ∙ w.second
            ∙ sym (delivered_number s b second_room);
        table =
            delivered_table (next (deliver a) s) b second_after
            ∙ ap (λ (t : Table). after t b) (delivered_table s a first_room)
            ∙ w.end
            ∙ sym (delivered_table (next (deliver b) s) a first_after ∙ ap (λ (t : Table). after t a) (delivered_table s b second_room));
      }

pub side_by_side : SideBySide
unfolding SideBySide Claim
side_by_side s a b x y c p = swaps_either_way s a b p.orders p.bytes (windows_swap (present s) a b x y p.named p.few c p.first p.second)

-- ---- on memory

-- a delivery hands nothing out, so its reply has the number of its answer
reply_number : (o : List ℕ) (a : Answer) → (response_of (plain (deliver o)) a).reply.number ≡ a.number
unfolding response_of answer_within
reply_number o a = go (eqb a.number 0)
  where
    go : (t : Bool) → (pick (both t false) (refuse 14) a).number ≡ a.number
    go true = refl
    go false = refl

answered : (o : List ℕ) (s : State) → answer_view (deliver o) (formed s) ≡ answer (deliver o) s
unfolding answer_view
answered o s = refl

module _ {m m' : Memory} (s : State) (o : List ℕ) {r : Response} (v : view_of m ≡ formed s) (d : CallOutcome (plain (deliver o)) m r m') where
  says_number : r.reply.number ≡ (answer (deliver o) s).number
  says_number =
      ap (λ (x : Response). x.reply.number) d.says
      ∙ reply_number o (answer_view (deliver o) (view_of m))
      ∙ ap (λ (a : Answer). a.number) (ap (answer_view (deliver o)) v ∙ answered o s)

  leaves_view : view_of m' ≡ formed (next (deliver o) s)
  leaves_view = d.holds ∙ ap (next_view (deliver o)) v ∙ moved (deliver o) s

-- the two runs from a state on which the orders go either way
pub runs_agree : (m e e' : Memory) (s : State) (a b : List ℕ) (p q p' q' : Response) → view_of m ≡ formed s → EitherWay s a b → BothWays a b m e e' p q p' q'
    → (p'.reply.number ≡ p.reply.number) × (q'.reply.number ≡ q.reply.number) × SameTable e e'
runs_agree m e e' s a b p q p' q' v w k =
    let va = leaves_view s a v k.a_first in
    let vb = leaves_view s b v k.b_first in
    let same : SameTable e e' =
    record {
      one = next (deliver b) (next (deliver a) s);
      other = next (deliver a) (next (deliver b) s);
      describes = leaves_view (next (deliver a) s) b va k.then_b;
      describes' = leaves_view (next (deliver b) s) a vb k.then_a;
      table = w.table;
    } in (
      says_number (next (deliver b) s) a vb k.then_a ∙ w.first ∙ sym (says_number s a v k.a_first),
      says_number s b v k.b_first ∙ sym w.second ∙ sym (says_number (next (deliver a) s) b va k.then_b),
      same,
    )
