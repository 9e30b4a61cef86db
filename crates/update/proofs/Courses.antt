-- The loop of an update: the orders granted so far, what they leave of it, and the outcome where it stops. Assumes nothing.
use Prim.Native.Nat.{ℕ, zero, suc, ◌+◌, ◌-◌, ◌≤◌, ◌<◌}
use mathlib.Core.Path.{◌≡◌, refl, sym, ap, subst, ◌∙◌}
use mathlib.Core.Bool.{Bool, true, false}
use mathlib.Core.List.{List, [], ◌∷◌, ◌++◌, append_assoc, append-nil}
use native.Mathlib.Omega.{arith}
use lib.Dec.{eqb, ltb}
use lib.ListN.{length, take, drop, length-append, length-take, length-drop}
use borrow.Author.Tests.{eqb-true, ne_eqb, ltb-true, ltb-false}
use Rattle.wire.specs.Tests.{pick, both}
use Rattle.wire.specs.Parts.{slice}
use Rattle.wire.proofs.Numbers.{Bytes, bytes_slice}
use Rattle.index.specs.declared.Stepped.{Stepped}
use Rattle.journal.specs.declared.JournalExtent.{JournalExtent}
use Rattle.journal.specs.Limits.{log_start, most_orders, journal_length}
use Rattle.journal.specs.State.{State, bytes_in}
use Rattle.journal.specs.Journal.{count_of, end_from}
use Rattle.journal.specs.View.{Memory, Past, too_short, well_formed, meets_rule, short, unformed, formed, view_of}
use Rattle.journal.proofs.Runs.{bytes_append}
use Rattle.journal.proofs.Stored.{stored_reads}
use Rattle.journal.proofs.Logged.{Logged, with_journal, logged_view, logged_bytes, logged_low, logged_high, past_more}
use Rattle.journal.proofs.Indexed.{Indexed}
use Rattle.session.specs.Calls.{deliver, nothing, Answer, refuse, grant, answer, next}
use Rattle.session.specs.Delivery.{Ready, number_on, appended, one_more, DeliveredOn}
use Rattle.session.proofs.Outcomes.{state_in, same_past}
use Rattle.session.proofs.Deliveries.{ready, answers, changes, delivery_again}
use Rattle.update.specs.declared.Report.{Report}
use Rattle.update.specs.Update.{first_size, cut_from, orders_of, Course, stopped, granted_first, deliver_all}
use Rattle.update.specs.Outcome.{report_of, unfit, report_on, next_on, granted_on, with_order, with_orders, UpdateOutcome}
use Rattle.update.proofs.Cuts.{cut_none, cut_at, first_within}

-- ---- 1

pub unfit_outcome : (limit : ℕ) (s : List ℕ) (m : Memory) {r : Report} → meets_rule m ≡ false → r ≡ unfit → UpdateOutcome limit s m r m
unfit_outcome limit s m {r} u e = go (too_short m) (well_formed m) refl refl
  where
    short_is : too_short m ≡ true → view_of m ≡ short
    short_is t = unfold view_of in rw t

    unformed-is : too_short m ≡ false → well_formed m ≡ false → view_of m ≡ unformed
    unformed-is t w = unfold view_of in rw (t, w)

    no : {A : Type 0} → ◌≡◌ {A = Bool} true false → A
    no e = let z : ◌≡◌ {A = ℕ} 0 1 = cc in absurd (omega arith)

    go : (a b : Bool) → too_short m ≡ a → well_formed m ≡ b → UpdateOutcome limit s m r m
    go true b x y =
        let v = short_is x in
        record {
          says = e ∙ sym (unfold report_on in rw v);
          holds = unfold next_on in rw v;
          bytes = unfold granted_on with_orders in rw v;
          past = same_past m;
        }
    go false false x y =
        let v = unformed-is x y in
        record {
          says = e ∙ sym (unfold report_on in rw v);
          holds = unfold next_on in rw v;
          bytes = unfold granted_on with_orders in rw v;
          past = same_past m;
        }
    go false true x y = no (sym (rw (x, y)) ∙ u)

-- ---- the bytes of one order more

with_more : (j : List ℕ) (os : List (List ℕ)) (o : List ℕ) → with_orders j (os ++ (o ∷ [])) ≡ with_order (with_orders j os) o
unfolding with_orders
with_more j [] o = refl
with_more j (x ∷ os) o = with_more (with_order j x) os o

appended_is : {m : Memory} {w : JournalExtent} {os : List (List ℕ)} → Logged m w os → (o : List ℕ) → appended m.journal w o ≡ with_order m.journal o
appended_is {m} {w} {os} l o =
    let n : count_of m.journal ≡ w.count = l.count ∙ sym l.many in
    let e : end_from w.count log_start m.journal ≡ w.end = ap (λ (k : ℕ). end_from k log_start m.journal) l.many ∙ (stored_reads l.stored).end in
    rw (n, e)

-- ---- a course with orders granted before it

abbrev prefixed : List (List ℕ) → Course → Course
prefixed os c = record { granted = os ++ c.granted; number = c.number; state = c.state }

-- what the loop keeps: n orders of at bytes in all are granted, and the rest of the course comes from index at on
pub record Going (m : Memory) (limit : ℕ) (s : List ℕ) (w : JournalExtent) (n at : ℕ) (d j : List ℕ) : Type 0 where
  pub before : List (List ℕ)
  pub granted : List (List ℕ)
  pub indexed : Indexed (with_journal m j) (record { count = w.count + n; end = w.end + at }) d (before ++ granted)
  pub view : view_of m ≡ formed (state_in m before)
  pub low : log_start ≤ w.end
  pub count : length granted ≡ n
  pub sum : bytes_in granted ≡ at
  pub far : n ≤ at
  pub within : at ≤ length s
  pub wrote : j ≡ with_orders m.journal granted
  pub past : Past m (with_journal m j)
  pub left :
      deliver_all limit (orders_of s) (state_in m before)
      ≡ prefixed granted (deliver_all (limit - n) (cut_from (length s - n) (drop at s)) (state_in m (before ++ granted)))

pub going_start : {m : Memory} (limit : ℕ) (s : List ℕ) {w : JournalExtent} {d : List ℕ} {os : List (List ℕ)} → Indexed m w d os → Going m limit s w 0 0 d m.journal
unfolding orders_of bytes_in with_orders
going_start {m} limit s {w} {d} {os} i =
    let x : os ++ [] ≡ os = append-nil os in
    let a : limit - 0 ≡ limit = omega arith in
    let b : length s - 0 ≡ length s = omega arith in
    let p : w.count + 0 ≡ w.count = omega arith in
    let q : w.end + 0 ≡ w.end = omega arith in
    record {
      before = os;
      granted = [];
      indexed = rw (x, p, q) i;
      view = logged_view i.logged;
      low = logged_low i.logged;
      count = refl;
      sum = refl;
      far = omega arith;
      within = omega arith;
      wrote = refl;
      past = same_past m;
      left = rw (x, a, b);
    }

both_true : (a b : Bool) → both a b ≡ true → (a ≡ true) × (b ≡ true)
both_true true b e = (refl, e)
both_true false b e = let z : ◌≡◌ {A = ℕ} 0 1 = cc in absurd (omega arith)

none_left : (k : ℕ) (st : State) → deliver_all k [] st ≡ stopped 0 st
unfolding deliver_all
none_left zero st = refl
none_left (suc k) st = refl

none_more : (os : List (List ℕ)) (st : State) → deliver_all 0 os st ≡ stopped 0 st
unfolding deliver_all
none_more os st = refl

deliver_first : (k : ℕ) (o : List ℕ) (os : List (List ℕ)) (st : State) → deliver_all (suc k) (o ∷ os) st
    ≡ pick (eqb (answer (deliver o) st).number 0) (granted_first o (deliver_all k os (next (deliver o) st))) (stopped (answer (deliver o) st).number (next (deliver o) st))
unfolding deliver_all
deliver_first k o os st = refl

-- the number that a delivery answers
number_is : (os : List (List ℕ)) (k : ℕ) → (pick {A = Answer} (eqb k 0) (grant os nothing) (refuse k)).number ≡ k
number_is os k = go (eqb k 0) refl
  where
    go : (t : Bool) → eqb k 0 ≡ t → (pick {A = Answer} t (grant os nothing) (refuse k)).number ≡ k
    go true e = sym (eqb-true k 0 e)
    go false e = refl

-- one journal after another
past_then : {m : Memory} {j k : List ℕ} → Past m (with_journal m j) → Past (with_journal m j) (with_journal m k) → Past m (with_journal m k)
past_then a b = record { index = refl; bodies = refl; store = a.store; journal = b.journal ∙ a.journal }

-- the report of n orders of at bytes on a journal of the extent w
abbrev pub report_at : ℕ → ℕ → ℕ → JournalExtent → Report
report_at number n at w = record { number = number; orders = n; granted = at; count = w.count + n; bytes = w.end + at - log_start }

report_is : (os : List (List ℕ)) (number : ℕ) (st : State) {n at count bytes : ℕ} → length os ≡ n → bytes_in os ≡ at → length st.log ≡ count → bytes_in st.log ≡ bytes
    → report_of (record { granted = os; number = number; state = st }) ≡ record { number = number; orders = n; granted = at; count = count; bytes = bytes }
unfolding report_of
report_is os number st a b c d = rw (a, b, c, d)

-- on memory that describes a state
module _ (limit : ℕ) (s : List ℕ) (m : Memory) {st : State} (v : view_of m ≡ formed st) where
  report_in : report_on limit s (view_of m) ≡ report_of (deliver_all limit (orders_of s) st)
  unfolding report_on
  report_in = rw v

  next_in : next_on limit s (view_of m) ≡ formed (deliver_all limit (orders_of s) st).state
  unfolding next_on
  next_in = rw v

  granted_in : granted_on limit s (view_of m) ≡ (deliver_all limit (orders_of s) st).granted
  unfolding granted_on
  granted_in = rw v

module _ {m : Memory} (limit : ℕ) (s : List ℕ) {w : JournalExtent} {n at : ℕ} {d j : List ℕ} (g : Going m limit s w n at d j) where
  -- what the report asks, and what a delivery asks
  pub going_fits : (w.count + n ≤ most_orders) × (log_start ≤ w.end) × (w.end + at ≤ journal_length)
  going_fits = (g.indexed.logged.few, g.low, logged_high g.indexed.logged)

  pub going_ready : Ready d j (record { count = w.count + n; end = w.end + at })
  going_ready = ready g.indexed

  -- the loop stops with a number
  stops : (number : ℕ) {r : Report} {j' : List ℕ}
      → deliver_all (limit - n) (cut_from (length s - n) (drop at s)) (state_in m (g.before ++ g.granted)) ≡ stopped number (state_in m (g.before ++ g.granted))
      → j' ≡ j → r ≡ report_at number n at w → UpdateOutcome limit s m r (with_journal m j')
  stops number {r} e same is =
      let all = g.before ++ g.granted in
      let l = g.indexed.logged in
      let c : deliver_all limit (orders_of s) (state_in m g.before) ≡ record { granted = g.granted; number = number; state = state_in m all } =
      g.left ∙ ap (prefixed g.granted) e ∙ ap (λ (os : List (List ℕ)). record { granted = os; number = number; state = state_in m all }) (append-nil g.granted) in
      let r' = report_is g.granted number (state_in m all) g.count g.sum (sym l.many) (logged_bytes l) in
      rw same
      (record {
        says = is ∙ sym (report_in limit s m g.view ∙ ap report_of c ∙ r');
        holds = logged_view l ∙ sym (next_in limit s m g.view ∙ ap (λ (x : Course). formed x.state) c);
        bytes = ap (with_journal m) (g.wrote ∙ sym (ap (with_orders m.journal) (granted_in limit s m g.view ∙ ap (λ (x : Course). x.granted) c)));
        past = g.past;
      })

  -- so many are granted, or none is left
  pub going_end : both (ltb n limit) (ltb at (length s)) ≡ false → {r : Report} → r ≡ report_at 0 n at w → UpdateOutcome limit s m r (with_journal m j)
  going_end t e = stops 0 (go (ltb n limit) (ltb at (length s)) refl refl t) refl e
    where
      st : State
      st = state_in m (g.before ++ g.granted)

      no : {A : Type 0} → ◌≡◌ {A = Bool} true false → A
      no e = let z : ◌≡◌ {A = ℕ} 0 1 = cc in absurd (omega arith)

      go : (a b : Bool) → ltb n limit ≡ a → ltb at (length s) ≡ b → both a b ≡ false
          → deliver_all (limit - n) (cut_from (length s - n) (drop at s)) st ≡ stopped 0 st
      go true true x y t = no t
      go true false x y t =
          let z : length (drop at s) ≡ 0 = omega (arith, length-drop at s, ltb-false at (length s) y) in
          ap (λ (os : List (List ℕ)). deliver_all (limit - n) os st) (cut_none (length s - n) (drop at s) z) ∙ none_left (limit - n) st
      go false b x y t =
          let z : limit - n ≡ 0 = omega (arith, ltb-false n limit x) in
          ap (λ (k : ℕ). deliver_all k (cut_from (length s - n) (drop at s)) st) z ∙ none_more (cut_from (length s - n) (drop at s)) st

  module _ (test : both (ltb n limit) (ltb at (length s)) ≡ true) where
    pub more_granted : n < limit
    more_granted = ltb-true n limit (both_true (ltb n limit) (ltb at (length s)) test).0

    pub more_bytes : at < length s
    more_bytes = ltb-true at (length s) (both_true (ltb n limit) (ltb at (length s)) test).1

    module _ {end : ℕ} (cut : end ≡ at + first_size (drop at s)) where
      size_is : (0 < first_size (drop at s)) × (first_size (drop at s) ≤ length s - at)
      size_is =
          let l = length-drop at s in
          let b = more_bytes in
          let x = first_within (drop at s) (omega (arith, l, b)) in
          (x.0, omega (arith, l, x.1))

      pub end_after : at < end
      end_after = omega (arith, cut, size_is.0)

      pub end_within : end ≤ length s
      end_within = omega (arith, cut, size_is.1, g.within)

      abbrev order : List ℕ
      order = take (end - at) (drop at s)

      order-long : length order ≡ end - at
      order-long = simp length-take (omega (arith, length-drop at s, end_within))

      -- the order is delivered next
      delivers : deliver_all (limit - n) (cut_from (length s - n) (drop at s)) (state_in m (g.before ++ g.granted))
          ≡ pick (eqb (answer (deliver order) (state_in m (g.before ++ g.granted))).number 0)
          (granted_first order (deliver_all (limit - (n + 1)) (cut_from (length s - (n + 1)) (drop end s)) (next (deliver order) (state_in m (g.before ++ g.granted)))))
          (stopped (answer (deliver order) (state_in m (g.before ++ g.granted))).number (next (deliver order) (state_in m (g.before ++ g.granted))))
      delivers =
          let st = state_in m (g.before ++ g.granted) in
          let k : limit - n ≡ suc (limit - (n + 1)) = omega (arith, more_granted) in
          ap (λ (os : List (List ℕ)). deliver_all (limit - n) os st) (cut_at s n at g.far more_bytes cut)
          ∙ ap (λ (k : ℕ). deliver_all k (order ∷ cut_from (length s - (n + 1)) (drop end s)) st) k
          ∙ deliver_first (limit - (n + 1)) order (cut_from (length s - (n + 1)) (drop end s)) st

      module _ (bytes : Bytes s) {r : Stepped} {d' j' : List ℕ} (done : DeliveredOn d j order (record { count = w.count + n; end = w.end + at }) r d' j') where
        order-bytes : Bytes order
        unfolding slice
        order-bytes = bytes_slice s at (end - at) bytes

        says_is : (answer (deliver order) (state_in m (g.before ++ g.granted))).number ≡ r.number
        says_is =
            ap (λ (a : Answer). a.number) (answers g.indexed order order-bytes)
            ∙ number_is (g.before ++ g.granted ++ (order ∷ [])) (number_on d (record { count = w.count + n; end = w.end + at }) order) ∙ sym done.number

        -- refused: it changes no byte
        module _ (not_zero : r.number ≡ 0 → ⊥) where
          number_on_lem : eqb (number_on d (record { count = w.count + n; end = w.end + at }) order) 0 ≡ false
          number_on_lem = ne_eqb (number_on d (record { count = w.count + n; end = w.end + at }) order) 0 (λ z. not_zero (done.number ∙ z))

          pub going_refused : {report : Report} → report ≡ report_at r.number n at w → UpdateOutcome limit s m report (with_journal m j')
          going_refused is =
              let x : eqb r.number 0 ≡ false = ne_eqb r.number 0 not_zero in
              let y : next (deliver order) (state_in m (g.before ++ g.granted)) ≡ state_in m (g.before ++ g.granted) = changes g.indexed order order-bytes ∙ rw number_on_lem in
              stops r.number (delivers ∙ rw (says_is, x, y)) (done.journal ∙ rw number_on_lem) is

        -- granted
        module _ (zero : r.number ≡ 0) where
          on-zero : number_on d (record { count = w.count + n; end = w.end + at }) order ≡ 0
          on-zero = sym done.number ∙ zero

          after : Indexed (with_journal m j') (one_more (record { count = w.count + n; end = w.end + at }) order) d' ((g.before ++ g.granted) ++ (order ∷ []))
          after = delivery_again g.indexed order order-bytes done zero

          extent-is : one_more (record { count = w.count + n; end = w.end + at }) order ≡ record { count = w.count + (n + 1); end = w.end + end }
          extent-is =
              let a : w.count + n + 1 ≡ w.count + (n + 1) = omega arith in
              let b : w.end + at + length order ≡ w.end + end = omega (arith, order-long, end_after) in
              rw (a, b)

          put_is : j' ≡ appended j (record { count = w.count + n; end = w.end + at }) order
          put_is = done.journal ∙ rw on-zero

          room : w.end + at + length order ≤ journal_length
          room = logged_high after.logged

          lists : (g.before ++ g.granted) ++ (order ∷ []) ≡ g.before ++ (g.granted ++ (order ∷ []))
          lists = append_assoc g.before g.granted (order ∷ [])

          left_is : deliver_all limit (orders_of s) (state_in m g.before)
              ≡ prefixed (g.granted ++ (order ∷ [])) (deliver_all (limit - (n + 1)) (cut_from (length s - (n + 1)) (drop end s)) (state_in m (g.before ++ (g.granted ++ (order ∷ [])))))
          left_is =
              let y : next (deliver order) (state_in m (g.before ++ g.granted)) ≡ state_in m (g.before ++ (g.granted ++ (order ∷ []))) =
              changes g.indexed order order-bytes ∙ (rw on-zero) ∙ ap (state_in m) lists in
              let c : Course = deliver_all (limit - (n + 1)) (cut_from (length s - (n + 1)) (drop end s)) (state_in m (g.before ++ (g.granted ++ (order ∷ [])))) in
              g.left ∙ ap (prefixed g.granted) (delivers ∙ rw (says_is, zero, y))
              ∙ ap (λ (os : List (List ℕ)). record { granted = os; number = c.number; state = c.state }) (sym (append_assoc g.granted (order ∷ []) c.granted))

          pub going_more : Going m limit s w (n + 1) end d' j'
          unfolding bytes_in
          going_more =
              let i : Indexed (with_journal m j') (record { count = w.count + (n + 1); end = w.end + end }) d' (g.before ++ (g.granted ++ (order ∷ []))) =
              subst (λ (os : List (List ℕ)). Indexed (with_journal m j') (record { count = w.count + (n + 1); end = w.end + end }) d' os) lists
              (subst (λ (x : JournalExtent). Indexed (with_journal m j') x d' ((g.before ++ g.granted) ++ (order ∷ []))) extent-is after) in
              let p = past_more g.indexed.logged order room in
              record {
                before = g.before;
                granted = g.granted ++ (order ∷ []);
                indexed = i;
                view = g.view;
                low = g.low;
                count = length-append g.granted (order ∷ []) ∙ omega (arith, g.count);
                sum = bytes_append g.granted (order ∷ []) ∙ omega (arith, g.sum, order-long, end_after);
                far = omega (arith, g.far, end_after);
                within = end_within;
                wrote = put_is ∙ appended_is g.indexed.logged order ∙ ap (λ (x : List ℕ). with_order x order) g.wrote ∙ sym (with_more m.journal g.granted order);
                past = rw put_is (past_then g.past p);
                left = left_is;
              }
