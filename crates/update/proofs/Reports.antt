-- What a report says fits the history room, and a packed report is taken apart again. Assumes nothing.
use Prim.Native.Nat.{ℕ, zero, suc, ◌+◌, ◌*◌, ◌/◌, ◌%◌, ◌≤◌}
use mathlib.Core.Path.{◌≡◌, refl, sym, ap, ◌∙◌}
use mathlib.Core.Bool.{Bool, true, false}
use mathlib.Core.List.{List, [], ◌∷◌, ◌++◌, append_assoc, append-nil}
use native.Mathlib.Omega.{arith}
use lib.Dec.{eqb, ltb}
use lib.ListN.{length, length-append}
use borrow.Author.Tests.{ltb-false}
use Rattle.wire.specs.Tests.{pick}
use Rattle.table.specs.Table.{number}
use Rattle.journal.specs.Limits.{most_orders, most_bytes}
use Rattle.journal.specs.State.{State, present, bytes_in}
use Rattle.journal.specs.View.{too_short, well_formed, state_of, short, unformed, formed, view_of}
use Rattle.journal.proofs.Runs.{bytes_append}
use Rattle.journal.proofs.Fits.{fits}
use Rattle.session.specs.Calls.{deliver, over_full, answer, next}
use Rattle.session.specs.Packed.{packed_of}
use Rattle.update.specs.Update.{orders_of, Course, stopped, granted_first, deliver_all}
use Rattle.update.specs.Outcome.{report_of, unfit, report_on}
use Rattle.update.specs.Packed.{packed_report, Fits, ReportsFit, ReportUnpacks}
use Rattle.wire.proofs.Tests.{neither}

pub report_unpacks : ReportUnpacks
unfolding ReportUnpacks packed_report packed_of
report_unpacks r a f =
    let x : r.count % 256 ≡ r.count = omega (arith, f.count) in
    let y : r.bytes % 65536 ≡ r.bytes = omega (arith, f.bytes) in
    let z : r.orders % 65536 ≡ r.orders = omega (arith, f.orders, f.count) in
    let w : r.granted % 65536 ≡ r.granted = omega (arith, f.granted, f.bytes) in
    let h : (r.number + 256 * r.count + 65536 * r.bytes + 4294967296 * (r.orders + 65536 * r.granted)) / 4294967296 ≡ r.orders + 65536 * r.granted =
    omega (arith, f.count, f.bytes) in
    record {
      number = rw (x, y, z, w) (omega arith);
      count = rw (x, y, z, w) (omega (arith, f.count));
      bytes = rw (x, y, z, w) (omega (arith, f.count, f.bytes));
      orders = rw (x, y, z, w, h) (omega (arith, f.count, f.orders));
      granted = rw (x, y, z, w) (omega (arith, f.count, f.bytes, f.orders, f.granted));
    }

-- ---- what stands after a course: what stood, and the granted orders

record Room (s : State) : Type 0 where
  few : length s.log ≤ most_orders
  low : bytes_in s.log ≤ most_bytes

record Grown (s : State) (c : Course) : Type 0 where
  log : c.state.log ≡ s.log ++ c.granted
  room : Room c.state

grown_none : (n : ℕ) (s : State) → Room s → Grown s (stopped n s)
grown_none n s r = record { log = sym (append-nil s.log); room = r }

-- one delivery: it is granted and joins, or the state stays
data Delivered (o : List ℕ) (s : State) : Type 0 where
  joins : (answer (deliver o) s).number ≡ 0 → next (deliver o) s ≡ record { marked = s.marked; log = s.log ++ (o ∷ []) } → over_full s.log o ≡ false → Delivered o s
  stays : eqb (answer (deliver o) s).number 0 ≡ false → next (deliver o) s ≡ s → Delivered o s

delivered : (o : List ℕ) (s : State) → Delivered o s
unfolding answer next
delivered o s = go (eqb (number (present s) o) 0) (over_full s.log o) refl refl
  where
    go : (a b : Bool) → eqb (number (present s) o) 0 ≡ a → over_full s.log o ≡ b → Delivered o s
    go true true x y = stays (rw (x, y)) (rw (x, y))
    go true false x y = joins (rw (x, y)) (rw (x, y)) y
    go false b x y = stays (rw (x, x)) (rw x)

room_more : (o : List ℕ) (s : State) → over_full s.log o ≡ false → Room (record { marked = s.marked; log = s.log ++ (o ∷ []) })
unfolding bytes_in
room_more o s e =
    let x = neither (ltb most_orders (length s.log + 1)) (ltb most_bytes (bytes_in s.log + length o)) e in
    let a = ltb-false most_orders (length s.log + 1) x.0 in
    let b = ltb-false most_bytes (bytes_in s.log + length o) x.1 in
    record { few = omega (arith, length-append s.log (o ∷ []), a); low = omega (arith, bytes_append s.log (o ∷ []), b) }

grown : (limit : ℕ) (os : List (List ℕ)) (s : State) → Room s → Grown s (deliver_all limit os s)
unfolding deliver_all
grown zero os s r = grown_none 0 s r
grown (suc limit) [] s r = grown_none 0 s r
grown (suc limit) (o ∷ os) s r = go (delivered o s) (λ (s' : State) (r' : Room s'). grown limit os s' r')
  where
    go : Delivered o s → ((s' : State) → Room s' → Grown s' (deliver_all limit os s'))
        → Grown s (pick (eqb (answer (deliver o) s).number 0) (granted_first o (deliver_all limit os (next (deliver o) s))) (stopped (answer (deliver o) s).number (next (deliver o) s)))
    go (joins z n f) rest =
        let s' : State = record { marked = s.marked; log = s.log ++ (o ∷ []) } in
        let g = rest s' (room_more o s f) in
        rw (z, n) (record { log = g.log ∙ append_assoc s.log (o ∷ []) (deliver_all limit os s').granted; room = g.room })
    go (stays z n) rest = rw (z, n) (grown_none (answer (deliver o) s).number s r)

course_fits : (s : State) (c : Course) → Grown s c → Fits (report_of c)
unfolding report_of
course_fits s c g =
    let n : length c.state.log ≡ length s.log + length c.granted = ap length g.log ∙ length-append s.log c.granted in
    let b : bytes_in c.state.log ≡ bytes_in s.log + bytes_in c.granted = ap bytes_in g.log ∙ bytes_append s.log c.granted in
    record { count = g.room.few; bytes = g.room.low; orders = omega (arith, n); granted = omega (arith, b) }

pub reports_fit : ReportsFit
unfolding ReportsFit view_of report_on
reports_fit limit s m = go (too_short m) (well_formed m) refl refl
  where
    nothing-fits : Fits unfit
    nothing-fits = record { count = omega arith; bytes = omega arith; orders = omega arith; granted = omega arith }

    go : (t u : Bool) → too_short m ≡ t → well_formed m ≡ u → Fits (report_on limit s (pick t short (pick u (formed (state_of m)) unformed)))
    go true u x y = nothing-fits
    go false true x y =
        let f = fits m x y in
        course_fits (state_of m) (deliver_all limit (orders_of s) (state_of m)) (grown limit (orders_of s) (state_of m) (record { few = f.few; low = f.bytes }))
    go false false x y = nothing-fits
