-- Writing the session record: what a validation established is what it asks; its record is that of the orders that the memory
-- describes. Assumes nothing.
use mathlib.Core.Path.{◌≡◌, sym, ap, ◌∙◌}
use mathlib.Core.Bool.{Bool, true, false}
use mathlib.Core.List.{List}
use Prim.Native.Nat.{ℕ, ◌-◌}
use native.Mathlib.Omega.{arith}
use lib.Dec.{ltb}
use lib.ListN.{length}
use borrow.Author.Tests.{leb-true, leb-false, lt-ltb, le-ltb}
use Rattle.wire.specs.Parts.{splice}
use Rattle.journal.specs.declared.JournalExtent.{JournalExtent}
use Rattle.journal.specs.Limits.{log_start}
use Rattle.journal.specs.Journal.{orders_from, end_from}
use Rattle.journal.specs.View.{Memory, view_of}
use Rattle.journal.proofs.Stored.{stored_reads}
use Rattle.journal.proofs.Logged.{Logged, logged_view, logged_orders, logged_within, logged_low, logged_high}
use Rattle.record.specs.Layout.{record_of}
use Rattle.record.specs.Writing.{Within, fits_in, out_after_of}
use Rattle.session.specs.declared.Reply.{Reply}
use Rattle.session.specs.Calls.{write_record, orders, refuse, grant, answer, next, answer_view, next_view}
use Rattle.session.specs.Outcome.{record_to, handed, session_record, reply_of, answer_within, response_of, CallOutcome}
use Rattle.session.specs.Outcome as session
use Rattle.session.proofs.Outcomes.{answer_in, next_in, reply_in, stays}

module _ {m : Memory} {w : JournalExtent} {os : List (List ℕ)} (l : Logged m w os) where
  -- what writing asks
  pub record_asks : Within m.journal w.count w.end
  record_asks =
      record {
        room = l.long.journal;
        few = l.few;
        orders = logged_within l w.count (omega arith);
        ends = sym (ap (λ (n : ℕ). end_from n log_start m.journal) l.many ∙ (stored_reads l.stored).end);
        low = logged_low l;
        high = logged_high l;
      }

  answers : answer_view write_record (view_of m) ≡ grant os (orders os)
  unfolding answer
  answers = answer_in l write_record

  same_view : next_view write_record (view_of m) ≡ view_of m
  unfolding next
  same_view = next_in l write_record ∙ sym (logged_view l)

  module _ (out : List ℕ) {out' : List ℕ} {b : Bool} (fits : b ≡ fits_in (record_of (orders_from w.count log_start m.journal)) out)
      (wrote : out' ≡ out_after_of (record_of (orders_from w.count log_start m.journal)) out) where
    fits-is : fits_in (record_of os) out ≡ b
    fits-is = ap (λ (o : List (List ℕ)). fits_in (record_of o) out) (sym (logged_orders l)) ∙ sym fits

    wrote-is : out' ≡ out_after_of (record_of os) out
    wrote-is = wrote ∙ ap (λ (o : List (List ℕ)). out_after_of (record_of o) out) (logged_orders l)

    -- 14
    pub record_small : {r : Reply} → b ≡ false → r ≡ reply_of (refuse 14) → CallOutcome (record_to out) m (handed r out') m
    unfolding response_of answer_within session.out_after_of out_after_of session_record
    record_small f e =
        let k = fits-is ∙ f in
        let x : ltb (length out) (length (record_of os)) ≡ true = lt-ltb (length out) (length (record_of os)) (leb-false (length (record_of os)) (length out) k) in
        let same : out' ≡ out = wrote-is ∙ rw k in
        stays (record_to out) m answers same_view (rw (e, same, x))

    pub record_written : {r : Reply} → b ≡ true → r ≡ record { number = 0; count = w.count; bytes = w.end - log_start } → CallOutcome (record_to out) m (handed r out') m
    unfolding response_of answer_within session.out_after_of out_after_of session_record
    record_written f e =
        let k = fits-is ∙ f in
        let x : ltb (length out) (length (record_of os)) ≡ false = le-ltb (length out) (length (record_of os)) (leb-true (length (record_of os)) (length out) k) in
        let put : out' ≡ splice out 0 (record_of os) = wrote-is ∙ rw k in
        let g = e ∙ reply_in l (orders os) in
        stays (record_to out) m answers same_view (rw (g, put, x))
