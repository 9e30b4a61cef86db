-- The ways through reading and writing in the counter profile. Assumes nothing.
use mathlib.Core.Path.{◌≡◌, refl, sym, ap, ◌∙◌}
use mathlib.Core.Bool.{Bool, true, false}
use mathlib.Core.List.{List}
use Prim.Native.Nat.{ℕ}
use lib.ListN.{length, get_or}
use lib.Dec.{eqb}
use Rattle.std.specs.Prelude.{Option, Some, None, Result, Ok, Err, option_map}
use Rattle.wire.specs.Tests.{pick, either}
use Rattle.protocol.specs.declared.Refusal.{Refusal}
use Rattle.protocol.specs.declared.Refusal.TheVariants.{OutsideSet, WrongEnd, NotPermitted}
use Rattle.protocol.specs.Refusals.{number_of}
use Rattle.pdu.specs.declared.Pdu.{Pdu}
use Rattle.pdu.specs.Records.{kind_of}
use Rattle.pdu.specs.Reading.{read_of}
use Rattle.pdu.specs.Writing.{encode, grants, written_of, out_with, out_after_of}
use Rattle.pdu.proofs.WriteBack.{err_no_ok}
use Rattle.pdu_words.specs.Words.{words_of}
use Rattle.pdu_words.specs.FromWords.{stand, Stands, pdu_of, execute_from}
use Rattle.pdu_words.proofs.FromWords.{kind_word}
use Rattle.pdu_read.specs.Told.{words_after, done, Reads}
use Rattle.pdu_put.specs.WordsWritten.{words_written_of, words_out_after, unless, out_unless, UnlessOutcome}
use Rattle.pdu_put.proofs.Ways.{wrote_says, unless_err, out_same}
use Rattle.profile.specs.Ends.{handshake, reads, read_taken}
use Rattle.profile.specs.Programs.{execute_permitted}
use Rattle.profile.specs.Counter.{passed, counter_read, verdict, counter_written, counter_out, counter_words_written, counter_words_out, CounterOutcome}
use Rattle.profile.proofs.Ends.{server_words, words_end, record_end, not_started, started}

-- ---- reading: r and w are what the plain rules tell of s

words_read : (p : Pdu) → reads p ≡ read_taken (get_or (words_of p) 0 0) (get_or (words_of p) 1 0)
words_read p = ap (either (eqb (kind_of p) handshake)) (words_end p) ∙ ap (λ (k : ℕ). either (eqb k handshake) (server_words (words_of p))) (sym (kind_word p).0)

module _ (s : List ℕ) {lent w : List ℕ} {r : Result (Unit {0}) Refusal} (t : Reads (read_of s) lent r w) (words : List ℕ) where
  -- the plain rules refuse s
  pub plain_refusal : {e : Refusal} → r ≡ Err e → Reads (counter_read s) words (Err e) words
  unfolding counter_read passed words_after
  plain_refusal {e} z = go (read_of s) (sym t.answer ∙ z)
    where
      go : (a : Result Pdu Refusal) → done a ≡ Err e → Reads (passed a) words (Err e) words
      go (Ok p) q = absurd (err_no_ok (sym q))
      go (Err x) q = record { answer = sym q; memory = refl }

  -- they read a record, which its end may or may not pass
  pub wrong_end_lem : r ≡ Ok tt → read_taken (get_or w 0 0) (get_or w 1 0) ≡ false → Reads (counter_read s) words (Err WrongEnd) words
  unfolding counter_read passed words_after
  wrong_end_lem z f = go (read_of s) (sym t.answer ∙ z) t.memory
    where
      go : (a : Result Pdu Refusal) → done a ≡ Ok tt → w ≡ words_after a lent → Reads (passed a) words (Err WrongEnd) words
      go (Ok p) q m = let h : reads p ≡ false = words_read p ∙ ap (λ (x : List ℕ). read_taken (get_or x 0 0) (get_or x 1 0)) (sym m) ∙ f in record { answer = rw h; memory = rw h }
      go (Err x) q m = absurd (err_no_ok q)

  pub read_through : r ≡ Ok tt → read_taken (get_or w 0 0) (get_or w 1 0) ≡ true → Reads (counter_read s) words (Ok tt) w
  unfolding counter_read passed words_after
  read_through z f = go (read_of s) (sym t.answer ∙ z) t.memory
    where
      go : (a : Result Pdu Refusal) → done a ≡ Ok tt → w ≡ words_after a lent → Reads (passed a) words (Ok tt) w
      go (Ok p) q m = let h : reads p ≡ true = words_read p ∙ ap (λ (x : List ℕ). read_taken (get_or x 0 0) (get_or x 1 0)) (sym m) ∙ f in record { answer = rw h; memory = rw h m }
      go (Err x) q m = absurd (err_no_ok q)

-- ---- the profile's refusal of words that the plain rules grant

module _ {w : List ℕ} (st : Stands w) (src : List ℕ) where
  pub verdict_end : server_words w ≡ true → Some WrongEnd ≡ verdict (pdu_of w) src
  unfolding verdict
  verdict_end t = rw (record_end w st, t)

  -- the same by its number
  pub verdict_20 : server_words w ≡ true → Some 20 ≡ option_map number_of (verdict (pdu_of w) src)
  verdict_20 t = ap (option_map number_of) (verdict_end t)

  pub verdict_other : server_words w ≡ false → (get_or w 0 0 ≡ 0x01 → ⊥) → None ≡ verdict (pdu_of w) src
  unfolding verdict
  verdict_other t n = rw (record_end w st, t, not_started w st n src)

  pub verdict_program : server_words w ≡ false → get_or w 0 0 ≡ 0x01 → {b : Bool} → b ≡ execute_permitted (execute_from w) src → pick b None (Some NotPermitted) ≡ verdict (pdu_of w) src
  unfolding verdict
  verdict_program t q e = rw (record_end w st, t, started w src q, e)

-- ---- writing

-- a further refusal leaves the output memory
kept : (k : Option Refusal) (a : Result ℕ Refusal) (bytes out : List ℕ) → out_unless k (out_with a bytes out) out ≡ out_with (unless k a) bytes out
unfolding unless out_unless
kept None a bytes out = refl
kept (Some x) (Ok n) bytes out = refl
kept (Some x) (Err e) bytes out = refl

module _ (w src out : List ℕ) (k : Option Refusal) (v : Stands w → grants (pdu_of w) src ≡ true → k ≡ verdict (pdu_of w) src) where
  -- writing unless k applies is writing in the profile
  record Alike : Type 0 where
    answer : unless k (words_written_of w src (length out)) ≡ counter_words_written w src (length out)
    memory : out_unless k (words_out_after w src out) out ≡ counter_words_out w src out

  no_record : stand w ≡ false → Alike
  unfolding words_written_of words_out_after counter_words_written counter_words_out
  no_record s = record { answer = rw s (sym (unless_err k OutsideSet)); memory = rw s (sym (out_same k refl)) }

  module _ (s : stand w ≡ true) where
    plain_refused : {e : Refusal} → written_of (pdu_of w) src (length out) ≡ Err e → Alike
    unfolding words_written_of words_out_after counter_words_written counter_words_out out_after_of counter_written counter_out
    plain_refused {e} z =
        let u : unless (verdict (pdu_of w) src) (Err e) ≡ Err e = sym (unless_err (verdict (pdu_of w) src) e) in
        record { answer = rw (s, z, u) (sym (unless_err k e)); memory = rw (s, z, u) (sym (out_same k refl)) }

    plain-granted : {n : ℕ} → written_of (pdu_of w) src (length out) ≡ Ok n → Alike
    unfolding words_written_of words_out_after counter_words_written counter_words_out out_after_of counter_written counter_out
    plain-granted {n} z =
        let e = v (record { holds = s }) (wrote_says (pdu_of w) src (length out) n (sym z)).granted in
        record { answer = rw (s, z, ← e); memory = rw (s, z, ← e) (kept k (Ok n) (encode (pdu_of w) src) out) }

  alike : Alike
  alike = go (stand w) refl (written_of (pdu_of w) src (length out)) refl
    where
      go : (b : Bool) → stand w ≡ b → (a : Result ℕ Refusal) → written_of (pdu_of w) src (length out) ≡ a → Alike
      go true s (Ok n) z = plain-granted s z
      go true s (Err e) z = plain_refused s z
      go false s a z = no_record s

  pub counter_wrote : {r : Result ℕ Refusal} {y : List ℕ} → UnlessOutcome w src out k r y → CounterOutcome w src out r y
  counter_wrote o = record { answer = o.answer ∙ alike.answer; memory = o.memory ∙ alike.memory }
