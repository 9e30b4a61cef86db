-- The profile's refusals come after the plain ones, and a pass is a plain pass. Assumes nothing.
use mathlib.Core.Path.{◌≡◌, refl, sym, ap, ◌∙◌}
use mathlib.Core.Bool.{Bool, true, false}
use mathlib.Core.List.{List}
use Prim.Native.Nat.{ℕ}
use native.Mathlib.Omega.{arith}
use lib.ListN.{length}
use Rattle.std.specs.Prelude.{Option, Some, None, Result, Ok, Err}
use Rattle.wire.specs.Tests.{pick}
use Rattle.protocol.specs.declared.Refusal.{Refusal}
use Rattle.protocol.specs.declared.Refusal.TheVariants.{WrongEnd, NotPermitted}
use Rattle.pdu.specs.declared.Pdu.{Pdu}
use Rattle.pdu.specs.Reading.{read_of}
use Rattle.pdu.specs.Writing.{encode, written_of, out_with, out_after_of}
use Rattle.pdu.proofs.WriteBack.{err_no_ok}
use Rattle.pdu_put.specs.WordsWritten.{unless}
use Rattle.profile.specs.Ends.{reads, writes}
use Rattle.profile.specs.Programs.{permitted}
use Rattle.profile.specs.Counter.{passed, counter_read, verdict, counter_written, counter_out}
use Rattle.profile.specs.Plain.{is_own, PassesPlain}

-- a refusal that is the profile's own and is not
own_apart : {x e : Refusal} → is_own x ≡ true → x ≡ e → is_own e ≡ false → ⊥
own_apart o q f =
    let z : ◌≡◌ {A = Bool} true false = sym o ∙ ap is_own q ∙ f in
    let z : ◌≡◌ {A = ℕ} 0 1 = cc in absurd (omega arith)

err_inj : {A : Type 0} {x e : Refusal} → ◌≡◌ {A = Result A Refusal} (Err x) (Err e) → x ≡ e
err_inj q = cc

-- ---- reading

passed_message : (a : Result Pdu Refusal) (p : Pdu) → passed a ≡ Ok p → a ≡ Ok p
unfolding passed
passed_message (Ok q) p e = go (reads q) e
  where
    go : (b : Bool) → pick b (Ok q) (Err WrongEnd) ≡ Ok p → ◌≡◌ {A = Result Pdu Refusal} (Ok q) (Ok p)
    go true e = e
    go false e = absurd (err_no_ok e)
passed_message (Err x) p e = e

passed_refused : (a : Result Pdu Refusal) (e : Refusal) → is_own e ≡ false → passed a ≡ Err e → a ≡ Err e
unfolding passed
passed_refused (Ok q) e h z = go (reads q) z
  where
    go : (b : Bool) → pick b (Ok q) (Err WrongEnd) ≡ Err e → Ok q ≡ Err e
    go true z = z
    go false z = absurd (own_apart refl (err_inj z) h)
passed_refused (Err x) e h z = z

passed_first : (a : Result Pdu Refusal) (e : Refusal) → a ≡ Err e → passed a ≡ Err e
unfolding passed
passed_first a e z = rw z

-- ---- writing: what the plain rules answer, then the further refusal k

granted : (k : Option Refusal) (a : Result ℕ Refusal) (n : ℕ) → unless k a ≡ Ok n → a ≡ Ok n
unfolding unless
granted None a n e = e
granted (Some x) (Ok m) n e = absurd (err_no_ok e)
granted (Some x) (Err y) n e = absurd (err_no_ok e)

denied : (k : Option Refusal) (a : Result ℕ Refusal) (e : Refusal) → ((x : Refusal) → k ≡ Some x → is_own x ≡ true) → is_own e ≡ false → unless k a ≡ Err e → a ≡ Err e
unfolding unless
denied None a e o h z = z
denied (Some x) (Ok m) e o h z = absurd (own_apart (o x refl) (err_inj z) h)
denied (Some x) (Err y) e o h z = z

stays : (k : Option Refusal) (a : Result ℕ Refusal) (e : Refusal) → a ≡ Err e → unless k a ≡ Err e
unfolding unless
stays None a e z = z
stays (Some x) a e z = rw z

-- the profile's refusal, where it applies, is one of its own
own : (p : Pdu) (src : List ℕ) (x : Refusal) → verdict p src ≡ Some x → is_own x ≡ true
unfolding verdict
own p src x = go (writes p) (permitted p src)
  where
    go : (a b : Bool) → pick a (pick b None (Some NotPermitted)) (Some WrongEnd) ≡ Some x → is_own x ≡ true
    go true true e = let z : ◌≡◌ {A = ℕ} 0 1 = cc in absurd (omega arith)
    go true false e = let z : NotPermitted ≡ x = cc in ap is_own (sym z)
    go false b e = let z : WrongEnd ≡ x = cc in ap is_own (sym z)

plain_written : (p : Pdu) (src : List ℕ) (m n : ℕ) → counter_written p src m ≡ Ok n → written_of p src m ≡ Ok n
unfolding counter_written
plain_written p src m n e = granted (verdict p src) (written_of p src m) n e

plain_refused : (p : Pdu) (src : List ℕ) (m : ℕ) (e : Refusal) → is_own e ≡ false → counter_written p src m ≡ Err e → written_of p src m ≡ Err e
unfolding counter_written
plain_refused p src m e h z = denied (verdict p src) (written_of p src m) e (own p src) h z

refused_first : (p : Pdu) (src : List ℕ) (m : ℕ) (e : Refusal) → written_of p src m ≡ Err e → counter_written p src m ≡ Err e
unfolding counter_written
refused_first p src m e z = stays (verdict p src) (written_of p src m) e z

untouched : (p : Pdu) (src out : List ℕ) (e : Refusal) → counter_written p src (length out) ≡ Err e → counter_out p src out ≡ out
unfolding counter_out
untouched p src out e z = rw z

same_memory : (p : Pdu) (src out : List ℕ) (n : ℕ) → counter_written p src (length out) ≡ Ok n → counter_out p src out ≡ out_after_of p src out
unfolding counter_out out_after_of
same_memory p src out n e = rw (e, plain_written p src (length out) n e)

pub passes_plain : PassesPlain
unfolding counter_read
passes_plain =
    record {
      read = λ s p. passed_message (read_of s) p;
      refused = λ s e. passed_refused (read_of s) e;
      refused_first = λ s e. passed_first (read_of s) e;
      written = λ p src m n. plain_written p src m n;
      same_memory = λ p src out n. same_memory p src out n;
      unwritten = λ p src m e. plain_refused p src m e;
      unwritten_first = λ p src m e. refused_first p src m e;
      untouched = λ p src out e. untouched p src out e;
    }
