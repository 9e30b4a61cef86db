-- The ways through writing: a record and its words judged, refused and written. Assumes nothing.
use mathlib.Core.Path.{◌≡◌, refl, sym, ap, ◌∙◌, subst}
use mathlib.Core.Bool.{Bool, true, false}
use mathlib.Core.List.{List, [], ◌∷◌}
use Prim.Native.Nat.{ℕ, zero, suc, ◌*◌, ◌/◌, ◌≤◌, ◌<◌}
use native.Mathlib.Omega.{arith}
use lib.ListN.{length}
use lib.Dec.{leb}
use lib.IntN.{ℤ}
use lib.Signed.{mag}
use borrow.Author.Tests.{lt-leb, le-leb, leb-true, eq-eqb}
use mir.Val.{Val}
use denote.Laws.{Is}
use denote.Enum.Declared.{row, variants}
use denote.Enum.Laws.{Fields, spellss, owed}
use Rattle.std.specs.Prelude.{Option, Some, None, Result, Ok, Err}
use Rattle.wire.specs.Tests.{pick, both}
use Rattle.wire.specs.Numbers.{fits_in, all_fit}
use Rattle.protocol.specs.declared.Refusal.{Refusal}
use Rattle.protocol.specs.declared.Refusal.TheVariants.{OutsideSet, OutputTooSmall}
use Rattle.protocol.specs.Refusals.{says}
use Rattle.protocol.specs.Refusals as R
use Rattle.signs.specs.TwosComplement.{unsigned}
use Rattle.signs.proofs.TwosComplement.{unsigned_small}
use Rattle.signs.proofs.Bits.{holds_16}
use Rattle.pdu.specs.contracts.Pdu.{the_type}
use Rattle.pdu.proofs.Pdu.TheLaws.{the_laws}
use Rattle.pdu.specs.declared.Pdu.{Pdu}
use Rattle.pdu.specs.declared.Pdu.TheVariants.{Execute, Activate, SystemCommand, Handshake, NotifyEvent, WindowMove, MoveSize, MinMaxInfo, ClientInformation, SystemMenu, GetApplicationId, ApplicationIdResponse, ExecuteResult, SystemParameters, HandshakeEx}
use Rattle.pdu.specs.declared.Setting.{Setting}
use Rattle.pdu.specs.declared.Setting.TheVariants as S
use Rattle.pdu.specs.Layout.{widths}
use Rattle.pdu.specs.Settings.{setting_widths, Data, byte, area, scheme, number_of, data_of, data_nums, data_allowed}
use Rattle.pdu.specs.Records.{yes_number, kind_of, nums_of, widths_of, size_of, spans_of}
use Rattle.pdu.specs.Rules.{allowed}
use Rattle.pdu.specs.Writing.{all_lie, encode, grants, written_of, out_with, out_after_of}
use Rattle.pdu.specs.RoundTrip.{typed, WrittenBack, WriteOutcome}
use Rattle.pdu.proofs.Answers.{written_says_lem}
use Rattle.pdu.proofs.Settings.{Shape, shape, not_byte, not_area}
use Rattle.pdu.proofs.Writing.{allowed_of, done}
use Rattle.pdu.proofs.ReadBack.{execute_small, result_small, size_small}
use Rattle.pdu.proofs.RoundTrip.{after_reads}
use Rattle.pdu.proofs.WriteBack.{err_no_ok}
use Rattle.pdu_words.specs.Words.{words_of}
use Rattle.pdu_words.specs.FromWords.{stand, Stands, pdu_of}
use Rattle.pdu_words.proofs.FromWords.{words_stand, words_back, positions_hold}
use Rattle.pdu_words.proofs.FromWordsFit.{memory_fits, HeldData, held_data}
use Rattle.pdu_put.specs.Judging.{judged, Ready, Encoded}
use Rattle.pdu_put.specs.WordsWritten.{words_written_of, words_out_after, WordsOutcome, unless, out_unless, UnlessOutcome, IsUnless, MessageOutcome, FurtherOutcome}

yes_small : (b : Bool) → yes_number b < 65536
yes_small true = omega arith
yes_small false = omega arith

-- ---- the numbers of a record in memory fit their fields

abbrev limit : ℕ → ℕ
limit zero = 1
limit (suc w) = 256 * limit w

abbrev Small : List ℕ → List ℕ → Type 0
Small [] [] = Unit {0}
Small [] (n ∷ ns) = ⊥
Small (w ∷ ws) [] = ⊥
Small (w ∷ ws) (n ∷ ns) = (n < limit w) × Small ws ns

fits_limit : (w n : ℕ) → n < limit w → fits_in w n ≡ true
unfolding fits_in
fits_limit zero n h = eq-eqb n 0 (omega arith)
fits_limit (suc w) n h = fits_limit w (n / 256) (omega arith)

all_small : (ws ns : List ℕ) → Small ws ns → all_fit ws ns ≡ true
unfolding all_fit
all_small [] [] h = refl
all_small [] (n ∷ ns) h = absurd h
all_small (w ∷ ws) [] h = absurd h
all_small (w ∷ ws) (n ∷ ns) h = rw (fits_limit w n h.0) (all_small ws ns h.1)

-- what is known of a record in memory, field by field
abbrev Held : Pdu → Type 0
Held p = Fields (variants the_type) (spellss the_type.parts the_laws) (the_type.to p)

number_under : (s : Setting) → number_of s < limit 4
unfolding number_of
number_under (S.DragFullWindows v) = omega arith
number_under (S.KeyboardCues v) = omega arith
number_under (S.KeyboardPref v) = omega arith
number_under (S.MouseButtonSwap v) = omega arith
number_under (S.WorkArea a) = omega arith
number_under (S.TaskbarPos a) = omega arith
number_under (S.DisplayChange a) = omega arith
number_under (S.HighContrast h) = omega arith
number_under (S.ScreenSaveActive v) = omega arith
number_under (S.ScreenSaveSecure v) = omega arith

data_fits : (c : ℕ) (d : Data) → Shape c d → HeldData d → data_allowed d ≡ true → Small (setting_widths c) (data_nums d)
unfolding setting_widths data_nums data_allowed
data_fits c (byte v) h g a = rw h (omega (arith, g), tt)
data_fits c (area r) h g a = rw (h.0, h.1) (omega (arith, g), (omega (arith, g), (omega (arith, g), (omega (arith, g), tt))))
data_fits c (scheme d) h g a =
    let l = leb-true d.color_scheme.len 520 a in
    rw (h, not_byte, not_area) (omega (arith, g), (omega (arith, l), (omega (arith, l), tt)))

-- a position of 16 bits has a number of 2 bytes
half_small : (z : ℤ) → mag z < 32768 → unsigned 2 z < 65536
half_small z h = unsigned_small 2 z (holds_16 z (record { sfits = h }))

fits : (p : Pdu) → Held p → allowed p ≡ true → Small (widths_of p) (nums_of p)
unfolding widths kind_of nums_of allowed
fits (Execute e) g a = let s = execute_small e a in (omega (arith, g), (omega arith, (omega arith, (omega arith, tt))))
fits (Activate e) g a = (omega (arith, g), (omega (arith, g), tt))
fits (SystemCommand e) g a = (omega (arith, g), (omega (arith, g), tt))
fits (Handshake e) g a = (omega (arith, g), tt)
fits (NotifyEvent e) g a = (omega (arith, g), (omega (arith, g), (omega (arith, g), tt)))
fits (WindowMove e) g a = (omega (arith, g), (half_small e.left (omega (arith, g)), (half_small e.top (omega (arith, g)), (half_small e.right (omega (arith, g)), (half_small e.bottom (omega (arith, g)), tt)))))
fits (MoveSize e) g a = (omega (arith, g), (yes_small e.is_start, (omega (arith, g), (half_small e.pos_x (omega (arith, g)), (half_small e.pos_y (omega (arith, g)), tt)))))
fits (MinMaxInfo e) g a = (omega (arith, g), (omega (arith, g), (omega (arith, g), (half_small e.max_pos_x (omega (arith, g)), (half_small e.max_pos_y (omega (arith, g)), (omega (arith, g), (omega (arith, g), (omega (arith, g), (omega (arith, g), tt)))))))))
fits (ClientInformation e) g a = (omega (arith, g), tt)
fits (SystemMenu e) g a = (omega (arith, g), (half_small e.left (omega (arith, g)), (half_small e.top (omega (arith, g)), tt)))
fits (GetApplicationId e) g a = (omega (arith, g), tt)
fits (ApplicationIdResponse e) g a = (omega (arith, g), tt)
fits (ExecuteResult e) g a = let s = result_small e a in (omega (arith, g), (omega (arith, g), (omega (arith, g), (omega arith, (omega arith, tt)))))
fits (SystemParameters e) g a = let s = e.setting in (number_under s, data_fits (number_of s) (data_of s) (shape s) (held_data s g) a)
fits (HandshakeEx e) g a = (omega (arith, g), (omega (arith, g), tt))

typed_of : (p : Pdu) (vs : List Val) → Is (row the_type) p vs → allowed p ≡ true → typed p ≡ true
unfolding typed
typed_of p vs h a =
    rw (all_small (widths_of p) (nums_of p) (fits p (owed the_type the_laws p vs h) a)) (positions_hold p (memory_fits p vs h))

-- ---- the ways through writing a message

-- a message that is judged to take n bytes
pub record Sized (p : Pdu) (src : List ℕ) (n : ℕ) : Type 0 where
  pub granted : grants p src ≡ true
  pub size : n ≡ size_of p

pub sized : (p : Pdu) (src : List ℕ) {n : ℕ} → Some n ≡ judged p (length src) → Sized p src n
unfolding grants
sized p src {n} e = go (both (allowed p) (all_lie (length src) (spans_of p))) refl e
  where
    go : (b : Bool) → both (allowed p) (all_lie (length src) (spans_of p)) ≡ b → Some n ≡ pick b (Some (size_of p)) None → Sized p src n
    go true g q = record { granted = g; size = cc }
    go false g q = let z : ◌≡◌ {A = ℕ} 0 1 = cc in absurd (omega arith)

not_granted : (p : Pdu) (src : List ℕ) → None ≡ judged p (length src) → grants p src ≡ false
unfolding grants
not_granted p src e = go (both (allowed p) (all_lie (length src) (spans_of p))) e
  where
    go : (b : Bool) → ◌≡◌ {A = Option ℕ} None (pick b (Some (size_of p)) None) → b ≡ false
    go true q = let z : ◌≡◌ {A = ℕ} 0 1 = cc in absurd (omega arith)
    go false q = refl

-- a refusal stays, with the output memory
pub unless_err : (k : Option Refusal) (e : Refusal) → Err e ≡ unless k (Err e)
unfolding unless
unless_err None e = refl
unless_err (Some x) e = refl

pub out_same : {E : Type 0} (k : Option E) {out' out : List ℕ} → out ≡ out' → out ≡ out_unless k out' out
unfolding out_unless
out_same None e = e
out_same (Some x) e = refl

-- an answer that is another
unless_as : {E : Type 0} (gives : Refusal → E → Type 0) (k : Option E) (r : Result ℕ E) {a b : Result ℕ Refusal} → a ≡ b → IsUnless gives k a r → IsUnless gives k b r
unless_as gives k r e h = subst (λ (a : Result ℕ Refusal). IsUnless gives k a r) e h

module _ (p : Pdu) (src out : List ℕ) {n : ℕ} (e : Some n ≡ judged p (length src)) (h : n ≤ length out) where
  pub ready : Ready p src out
  ready = let s = sized p src e in record { granted = s.granted; room = rw s.size at h }

  passed : Ok n ≡ written_of p src (length out)
  unfolding written_of
  passed = let s = sized p src e in rw (s.granted, le-leb (size_of p) (length out) (rw s.size at h)) (ap Ok s.size)

module _ {E : Type 0} (gives : Refusal → E → Type 0) (p : Pdu) (src out : List ℕ) (k : Option E) where
  refused : {e : Refusal} {x : E} → gives e x → Err e ≡ written_of p src (length out) → MessageOutcome gives p src out k (Err x) out
  unfolding out_after_of
  refused {x = x} g q =
      record { answer = unless_as gives k (Err x) q g; memory = out_same k (ap (λ (a : Result ℕ Refusal). out_with a (encode p src) out) q) }

  pub outside : {x : E} → gives OutsideSet x → None ≡ judged p (length src) → MessageOutcome gives p src out k (Err x) out
  unfolding written_of
  outside g e = refused g (rw (not_granted p src e))

  module _ {n : ℕ} (e : Some n ≡ judged p (length src)) where
    pub too_small : {x : E} → gives OutputTooSmall x → length out < n → MessageOutcome gives p src out k (Err x) out
    unfolding written_of
    too_small g h = let s = sized p src e in refused g (rw (s.granted, lt-leb (size_of p) (length out) (rw s.size at h)))

    module _ (h : n ≤ length out) where
      pub further : {x : E} → k ≡ Some x → MessageOutcome gives p src out k (Err x) out
      unfolding out_unless
      further {x} z = record { answer = unless_as gives k (Err x) (passed p src out e h) (rw z); memory = rw z }

      pub wrote : {y : List ℕ} → k ≡ None → Encoded p src out y → MessageOutcome gives p src out k (Ok n) y
      unfolding out_unless
      wrote {y} z b =
          let r = ready p src out e h in
          record { answer = unless_as gives k (Ok n) (passed p src out e h) (rw z); memory = rw z (done p src out n y r.granted r.room (sized p src e).size b.bytes).1 }

-- ---- the same of words

-- the answer of each step, for words that stand for a record and what judging it gives
pub judged_none : (w src : List ℕ) (m : ℕ) → false ≡ stand w → Err OutsideSet ≡ words_written_of w src m
unfolding words_written_of
judged_none w src m e = rw (← e)

module _ {w : List ℕ} (st : Stands w) (src : List ℕ) (m : ℕ) (j : Option ℕ) (is_judged : j ≡ judged (pdu_of w) (length src)) where
  as_record : {r : Result ℕ Refusal} → r ≡ written_of (pdu_of w) src m → r ≡ words_written_of w src m
  unfolding words_written_of
  as_record e = rw st.holds e

  pub judged_8 : j ≡ None → Err OutsideSet ≡ words_written_of w src m
  unfolding written_of
  judged_8 t = as_record (rw (not_granted (pdu_of w) src (sym t ∙ is_judged)))

  module _ {n : ℕ} (t : j ≡ Some n) where
    words_sized : Sized (pdu_of w) src n
    words_sized = sized (pdu_of w) src (sym t ∙ is_judged)

    pub judged_14 : m < n → Err OutputTooSmall ≡ words_written_of w src m
    unfolding written_of
    judged_14 h = let s = words_sized in as_record (rw (s.granted, lt-leb (size_of (pdu_of w)) m (rw s.size at h)))

    pub judged_bytes : n ≤ m → Ok n ≡ words_written_of w src m
    unfolding written_of
    judged_bytes h = let s = words_sized in as_record (rw (s.granted, le-leb (size_of (pdu_of w)) m (rw s.size at h)) (ap Ok s.size))

-- a refusal leaves the output memory
untouched : (w src out : List ℕ) {e : Refusal} → Err e ≡ words_written_of w src (length out) → out ≡ words_out_after w src out
unfolding words_written_of words_out_after out_after_of
untouched w src out {e} q = go (stand w) (written_of (pdu_of w) src (length out)) q
  where
    go : (b : Bool) (a : Result ℕ Refusal) → Err e ≡ pick b a (Err OutsideSet) → out ≡ pick b (out_with a (encode (pdu_of w) src) out) out
    go true (Ok n) q = absurd (err_no_ok q)
    go true (Err x) q = refl
    go false a q = refl

module _ {E : Type 0} (gives : Refusal → E → Type 0) {w src out : List ℕ} where
  pub unless_refused : (k : Option E) {e : Refusal} {x : E} → gives e x → Err e ≡ words_written_of w src (length out) → FurtherOutcome gives w src out k (Err x) out
  unless_refused k {x = x} g q = record { answer = unless_as gives k (Err x) q g; memory = out_same k (untouched w src out q) }

  pub unless_number : (x : E) {n : ℕ} → Ok n ≡ words_written_of w src (length out) → FurtherOutcome gives w src out (Some x) (Err x) out
  unfolding out_unless
  unless_number x q = record { answer = unless_as gives (Some x) (Err x) q refl; memory = refl }

  pub no_record : (k : Option E) {x : E} → gives OutsideSet x → stand w ≡ false → FurtherOutcome gives w src out k (Err x) out
  no_record k g e = unless_refused k g (judged_none w src (length out) (sym e))

  pub standing : {p : Pdu} {k : Option E} {r : Result ℕ E} {y : List ℕ} → stand w ≡ true → p ≡ pdu_of w → MessageOutcome gives p src out k r y → FurtherOutcome gives w src out k r y
  unfolding words_written_of words_out_after
  standing {k = k} {r = r} {y = y} st e o =
      let m = subst (λ (q : Pdu). MessageOutcome gives q src out k r y) e o in
      record { answer = unless_as gives k r (rw st) m.answer; memory = m.memory ∙ rw st }

-- where the errors are the refusals
is_unless : (k : Option Refusal) (a r : Result ℕ Refusal) → IsUnless (λ (e x : Refusal). x ≡ e) k a r → r ≡ unless k a
unfolding unless
is_unless None (Ok n) r h = h
is_unless (Some x) (Ok n) r h = h
is_unless k (Err e) (Ok n) h = absurd h
is_unless k (Err e) (Err x) h = ap Err h ∙ unless_err k e

pub as_refusal : {w src out y : List ℕ} {k : Option Refusal} {r : Result ℕ Refusal} → FurtherOutcome (λ (e x : Refusal). x ≡ e) w src out k r y → UnlessOutcome w src out k r y
as_refusal {w} {src} {out} {k = k} {r = r} o = record { answer = is_unless k (words_written_of w src (length out)) r o.answer; memory = o.memory }

-- what an answer of n bytes says
pub record Wrote (p : Pdu) (src : List ℕ) (m n : ℕ) : Type 0 where
  pub granted : grants p src ≡ true
  pub room : size_of p ≤ m
  pub size : n ≡ size_of p

pub wrote_says : (p : Pdu) (src : List ℕ) (m n : ℕ) → Ok n ≡ written_of p src m → Wrote p src m n
unfolding written_of
wrote_says p src m n = go (grants p src) refl (leb (size_of p) m) refl
  where
    go : (g : Bool) → grants p src ≡ g → (t : Bool) → leb (size_of p) m ≡ t → Ok n ≡ pick g (pick t (Ok (size_of p)) (Err OutputTooSmall)) (Err OutsideSet) → Wrote p src m n
    go true eg true et e = record { granted = eg; room = leb-true (size_of p) m et; size = cc }
    go true eg false et e = absurd (err_no_ok (sym e))
    go false eg t et e = absurd (err_no_ok (sym e))

-- where no further refusal applies
pub no_further : {w src out y : List ℕ} {r : Result ℕ Refusal} → UnlessOutcome w src out None r y → WordsOutcome w src out r y
unfolding unless out_unless
no_further o = record { answer = o.answer; memory = o.memory }

-- ---- what writing answers fits where it is packed

pub bytes_small : {w src out y : List ℕ} {r : Result ℕ Refusal} {n : ℕ} → WordsOutcome w src out r y → r ≡ Ok n → n < 65536
unfolding words_written_of
bytes_small {w} {src} {out} {n = n} o q = go (stand w) (sym q ∙ o.answer)
  where
    go : (b : Bool) → Ok n ≡ pick b (written_of (pdu_of w) src (length out)) (Err OutsideSet) → n < 65536
    go true e =
        let g = wrote_says (pdu_of w) src (length out) n e in
        omega (arith, g.size, size_small (pdu_of w) (allowed_of (pdu_of w) src g.granted))
    go false e = absurd (err_no_ok (sym e))

pub number_small : {w src out y : List ℕ} {r : Result ℕ Refusal} {e : Refusal} → WordsOutcome w src out r y → r ≡ Err e → R.number_of e < 256
unfolding words_written_of written_of
number_small {w} {src} {out} {e = e} o q = go (stand w) (grants (pdu_of w) src) (leb (size_of (pdu_of w)) (length out)) (sym q ∙ o.answer)
  where
    go : (b g t : Bool) → Err e ≡ pick b (pick g (pick t (Ok (size_of (pdu_of w))) (Err OutputTooSmall)) (Err OutsideSet)) (Err OutsideSet) → R.number_of e < 256
    go true true true d = absurd (err_no_ok d)
    go true true false d = let z : e ≡ OutputTooSmall = cc in rw z (omega arith)
    go true false t d = let z : e ≡ OutsideSet = cc in rw z (omega arith)
    go false g t d = let z : e ≡ OutsideSet = cc in rw z (omega arith)

-- ---- a record is written as its words are

pub from_words : {p : Pdu} {src out y : List ℕ} {r : Result ℕ Refusal} {w : List ℕ} {vs : List Val} → Is (row the_type) p vs → w ≡ words_of p → WordsOutcome w src out r y → WriteOutcome p src out r y
unfolding words_written_of words_out_after
from_words {p} {src} {out} {y} {r} {w} {vs} i ew o =
    let f = memory_fits p vs i in
    let st = words_stand p f in
    let v = subst (λ (x : List ℕ). WordsOutcome x src out r y) ew o in
    let a : r ≡ written_of p src (length out) = v.answer ∙ rw (st.holds, words_back p f) in
    let m : y ≡ out_after_of p src out = v.memory ∙ rw (st.holds, words_back p f) in
    record { says = ap says a ∙ written_says_lem p src (length out); answer = a; memory = m; back = back r a m }
  where
    back : (r : Result ℕ Refusal) → r ≡ written_of p src (length out) → y ≡ out_after_of p src out → WrittenBack r p src y
    back (Ok n) a m =
        let g = wrote_says p src (length out) n a in
        after_reads p src out g.granted g.room n y g.size (typed_of p vs i (allowed_of p src g.granted)) m
    back (Err e) a m = tt
