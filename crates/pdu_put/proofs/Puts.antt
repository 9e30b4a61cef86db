-- Parts put one after the other, and the strings of a record that is granted. Assumes nothing.
use mathlib.Core.Path.{◌≡◌, sym, ap, ◌∙◌}
use mathlib.Core.Bool.{true}
use mathlib.Core.List.{List, [], ◌∷◌}
use Prim.Native.Nat.{ℕ, ◌+◌, ◌≤◌}
use native.Mathlib.Omega.{arith}
use lib.ListN.{length, length-append}
use borrow.Author.Tests.{leb-true}
use Rattle.wire.specs.Parts.{splice}
use Rattle.wire.proofs.Tests.{both_left, both_right}
use Rattle.wire.proofs.Parts.{length_slice, length_splice, splice_nil, splice_after}
use Rattle.pdu.specs.declared.Pdu.TheVariants.{Execute, ApplicationIdResponse, ExecuteResult, SystemParameters}
use Rattle.pdu.specs.declared.Execute as E
use Rattle.pdu.specs.declared.ApplicationIdResponse as A
use Rattle.pdu.specs.declared.ExecuteResult as X
use Rattle.pdu.specs.declared.HighContrast as H
use Rattle.pdu.specs.declared.Setting.TheVariants.{HighContrast}
use Rattle.pdu.specs.declared.Span.{Span}
use Rattle.pdu.specs.Settings.{data_of, data_allowed, data_spans, data_size}
use Rattle.pdu.specs.Records.{size_of, spans_of}
use Rattle.pdu.specs.Rules.{allowed}
use Rattle.pdu.specs.Writing.{part_of, lies, all_lie, zeros, joined}
use Rattle.pdu.proofs.Strings.{length_filled}
use Rattle.pdu.proofs.Writing.{allowed_of, lie_of}
use Rattle.pdu.proofs.ReadBack.{execute_small, result_small}
use Rattle.pdu_put.specs.Judging.{Ready, Text, ExecuteReady, TextReady}

-- ---- parts put one after the other from index at to index stop make y of d

pub data Puts : List ℕ → ℕ → List (List ℕ) → List ℕ → ℕ → Type 0 where
  end : {d : List ℕ} {at : ℕ} → Puts d at [] d at
  put : {d x y s : List ℕ} {at next stop : ℕ} {xs : List (List ℕ)} → x ≡ splice d at s → next ≡ at + length s → Puts x next xs y stop → Puts d at (s ∷ xs) y stop

reach : {d y : List ℕ} {at stop : ℕ} {xs : List (List ℕ)} → Puts d at xs y stop → at + length (joined xs) ≡ stop
unfolding joined
reach end = omega arith
reach (put {s = s} {xs = xs} e n r) = omega (arith, length-append s (joined xs), reach r)

pub puts : {d y : List ℕ} {at stop : ℕ} {xs : List (List ℕ)} → Puts d at xs y stop → stop ≤ length d → y ≡ splice d at (joined xs)
unfolding joined
puts {d = d} {at = at} end h = sym (splice_nil d at)
puts {d = d} {at = at} (put {x = x} {s = s} {next = next} {xs = xs} e n r) h =
    let k = reach r in
    let lx : length x ≡ length d = ap length e ∙ length_splice d at s (omega arith) in
    puts r (omega arith) ∙ ap (λ (l : List ℕ). splice l next (joined xs)) e ∙ splice_after d at s (joined xs) next n (omega arith)

-- the place after a string
pub after : (n : ℕ) {t : Span} {most : ℕ} {src : List ℕ} → Text t most src → n + t.len ≡ n + length (part_of src t)
after n {t} {most} {src} h = ap (λ (k : ℕ). n + k) (sym (length_slice src t.at t.len h.inside))

pub after_id : {t : Span} {src : List ℕ} → Text t 520 src → 528 ≡ 8 + length (splice zeros 0 (part_of src t))
after_id {t} {src} h =
    let l = length_slice src t.at t.len h.inside in
    let s = h.small in
    ap (λ (k : ℕ). 8 + k) (sym (length_filled (part_of src t) (omega arith)))

-- ---- strings of a record that is granted

text : (t : Span) (most : ℕ) (src : List ℕ) → t.len ≤ most → lies (length src) t ≡ true → Text t most src
text t most src s l = record { small = s; inside = leb-true (t.at + t.len) (length src) l }

pub execute_ready : {e : E.Execute} {src out : List ℕ} → Ready (Execute e) src out → ExecuteReady e src out
unfolding allowed spans_of size_of
execute_ready {e} {src} {out} r =
    let n = length src in
    let a = e.exe_or_file in
    let b = e.working_dir in
    let d = e.arguments in
    let s = execute_small e (allowed_of (Execute e) src r.granted) in
    let l = lie_of (Execute e) src r.granted in
    let m = both_right (lies n a) (all_lie n (b ∷ d ∷ [])) l in
    record {
      file = text a 520 src s.file (both_left (lies n a) (all_lie n (b ∷ d ∷ [])) l);
      directory = text b 520 src s.directory (both_left (lies n b) (all_lie n (d ∷ [])) m);
      argument = text d 16000 src s.arguments_small (both_left (lies n d) true (both_right (lies n b) (all_lie n (d ∷ [])) m));
      room = r.room;
    }

pub id_ready : {e : A.ApplicationIdResponse} {src out : List ℕ} → Ready (ApplicationIdResponse e) src out → TextReady e.application_id 528 src out
unfolding allowed spans_of size_of
id_ready {e} {src} {out} r =
    let t = e.application_id in
    let p = ApplicationIdResponse e in
    record {
      text = text t 520 src (leb-true t.len 520 (allowed_of p src r.granted)) (both_left (lies (length src) t) true (lie_of p src r.granted));
      room = r.room;
    }

pub result_ready : {e : X.ExecuteResult} {src out : List ℕ} → Ready (ExecuteResult e) src out → TextReady e.exe_or_file (16 + e.exe_or_file.len) src out
unfolding allowed spans_of size_of
result_ready {e} {src} {out} r =
    let t = e.exe_or_file in
    let p = ExecuteResult e in
    record {
      text = text t 520 src (result_small e (allowed_of p src r.granted)) (both_left (lies (length src) t) true (lie_of p src r.granted));
      room = r.room;
    }

pub scheme_ready : {e : H.HighContrast} {src out : List ℕ} → Ready (SystemParameters (record { setting = HighContrast e })) src out
    → TextReady e.color_scheme (18 + e.color_scheme.len) src out
unfolding allowed spans_of size_of data_of data_allowed data_spans data_size
scheme_ready {e} {src} {out} r =
    let t = e.color_scheme in
    let q = SystemParameters (record { setting = HighContrast e }) in
    record {
      text = record { small = leb-true t.len 520 (allowed_of q src r.granted); inside = leb-true (t.at + t.len) (length src) (both_left (lies (length src) t) true (lie_of q src r.granted)) };
      room = r.room;
    }
