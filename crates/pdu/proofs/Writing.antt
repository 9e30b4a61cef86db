-- The length of what is written, and the ways through writing. Assumes nothing.
use mathlib.Core.Path.{◌≡◌, refl, ap, ◌∙◌}
use mathlib.Core.Bool.{true}
use mathlib.Core.List.{List, [], ◌∷◌, ◌++◌, map}
use Prim.Native.Nat.{ℕ, ◌+◌, ◌≤◌}
use native.Mathlib.Omega.{arith}
use native.Mathlib.Nat.{add-zero}
use lib.ListN.{length, get_or, drop, length-append}
use borrow.Author.Tests.{leb-true, le-leb}
use Rattle.wire.specs.Parts.{splice}
use Rattle.wire.specs.Numbers.{put_all, total}
use Rattle.wire.proofs.Tests.{both_left, both_right}
use Rattle.wire.proofs.Parts.{splice_start}
use Rattle.wire.proofs.Numbers.{length_put}
use Rattle.pdu.specs.declared.Pdu.{Pdu}
use Rattle.pdu.specs.declared.Pdu.TheVariants.{Execute, Activate, SystemCommand, Handshake, NotifyEvent, WindowMove, MoveSize, MinMaxInfo, ClientInformation, SystemMenu, GetApplicationId, ApplicationIdResponse, ExecuteResult, SystemParameters, HandshakeEx}
use Rattle.pdu.specs.declared.ApplicationIdResponse as A
use Rattle.std.specs.Prelude.{Ok}
use Rattle.pdu.specs.Layout.{widths}
use Rattle.pdu.specs.Settings.{number_of, data_of, data_spans}
use Rattle.pdu.specs.Records.{kind_of, nums_of, size_of, spans_of}
use Rattle.pdu.specs.Rules.{allowed}
use Rattle.pdu.specs.Writing.{part_of, all_lie, zeros, filled, strings_of, joined, row, line, encode, grants, written_of, out_after_of}
use Rattle.pdu.proofs.Strings.{lens, lens_lie, sum, length_joined, length_filled}
use Rattle.pdu.proofs.Settings.{shape, size_shape}

pub allowed_of : (p : Pdu) (src : List ℕ) → grants p src ≡ true → allowed p ≡ true
unfolding grants
allowed_of p src g = both_left (allowed p) (all_lie (length src) (spans_of p)) g

pub lie_of : (p : Pdu) (src : List ℕ) → grants p src ≡ true → all_lie (length src) (spans_of p) ≡ true
unfolding grants
lie_of p src g = both_right (allowed p) (all_lie (length src) (spans_of p)) g

-- ---- the length of what is written

-- the lengths of a record's strings as they are written
unfoldable pub string_lengths_lem : Pdu → List ℕ
string_lengths_lem (Execute e) = e.exe_or_file.len ∷ e.working_dir.len ∷ e.arguments.len ∷ []
string_lengths_lem (Activate e) = []
string_lengths_lem (SystemCommand e) = []
string_lengths_lem (Handshake e) = []
string_lengths_lem (NotifyEvent e) = []
string_lengths_lem (WindowMove e) = []
string_lengths_lem (MoveSize e) = []
string_lengths_lem (MinMaxInfo e) = []
string_lengths_lem (ClientInformation e) = []
string_lengths_lem (SystemMenu e) = []
string_lengths_lem (GetApplicationId e) = []
string_lengths_lem (ApplicationIdResponse e) = 520 ∷ []
string_lengths_lem (ExecuteResult e) = e.exe_or_file.len ∷ []
string_lengths_lem (SystemParameters e) = lens (data_spans (data_of e.setting))
string_lengths_lem (HandshakeEx e) = []

id_length : (e : A.ApplicationIdResponse) (src : List ℕ) → grants (ApplicationIdResponse e) src ≡ true → length (splice zeros 0 (part_of src e.application_id)) ≡ 520
unfolding allowed spans_of
id_length e src g =
    let t = e.application_id in
    let a = leb-true t.len 520 (allowed_of (ApplicationIdResponse e) src g) in
    let l : length (part_of src t) ≡ t.len = ap (λ (l : List ℕ). get_or l 0 0) (lens_lie (t ∷ []) src (lie_of (ApplicationIdResponse e) src g)) in
    length_filled (part_of src t) (omega arith)

pub string_lengths : (p : Pdu) (src : List ℕ) → grants p src ≡ true → map length (strings_of p src) ≡ string_lengths_lem p
unfolding strings_of string_lengths_lem filled kind_of spans_of
string_lengths (Execute e) src g = lens_lie (spans_of (Execute e)) src (lie_of (Execute e) src g)
string_lengths (Activate e) src g = refl
string_lengths (SystemCommand e) src g = refl
string_lengths (Handshake e) src g = refl
string_lengths (NotifyEvent e) src g = refl
string_lengths (WindowMove e) src g = refl
string_lengths (MoveSize e) src g = refl
string_lengths (MinMaxInfo e) src g = refl
string_lengths (ClientInformation e) src g = refl
string_lengths (SystemMenu e) src g = refl
string_lengths (GetApplicationId e) src g = refl
string_lengths (ApplicationIdResponse e) src g = ap (λ (k : ℕ). k ∷ []) (id_length e src g)
string_lengths (ExecuteResult e) src g = lens_lie (spans_of (ExecuteResult e)) src (lie_of (ExecuteResult e) src g)
string_lengths (SystemParameters e) src g = lens_lie (spans_of (SystemParameters e)) src (lie_of (SystemParameters e) src g)
string_lengths (HandshakeEx e) src g = refl

-- a record takes its numbers and its strings
pub size_is : (p : Pdu) → total (row p) + sum (string_lengths_lem p) ≡ size_of p
unfolding total widths kind_of nums_of string_lengths_lem size_of
size_is (Execute e) = omega arith
size_is (Activate e) = refl
size_is (SystemCommand e) = refl
size_is (Handshake e) = refl
size_is (NotifyEvent e) = refl
size_is (WindowMove e) = refl
size_is (MoveSize e) = refl
size_is (MinMaxInfo e) = refl
size_is (ClientInformation e) = refl
size_is (SystemMenu e) = refl
size_is (GetApplicationId e) = refl
size_is (ApplicationIdResponse e) = refl
size_is (ExecuteResult e) = ap (λ (k : ℕ). 16 + k) (add-zero e.exe_or_file.len)
size_is (SystemParameters e) = size_shape (number_of e.setting) (data_of e.setting) (shape e.setting)
size_is (HandshakeEx e) = refl

pub length_encode : (p : Pdu) (src : List ℕ) → grants p src ≡ true → length (encode p src) ≡ size_of p
unfolding encode
length_encode p src g =
    let l = length_joined (strings_of p src) ∙ ap sum (string_lengths p src g) in
    length-append (put_all (row p) (line p)) (joined (strings_of p src)) ∙ rw (length_put (row p) (line p), l) (size_is p)

-- ---- the ways through writing

module _ (p : Pdu) (src out : List ℕ) where
  pub done : (n : ℕ) (y : List ℕ) → grants p src ≡ true → size_of p ≤ length out → n ≡ size_of p → y ≡ splice out 0 (encode p src)
      → (Ok n ≡ written_of p src (length out)) × (y ≡ out_after_of p src out)
  unfolding written_of out_after_of
  done n y g fits en ey =
      let t = le-leb (size_of p) (length out) fits in
      let all : y ≡ encode p src ++ drop (size_of p) out =
      ey ∙ splice_start out (encode p src) ∙ ap (λ (k : ℕ). encode p src ++ drop k out) (length_encode p src g) in
      (rw (g, t, en), rw (g, t) all)
