-- A read record is written as the same bytes, but for Padding and start. Assumes nothing.
use mathlib.Core.Path.{◌≡◌, refl, sym, ap, ◌∙◌, subst}
use mathlib.Core.Bool.{Bool, true, false, not}
use mathlib.Core.List.{List, [], ◌∷◌, ◌++◌, append-nil}
use Prim.Native.Nat.{ℕ, ◌+◌, ◌≤◌}
use native.Mathlib.Omega.{arith}
use lib.ListN.{length, take, drop, take-append-drop}
use lib.Seq.{drop-length}
use lib.Dec.{ltb, eqb}
use borrow.Author.Tests.{eqb-true}
use Rattle.wire.specs.Tests.{pick}
use Rattle.wire.specs.Parts.{slice, splice}
use Rattle.wire.specs.Numbers.{num_at, nums_at, bytes_of, put_all, total}
use Rattle.wire.proofs.Tests.{Each, one_of_lem, not_not}
use Rattle.wire.proofs.Parts.{length_slice, splice_append}
use Rattle.wire.proofs.Numbers.{Bytes, put_nums, length_put}
use Rattle.pdu.specs.declared.Span.{Span}
use Rattle.signs.specs.TwosComplement.{signed, unsigned}
use Rattle.signs.proofs.TwosComplement.{forth_2, num_under}
use Rattle.pdu.specs.declared.Pdu.{Pdu}
use Rattle.pdu.specs.declared.Pdu.TheVariants.{SystemParameters}
use Rattle.std.specs.Prelude.{Result, Ok, Err}
use Rattle.protocol.specs.declared.Refusal.{Refusal}
use Rattle.protocol.specs.declared.Refusal.TheVariants.{TooShort, LengthDiffers, UnknownType, NotFilled, OutsideSet}
use Rattle.pdu.specs.Layout.{types, known, widths}
use Rattle.pdu.specs.Settings.{is_byte, is_area, high_contrast, known_setting, setting_widths, Data, byte, area, scheme, setting_with, data_nums, data_size, data_spans, moved}
use Rattle.pdu.specs.Records.{is_yes, yes_number, record_of, kind_of, nums_of, size_of, spans_of}
use Rattle.pdu.specs.Rules.{allowed}
use Rattle.pdu.specs.Reading.{record_as, setting_at, unknown_setting, lengths_agree, body_of, read_of}
use Rattle.pdu.specs.Writing.{all_lie, zeros, filled, strings_of, joined, encode, grants}
use Rattle.pdu.specs.RoundTrip.{tidy_as, tidy, WritesBack}
use Rattle.pdu.proofs.Strings.{spans_from, sum, parts, parts_join, all_lie_lem, lens, filled_whole}
use Rattle.pdu.proofs.Settings.{Shape, made, not_byte, not_area, by_shape, size_shape, spans_shape, byte_is, area_is, scheme_is, encode_made}

-- ---- what a granted reading says

abbrev record_in : Result Pdu Refusal → Pdu → Pdu
record_in (Ok p) d = p
record_in (Err r) d = d

pub ok_inj : (p q : Pdu) → ◌≡◌ {A = Result Pdu Refusal} (Ok p) (Ok q) → p ≡ q
ok_inj p q e = ap (λ (r : Result Pdu Refusal). record_in r p) e

-- a refusal is no record
pub err_no_ok : {A : Type 0} {r : Refusal} {v : A} → ◌≡◌ {A = Result A Refusal} (Err r) (Ok v) → ⊥
err_no_ok e = let z : ◌≡◌ {A = ℕ} 0 1 = cc in absurd (omega arith)

-- a line of the ladder that was passed
passed : (t : Bool) (r : Refusal) (x : Result Pdu Refusal) (p : Pdu) → pick t (Err r) x ≡ Ok p → (t ≡ false) × (x ≡ Ok p)
passed false r x p e = (refl, e)
passed true r x p e = absurd (err_no_ok e)

passed_two : (t u : Bool) (r q : Refusal) (x : Result Pdu Refusal) (p : Pdu) → pick t (pick u (Err r) (Err q)) x ≡ Ok p → (t ≡ false) × (x ≡ Ok p)
passed_two false u r q x p e = (refl, e)
passed_two true true r q x p e = absurd (err_no_ok e)
passed_two true false r q x p e = absurd (err_no_ok e)

pub record Granted (b : List ℕ) (p : Pdu) : Type 0 where
  pub length_told : num_at 2 b 2 ≡ length b
  pub kind_known : known (num_at 2 b 0) ≡ true
  pub named : unknown_setting (num_at 2 b 0) b ≡ false
  pub agrees : lengths_agree (num_at 2 b 0) b ≡ true
  pub fills : size_of (record_as (num_at 2 b 0) b) ≡ length b
  pub fine : allowed (record_as (num_at 2 b 0) b) ≡ true
  pub same_record_lem : record_as (num_at 2 b 0) b ≡ p

pub reading : (b : List ℕ) (p : Pdu) → read_of b ≡ Ok p → Granted b p
unfolding read_of body_of
reading b p e =
    let r = record_as (num_at 2 b 0) b in
    let x8 : Result Pdu Refusal = pick (not (allowed r)) (Err OutsideSet) (Ok r) in
    let xo : Result Pdu Refusal = pick (not (lengths_agree (num_at 2 b 0) b)) (Err NotFilled) x8 in
    let x7 : Result Pdu Refusal = pick (not (eqb (size_of r) (length b))) (Err NotFilled) xo in
    let xs : Result Pdu Refusal = pick (unknown_setting (num_at 2 b 0) b) (pick (ltb (length b) 8) (Err NotFilled) (Err OutsideSet)) x7 in
    let x4 : Result Pdu Refusal = pick (not (known (num_at 2 b 0))) (Err UnknownType) xs in
    let x3 : Result Pdu Refusal = pick (not (eqb (num_at 2 b 2) (length b))) (Err LengthDiffers) x4 in
    let a = passed (ltb (length b) 4) TooShort x3 p e in
    let c = passed (not (eqb (num_at 2 b 2) (length b))) LengthDiffers x4 p a.1 in
    let d = passed (not (known (num_at 2 b 0))) UnknownType xs p c.1 in
    let m = passed_two (unknown_setting (num_at 2 b 0) b) (ltb (length b) 8) NotFilled OutsideSet x7 p d.1 in
    let f = passed (not (eqb (size_of r) (length b))) NotFilled xo p m.1 in
    let l = passed (not (lengths_agree (num_at 2 b 0) b)) NotFilled x8 p f.1 in
    let g = passed (not (allowed r)) OutsideSet (Ok r) p l.1 in
    record {
      length_told = eqb-true (num_at 2 b 2) (length b) (not_not (eqb (num_at 2 b 2) (length b)) c.0);
      kind_known = not_not (known (num_at 2 b 0)) d.0;
      named = m.0;
      agrees = not_not (lengths_agree (num_at 2 b 0) b) l.0;
      fills = eqb-true (size_of r) (length b) (not_not (eqb (size_of r) (length b)) f.0);
      fine = not_not (allowed r) g.0;
      same_record_lem = ok_inj r p g.1;
    }

-- ---- the two numbers that change

swap_start : (n0 n1 n2 n3 n4 n5 n6 : ℕ) (y : Bool)
    → put_all (2 ∷ 2 ∷ 4 ∷ 2 ∷ 2 ∷ 2 ∷ 2 ∷ []) (n0 ∷ n1 ∷ n2 ∷ yes_number y ∷ n4 ∷ n5 ∷ n6 ∷ [])
    ≡ splice (put_all (2 ∷ 2 ∷ 4 ∷ 2 ∷ 2 ∷ 2 ∷ 2 ∷ []) (n0 ∷ n1 ∷ n2 ∷ n3 ∷ n4 ∷ n5 ∷ n6 ∷ [])) 8 (yes_number y ∷ 0 ∷ [])
unfolding put_all bytes_of splice
swap_start n0 n1 n2 n3 n4 n5 n6 true = refl
swap_start n0 n1 n2 n3 n4 n5 n6 false = refl

swap_padding : (n0 n1 n2 n3 n4 n5 n6 : ℕ)
    → put_all (2 ∷ 2 ∷ 2 ∷ 2 ∷ 4 ∷ 2 ∷ 2 ∷ []) (n0 ∷ n1 ∷ n2 ∷ n3 ∷ n4 ∷ 0 ∷ n6 ∷ [])
    ≡ splice (put_all (2 ∷ 2 ∷ 2 ∷ 2 ∷ 4 ∷ 2 ∷ 2 ∷ []) (n0 ∷ n1 ∷ n2 ∷ n3 ∷ n4 ∷ n5 ∷ n6 ∷ [])) 12 (0 ∷ 0 ∷ [])
unfolding put_all bytes_of splice
swap_padding n0 n1 n2 n3 n4 n5 n6 = refl

-- ---- each type

record Back (b : List ℕ) (k : ℕ) (p : Pdu) : Type 0 where
  pub within : all_lie (length b) (spans_of p) ≡ true
  pub bytes_back : encode p b ≡ tidy_as k b

abbrev Kind : List ℕ → ℕ → Type 0
Kind b k = num_at 2 b 0 ≡ k → size_of (record_as k b) ≡ length b → Back b k (record_as k b)

-- the same of a message that names a known setting, with lengths that agree
abbrev Named : List ℕ → ℕ → Type 0
Named b k = num_at 2 b 0 ≡ k → size_of (record_as k b) ≡ length b → unknown_setting k b ≡ false → lengths_agree k b ≡ true → Back b k (record_as k b)

any_setting : {b : List ℕ} {k : ℕ} → Kind b k → Named b k
any_setting f e w u a = f e w

module _ (b : List ℕ) (ok : Bytes b) (told : num_at 2 b 2 ≡ length b) where
  -- numbers as they were read, and then the rest of the bytes
  same : (k n : ℕ) (ws t : List ℕ) → num_at 2 b 0 ≡ k → n ≡ length b → total (2 ∷ 2 ∷ ws) ≤ length b → t ≡ drop (total (2 ∷ 2 ∷ ws)) b
      → put_all (2 ∷ 2 ∷ ws) (k ∷ n ∷ nums_at ws b 4) ++ t ≡ b
  unfolding nums_at
  same k n ws t e w h et =
      let head : put_all (2 ∷ 2 ∷ ws) (k ∷ n ∷ nums_at ws b 4) ≡ take (total (2 ∷ 2 ∷ ws)) b =
      ap (put_all (2 ∷ 2 ∷ ws)) (rw (sym e, w ∙ sym told)) ∙ put_nums (2 ∷ 2 ∷ ws) b ok h in
      rw (head, et) (take-append-drop (total (2 ∷ 2 ∷ ws)) b)

  -- no strings
  plain : (k n : ℕ) (ws : List ℕ) → num_at 2 b 0 ≡ k → n ≡ length b → total (2 ∷ 2 ∷ ws) ≡ n → put_all (2 ∷ 2 ∷ ws) (k ∷ n ∷ nums_at ws b 4) ++ [] ≡ b
  plain k n ws e w z = same k n ws [] e w (omega (arith, w, z)) (sym (ap (λ (i : ℕ). drop i b) (z ∙ w) ∙ drop-length b))

  -- strings of these lengths behind the numbers
  strings : (k n : ℕ) (ws ls : List ℕ) → num_at 2 b 0 ≡ k → n ≡ length b → total (2 ∷ 2 ∷ ws) + sum ls ≡ n
      → put_all (2 ∷ 2 ∷ ws) (k ∷ n ∷ nums_at ws b 4) ++ joined (parts b (spans_from (total (2 ∷ 2 ∷ ws)) ls)) ≡ b
  strings k n ws ls e w z =
      same k n ws (joined (parts b (spans_from (total (2 ∷ 2 ∷ ws)) ls))) e w (omega (arith, w, z)) (parts_join ls b (total (2 ∷ 2 ∷ ws)) (z ∙ w))

  -- a position is written as the number that was read
  place : (at : ℕ) → unsigned 2 (signed 2 (num_at 2 b at)) ≡ num_at 2 b at
  place at = forth_2 (num_at 2 b at) (num_under 2 b at ok)

  activate_back : Kind b 0x02
  unfolding record_as record_of widths nums_at nums_of kind_of size_of spans_of encode strings_of filled joined total tidy_as
  activate_back e w = record { within = refl; bytes_back = plain 0x02 9 (widths 0x02) e w refl }

  system_command_back : Kind b 0x04
  unfolding record_as record_of widths nums_at nums_of kind_of size_of spans_of encode strings_of filled joined total tidy_as
  system_command_back e w = record { within = refl; bytes_back = plain 0x04 10 (widths 0x04) e w refl }

  handshake_back : Kind b 0x05
  unfolding record_as record_of widths nums_at nums_of kind_of size_of spans_of encode strings_of filled joined total tidy_as
  handshake_back e w = record { within = refl; bytes_back = plain 0x05 8 (widths 0x05) e w refl }

  notify_event_back : Kind b 0x06
  unfolding record_as record_of widths nums_at nums_of kind_of size_of spans_of encode strings_of filled joined total tidy_as
  notify_event_back e w = record { within = refl; bytes_back = plain 0x06 16 (widths 0x06) e w refl }

  window_move_back : Kind b 0x08
  unfolding record_as record_of widths nums_at nums_of kind_of size_of spans_of encode strings_of filled joined total tidy_as
  window_move_back e w = record { within = refl; bytes_back = rw (place 8, place 10, place 12, place 14) (plain 0x08 16 (widths 0x08) e w refl) }

  min_max_info_back : Kind b 0x0A
  unfolding record_as record_of widths nums_at nums_of kind_of size_of spans_of encode strings_of filled joined total tidy_as
  min_max_info_back e w = record { within = refl; bytes_back = rw (place 12, place 14) (plain 0x0A 24 (widths 0x0A) e w refl) }

  client_information_back : Kind b 0x0B
  unfolding record_as record_of widths nums_at nums_of kind_of size_of spans_of encode strings_of filled joined total tidy_as
  client_information_back e w = record { within = refl; bytes_back = plain 0x0B 8 (widths 0x0B) e w refl }

  system_menu_back : Kind b 0x0C
  unfolding record_as record_of widths nums_at nums_of kind_of size_of spans_of encode strings_of filled joined total tidy_as
  system_menu_back e w = record { within = refl; bytes_back = rw (place 8, place 10) (plain 0x0C 12 (widths 0x0C) e w refl) }

  get_application_id_back : Kind b 0x0E
  unfolding record_as record_of widths nums_at nums_of kind_of size_of spans_of encode strings_of filled joined total tidy_as
  get_application_id_back e w = record { within = refl; bytes_back = plain 0x0E 8 (widths 0x0E) e w refl }

  execute_back : Kind b 0x01
  unfolding record_as record_of widths nums_at nums_of kind_of size_of spans_of encode strings_of filled joined total tidy_as
  execute_back e w =
      let x = num_at 2 b 6 in
      let y = num_at 2 b 8 in
      let z = num_at 2 b 10 in
      let ls = x ∷ y ∷ z ∷ [] in
      record {
        within = all_lie_lem ls 12 (length b) (omega (arith, w));
        bytes_back = strings 0x01 (12 + x + y + z) (widths 0x01) ls e w (omega arith);
      }

  move_size_back : Kind b 0x09
  unfolding record_as record_of widths nums_at nums_of kind_of size_of spans_of encode strings_of filled joined total tidy_as
  move_size_back e w =
      let y = is_yes (num_at 2 b 8) in
      let ns : ℕ → List ℕ = λ n. 0x09 ∷ 16 ∷ num_at 4 b 4 ∷ n ∷ num_at 2 b 10 ∷ num_at 2 b 12 ∷ num_at 2 b 14 ∷ [] in
      let ws : List ℕ = 2 ∷ 2 ∷ widths 0x09 in
      record {
        within = refl;
        bytes_back = rw (place 12, place 14) (append-nil (put_all ws (ns (yes_number y)))
            ∙ swap_start 0x09 16 (num_at 4 b 4) (num_at 2 b 8) (num_at 2 b 10) (num_at 2 b 12) (num_at 2 b 14) y
            ∙ ap (λ (x : List ℕ). splice x 8 (yes_number y ∷ 0 ∷ [])) (sym (append-nil (put_all ws (ns (num_at 2 b 8)))) ∙ plain 0x09 16 (widths 0x09) e w refl));
      }

  application_id_response_back : Kind b 0x0F
  unfolding record_as record_of widths nums_at nums_of kind_of size_of spans_of encode strings_of filled joined total tidy_as
  application_id_response_back e w =
      let t = slice b 8 520 in
      let whole : splice zeros 0 t ≡ t = filled_whole t (length_slice b 8 520 (omega (arith, w))) in
      record {
        within = all_lie_lem (520 ∷ []) 8 (length b) (omega (arith, w));
        bytes_back = ap (λ (x : List ℕ). put_all (2 ∷ 2 ∷ widths 0x0F) (0x0F ∷ 528 ∷ nums_at (widths 0x0F) b 4) ++ (x ++ [])) whole
            ∙ strings 0x0F 528 (widths 0x0F) (520 ∷ []) e w refl;
      }

  execute_result_back : Kind b 0x80
  unfolding record_as record_of widths nums_at nums_of kind_of size_of spans_of encode strings_of filled joined total tidy_as
  execute_result_back e w =
      let l = num_at 2 b 14 in
      let ns : ℕ → List ℕ = λ n. 0x80 ∷ (16 + l) ∷ num_at 2 b 4 ∷ num_at 2 b 6 ∷ num_at 4 b 8 ∷ n ∷ l ∷ [] in
      let ws : List ℕ = 2 ∷ 2 ∷ widths 0x80 in
      let h = put_all ws (ns (num_at 2 b 12)) in
      let t = slice b 16 l ++ [] in
      let lh : length h ≡ 16 = length_put ws (ns (num_at 2 b 12)) in
      record {
        within = all_lie_lem (l ∷ []) 16 (length b) (omega (arith, w));
        bytes_back = ap (λ (x : List ℕ). x ++ t) (swap_padding 0x80 (16 + l) (num_at 2 b 4) (num_at 2 b 6) (num_at 4 b 8) (num_at 2 b 12) l)
            ∙ splice_append h t 12 (0 ∷ 0 ∷ []) (omega (arith, lh))
            ∙ ap (λ (x : List ℕ). splice x 12 (0 ∷ 0 ∷ [])) (strings 0x80 (16 + l) (widths 0x80) (l ∷ []) e w (omega arith));
      }

  handshake_ex_back : Kind b 0x13
  unfolding record_as record_of widths nums_at nums_of kind_of size_of spans_of encode strings_of filled joined total tidy_as
  handshake_ex_back e w = record { within = refl; bytes_back = plain 0x13 12 (widths 0x13) e w refl }

  -- a setting with data d of its shape, whose numbers are those of the message
  setting_back : (d : Data) → Shape (setting_at b) d → moved d ≡ d → record_as 0x03 b ≡ SystemParameters (record { setting = setting_with (setting_at b) d })
      → data_nums d ≡ nums_at (setting_widths (setting_at b)) b 8 → num_at 2 b 0 ≡ 0x03 → size_of (record_as 0x03 b) ≡ length b → Back b 0x03 (record_as 0x03 b)
  unfolding size_of spans_of total tidy_as nums_at
  setting_back d h stays r n e w =
      let c = setting_at b in
      let m = made c d h in
      let ws : List ℕ = 4 ∷ setting_widths c in
      let l : data_size d ≡ length b = ap data_size (sym m.body) ∙ sym (ap size_of r) ∙ w in
      let t : data_spans d ≡ spans_from (total (2 ∷ 2 ∷ 4 ∷ setting_widths c)) (lens (data_spans d)) = ap data_spans (sym stays) ∙ spans_shape c d h in
      let z = size_shape c d h in
      let g : joined (parts b (data_spans d)) ≡ joined (parts b (spans_from (total (2 ∷ 2 ∷ ws)) (lens (data_spans d)))) = ap (λ (x : List Span). joined (parts b x)) t in
      let q : all_lie (length b) (data_spans d) ≡ true = ap (all_lie (length b)) t ∙ all_lie_lem (lens (data_spans d)) (total (2 ∷ 2 ∷ 4 ∷ setting_widths c)) (length b) (omega (arith, z, l)) in
      subst (Back b 0x03) (sym r) (record {
        within = ap (λ (x : Data). all_lie (length b) (data_spans x)) m.body ∙ q;
        bytes_back = encode_made b m
            ∙ ap (λ (x : List ℕ). put_all (2 ∷ 2 ∷ ws) (0x03 ∷ data_size d ∷ c ∷ x) ++ joined (parts b (data_spans d))) n
            ∙ ap (λ (x : List ℕ). put_all (2 ∷ 2 ∷ ws) (0x03 ∷ data_size d ∷ nums_at ws b 4) ++ x) g
            ∙ strings 0x03 (data_size d) ws (lens (data_spans d)) e l z;
      })

  byte_back : is_byte (setting_at b) ≡ true → Kind b 0x03
  unfolding data_nums moved setting_widths nums_at
  byte_back h = setting_back (byte (num_at 1 b 8)) h refl (byte_is b h refl refl) (rw h)

  area_back : is_byte (setting_at b) ≡ false → is_area (setting_at b) ≡ true → Kind b 0x03
  unfolding data_nums moved setting_widths nums_at
  area_back g h =
      setting_back (area (record { left = num_at 2 b 8; top = num_at 2 b 10; right = num_at 2 b 12; bottom = num_at 2 b 14 })) (g, h) refl (area_is b g h refl refl refl refl refl) (rw (g, h))

  scheme_back : setting_at b ≡ high_contrast → lengths_agree 0x03 b ≡ true → Kind b 0x03
  unfolding data_nums moved setting_widths nums_at
  scheme_back h a =
      let o : num_at 4 b 12 ≡ num_at 2 b 16 + 2 = eqb-true (num_at 4 b 12) (num_at 2 b 16 + 2) (rw h at a) in
      setting_back (scheme (record { flags = num_at 4 b 8; color_scheme = record { at = 18; len = num_at 2 b 16 } })) h refl
      (scheme_is b (sym h) refl refl ∙ rw h) (rw (h, not_byte, not_area, o))

  system_parameters_back : Named b 0x03
  system_parameters_back e w u a =
      by_shape (setting_at b) (not_not (known_setting (setting_at b)) u) (Back b 0x03 (record_as 0x03 b)) (λ h. byte_back h e w) (λ g h. area_back g h e w) (λ h. scheme_back h a e w)

  each_kind : Each (Named b) types
  each_kind =
      (any_setting execute_back, (any_setting activate_back, (any_setting system_command_back, (any_setting handshake_back, (any_setting notify_event_back, (any_setting window_move_back, (any_setting move_size_back, (any_setting min_max_info_back, (any_setting client_information_back, (any_setting system_menu_back, (any_setting get_application_id_back, (any_setting application_id_response_back, (system_parameters_back, (any_setting handshake_ex_back, (any_setting execute_result_back, tt)))))))))))))))

-- the record of each message that reading grants is granted when it is written, and gives the same bytes, but for Padding and start
pub writes_back : (b : List ℕ) (p : Pdu) → Bytes b → read_of b ≡ Ok p → WritesBack b p
unfolding grants tidy known
writes_back b p ok e =
    let g = reading b p e in
    let k = num_at 2 b 0 in
    let c = one_of_lem (Named b) types k g.kind_known (each_kind b ok g.length_told) refl g.fills g.named g.agrees in
    subst (λ (q : Pdu). WritesBack b q) g.same_record_lem (record { granted = rw g.fine c.within; bytes = c.bytes_back })
