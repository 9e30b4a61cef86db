-- Judging and writing a setting that words stand for, by the shape of its body. Assumes nothing.
use mathlib.Core.Path.{◌≡◌, refl, sym, ap, ◌∙◌, subst}
use mathlib.Core.Bool.{true, false}
use Rattle.std.specs.Prelude.{Option, Some}
use mathlib.Core.List.{List, [], ◌∷◌, append-nil}
use Prim.Native.Nat.{ℕ, ◌≤◌}
use lib.ListN.{length, get_or}
use Rattle.wire.specs.Parts.{splice}
use Rattle.wire.specs.Numbers.{put_all}
use Rattle.pdu.specs.declared.Rectangle.{Rectangle}
use Rattle.pdu.specs.declared.HighContrast as H
use Rattle.pdu.specs.declared.Setting.TheVariants.{HighContrast}
use Rattle.pdu.specs.declared.Pdu.{Pdu}
use Rattle.pdu.specs.declared.Pdu.TheVariants.{SystemParameters}
use Rattle.pdu.specs.Settings.{is_byte, is_area, setting_widths, Data, byte, area, scheme, setting_with, data_nums, data_size, data_spans, data_allowed}
use Rattle.pdu.specs.Records.{size_of, spans_of}
use Rattle.pdu.specs.Rules.{allowed}
use Rattle.pdu.specs.Writing.{joined, encode}
use Rattle.pdu.proofs.Settings.{Shape, made, encode_made}
use Rattle.pdu_words.specs.FromWords.{area_from, scheme_from, data_from, system_parameters_from}
use Rattle.pdu_words.proofs.FromWords.{from_byte, from_area, from_scheme}
use Rattle.pdu_put.specs.Judging.{judged, Ready, Encoded}

-- a record that is another
pub judged_as : {p q : Pdu} (n : ℕ) {r : Option ℕ} → p ≡ q → r ≡ judged q n → r ≡ judged p n
judged_as n e w = w ∙ ap (λ (t : Pdu). judged t n) (sym e)

pub ready_as : {p q : Pdu} {src out : List ℕ} → p ≡ q → Ready p src out → Ready q src out
ready_as {src = src} {out = out} e w = subst (λ (t : Pdu). Ready t src out) e w

pub put_as : {p q : Pdu} {src out y : List ℕ} → p ≡ q → Encoded q src out y → Encoded p src out y
put_as {src = src} {out = out} {y = y} e w = subst (λ (t : Pdu). Encoded t src out y) (sym e) w

abbrev record_with : ℕ → Data → Pdu
record_with c d = SystemParameters (record { setting = setting_with c d })

size_with : (c : ℕ) (d : Data) → Shape c d → size_of (record_with c d) ≡ data_size d
unfolding size_of
size_with c d h = ap data_size (made c d h).body

judged_with : (c : ℕ) (d : Data) (n m : ℕ) → Shape c d → data_allowed d ≡ true → data_spans d ≡ [] → m ≡ data_size d → Some m ≡ judged (record_with c d) n
unfolding allowed spans_of size_of
judged_with c d n m h a s z = let b = (made c d h).body in rw (b, a, s) (ap Some z)

encoded_with : (c : ℕ) (d : Data) {src out y : List ℕ} (ws ns : List ℕ) → Shape c d → data_spans d ≡ [] → 4 ∷ setting_widths c ≡ ws → c ∷ data_nums d ≡ ns
    → y ≡ splice out 0 (put_all (2 ∷ 2 ∷ ws) (0x03 ∷ data_size d ∷ ns)) → Encoded (record_with c d) src out y
unfolding joined
encoded_with c d {src} {out} ws ns h s ew en e =
    let x : encode (record_with c d) src ≡ put_all (2 ∷ 2 ∷ ws) (0x03 ∷ data_size d ∷ ns) = encode_made src (made c d h) ∙ rw (s, ew, en) (append-nil (put_all (2 ∷ 2 ∷ ws) (0x03 ∷ data_size d ∷ ns))) in
    record { bytes = e ∙ ap (splice out 0) (sym x) }

module _ (w : List ℕ) where
  abbrev c : ℕ
  c = get_or w 1 0

  abbrev p : Pdu
  p = SystemParameters (system_parameters_from w)

  is_with : {d : Data} → data_from c w ≡ d → p ≡ record_with c d
  is_with e = ap (record_with c) e

  module _ (h : is_byte c ≡ true) where
    is-byte : p ≡ record_with c (byte (get_or w 2 0))
    is-byte = is_with (from_byte w c h)

    pub byte_room : {src out : List ℕ} → Ready p src out → 9 ≤ length out
    unfolding data_size
    byte_room {out = out} r = subst (λ (k : ℕ). k ≤ length out) (size_with c (byte (get_or w 2 0)) h) (ready_as is-byte r).room

    pub byte_judged : (n : ℕ) → Some 9 ≡ judged p n
    unfolding data_allowed data_spans data_size
    byte_judged n = judged_as n is-byte (judged_with c (byte (get_or w 2 0)) n 9 h refl refl refl)

    pub byte_written : {v : ℕ} {src out y : List ℕ} → v ≡ get_or w 2 0 → y ≡ splice out 0 (put_all (2 ∷ 2 ∷ 4 ∷ 1 ∷ []) (0x03 ∷ 9 ∷ c ∷ v ∷ [])) → Encoded p src out y
    unfolding setting_widths data_nums data_spans data_size
    byte_written {v} {src} {out} e b =
        put_as is-byte (encoded_with c (byte (get_or w 2 0)) (4 ∷ 1 ∷ []) (c ∷ get_or w 2 0 ∷ []) h refl (rw h) refl (b ∙ ap (λ (x : ℕ). splice out 0 (put_all (2 ∷ 2 ∷ 4 ∷ 1 ∷ []) (0x03 ∷ 9 ∷ c ∷ x ∷ []))) e))

  module _ (g : is_byte c ≡ false) (h : is_area c ≡ true) where
    is-area : p ≡ record_with c (area (area_from w))
    is-area = is_with (from_area w c g h)

    pub area_room : {src out : List ℕ} → Ready p src out → 16 ≤ length out
    unfolding data_size
    area_room {out = out} r = subst (λ (k : ℕ). k ≤ length out) (size_with c (area (area_from w)) (g, h)) (ready_as is-area r).room

    pub area_judged : (n : ℕ) → Some 16 ≡ judged p n
    unfolding data_allowed data_spans data_size
    area_judged n = judged_as n is-area (judged_with c (area (area_from w)) n 16 (g, h) refl refl refl)

    pub area_written : {a : Rectangle} {src out y : List ℕ} → a ≡ area_from w
        → y ≡ splice out 0 (put_all (2 ∷ 2 ∷ 4 ∷ 2 ∷ 2 ∷ 2 ∷ 2 ∷ []) (0x03 ∷ 16 ∷ c ∷ a.left ∷ a.top ∷ a.right ∷ a.bottom ∷ [])) → Encoded p src out y
    unfolding setting_widths data_nums data_spans data_size
    area_written {a} {src} {out} e b =
        put_as is-area (encoded_with c (area (area_from w)) (4 ∷ 2 ∷ 2 ∷ 2 ∷ 2 ∷ []) (c ∷ get_or w 2 0 ∷ get_or w 3 0 ∷ get_or w 4 0 ∷ get_or w 5 0 ∷ []) (g, h) refl (rw (g, h)) refl
        (b ∙ ap (λ (x : Rectangle). splice out 0 (put_all (2 ∷ 2 ∷ 4 ∷ 2 ∷ 2 ∷ 2 ∷ 2 ∷ []) (0x03 ∷ 16 ∷ c ∷ x.left ∷ x.top ∷ x.right ∷ x.bottom ∷ []))) e))

  module _ (g : is_byte c ≡ false) (h : is_area c ≡ false) where
    pub is_scheme : {e : H.HighContrast} → e ≡ scheme_from w → p ≡ SystemParameters (record { setting = HighContrast e })
    unfolding setting_with
    is_scheme q = is_with (from_scheme w c g h ∙ ap scheme (sym q))
