-- The words of a record name its end and its program. Assumes nothing.
use mathlib.Core.Path.{◌≡◌, refl, sym, ap, ◌∙◌}
use mathlib.Core.Bool.{Bool, true}
use mathlib.Core.List.{List}
use Prim.Native.Nat.{ℕ, ◌+◌, ◌≤◌}
use lib.ListN.{length, get_or}
use borrow.Author.Tests.{leb-true}
use Rattle.wire.proofs.Tests.{both_left, Each, one_of_lem}
use Rattle.pdu.specs.declared.Pdu.{Pdu}
use Rattle.pdu.specs.declared.Pdu.TheVariants.{Execute, Activate, SystemCommand, Handshake, NotifyEvent, WindowMove, MoveSize, MinMaxInfo, ClientInformation, SystemMenu, GetApplicationId, ApplicationIdResponse, ExecuteResult, SystemParameters, HandshakeEx}
use Rattle.pdu.specs.Layout.{types, known, one_of}
use Rattle.pdu.specs.Settings.{is_byte, is_area, Data, byte, area, scheme, number_of, data_of, setting_with}
use Rattle.pdu.specs.Records.{kind_of, nums_of, spans_of, span}
use Rattle.pdu.specs.Writing.{lies, grants}
use Rattle.pdu.proofs.Settings.{made, by_shape, not_byte, not_area}
use Rattle.pdu.proofs.Writing.{lie_of}
use Rattle.pdu_words.specs.Words.{setting_words, words_of}
use Rattle.pdu_words.specs.FromWords.{limits, within, stand, Stands, area_from, scheme_from, data_from, setting_from, execute_from, record_from, pdu_of}
use Rattle.pdu_words.proofs.FromWords.{setting_known, from_byte, from_area, from_scheme, known_type, within_type}
use Rattle.profile.specs.Ends.{server_only, server_settings}
use Rattle.profile.specs.Programs.{permitted, execute_permitted}

-- only a server sends a record
abbrev pub server_record : Pdu → Bool
server_record p = server_only (kind_of p) (get_or (nums_of p) 0 0)

abbrev pub server_words : List ℕ → Bool
server_words w = server_only (get_or w 0 0) (get_or w 1 0)

-- ---- the words of a record

setting_end : (c : ℕ) (d : Data) → one_of c server_settings ≡ server_words (setting_words c d)
unfolding server_only
setting_end c (byte v) = refl
setting_end c (area a) = refl
setting_end c (scheme h) = refl

pub words_end : (p : Pdu) → server_record p ≡ server_words (words_of p)
unfolding kind_of nums_of words_of server_only
words_end (Execute e) = refl
words_end (Activate e) = refl
words_end (SystemCommand e) = refl
words_end (Handshake e) = refl
words_end (NotifyEvent e) = refl
words_end (WindowMove e) = refl
words_end (MoveSize e) = refl
words_end (MinMaxInfo e) = refl
words_end (ClientInformation e) = refl
words_end (SystemMenu e) = refl
words_end (GetApplicationId e) = refl
words_end (ApplicationIdResponse e) = refl
words_end (ExecuteResult e) = refl
words_end (SystemParameters e) = setting_end (number_of e.setting) (data_of e.setting)
words_end (HandshakeEx e) = refl

-- ---- the record of words

module _ (w : List ℕ) where
  number_with : (d : Data) → data_from (get_or w 1 0) w ≡ d → number_of (setting_with (get_or w 1 0) d) ≡ get_or w 1 0 → number_of (setting_from w) ≡ get_or w 1 0
  number_with d e m = ap (λ (x : Data). number_of (setting_with (get_or w 1 0) x)) e ∙ m

  setting_number : get_or w 0 0 ≡ 0x03 → stand w ≡ true → number_of (setting_from w) ≡ get_or w 1 0
  setting_number q st =
      let c = get_or w 1 0 in
      let x = byte (get_or w 2 0) in
      let y = area (area_from w) in
      let z = scheme (scheme_from w) in
      by_shape c (setting_known w q (ap (λ (k : ℕ). within w (limits k c)) (sym q) ∙ within_type w st)) (number_of (setting_from w) ≡ c)
      (λ h. number_with x (from_byte w c h) (made c x h).number)
      (λ g h. number_with y (from_area w c g h) (made c y (g, h)).number)
      (λ h. number_with z (from_scheme w c (ap is_byte h ∙ not_byte) (ap is_area h ∙ not_area)) (made c z h).number)

  abbrev End : ℕ → Type 0
  End k = get_or w 0 0 ≡ k → stand w ≡ true → server_record (record_from k w) ≡ server_only k (get_or w 1 0)

  each_end : Each End types
  unfolding record_from kind_of nums_of server_only
  each_end =
      (λ q st. refl, (λ q st. refl, (λ q st. refl, (λ q st. refl, (λ q st. refl, (λ q st. refl, (λ q st. refl, (λ q st. refl, (λ q st. refl, (λ q st. refl, (λ q st. refl, (λ q st. refl, (λ q st. ap (λ (c : ℕ). one_of c server_settings) (setting_number q st), (λ q st. refl, (λ q st. refl, tt)))))))))))))))

  pub record_end : Stands w → server_record (pdu_of w) ≡ server_words w
  unfolding known pdu_of
  record_end st = one_of_lem End types (get_or w 0 0) (known_type w st.holds) each_end refl st.holds

  -- an Execute; any other starts no program
  abbrev Other : ℕ → Type 0
  Other k = (k ≡ 0x01 → ⊥) → (src : List ℕ) → permitted (record_from k w) src ≡ true

  each_other : Each Other types
  unfolding record_from permitted
  each_other =
      (λ n src. absurd (n refl), (λ n src. refl, (λ n src. refl, (λ n src. refl, (λ n src. refl, (λ n src. refl, (λ n src. refl, (λ n src. refl, (λ n src. refl, (λ n src. refl, (λ n src. refl, (λ n src. refl, (λ n src. refl, (λ n src. refl, (λ n src. refl, tt)))))))))))))))

  pub not_started : Stands w → (get_or w 0 0 ≡ 0x01 → ⊥) → (src : List ℕ) → permitted (pdu_of w) src ≡ true
  unfolding known pdu_of
  not_started st n src = one_of_lem Other types (get_or w 0 0) (known_type w st.holds) each_other n src

  module _ (src : List ℕ) (q : get_or w 0 0 ≡ 0x01) where
    execute : pdu_of w ≡ Execute (execute_from w)
    unfolding pdu_of record_from
    execute = ap (λ (k : ℕ). record_from k w) q

    pub started : permitted (pdu_of w) src ≡ execute_permitted (execute_from w) src
    unfolding permitted
    started = ap (λ (p : Pdu). permitted p src) execute

    pub name_inside : grants (pdu_of w) src ≡ true → get_or w 2 0 + get_or w 3 0 ≤ length src
    unfolding spans_of
    name_inside g =
        let n = length src in
        let a = span (get_or w 2 0) (get_or w 3 0) in
        let l = lie_of (Execute (execute_from w)) src (ap (λ (p : Pdu). grants p src) (sym execute) ∙ g) in
        leb-true (get_or w 2 0 + get_or w 3 0) n (both_left (lies n a) _ l)
