-- The record of each type from the numbers read, and the ways through reading. Assumes nothing.
use mathlib.Core.Path.{◌≡◌, refl, sym, ap, ◌∙◌, subst}
use mathlib.Core.Bool.{Bool, true, false}
use mathlib.Core.List.{List, [], ◌∷◌}
use Prim.Native.Nat.{ℕ, ◌+◌, ◌≤◌, ◌<◌}
use native.Mathlib.Omega.{arith}
use lib.ListN.{length, get_or, set}
use lib.Dec.{eqb}
use borrow.Author.Tests.{eq-eqb, ne_eqb, le-ltb, lt-ltb}
use Rattle.wire.specs.Numbers.{num_at, nums_at}
use Rattle.wire.proofs.Numbers.{Bytes}
use Rattle.pdu.specs.declared.Pdu.{Pdu}
use Rattle.pdu.specs.declared.Pdu.TheVariants.{Execute, Activate, SystemCommand, Handshake, NotifyEvent, ClientInformation, GetApplicationId, ApplicationIdResponse, ExecuteResult, SystemParameters, HandshakeEx}
use Rattle.std.specs.Prelude.{Result, Ok, Err}
use Rattle.protocol.specs.declared.Refusal.{Refusal}
use Rattle.protocol.specs.declared.Refusal.TheVariants.{TooShort, LengthDiffers, UnknownType, NotFilled, OutsideSet}
use Rattle.protocol.specs.Refusals.{says, number_of}
use Rattle.pdu.specs.Layout.{known, widths}
use Rattle.pdu.specs.Settings.{is_byte, is_area, high_contrast, known_setting, Data, data_of, setting_with, data_at, data_size, data_allowed, setting_widths}
use Rattle.pdu.specs.Records.{span, is_yes, yes_number, record_of, size_of}
use Rattle.signs.specs.TwosComplement.{unsigned, signed_at}
use Rattle.pdu.specs.Rules.{allowed}
use Rattle.pdu.specs.Reading.{record_as, unknown_setting, lengths_agree, read_of, body_of}
use Rattle.pdu.specs.RoundTrip.{ReadAgain, ReadOutcome}
use Rattle.pdu_words.specs.Words.{setting_words, words_of}
use Rattle.pdu_read.specs.Told.{words_after, Told}
use Rattle.pdu.proofs.Answers.{read_says_lem}
use Rattle.pdu.proofs.Settings.{Shape, made, shape_known, byte_other, area_other, least_size}
use Rattle.pdu.proofs.WriteBack.{writes_back}

-- ---- the record of each type, or its words

module _ (s : List ℕ) where
  pub execute_is : {a b d e : ℕ} → a ≡ num_at 2 s 4 → b ≡ num_at 2 s 6 → d ≡ num_at 2 s 8 → e ≡ num_at 2 s 10
      → record_as 0x01 s ≡ Execute (record { flags = a; exe_or_file = span 12 b; working_dir = span (12 + b) d; arguments = span (12 + b + d) e })
  unfolding record_as record_of widths nums_at
  execute_is e0 e1 e2 e3 = rw (e0, e1, e2, e3)

  pub activate_is : {a b : ℕ} → a ≡ num_at 4 s 4 → b ≡ num_at 1 s 8
      → record_as 0x02 s ≡ Activate (record { window_id = record { id = a }; enabled = b })
  unfolding record_as record_of widths nums_at
  activate_is e0 e1 = rw (e0, e1)

  pub system_command_is : {a b : ℕ} → a ≡ num_at 4 s 4 → b ≡ num_at 2 s 8
      → record_as 0x04 s ≡ SystemCommand (record { window_id = record { id = a }; command = b })
  unfolding record_as record_of widths nums_at
  system_command_is e0 e1 = rw (e0, e1)

  pub handshake_is : {a : ℕ} → a ≡ num_at 4 s 4
      → record_as 0x05 s ≡ Handshake (record { build_number = a })
  unfolding record_as record_of widths nums_at
  handshake_is e0 = rw (e0)

  pub notify_event_is : {a b d : ℕ} → a ≡ num_at 4 s 4 → b ≡ num_at 4 s 8 → d ≡ num_at 4 s 12
      → record_as 0x06 s ≡ NotifyEvent (record { window_id = record { id = a }; notify_icon_id = record { id = b }; message = d })
  unfolding record_as record_of widths nums_at
  notify_event_is e0 e1 e2 = rw (e0, e1, e2)

  pub window_move_words_lem : {a b d e f : ℕ} → a ≡ num_at 4 s 4 → b ≡ unsigned 4 (signed_at 2 s 8) → d ≡ unsigned 4 (signed_at 2 s 10) → e ≡ unsigned 4 (signed_at 2 s 12) → f ≡ unsigned 4 (signed_at 2 s 14)
      → 0x08 ∷ a ∷ b ∷ d ∷ e ∷ f ∷ 0 ∷ 0 ∷ 0 ∷ 0 ∷ 0 ∷ 0 ∷ [] ≡ words_of (record_as 0x08 s)
  unfolding record_as record_of widths nums_at words_of
  window_move_words_lem e0 e1 e2 e3 e4 = rw (e0, e1, e2, e3, e4)

  pub move_size_words_lem : {a b d e f : ℕ} → a ≡ num_at 4 s 4 → b ≡ yes_number (is_yes (num_at 2 s 8)) → d ≡ num_at 2 s 10 → e ≡ unsigned 4 (signed_at 2 s 12) → f ≡ unsigned 4 (signed_at 2 s 14)
      → 0x09 ∷ a ∷ b ∷ d ∷ e ∷ f ∷ 0 ∷ 0 ∷ 0 ∷ 0 ∷ 0 ∷ 0 ∷ [] ≡ words_of (record_as 0x09 s)
  unfolding record_as record_of widths nums_at words_of
  move_size_words_lem e0 e1 e2 e3 e4 = rw (e0, e1, e2, e3, e4)

  pub min_max_info_words_lem : {a b d e f g h i j : ℕ} → a ≡ num_at 4 s 4 → b ≡ num_at 2 s 8 → d ≡ num_at 2 s 10 → e ≡ unsigned 4 (signed_at 2 s 12) → f ≡ unsigned 4 (signed_at 2 s 14)
      → g ≡ num_at 2 s 16 → h ≡ num_at 2 s 18 → i ≡ num_at 2 s 20 → j ≡ num_at 2 s 22
      → {x y : List ℕ} → x ≡ 0x0A ∷ a ∷ b ∷ d ∷ e ∷ f ∷ 0 ∷ 0 ∷ 0 ∷ 0 ∷ 0 ∷ 0 ∷ [] → y ≡ set (set (set (set x 6 g) 7 h) 8 i) 9 j → y ≡ words_of (record_as 0x0A s)
  unfolding record_as record_of widths nums_at words_of
  min_max_info_words_lem e0 e1 e2 e3 e4 e5 e6 e7 e8 ex ey = ey ∙ rw (ex, e0, e1, e2, e3, e4, e5, e6, e7, e8)

  pub client_information_is : {a : ℕ} → a ≡ num_at 4 s 4
      → record_as 0x0B s ≡ ClientInformation (record { flags = a })
  unfolding record_as record_of widths nums_at
  client_information_is e0 = rw (e0)

  pub system_menu_words_lem : {a b d : ℕ} → a ≡ num_at 4 s 4 → b ≡ unsigned 4 (signed_at 2 s 8) → d ≡ unsigned 4 (signed_at 2 s 10)
      → 0x0C ∷ a ∷ b ∷ d ∷ 0 ∷ 0 ∷ 0 ∷ 0 ∷ 0 ∷ 0 ∷ 0 ∷ 0 ∷ [] ≡ words_of (record_as 0x0C s)
  unfolding record_as record_of widths nums_at words_of
  system_menu_words_lem e0 e1 e2 = rw (e0, e1, e2)

  pub get_application_id_is : {a : ℕ} → a ≡ num_at 4 s 4
      → record_as 0x0E s ≡ GetApplicationId (record { window_id = record { id = a } })
  unfolding record_as record_of widths nums_at
  get_application_id_is e0 = rw (e0)

  pub application_id_response_is : {a : ℕ} → a ≡ num_at 4 s 4
      → record_as 0x0F s ≡ ApplicationIdResponse (record { window_id = record { id = a }; application_id = span 8 520 })
  unfolding record_as record_of widths nums_at
  application_id_response_is e0 = rw (e0)

  pub execute_result_is : {a b d e : ℕ} → a ≡ num_at 2 s 4 → b ≡ num_at 2 s 6 → d ≡ num_at 4 s 8 → e ≡ num_at 2 s 14
      → record_as 0x80 s ≡ ExecuteResult (record { flags = a; exec_result = b; raw_result = d; exe_or_file = span 16 e })
  unfolding record_as record_of widths nums_at
  execute_result_is e0 e1 e2 e3 = rw (e0, e1, e2, e3)

  pub handshake_ex_is : {a b : ℕ} → a ≡ num_at 4 s 4 → b ≡ num_at 4 s 8
      → record_as 0x13 s ≡ HandshakeEx (record { build_number = a; flags = b })
  unfolding record_as record_of widths nums_at
  handshake_ex_is e0 e1 = rw (e0, e1)

-- ---- the ways through the body of a type

-- of a message whose setting, if it has one, is known
module _ (k : ℕ) (s : List ℕ) (u : unknown_setting k s ≡ false) where
  named_unfilled : (size_of (record_as k s) ≡ length s → ⊥) → Err NotFilled ≡ body_of k s
  unfolding body_of
  named_unfilled h = rw (u, ne_eqb (size_of (record_as k s)) (length s) h)

  module _ (p : Pdu) (r : record_as k s ≡ p) (z : size_of p ≡ length s) where
    named-apart : lengths_agree k s ≡ false → Err NotFilled ≡ body_of k s
    unfolding body_of
    named-apart a = rw (u, r, eq-eqb (size_of p) (length s) z, a)

    named-outside : lengths_agree k s ≡ true → allowed p ≡ false → Err OutsideSet ≡ body_of k s
    unfolding body_of
    named-outside a w = rw (u, r, eq-eqb (size_of p) (length s) z, a, w)

    named-fine : lengths_agree k s ≡ true → allowed p ≡ true → Ok p ≡ body_of k s
    unfolding body_of
    named-fine a w = rw (u, r, eq-eqb (size_of p) (length s) z, a, w)

-- of a type that has no settings
module _ (k : ℕ) (n : eqb k 0x03 ≡ false) (s : List ℕ) where
  no_setting : unknown_setting k s ≡ false
  no_setting = rw n

  no_lengths : lengths_agree k s ≡ true
  no_lengths = rw n

  pub unfilled : (size_of (record_as k s) ≡ length s → ⊥) → Err NotFilled ≡ body_of k s
  unfilled h = named_unfilled k s no_setting h

  module _ (p : Pdu) (r : record_as k s ≡ p) (z : size_of p ≡ length s) where
    pub outside : allowed p ≡ false → Err OutsideSet ≡ body_of k s
    outside w = named-outside k s no_setting p r z no_lengths w

    pub fine : allowed p ≡ true → Ok p ≡ body_of k s
    fine w = named-fine k s no_setting p r z no_lengths w

-- ---- what is told of an answer in words

pub told_refused : {a : Result Pdu Refusal} {r : Refusal} {words : List ℕ} → Err r ≡ a → Told a words (number_of r) words
unfolding words_after
told_refused {r = r} {words = words} e = subst (λ (a : Result Pdu Refusal). Told a words (number_of r) words) e (record { answer = refl; memory = refl })

pub told_message : {a : Result Pdu Refusal} {p : Pdu} {words ws : List ℕ} → Ok p ≡ a → ws ≡ words_of p → Told a words 0 ws
unfolding words_after
told_message {words = words} {ws = ws} e w = subst (λ (a : Result Pdu Refusal). Told a words 0 ws) e (record { answer = refl; memory = w })

pub told_as : {a b : Result Pdu Refusal} {r : ℕ} {words ws : List ℕ} → a ≡ b → Told a words r ws → Told b words r ws
told_as {r = r} {words = words} {ws = ws} e w = subst (λ (a : Result Pdu Refusal). Told a words r ws) e w

-- ---- system parameters

small_size : (s : List ℕ) → length s < 8 → size_of (record_as 0x03 s) ≡ length s → ⊥
unfolding record_as record_of size_of
small_size s h q =
    let n = nums_at (4 ∷ setting_widths (num_at 4 s 4)) s 4 in
    let d = data_of (setting_with (get_or n 0 0) (data_at (get_or n 0 0) n)) in
    omega (arith, least_size d, q)

cut_unknown : (s : List ℕ) → length s < 8 → known_setting (num_at 4 s 4) ≡ false → Err NotFilled ≡ body_of 0x03 s
unfolding body_of
cut_unknown s h e = rw (e, lt-ltb (length s) 8 h)

module _ (s : List ℕ) where
  -- without the four bytes that name a setting; with those of none
  pub setting_cut : length s < 8 → Err NotFilled ≡ body_of 0x03 s
  setting_cut h = go (known_setting (num_at 4 s 4)) refl
    where
      go : (b : Bool) → known_setting (num_at 4 s 4) ≡ b → Err NotFilled ≡ body_of 0x03 s
      go true e = named_unfilled 0x03 s (rw e) (λ q. small_size s h q)
      go false e = cut_unknown s h e

  pub setting_unknown : {c : ℕ} → c ≡ num_at 4 s 4 → 8 ≤ length s → is_byte c ≡ false → is_area c ≡ false → (c ≡ high_contrast → ⊥) → Err OutsideSet ≡ body_of 0x03 s
  unfolding body_of known_setting
  setting_unknown {c} q l f g n = rw (← q, f, g, ne_eqb c high_contrast n, le-ltb (length s) 8 l)

  pub byte_agrees : {c : ℕ} → c ≡ num_at 4 s 4 → is_byte c ≡ true → lengths_agree 0x03 s ≡ true
  byte_agrees {c} q h = rw (← q, byte_other c h)

  pub area_agrees : {c : ℕ} → c ≡ num_at 4 s 4 → is_area c ≡ true → lengths_agree 0x03 s ≡ true
  area_agrees {c} q h = rw (← q, area_other c h)

  pub scheme_agrees : {o n : ℕ} → high_contrast ≡ num_at 4 s 4 → o ≡ num_at 4 s 12 → n ≡ num_at 2 s 16 → o ≡ n + 2 → lengths_agree 0x03 s ≡ true
  scheme_agrees {o} {n} q a b e = rw (← q, ← a, ← b, eq-eqb o (n + 2) e)

  pub scheme_apart : {o n : ℕ} → high_contrast ≡ num_at 4 s 4 → o ≡ num_at 4 s 12 → n ≡ num_at 2 s 16 → (o ≡ n + 2 → ⊥) → lengths_agree 0x03 s ≡ false
  scheme_apart {o} {n} q a b e = rw (← q, ← a, ← b, ne_eqb o (n + 2) e)

  -- a message of a setting of number c with data d
  module _ (c : ℕ) (d : Data) (h : Shape c d) (q : c ≡ num_at 4 s 4) (r : record_as 0x03 s ≡ SystemParameters (record { setting = setting_with c d })) where
    named : unknown_setting 0x03 s ≡ false
    named = rw (← q, shape_known c d h)

    size-of : size_of (SystemParameters (record { setting = setting_with c d })) ≡ data_size d
    unfolding size_of
    size-of = ap data_size (made c d h).body

    allowed-is : allowed (SystemParameters (record { setting = setting_with c d })) ≡ data_allowed d
    unfolding allowed
    allowed-is = ap data_allowed (made c d h).body

    words_are : setting_words c d ≡ words_of (SystemParameters (record { setting = setting_with c d }))
    unfolding words_of
    words_are = let m = made c d h in rw (m.number, m.body)

    pub data_unfilled : (data_size d ≡ length s → ⊥) → Err NotFilled ≡ body_of 0x03 s
    data_unfilled n = named_unfilled 0x03 s named (λ z. n (sym size-of ∙ sym (ap size_of r) ∙ z))

    module _ (z : data_size d ≡ length s) where
      pub data_apart : lengths_agree 0x03 s ≡ false → Err NotFilled ≡ body_of 0x03 s
      data_apart a = named-apart 0x03 s named (SystemParameters (record { setting = setting_with c d })) r (size-of ∙ z) a

      pub data_outside : lengths_agree 0x03 s ≡ true → data_allowed d ≡ false → Err OutsideSet ≡ body_of 0x03 s
      data_outside a w = named-outside 0x03 s named (SystemParameters (record { setting = setting_with c d })) r (size-of ∙ z) a (allowed-is ∙ w)

      pub data_fine : {words ws : List ℕ} → lengths_agree 0x03 s ≡ true → data_allowed d ≡ true → ws ≡ setting_words c d → Told (body_of 0x03 s) words 0 ws
      data_fine a w e = told_message (named-fine 0x03 s named (SystemParameters (record { setting = setting_with c d })) r (size-of ∙ z) a (allowed-is ∙ w)) (e ∙ words_are)

-- ---- the ways through reading

again : (s : List ℕ) (r : Result Pdu Refusal) → Bytes s → r ≡ read_of s → ReadAgain r s
again s (Ok p) ok e = writes_back s p ok (sym e)
again s (Err r) ok e = tt

pub outcome : (s : List ℕ) (r : Result Pdu Refusal) → Bytes s → r ≡ read_of s → ReadOutcome s r
outcome s r ok e = record { says = ap says e ∙ read_says_lem s; answer = e; again = again s r ok e }

module _ (s : List ℕ) where
  pub short : length s < 4 → Err TooShort ≡ read_of s
  unfolding read_of
  short h = rw (lt-ltb (length s) 4 h)

  pub other_length : (n : ℕ) → n ≡ num_at 2 s 2 → 4 ≤ length s → (n ≡ length s → ⊥) → Err LengthDiffers ≡ read_of s
  unfolding read_of
  other_length n e t h = rw (le-ltb (length s) 4 t, ← e, ne_eqb n (length s) h)

  module _ (n m : ℕ) (e : n ≡ num_at 2 s 2) (t : 4 ≤ length s) (w : n ≡ length s) (q : m ≡ num_at 2 s 0) where
    pub unknown : known m ≡ false → Err UnknownType ≡ read_of s
    unfolding read_of
    unknown u = rw (le-ltb (length s) 4 t, ← e, eq-eqb n (length s) w, ← q, u)

    pub body : (k : ℕ) → m ≡ k → known k ≡ true → body_of k s ≡ read_of s
    unfolding read_of
    body k i u = rw (le-ltb (length s) 4 t, ← e, eq-eqb n (length s) w, ← q, i, u)
