-- The words that reading leaves stand for the record, so that they and the number make the answer. Assumes nothing.
use mathlib.Core.Path.{◌≡◌, refl, sym, ap, ◌∙◌, subst}
use mathlib.Core.Bool.{true, false}
use mathlib.Core.List.{List}
use Prim.Native.Nat.{ℕ, suc, ◌+◌, ◌^◌, ◌≤◌, ◌<◌}
use native.Mathlib.Omega.{arith}
use lib.Dec.{leb}
use borrow.Author.Tests.{le-leb}
use Rattle.wire.specs.Numbers.{num_at, nums_at}
use Rattle.wire.proofs.Tests.{Each, one_of_lem, not_not}
use Rattle.wire.proofs.Numbers.{Bytes}
use Rattle.signs.specs.TwosComplement.{signed, unsigned, holds, signed_at}
use Rattle.signs.proofs.TwosComplement.{num_under, held_2, word_short}
use Rattle.pdu.specs.declared.Pdu.{Pdu}
use Rattle.std.specs.Prelude.{Result, Ok, Err}
use Rattle.protocol.specs.declared.Refusal.{Refusal}
use Rattle.protocol.specs.declared.Refusal.TheVariants.{UnfitMemory, TooShort, LengthDiffers, UnknownType, UnknownFlag, FlagsClash, NotFilled, OutsideSet, WrongId, TableFull, NoCell, HistoryFull, TooManySteps, OutputTooSmall, ChunkTooShort, BadChunk, NoPlace, RecordCut, RecordDiffers, WrongEnd, NotPermitted}
use Rattle.protocol.specs.Refusals.{number_of, refused_by}
use Rattle.pdu.specs.Layout.{types, known, widths}
use Rattle.pdu.specs.declared.Rectangle.{Rectangle}
use Rattle.pdu.specs.Settings.{high_contrast, known_setting}
use Rattle.pdu.specs.Settings as S
use Rattle.pdu.specs.Records.{is_yes, record_of, positions_of}
use Rattle.pdu.specs.RoundTrip.{all_hold}
use Rattle.pdu.specs.Reading.{setting_at, record_as, unknown_setting, read_of, read_number}
use Rattle.pdu.proofs.Settings.{by_shape, byte_is, area_is, scheme_is}
use Rattle.pdu.proofs.WriteBack.{reading, err_no_ok}
use Rattle.pdu_words.specs.Words.{words_of}
use Rattle.pdu_read.specs.Told.{words_after, done, Reads}
use Rattle.pdu_words.specs.FromWords.{u8, u16, u32, stand, Stands, pdu_of, fits}
use Rattle.pdu_words.proofs.FromWords.{words_stand, words_back}
use Rattle.pdu_words.proofs.FromWordsFit.{word_most, setting_fits, start_most}

-- ---- the numbers of a record that was read fit their fields

module _ (s : List ℕ) (ok : Bytes s) where
  most_of : (w m at : ℕ) → 256 ^ w ≤ suc m → leb (num_at w s at) m ≡ true
  most_of w m at h = le-leb (num_at w s at) m (omega (arith, num_under w s at ok))

  byte : (at : ℕ) → leb (num_at 1 s at) u8 ≡ true
  byte at = most_of 1 u8 at (omega arith)

  half : (at : ℕ) → leb (num_at 2 s at) u16 ≡ true
  half at = most_of 2 u16 at (omega arith)

  long : (at : ℕ) → leb (num_at 2 s at) u32 ≡ true
  long at = most_of 2 u32 at (omega arith)

  full : (at : ℕ) → leb (num_at 4 s at) u32 ≡ true
  full at = most_of 4 u32 at (omega arith)

  -- a position has a number, and its word fits and stands for it
  place : (at : ℕ) → holds 2 (signed_at 2 s at) ≡ true
  place at = held_2 (num_at 2 s at) (num_under 2 s at ok)

  word : (at : ℕ) → leb (unsigned 4 (signed_at 2 s at)) u32 ≡ true
  word at = word_most (signed_at 2 s at) (place at)

  stands : (at : ℕ) → holds 2 (signed 4 (unsigned 4 (signed_at 2 s at))) ≡ true
  stands at = word_short (signed_at 2 s at) (place at)

  -- where the second and the third string of an Execute message stand
  second : leb (12 + num_at 2 s 6) u32 ≡ true
  second = le-leb (12 + num_at 2 s 6) u32 (omega (arith, num_under 2 s 6 ok))

  third : leb (12 + num_at 2 s 6 + num_at 2 s 8) u32 ≡ true
  third = le-leb (12 + num_at 2 s 6 + num_at 2 s 8) u32 (omega (arith, num_under 2 s 6 ok, num_under 2 s 8 ok))

  -- a message whose setting, if it has one, is known
  abbrev Fits : ℕ → Type 0
  Fits k = unknown_setting k s ≡ false → fits (record_as k s) ≡ true

  under : (w m at : ℕ) → 256 ^ w ≤ suc m → num_at w s at ≤ m
  under w m at h = omega (arith, num_under w s at ok)

  setting_fits_read : Fits 0x03
  setting_fits_read u =
      let box : Rectangle = record { left = num_at 2 s 8; top = num_at 2 s 10; right = num_at 2 s 12; bottom = num_at 2 s 14 } in
      by_shape (setting_at s) (not_not (known_setting (setting_at s)) u) (fits (record_as 0x03 s) ≡ true)
      (λ h. ap fits (byte_is s h refl refl) ∙ setting_fits (setting_at s) (S.byte (num_at 1 s 8)) h (under 1 u8 8 (omega arith)))
      (λ g h.
      ap fits (area_is s g h refl refl refl refl refl)
      ∙ setting_fits (setting_at s) (S.area box) (g, h) (under 2 u16 8 (omega arith), under 2 u16 10 (omega arith), under 2 u16 12 (omega arith), under 2 u16 14 (omega arith)))
      (λ h.
      ap fits (scheme_is s (sym h) refl refl)
      ∙ setting_fits high_contrast (S.scheme (record { flags = num_at 4 s 8; color_scheme = record { at = 18; len = num_at 2 s 16 } })) refl (under 4 u32 8 (omega arith), omega arith, under 2 u32 16 (omega arith)))

  each_fits : Each Fits types
  unfolding widths nums_at record_of record_as words_of positions_of all_hold fits stand known
  each_fits =
      (λ u. rw (half 4, long 6, second, long 8, third, long 10), (λ u. rw (full 4, byte 8), (λ u. rw (full 4, half 8), (λ u. rw (full 4), (λ u. rw (full 4, full 8, full 12), (λ u. rw (full 4, word 8, word 10, word 12, word 14, stands 8, stands 10, stands 12, stands 14, place 8, place 10, place 12, place 14), (λ u. rw (full 4, start_most (is_yes (num_at 2 s 8)), half 10, word 12, word 14, stands 12, stands 14, place 12, place 14), (λ u. rw (full 4, half 8, half 10, word 12, word 14, half 16, half 18, half 20, half 22, stands 12, stands 14, place 12, place 14), (λ u. rw (full 4), (λ u. rw (full 4, word 8, word 10, stands 8, stands 10, place 8, place 10), (λ u. rw (full 4), (λ u. rw (full 4), (setting_fits_read, (λ u. rw (full 4, full 8), (λ u. rw (half 4, half 6, full 8, long 14), tt)))))))))))))))

  -- the record of each message that reading grants has numbers that fit their fields
  read_fits : (p : Pdu) → read_of s ≡ Ok p → fits p ≡ true
  unfolding known
  read_fits p e =
      let g = reading s p e in
      subst (λ (q : Pdu). fits q ≡ true) g.same_record_lem (one_of_lem Fits types (num_at 2 s 0) g.kind_known each_fits g.named)

-- ---- the numbers of refusals are numbers of one byte

pub refusal_small : (e : Refusal) → number_of e < 256
refusal_small UnfitMemory = omega arith
refusal_small TooShort = omega arith
refusal_small LengthDiffers = omega arith
refusal_small UnknownType = omega arith
refusal_small UnknownFlag = omega arith
refusal_small FlagsClash = omega arith
refusal_small NotFilled = omega arith
refusal_small OutsideSet = omega arith
refusal_small WrongId = omega arith
refusal_small TableFull = omega arith
refusal_small NoCell = omega arith
refusal_small HistoryFull = omega arith
refusal_small TooManySteps = omega arith
refusal_small OutputTooSmall = omega arith
refusal_small ChunkTooShort = omega arith
refusal_small BadChunk = omega arith
refusal_small NoPlace = omega arith
refusal_small RecordCut = omega arith
refusal_small RecordDiffers = omega arith
refusal_small WrongEnd = omega arith
refusal_small NotPermitted = omega arith

-- the ladder's numbers
pub number_small : (s : List ℕ) → read_number s < 256
unfolding read_number
number_small s = go (read_of s)
  where
    go : (a : Result Pdu Refusal) → refused_by a < 256
    go (Ok p) = omega arith
    go (Err e) = refusal_small e

-- ---- the answer

module _ {s lent words : List ℕ} {r : Result (Unit {0}) Refusal} (ok : Bytes s) (t : Reads (read_of s) lent r words) where
  -- a record that was read, in words
  pub record Read (p : Pdu) : Type 0 where
    pub stands : Stands words
    pub record_lem : pdu_of words ≡ p

  pub read_back : {p : Pdu} → read_of s ≡ Ok p → Read p
  unfolding words_after
  read_back {p} e =
      let f = read_fits s ok p e in
      let w : words ≡ words_of p = t.memory ∙ ap (λ (a : Result Pdu Refusal). words_after a lent) e in
      record { stands = subst Stands (sym w) (words_stand p f); record_lem = ap pdu_of w ∙ words_back p f }

  pub is_granted : r ≡ Ok tt → Stands words × (Ok (pdu_of words) ≡ read_of s)
  is_granted e = go (read_of s) refl (sym t.answer ∙ e)
    where
      go : (a : Result Pdu Refusal) → read_of s ≡ a → done a ≡ Ok tt → Stands words × (Ok (pdu_of words) ≡ read_of s)
      go (Ok p) q d = let b = read_back q in (b.stands, ap Ok b.record_lem ∙ sym q)
      go (Err x) q d = absurd (err_no_ok d)

  pub is_refused : {x : Refusal} → r ≡ Err x → Err x ≡ read_of s
  is_refused {x} e = go (read_of s) refl (sym t.answer ∙ e)
    where
      go : (a : Result Pdu Refusal) → read_of s ≡ a → done a ≡ Err x → Err x ≡ read_of s
      go (Ok p) q d = absurd (err_no_ok (sym d))
      go (Err y) q d = let z : y ≡ x = cc in ap Err (sym z) ∙ sym q
