-- The numbers of a record whose positions are written from words. Assumes nothing.
use mathlib.Core.Path.{◌≡◌, ◌∙◌}
use mathlib.Core.List.{List, [], ◌∷◌}
use Prim.Native.Nat.{ℕ}
use lib.ListN.{get_or}
use Rattle.wire.specs.Parts.{splice}
use Rattle.wire.specs.Numbers.{put_all}
use Rattle.signs.specs.TwosComplement.{signed, unsigned}
use Rattle.pdu.specs.declared.Pdu.TheVariants.{WindowMove, MoveSize, MinMaxInfo, SystemMenu}
use Rattle.pdu.specs.Layout.{widths}
use Rattle.pdu.specs.Records.{is_yes, yes_number, kind_of, nums_of, size_of}
use Rattle.pdu.specs.Writing.{row, line}
use Rattle.pdu_words.specs.FromWords.{window_move_from, move_size_from, min_max_info_from, system_menu_from}

-- a is the number of 2 bytes of the position in word i
abbrev Half : List ℕ → ℕ → ℕ → Type 0
Half w a i = a ≡ unsigned 2 (signed 4 (get_or w i 0))

module _ (w out : List ℕ) where
  pub window_move_put : {y : List ℕ} {a b d e : ℕ} → y ≡ splice out 0 (put_all (2 ∷ 2 ∷ 4 ∷ 2 ∷ 2 ∷ 2 ∷ 2 ∷ []) (0x08 ∷ 16 ∷ get_or w 1 0 ∷ a ∷ b ∷ d ∷ e ∷ []))
      → Half w a 2 → Half w b 3 → Half w d 4 → Half w e 5 → y ≡ splice out 0 (put_all (row (WindowMove (window_move_from w))) (line (WindowMove (window_move_from w))))
  unfolding widths kind_of nums_of size_of
  window_move_put ey e0 e1 e2 e3 = ey ∙ rw (e0, e1, e2, e3)

  pub move_size_put : {y : List ℕ} {s k a b : ℕ} → y ≡ splice out 0 (put_all (2 ∷ 2 ∷ 4 ∷ 2 ∷ 2 ∷ 2 ∷ 2 ∷ []) (0x09 ∷ 16 ∷ get_or w 1 0 ∷ s ∷ k ∷ a ∷ b ∷ []))
      → s ≡ yes_number (is_yes (get_or w 2 0)) → k ≡ get_or w 3 0 → Half w a 4 → Half w b 5 → y ≡ splice out 0 (put_all (row (MoveSize (move_size_from w))) (line (MoveSize (move_size_from w))))
  unfolding widths kind_of nums_of size_of
  move_size_put ey e0 e1 e2 e3 = ey ∙ rw (e0, e1, e2, e3)

  pub min_max_info_put : {y : List ℕ} {a b : ℕ}
      → y ≡ splice out 0 (put_all (2 ∷ 2 ∷ 4 ∷ 2 ∷ 2 ∷ 2 ∷ 2 ∷ 2 ∷ 2 ∷ 2 ∷ 2 ∷ []) (0x0A ∷ 24 ∷ get_or w 1 0 ∷ get_or w 2 0 ∷ get_or w 3 0 ∷ a ∷ b ∷ get_or w 6 0 ∷ get_or w 7 0 ∷ get_or w 8 0 ∷ get_or w 9 0 ∷ []))
      → Half w a 4 → Half w b 5 → y ≡ splice out 0 (put_all (row (MinMaxInfo (min_max_info_from w))) (line (MinMaxInfo (min_max_info_from w))))
  unfolding widths kind_of nums_of size_of
  min_max_info_put ey e0 e1 = ey ∙ rw (e0, e1)

  pub system_menu_put : {y : List ℕ} {a b : ℕ} → y ≡ splice out 0 (put_all (2 ∷ 2 ∷ 4 ∷ 2 ∷ 2 ∷ []) (0x0C ∷ 12 ∷ get_or w 1 0 ∷ a ∷ b ∷ []))
      → Half w a 2 → Half w b 3 → y ≡ splice out 0 (put_all (row (SystemMenu (system_menu_from w))) (line (SystemMenu (system_menu_from w))))
  unfolding widths kind_of nums_of size_of
  system_menu_put ey e0 e1 = ey ∙ rw (e0, e1)
