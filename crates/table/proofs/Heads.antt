-- The slots of the bodies and the heads behind them lie apart. Assumes nothing.
use mathlib.Core.Path.{◌≡◌, sym, ap, ◌∙◌}
use mathlib.Core.List.{List, ◌++◌, append-nil}
use Prim.Native.Nat.{ℕ, ◌+◌, ◌-◌, ◌≤◌, ◌<◌}
use native.Mathlib.Omega.{arith}
use lib.ListN.{length, drop, length-drop, drop_of_length-le}
use lib.Seq.{drop-drop}
use Rattle.wire.specs.Parts.{splice}
use Rattle.wire.proofs.Parts.{length_splice, drop_splice, drop_splice_at, slice_splice_before}
use Rattle.body.specs.Bodies.{slot_length, slot_start, slot_of}
use Rattle.body.proofs.Slots.{slot_within, other_start, other_length, length_slot}
use Rattle.table.specs.Memory.{heads_of}

-- ---- a slot changed

module _ (b : List ℕ) (i : ℕ) (x : List ℕ) (big : 61012 ≤ length b) (below : i < 49) (size : length x ≡ slot_length i) where
  ends : slot_start i + length x ≤ 60116
  ends = omega (arith, slot_within i below, size)

  pub slot_heads : heads_of (splice b (slot_start i) x) ≡ heads_of b
  unfolding heads_of
  slot_heads = drop_splice b (slot_start i) x (omega (arith, ends)) 60116 ends

  pub slot_past : drop 61012 (splice b (slot_start i) x) ≡ drop 61012 b
  slot_past = drop_splice b (slot_start i) x (omega (arith, ends)) 61012 (omega (arith, ends))

-- ---- the desktop's slot

pub desk_start : slot_start 48 ≡ 59200
desk_start = other_start 48 (omega arith)

pub desk_length : slot_length 48 ≡ 916
desk_length = other_length 48 (omega arith)

module _ (b : List ℕ) (big : 60116 ≤ length b) where
  pub desk_ends : slot_start 48 + slot_length 48 ≤ length b
  desk_ends = omega (arith, desk_start, desk_length, big)

  pub desk_slot : length (slot_of b 48) ≡ 916
  desk_slot = length_slot b 48 desk_ends ∙ desk_length

-- ---- heads changed

pub heads_long : (b : List ℕ) → length (heads_of b) ≡ length b - 60116
unfolding heads_of
heads_long b = length-drop 60116 b

module _ (b : List ℕ) (x : List ℕ) (big : 61012 ≤ length b) (size : length x ≡ length (heads_of b)) where
  fits : 60116 + length x ≡ length b
  fits = let e = heads_long b in omega arith

  pub heads_slot : (j : ℕ) → j < 49 → slot_of (splice b 60116 x) j ≡ slot_of b j
  unfolding slot_of
  heads_slot j l = slice_splice_before b 60116 x (omega (arith, fits)) (slot_start j) (slot_length j) (slot_within j l)

  pub heads_heads : heads_of (splice b 60116 x) ≡ x
  unfolding heads_of
  heads_heads = drop_splice_at b 60116 x (omega (arith, fits)) ∙ ap (λ (r : List ℕ). x ++ r) (drop_of_length-le b {i = 60116 + length x} (omega (arith, fits))) ∙ append-nil x

  pub length_heads : length (splice b 60116 x) ≡ length b
  length_heads = length_splice b 60116 x (omega (arith, fits))

  -- past the heads
  pub heads_past : drop 896 x ≡ drop 896 (heads_of b) → drop 61012 (splice b 60116 x) ≡ drop 61012 b
  unfolding heads_of
  heads_past e = sym (drop-drop 896 60116 (splice b 60116 x)) ∙ ap (drop 896) heads_heads ∙ e ∙ drop-drop 896 60116 b
