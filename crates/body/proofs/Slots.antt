-- A slot of the bodies is decided by its own bytes. Assumes nothing.
use mathlib.Core.Path.{◌≡◌, refl, sym, ap, ◌∙◌}
use mathlib.Core.Bool.{Bool, true, false}
use mathlib.Core.List.{List, ◌++◌}
use Prim.Native.Nat.{ℕ, ◌+◌, ◌*◌, ◌-◌, ◌≤◌, ◌<◌}
use native.Mathlib.Omega.{arith}
use lib.Dec.{eqb, ltb}
use lib.ListN.{length, take, drop}
use borrow.Author.Tests.{eqb-true, eqb-false, ltb-true, ltb-false, lt-ltb, le-ltb}
use Rattle.wire.specs.Tests.{pick}
use Rattle.wire.specs.Parts.{slice, splice}
use Rattle.wire.proofs.Parts.{length_slice, length_splice, slice_splice, slice_splice_before, slice_splice_after, part_back}
use Rattle.body.specs.Bodies.{slots_in_all, slots_end, slot_length, slot_start, slot_of}

-- ---- where slots begin

module _ (k : ℕ) where
  pub window_start : k < 32 → slot_start k ≡ 1392 * k
  unfolding slot_start
  window_start h = rw (lt-ltb k 32 h)

  pub window_length_lem : k < 32 → slot_length k ≡ 1392
  unfolding slot_length
  window_length_lem h = rw (lt-ltb k 32 h)

  pub other_start : 32 ≤ k → slot_start k ≡ 44544 + 916 * (k - 32)
  unfolding slot_start
  other_start h = rw (le-ltb k 32 h)

  pub other_length : 32 ≤ k → slot_length k ≡ 916
  unfolding slot_length
  other_length h = rw (le-ltb k 32 h)

  pub start_window : k < 32 → (1392 * k ≡ slot_start k) × (1392 * k ≤ slots_end)
  start_window h = (sym (window_start h), omega arith)

  pub start_other : 32 ≤ k → k ≤ slots_in_all → (44544 + 916 * (k - 32) ≡ slot_start k) × (44544 + 916 * (k - 32) ≤ slots_end)
  start_other h l = (sym (other_start h), omega arith)

  pub slot_within : k < slots_in_all → slot_start k + slot_length k ≤ slots_end
  slot_within l = go (ltb k 32) refl
    where
      go : (b : Bool) → ltb k 32 ≡ b → slot_start k + slot_length k ≤ slots_end
      go true e = let h : k < 32 = ltb-true k 32 e in omega (arith, window_start h, window_length_lem h)
      go false e = let h : 32 ≤ k = ltb-false k 32 e in omega (arith, other_start h, other_length h)

-- the slots lie one after the other
pub slot_after_lem : (k : ℕ) → slot_start (k + 1) ≡ slot_start k + slot_length k
slot_after_lem k = go (ltb k 32) (ltb (k + 1) 32) refl refl
  where
    go : (a b : Bool) → ltb k 32 ≡ a → ltb (k + 1) 32 ≡ b → slot_start (k + 1) ≡ slot_start k + slot_length k
    go true true e f = omega (arith, window_start k (ltb-true k 32 e), window_length_lem k (ltb-true k 32 e), window_start (k + 1) (ltb-true (k + 1) 32 f))
    go true false e f =
        let h : k < 32 = ltb-true k 32 e in
        let g : 32 ≤ k + 1 = ltb-false (k + 1) 32 f in
        omega (arith, window_start k h, window_length_lem k h, other_start (k + 1) g, h, g)
    go false true e f = absurd (omega (arith, ltb-false k 32 e, ltb-true (k + 1) 32 f))
    go false false e f =
        let h : 32 ≤ k = ltb-false k 32 e in
        let g : 32 ≤ k + 1 = ltb-false (k + 1) 32 f in
        omega (arith, other_start k h, other_length k h, other_start (k + 1) g, h, g)

-- a slot ends before any later one begins
pub slots_apart : (i j : ℕ) → i < j → slot_start i + slot_length i ≤ slot_start j
slots_apart i j l = go (ltb i 32) (ltb j 32) refl refl
  where
    go : (a b : Bool) → ltb i 32 ≡ a → ltb j 32 ≡ b → slot_start i + slot_length i ≤ slot_start j
    go true true e f = omega (arith, window_start i (ltb-true i 32 e), window_length_lem i (ltb-true i 32 e), window_start j (ltb-true j 32 f))
    go true false e f =
        let h : i < 32 = ltb-true i 32 e in
        let g : 32 ≤ j = ltb-false j 32 f in
        omega (arith, window_start i h, window_length_lem i h, other_start j g, h, g)
    go false true e f = absurd (omega (arith, ltb-false i 32 e, ltb-true j 32 f))
    go false false e f =
        let h : 32 ≤ i = ltb-false i 32 e in
        let g : 32 ≤ j = ltb-false j 32 f in
        omega (arith, other_start i h, other_length i h, other_start j g, h, g)

-- ---- a slot

pub length_slot : (bodies : List ℕ) (k : ℕ) → slot_start k + slot_length k ≤ length bodies → length (slot_of bodies k) ≡ slot_length k
unfolding slot_of
length_slot bodies k h = length_slice bodies (slot_start k) (slot_length k) h

-- a slot as the part that is lent
pub slot_lent : (bodies : List ℕ) (base n k : ℕ) → base ≡ slot_start k → n ≡ slot_length k → take n (drop base bodies) ≡ slot_of bodies k
unfolding slot_of slice
slot_lent bodies base n k e f = rw (e, f)

module _ (bodies : List ℕ) (i : ℕ) (x : List ℕ) (size : length x ≡ slot_length i) (room : slot_start i + slot_length i ≤ length bodies) where
  pub slot_splice : (j : ℕ) → slot_of (splice bodies (slot_start i) x) j ≡ pick (eqb i j) x (slot_of bodies j)
  unfolding slot_of
  slot_splice j = go (eqb i j) (ltb j i) refl refl
    where
      fits : slot_start i + length x ≤ length bodies
      fits = omega (arith, size, room)

      go : (b c : Bool) → eqb i j ≡ b → ltb j i ≡ c → slice (splice bodies (slot_start i) x) (slot_start j) (slot_length j) ≡ pick b x (slice bodies (slot_start j) (slot_length j))
      go true c e f =
          ap (λ (k : ℕ). slice (splice bodies (slot_start i) x) (slot_start k) (slot_length k)) (sym (eqb-true i j e))
          ∙ ap (slice (splice bodies (slot_start i) x) (slot_start i)) (sym size)
          ∙ slice_splice bodies (slot_start i) x fits
      go false true e f = slice_splice_before bodies (slot_start i) x fits (slot_start j) (slot_length j) (slots_apart j i (ltb-true j i f))
      go false false e f = slice_splice_after bodies (slot_start i) x fits (slot_start j) (slot_length j) (lower (eqb-false i j e) (ltb-false j i f))
        where
          lower : (i ≡ j → ⊥) → i ≤ j → slot_start i + length x ≤ slot_start j
          lower n l = let m : i < j = omega (arith, n) in omega (arith, slots_apart i j m, size)

  pub length_bodies : length (splice bodies (slot_start i) x) ≡ length bodies
  length_bodies = length_splice bodies (slot_start i) x (omega (arith, size, room))

  -- a slot that was lent and came back
  module _ (base n : ℕ) (at : base ≡ slot_start i) (all : n ≡ slot_length i) where
    pub slots_back : take base bodies ++ (x ++ drop n (drop base bodies)) ≡ splice bodies (slot_start i) x
    slots_back = part_back bodies x base n (size ∙ sym all) ∙ ap (λ (a : ℕ). splice bodies a x) at

    pub slot_back : (j : ℕ) → slot_of (take base bodies ++ (x ++ drop n (drop base bodies))) j ≡ pick (eqb i j) x (slot_of bodies j)
    slot_back j = ap (λ (b : List ℕ). slot_of b j) slots_back ∙ slot_splice j
