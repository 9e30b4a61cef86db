-- What well-formed memory says of a chunk, in the state's words and in the memory's. Assumes nothing.
use mathlib.Core.Path.{◌≡◌, refl, sym, ap, ◌∙◌}
use mathlib.Core.Bool.{Bool, true, false, not}
use mathlib.Core.List.{List, [], ◌∷◌, ◌++◌, append_assoc}
use Prim.Native.Nat.{ℕ, ◌+◌, ◌-◌, ◌≤◌, ◌<◌}
use native.Mathlib.Omega.{arith}
use lib.ListN.{length, take, drop, length-append, length-take, length-drop}
use lib.Seq.{take_at}
use lib.Dec.{eqb, leb, ltb}
use borrow.Author.Tests.{eqb-true, leb-true, ltb-false, eqb-false, le-ltb}
use Rattle.wire.specs.Tests.{pick, both, either, any}
use Rattle.wire.specs.Parts.{slice, splice}
use Rattle.wire.proofs.Tests.{both_left, both_right, either_left, either_right}
use Rattle.wire.proofs.Parts.{slice_last, length_splice, drop_splice}
use Rattle.chunk.specs.Chunk.{State, nothing, begun, most, head_size, total_in, data_in, is_first, is_last, is_compressed, is_nothing, first_total, bytes_so_far, assembled, refuses16}
use Rattle.chunk.specs.Memory.{memory_size, total_at, got_at, well_formed, state_at, formed, view_of, fit, start_at, end_at, refuses_at, joined_at}

-- ---- what a chunk has that does not meet 16

-- its total, and the bytes up to its end
pub record Accepted (total end : ℕ) (last : Bool) : Type 0 where
  pub some : 0 < total
  pub small : total ≤ most
  pub within : end ≤ total
  pub reached : last ≡ true → end ≡ total

accept : (x a b l : Bool) (t n : ℕ) → any (x ∷ a ∷ eqb t 0 ∷ ltb most t ∷ b ∷ ltb t n ∷ both l (ltb n t) ∷ []) ≡ false → Accepted t n l
accept x a b l t n e =
    let e6 = either_left (either (either (either (either (either x a) (eqb t 0)) (ltb most t)) b) (ltb t n)) (both l (ltb n t)) e in
    let e5 = either_left (either (either (either (either x a) (eqb t 0)) (ltb most t)) b) (ltb t n) e6 in
    let e4 = either_left (either (either (either x a) (eqb t 0)) (ltb most t)) b e5 in
    let e3 = either_left (either (either x a) (eqb t 0)) (ltb most t) e4 in
    let zero-not : eqb t 0 ≡ false = either_right (either x a) (eqb t 0) e3 in
    let over-not : ltb most t ≡ false = either_right (either (either x a) (eqb t 0)) (ltb most t) e4 in
    let past-not : ltb t n ≡ false = either_right (either (either (either (either x a) (eqb t 0)) (ltb most t)) b) (ltb t n) e6 in
    let short-not : both l (ltb n t) ≡ false = either_right (either (either (either (either (either x a) (eqb t 0)) (ltb most t)) b) (ltb t n)) (both l (ltb n t)) e in
    record {
      some = omega (arith, eqb-false t 0 zero-not);
      small = ltb-false most t over-not;
      within = ltb-false t n past-not;
      reached = λ h. last h short-not (ltb-false t n past-not);
    }
  where
    last : l ≡ true → both l (ltb n t) ≡ false → n ≤ t → n ≡ t
    last h s p =
        let s' : ltb n t ≡ false = sym (ap (λ (y : Bool). both y (ltb n t)) h) ∙ s in
        omega (arith, p, ltb-false n t s')

-- by the memory's numbers, and by the state
pub accepted : (mem chunk : List ℕ) → refuses_at mem chunk ≡ false → Accepted (total_in chunk) (end_at mem chunk) (is_last chunk)
unfolding refuses_at
accepted mem chunk e =
    accept (is_compressed chunk) (both (not (is_first chunk)) (eqb (total_at mem) 0)) (both (not (is_first chunk)) (not (eqb (total_in chunk) (total_at mem)))) (is_last chunk) (total_in chunk) (end_at mem chunk) e

pub accepted_in : (state : State) (chunk : List ℕ) → refuses16 state chunk ≡ false → Accepted (total_in chunk) (length (assembled state chunk)) (is_last chunk)
unfolding refuses16
accepted_in state chunk e =
    accept (is_compressed chunk) (both (not (is_first chunk)) (is_nothing state)) (both (not (is_first chunk)) (not (eqb (total_in chunk) (first_total state)))) (is_last chunk) (total_in chunk) (length (assembled state chunk)) e

-- ---- memory that is fit

module _ (mem : List ℕ) (ok : fit mem ≡ true) where
  pub fit_long : memory_size ≤ length mem
  unfolding fit
  fit_long = leb-true memory_size (length mem) (both_left (leb memory_size (length mem)) (well_formed mem) ok)

  formed_well : well_formed mem ≡ true
  unfolding fit
  formed_well = both_right (leb memory_size (length mem)) (well_formed mem) ok

  pub fit_total : total_at mem ≤ most
  unfolding well_formed
  fit_total = leb-true (total_at mem) most (both_left (leb (total_at mem) most) (leb (got_at mem) (total_at mem)) formed_well)

  pub fit_got : got_at mem ≤ total_at mem
  unfolding well_formed
  fit_got = leb-true (got_at mem) (total_at mem) (both_right (leb (total_at mem) most) (leb (got_at mem) (total_at mem)) formed_well)

  pub view_fit : view_of mem ≡ formed (state_at mem)
  unfolding view_of
  view_fit = rw (le-ltb (length mem) memory_size fit_long, formed_well)

  so_far : bytes_so_far (state_at mem) ≡ take (got_at mem) mem
  unfolding state_at bytes_so_far
  so_far = go (eqb (total_at mem) 0) refl
    where
      go : (t : Bool) → eqb (total_at mem) 0 ≡ t → bytes_so_far (pick t nothing (begun (total_at mem) (take (got_at mem) mem))) ≡ take (got_at mem) mem
      go true e = let z : got_at mem ≡ 0 = omega (arith, fit_got, eqb-true (total_at mem) 0 e) in rw z
      go false e = refl

  nothing_at : is_nothing (state_at mem) ≡ eqb (total_at mem) 0
  unfolding state_at is_nothing
  nothing_at = go (eqb (total_at mem) 0)
    where
      go : (t : Bool) → is_nothing (pick t nothing (begun (total_at mem) (take (got_at mem) mem))) ≡ t
      go true = refl
      go false = refl

  first_at : first_total (state_at mem) ≡ total_at mem
  unfolding state_at first_total
  first_at = go (eqb (total_at mem) 0) refl
    where
      go : (t : Bool) → eqb (total_at mem) 0 ≡ t → first_total (pick t nothing (begun (total_at mem) (take (got_at mem) mem))) ≡ total_at mem
      go true e = sym (eqb-true (total_at mem) 0 e)
      go false e = refl

  module _ (chunk : List ℕ) (long : head_size ≤ length chunk) where
    pub assembled_at : assembled (state_at mem) chunk ≡ take (start_at mem chunk) mem ++ data_in chunk
    unfolding assembled
    assembled_at = rw so_far (ap (λ (x : List ℕ). x ++ data_in chunk) (go (is_first chunk)))
      where
        go : (t : Bool) → pick t [] (take (got_at mem) mem) ≡ take (pick t 0 (got_at mem)) mem
        go true = refl
        go false = refl

    start-within : start_at mem chunk ≤ most
    start-within = go (is_first chunk)
      where
        go : (t : Bool) → pick t 0 (got_at mem) ≤ most
        go true = omega arith
        go false = omega (arith, fit_got, fit_total)

    pub length_assembled : length (assembled (state_at mem) chunk) ≡ end_at mem chunk
    length_assembled =
        ap length assembled_at ∙ simp (length-append, length-take, length-drop) (omega (arith, start-within, fit_long))

    pub refuses_at_lem : refuses16 (state_at mem) chunk ≡ refuses_at mem chunk
    unfolding refuses16 refuses_at
    refuses_at_lem = rw (nothing_at, first_at, length_assembled)

    module _ (some : end_at mem chunk ≤ most) where
      data-slice : slice chunk head_size (length chunk - head_size) ≡ data_in chunk
      data-slice = slice_last chunk head_size (length chunk - head_size) (omega arith)

      data_fits : start_at mem chunk + length (slice chunk head_size (length chunk - head_size)) ≤ length mem
      data_fits = rw data-slice (simp length-drop (omega (arith, fit_long)))

      data-end : start_at mem chunk + length (slice chunk head_size (length chunk - head_size)) ≡ end_at mem chunk
      data-end = rw data-slice (simp length-drop)

      pub length_joined : length (joined_at mem chunk) ≡ length mem
      unfolding joined_at
      length_joined = length_splice mem (start_at mem chunk) (slice chunk head_size (length chunk - head_size)) data_fits

      pub drop_joined : drop memory_size (joined_at mem chunk) ≡ drop memory_size mem
      unfolding joined_at
      drop_joined = drop_splice mem (start_at mem chunk) (slice chunk head_size (length chunk - head_size)) data_fits memory_size (omega (arith, data-end))

      pub take_joined : take (end_at mem chunk) (joined_at mem chunk) ≡ assembled (state_at mem) chunk
      unfolding joined_at splice
      take_joined =
          let l : length (take (start_at mem chunk) mem ++ data_in chunk) ≡ end_at mem chunk = ap length (sym assembled_at) ∙ length_assembled in
          rw data-slice
          (ap (take (end_at mem chunk)) (sym (append_assoc (take (start_at mem chunk) mem) (data_in chunk) (drop (start_at mem chunk + length (data_in chunk)) mem)))
          ∙ take_at (take (start_at mem chunk) mem ++ data_in chunk) (drop (start_at mem chunk + length (data_in chunk)) mem) (end_at mem chunk) l
          ∙ sym assembled_at)
