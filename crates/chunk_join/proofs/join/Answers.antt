-- Five ways out: unfit memory, a short chunk, a refused one, the last of a message, one before it.
use Rattle.std.proofs.Common.{ℕ, ◌+◌, ◌-◌, ◌∙◌, ◌≡◌, ◌≤◌, List, ap, arith, false, length, sym, true}
use Rattle.wire.specs.Tests.{has}
use Rattle.wire.specs.Parts.{slice, splice}
use Rattle.chunk.specs.Chunk.{most, head_size, flag_last, total_in, is_last}
use Rattle.chunk.specs.Memory.{memory_size, fit, end_at, refuses_at, joined_at, noted, emptied}
use Rattle.chunk.proofs.Begun.{fit_long}
use Rattle.chunk.proofs.Ways.{unfit, short, refusal, end_within, joined_long, awaits, whole}
use Rattle.chunk_join.proofs.join.Goals as goal

pub returns-then-not-is_fit : goal.returns-then-not-is_fit
unfolding emptied
returns-then-not-is_fit c = unfit c.args.memory.now c.args.chunk.now (sym c.is_fit.ensures ∙ c.if-not-is_fit.true)

pub returns-then-chunk-lt-HEAD : goal.returns-then-chunk-lt-HEAD
unfolding emptied
returns-then-chunk-lt-HEAD c =
    let fits : fit c.args.memory.now ≡ true = sym c.is_fit.ensures ∙ c.if-not-is_fit.false in
    short c.args.memory.now c.args.chunk.now (fits) c.if-chunk-lt-HEAD.true

pub note-requires : goal.note-requires
unfolding emptied
note-requires c =
    let fits : fit c.args.memory.now ≡ true = sym c.is_fit.ensures ∙ c.if-not-is_fit.false in
    fit_long c.args.memory.now (fits)

pub returns-then-refuses : goal.returns-then-refuses
unfolding emptied
returns-then-refuses c =
    let fits : fit c.args.memory.now ≡ true = sym c.is_fit.ensures ∙ c.if-not-is_fit.false in
    refusal c.args.memory.now c.args.chunk.now (fits) c.if-chunk-lt-HEAD.false (sym c.refuses.ensures ∙ c.if-refuses.true) _ c.note.ensures

pub copy_part-requires : goal.copy_part-requires
unfolding emptied
copy_part-requires c =
    let memory : List ℕ = c.args.memory.now in
    let fits : fit c.args.memory.now ≡ true = sym c.is_fit.ensures ∙ c.if-not-is_fit.false in
    let fits_there : fit (memory) ≡ true = fits in
    let chunk : List ℕ = c.args.chunk.now in
    let long : head_size ≤ length (chunk) = c.if-chunk-lt-HEAD.false in
    let passes : refuses_at (memory) (chunk) ≡ false = sym c.refuses.ensures ∙ c.if-refuses.false in
    let end_of : c.start-from.result + (length (chunk) - head_size) ≤ most = omega (arith, c.start-from.ensures, end_within (memory) (chunk) (fits_there) (long) (passes)) in
    (omega (arith, end_of, fit_long (memory) (fits_there)), omega (arith, long))

pub note-requires-then-last : goal.note-requires-then-last
unfolding emptied joined_at
note-requires-then-last c =
    let memory : List ℕ = c.args.memory.now in
    let chunk : List ℕ = c.args.chunk.now in
    let fits : fit c.args.memory.now ≡ true = sym c.is_fit.ensures ∙ c.if-not-is_fit.false in
    let fits_there : fit (memory) ≡ true = fits in
    let long : head_size ≤ length (chunk) = c.if-chunk-lt-HEAD.false in
    let passes : refuses_at (memory) (chunk) ≡ false = sym c.refuses.ensures ∙ c.if-refuses.false in
    let joined_room : memory_size ≤ length (joined_at (memory) (chunk)) = joined_long (memory) (chunk) (fits_there) (long) (passes) in
    let copied : c.copy_part.new.dst ≡ joined_at (memory) (chunk) = c.copy_part.ensures ∙ ap (λ (x : ℕ). splice (memory) x (slice (chunk) head_size (length (chunk) - head_size))) c.start-from.ensures in
    let copied_room : memory_size ≤ length c.copy_part.new.dst = omega (arith, ap length (copied), joined_room) in
    copied_room

pub returns-then-last : goal.returns-then-last
unfolding emptied joined_at
returns-then-last c =
    let memory : List ℕ = c.args.memory.now in
    let chunk : List ℕ = c.args.chunk.now in
    let fits : fit c.args.memory.now ≡ true = sym c.is_fit.ensures ∙ c.if-not-is_fit.false in
    let fits_there : fit (memory) ≡ true = fits in
    let long : head_size ≤ length (chunk) = c.if-chunk-lt-HEAD.false in
    let passes : refuses_at (memory) (chunk) ≡ false = sym c.refuses.ensures ∙ c.if-refuses.false in
    let lasts : is_last (chunk) ≡ c.is_last-last.result = ap (λ (f : ℕ). has f flag_last) (sym c.read_u32.ensures) ∙ sym c.is_last-last.ensures in
    let copied : c.copy_part.new.dst ≡ joined_at (memory) (chunk) = c.copy_part.ensures ∙ ap (λ (x : ℕ). splice (memory) x (slice (chunk) head_size (length (chunk) - head_size))) c.start-from.ensures in
    whole (memory) (chunk) (fits_there) (long) (passes) (lasts ∙ c.if-last.true) _ c.read_u32-total.ensures
    _ (c.note-then-last.ensures ∙ ap (λ (x : List ℕ). noted x 0 0) (copied))

pub overflow_cast-got : goal.overflow_cast-got
unfolding emptied
overflow_cast-got c =
    let memory : List ℕ = c.args.memory.now in
    let chunk : List ℕ = c.args.chunk.now in
    let fits : fit c.args.memory.now ≡ true = sym c.is_fit.ensures ∙ c.if-not-is_fit.false in
    let fits_there : fit (memory) ≡ true = fits in
    let long : head_size ≤ length (chunk) = c.if-chunk-lt-HEAD.false in
    let passes : refuses_at (memory) (chunk) ≡ false = sym c.refuses.ensures ∙ c.if-refuses.false in
    let end_of : c.start-from.result + (length (chunk) - head_size) ≤ most = omega (arith, c.start-from.ensures, end_within (memory) (chunk) (fits_there) (long) (passes)) in
    omega (arith, end_of)

pub overflow_add-got : goal.overflow_add-got
unfolding emptied
overflow_add-got c =
    let memory : List ℕ = c.args.memory.now in
    let chunk : List ℕ = c.args.chunk.now in
    let fits : fit c.args.memory.now ≡ true = sym c.is_fit.ensures ∙ c.if-not-is_fit.false in
    let fits_there : fit (memory) ≡ true = fits in
    let long : head_size ≤ length (chunk) = c.if-chunk-lt-HEAD.false in
    let passes : refuses_at (memory) (chunk) ≡ false = sym c.refuses.ensures ∙ c.if-refuses.false in
    let end_of : c.start-from.result + (length (chunk) - head_size) ≤ most = omega (arith, c.start-from.ensures, end_within (memory) (chunk) (fits_there) (long) (passes)) in
    omega (arith, end_of)

pub note-requires-2 : goal.note-requires-2
unfolding emptied joined_at
note-requires-2 c =
    let memory : List ℕ = c.args.memory.now in
    let chunk : List ℕ = c.args.chunk.now in
    let fits : fit c.args.memory.now ≡ true = sym c.is_fit.ensures ∙ c.if-not-is_fit.false in
    let fits_there : fit (memory) ≡ true = fits in
    let long : head_size ≤ length (chunk) = c.if-chunk-lt-HEAD.false in
    let passes : refuses_at (memory) (chunk) ≡ false = sym c.refuses.ensures ∙ c.if-refuses.false in
    let joined_room : memory_size ≤ length (joined_at (memory) (chunk)) = joined_long (memory) (chunk) (fits_there) (long) (passes) in
    let copied : c.copy_part.new.dst ≡ joined_at (memory) (chunk) = c.copy_part.ensures ∙ ap (λ (x : ℕ). splice (memory) x (slice (chunk) head_size (length (chunk) - head_size))) c.start-from.ensures in
    let copied_room : memory_size ≤ length c.copy_part.new.dst = omega (arith, ap length (copied), joined_room) in
    copied_room

pub returns : goal.returns
unfolding emptied joined_at
returns c =
    let memory : List ℕ = c.args.memory.now in
    let chunk : List ℕ = c.args.chunk.now in
    let fits : fit c.args.memory.now ≡ true = sym c.is_fit.ensures ∙ c.if-not-is_fit.false in
    let fits_there : fit (memory) ≡ true = fits in
    let long : head_size ≤ length (chunk) = c.if-chunk-lt-HEAD.false in
    let passes : refuses_at (memory) (chunk) ≡ false = sym c.refuses.ensures ∙ c.if-refuses.false in
    let lasts : is_last (chunk) ≡ c.is_last-last.result = ap (λ (f : ℕ). has f flag_last) (sym c.read_u32.ensures) ∙ sym c.is_last-last.ensures in
    let copied : c.copy_part.new.dst ≡ joined_at (memory) (chunk) = c.copy_part.ensures ∙ ap (λ (x : ℕ). splice (memory) x (slice (chunk) head_size (length (chunk) - head_size))) c.start-from.ensures in
    let total = c.read_u32-total in
    let got : c.start-from.result + (length (chunk) - head_size) ≡ end_at (memory) (chunk) = ap (λ (x : ℕ). x + (length (chunk) - head_size)) c.start-from.ensures in
    awaits (memory) (chunk) (fits_there) (long) (passes) (lasts ∙ c.if-last.false) _ got
    _ (c.note-2.ensures
    ∙ ap (λ (x : List ℕ). noted x total.result (c.start-from.result + (length (chunk) - head_size))) (copied)
    ∙ ap (λ (x : ℕ). noted (joined_at (memory) (chunk)) x (c.start-from.result + (length (chunk) - head_size))) total.ensures
    ∙ ap (λ (x : ℕ). noted (joined_at (memory) (chunk)) (total_in (chunk)) x) got)
