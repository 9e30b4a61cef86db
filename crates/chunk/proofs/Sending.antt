-- Chunks made of a total, flags and parts carry these parts. Assumes nothing.
use mathlib.Core.Path.{◌≡◌, sym, ap, ◌∙◌}
use mathlib.Core.Bool.{Bool}
use mathlib.Core.List.{List, [], ◌∷◌, ◌++◌, append_assoc}
use Prim.Native.Nat.{ℕ, ◌<◌}
use native.Mathlib.Omega.{arith}
use lib.ListN.{length, drop, length-append}
use lib.Seq.{drop_at}
use Rattle.wire.specs.Tests.{has}
use Rattle.wire.specs.Numbers.{nums_at, put_all, bytes_of}
use Rattle.wire.proofs.Numbers.{length_bytes, nums_put, all_fit_lem, fit0, fit4}
use Rattle.chunk.specs.Chunk.{head_size, flag_first, flag_last, compressed, total_in, flags_in}
use Rattle.chunk.specs.Cutting.{Carries, Cut, cut_last, cut_more, chunk_of, Flags, Marks, mark_last, mark_more, sent, CuttingClaim, SendingClaim}
use Rattle.chunk.proofs.Cutting.{cutting}

module _ (total flags : ℕ) (part : List ℕ) (small : total < 4294967296) (low : flags < 4294967296) where
  numbers : nums_at (4 ∷ 4 ∷ []) (chunk_of total flags part) 0 ≡ total ∷ flags ∷ []
  unfolding chunk_of put_all
  numbers =
      ap (λ (x : List ℕ). nums_at (4 ∷ 4 ∷ []) x 0) (regroup (bytes_of 4 total) (bytes_of 4 flags) part)
      ∙ nums_put (4 ∷ 4 ∷ []) (total ∷ flags ∷ []) part (all_fit_lem (4 ∷ 4 ∷ []) (total ∷ flags ∷ []) (fit4 {n = total} small (fit4 {n = flags} low fit0)))
    where
      regroup : (a b c : List ℕ) → a ++ (b ++ c) ≡ (a ++ (b ++ [])) ++ c
      regroup a b c = sym (append_assoc a (b ++ []) c ∙ ap (λ (x : List ℕ). a ++ x) (append_assoc b [] c))

  total_of : total_in (chunk_of total flags part) ≡ total
  unfolding nums_at
  total_of = let e : nums_at (4 ∷ 4 ∷ []) (chunk_of total flags part) 0 ≡ total ∷ flags ∷ [] = numbers in cc

  flags_of : flags_in (chunk_of total flags part) ≡ flags
  unfolding nums_at
  flags_of = let e : nums_at (4 ∷ 4 ∷ []) (chunk_of total flags part) 0 ≡ total ∷ flags ∷ [] = numbers in cc

  head_length_lem : length (bytes_of 4 total ++ bytes_of 4 flags) ≡ head_size
  head_length_lem = simp length-append (omega (arith, length_bytes 4 total, length_bytes 4 flags))

  is_head : chunk_of total flags part ≡ (bytes_of 4 total ++ bytes_of 4 flags) ++ part
  unfolding chunk_of
  is_head = sym (append_assoc (bytes_of 4 total) (bytes_of 4 flags) part)

  pub carries : {first last : Bool} → Flags flags first last → Carries total first last part (chunk_of total flags part)
  carries f =
      record {
        long = omega (arith, ap length is_head ∙ length-append (bytes_of 4 total ++ bytes_of 4 flags) part, head_length_lem);
        total_is = total_of;
        first_is = ap (λ (n : ℕ). has n flag_first) flags_of ∙ f.first_is;
        last_is = ap (λ (n : ℕ). has n flag_last) flags_of ∙ f.last_is;
        plain = ap (λ (n : ℕ). has n compressed) flags_of ∙ f.plain;
        part_is = ap (drop head_size) is_head ∙ drop_at (bytes_of 4 total ++ bytes_of 4 flags) part head_size head_length_lem;
      }

pub sent_cut : (total : ℕ) → total < 4294967296 → {first : Bool} (flags : List ℕ) (parts : List (List ℕ)) → Marks first flags parts
    → Cut total first parts (sent total flags parts)
unfolding sent
sent_cut total h (f ∷ []) (part ∷ []) (mark_last k) = cut_last (carries total f part h k.small k)
sent_cut total h (f ∷ fs) (part ∷ parts) (mark_more k rest) = cut_more (carries total f part h k.small k) (sent_cut total h fs parts rest)
sent_cut total h {first = first} [] parts x' = elim x' [ ]
sent_cut total h {first = first} (f ∷ fs) [] x3 = elim x3 [ ]

pub sending : SendingClaim
unfolding SendingClaim CuttingClaim
sending m parts flags e p w k state = cutting m parts (sent (length m) flags parts) e p w (sent_cut (length m) (omega arith) flags parts k) state
