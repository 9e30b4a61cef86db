-- Where the pictures at the places came, at the beginning and after each order. Assumes nothing.
use mathlib.Core.Path.{◌≡◌, refl, sym, ap, ◌∙◌}
use mathlib.Core.Bool.{Bool, true, false}
use mathlib.Core.List.{List, []}
use Prim.Native.Nat.{ℕ, ◌+◌, ◌*◌, ◌≤◌, ◌<◌}
use native.Mathlib.Omega.{arith}
use lib.Dec.{eqb, leb, ltb}
use lib.ListN.{length, replicate}
use borrow.Author.Tests.{eqb-true, eqb-false, leb-true, leb-false, ltb-true, ltb-false}
use Rattle.wire.specs.Tests.{pick, both}
use Rattle.wire.specs.Numbers.{num_at, bytes_of}
use Rattle.wire.specs.Parts.{slice, splice}
use Rattle.wire.proofs.Parts.{length_slice, length_splice, slice_splice, slice_splice_before, length_zeros}
use Rattle.wire.proofs.Numbers.{num_past, num_slice, num_before, num_after, num_put, num_zeros, length_bytes, fits2}
use Rattle.index.specs.declared.Change.{Change}
use Rattle.index.specs.declared.Plan.{Plan}
use Rattle.index.specs.declared.Plan.TheVariants.{ChangeRecord, ChangeDesktop, Refuse}
use Rattle.table.specs.Changes.{puts_picture}
use Rattle.follow.specs.Follow.{origin_at, origins_followed}

pub no_origins_lem : (k : ℕ) → origin_at [] k ≡ 0
unfolding origin_at
no_origins_lem k = num_past 2 [] (2 * k) (omega arith)

-- ---- none at the beginning

pub origin_cleared : (m : List ℕ) (start : ℕ) → start + 128 ≤ length m → (k : ℕ) → origin_at (slice (splice m start (replicate 128 0)) start 128) k ≡ 0
unfolding origin_at
origin_cleared m start fits k =
    let e = length_zeros 128 in
    ap (λ (x : List ℕ). num_at 2 x (2 * k))
    (ap (slice (splice m start (replicate 128 0)) start) (sym e) ∙ slice_splice m start (replicate 128 0) (omega arith))
    ∙ num_zeros 2 128 (2 * k)

-- ---- one noted

module _ (m : List ℕ) (start : ℕ) (fits : start + 128 ≤ length m) where
  origin_within : (k : ℕ) → k < 64 → origin_at (slice m start 128) k ≡ num_at 2 m (start + 2 * k)
  unfolding origin_at
  origin_within k l = num_slice 2 m start 128 (2 * k) (omega arith)

  origin_past : (k : ℕ) → 64 ≤ k → origin_at (slice m start 128) k ≡ 0
  unfolding origin_at
  origin_past k l = num_past 2 (slice m start 128) (2 * k) (omega (arith, length_slice m start 128 fits))

module _ (m : List ℕ) (start : ℕ) (fits : start + 128 ≤ length m) (p q : ℕ) (below : p < 64) where
  abbrev noted : List ℕ
  noted = splice m (start + 2 * p) (bytes_of 2 q)

  room : start + 2 * p + length (bytes_of 2 q) ≤ length m
  room = omega (arith, length_bytes 2 q)

  pub length_noted : length noted ≡ length m
  length_noted = length_splice m (start + 2 * p) (bytes_of 2 q) room

  -- what lies before the origins
  pub noted_before : (n : ℕ) → n ≤ start → slice noted 0 n ≡ slice m 0 n
  noted_before n l = slice_splice_before m (start + 2 * p) (bytes_of 2 q) room 0 n (omega arith)

  pub origin_noted : q < 65536 → (k : ℕ) → origin_at (slice noted start 128) k ≡ pick (eqb k p) q (origin_at (slice m start 128) k)
  origin_noted small k = go (ltb k 64) (eqb k p) (leb k p) refl refl refl
    where
      long : start + 128 ≤ length noted
      long = omega (arith, length_noted)

      go : (t u v : Bool) → ltb k 64 ≡ t → eqb k p ≡ u → leb k p ≡ v → origin_at (slice noted start 128) k ≡ pick u q (origin_at (slice m start 128) k)
      go true true v d e f =
          let y = eqb-true k p e in
          origin_within noted start long k (ltb-true k 64 d) ∙ ap (λ (i : ℕ). num_at 2 noted (start + 2 * i)) y
          ∙ num_put 2 m (start + 2 * p) q (omega arith) (fits2 q small)
      go true false true d e f =
          let a = leb-true k p f in
          let b = eqb-false k p e in
          let c : k < p = omega (arith, b) in
          origin_within noted start long k (ltb-true k 64 d) ∙ num_before 2 m (start + 2 * p) (bytes_of 2 q) room (start + 2 * k) (omega arith)
          ∙ sym (origin_within m start fits k (ltb-true k 64 d))
      go true false false d e f =
          let a = leb-false k p f in
          origin_within noted start long k (ltb-true k 64 d)
          ∙ num_after 2 m (start + 2 * p) (bytes_of 2 q) room (start + 2 * k) (omega (arith, length_bytes 2 q))
          ∙ sym (origin_within m start fits k (ltb-true k 64 d))
      go false true v d e f = let y = eqb-true k p e in absurd (omega (arith, ltb-false k 64 d))
      go false false v d e f = origin_past noted start long k (ltb-false k 64 d) ∙ sym (origin_past m start fits k (ltb-false k 64 d))

-- ---- the origins after a plan

-- a plan that puts a picture at place k
abbrev pub puts_at : Plan → ℕ → Bool
puts_at (ChangeRecord c) k = both (puts_picture c) (eqb k c.place)
puts_at (ChangeDesktop flags) k = false
puts_at (Refuse n) k = false

module _ (start q : ℕ) (c : Change) (m : List ℕ) (fits : start + 128 ≤ length m) (below : c.place < 64) where
  pub length_followed : length (origins_followed start q c m) ≡ length m
  unfolding origins_followed
  length_followed = go (puts_picture c)
    where
      go : (t : Bool) → length (pick t (splice m (start + 2 * c.place) (bytes_of 2 q)) m) ≡ length m
      go true = length_noted m start fits c.place q below
      go false = refl

  pub followed_before : (n : ℕ) → n ≤ start → slice (origins_followed start q c m) 0 n ≡ slice m 0 n
  unfolding origins_followed
  followed_before n l = go (puts_picture c)
    where
      go : (t : Bool) → slice (pick t (splice m (start + 2 * c.place) (bytes_of 2 q)) m) 0 n ≡ slice m 0 n
      go true = noted_before m start fits c.place q below n l
      go false = refl

  pub origin_followed : q < 65536 → (k : ℕ)
      → origin_at (slice (origins_followed start q c m) start 128) k ≡ pick (puts_at (ChangeRecord c) k) q (origin_at (slice m start 128) k)
  unfolding origins_followed
  origin_followed small k = go (puts_picture c)
    where
      go : (t : Bool) → origin_at (slice (pick t (splice m (start + 2 * c.place) (bytes_of 2 q)) m) start 128) k
          ≡ pick (both t (eqb k c.place)) q (origin_at (slice m start 128) k)
      go true = origin_noted m start fits c.place q below small k
      go false = refl
