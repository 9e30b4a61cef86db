-- An update sets exactly the flagged fields, each to the bytes that the order carries for it. Assumes nothing.
use mathlib.Core.Path.{◌≡◌, refl, sym, ap, ◌∙◌}
use mathlib.Core.Bool.{Bool, true, false}
use mathlib.Core.List.{List, [], ◌∷◌}
use Prim.Native.Nat.{ℕ, zero, suc, ◌+◌, ◌<◌}
use native.Mathlib.Omega.{arith}
use lib.ListN.{length, get_or}
use lib.Seq.{ext_get_or}
use Rattle.wire.specs.Tests.{pick, has_all}
use Rattle.wire.specs.Parts.{slice}
use Rattle.rows.specs.declared.Row.{Row}
use Rattle.rows.specs.Rows.{no_row, len_of}
use Rattle.body.specs.Bodies.{first, rest, set_flagged, begins_at, carried_at, SetsFlagged}

length_set_flagged : (rows : List Row) (flags : ℕ) (s : List ℕ) (at : ℕ) (old : List (List ℕ)) → length (set_flagged rows flags s at old) ≡ length rows
unfolding set_flagged
length_set_flagged [] flags s at old = refl
length_set_flagged (r ∷ rs) flags s at old = go (has_all flags r.flag) (λ i. length_set_flagged rs flags s i (rest old))
  where
    go : (b : Bool) → ((i : ℕ) → length (set_flagged rs flags s i (rest old)) ≡ length rs)
        → length (pick b (slice s at (len_of r s at) ∷ set_flagged rs flags s (at + len_of r s at) (rest old)) (first old ∷ set_flagged rs flags s at (rest old))) ≡ suc (length rs)
    go true ih = ap suc (ih (at + len_of r s at))
    go false ih = ap suc (ih at)

first_is : (old : List (List ℕ)) → first old ≡ get_or old 0 []
first_is [] = refl
first_is (x ∷ xs) = refl

rest_at : (old : List (List ℕ)) (k : ℕ) → get_or (rest old) k [] ≡ get_or old (suc k) []
rest_at [] k = refl
rest_at (x ∷ xs) k = refl

pub set_at : (rows : List Row) (flags : ℕ) (s : List ℕ) (at : ℕ) (old : List (List ℕ)) (k : ℕ) → k < length rows
    → get_or (set_flagged rows flags s at old) k [] ≡ pick (has_all flags (get_or rows k no_row).flag) (carried_at rows flags s at k) (get_or old k [])
unfolding set_flagged carried_at begins_at
set_at [] flags s at old k h = absurd (omega arith)
set_at (r ∷ rs) flags s at old zero h = go (has_all flags r.flag)
  where
    go : (b : Bool)
        → get_or (pick b (slice s at (len_of r s at) ∷ set_flagged rs flags s (at + len_of r s at) (rest old)) (first old ∷ set_flagged rs flags s at (rest old))) 0 []
        ≡ pick b (slice s at (len_of r s at)) (get_or old 0 [])
    go true = refl
    go false = first_is old
set_at (r ∷ rs) flags s at old (suc k) h = go (has_all flags r.flag) (λ i. set_at rs flags s i (rest old) k (omega arith))
  where
    go : (b : Bool)
        → ((i : ℕ) → get_or (set_flagged rs flags s i (rest old)) k [] ≡ pick (has_all flags (get_or rs k no_row).flag) (carried_at rs flags s i k) (get_or (rest old) k []))
        → get_or (pick b (slice s at (len_of r s at) ∷ set_flagged rs flags s (at + len_of r s at) (rest old)) (first old ∷ set_flagged rs flags s at (rest old))) (suc k) []
        ≡ pick (has_all flags (get_or rs k no_row).flag) (carried_at rs flags s (pick b (at + len_of r s at) at) k) (get_or old (suc k) [])
    go true ih = ih (at + len_of r s at) ∙ ap (pick (has_all flags (get_or rs k no_row).flag) (carried_at rs flags s (at + len_of r s at) k)) (rest_at old k)
    go false ih = ih at ∙ ap (pick (has_all flags (get_or rs k no_row).flag) (carried_at rs flags s at k)) (rest_at old k)

module _ (rows : List Row) (flags : ℕ) (s : List ℕ) (at : ℕ) where
  pub sets_flagged : (old : List (List ℕ)) → SetsFlagged rows flags s at old (set_flagged rows flags s at old)
  sets_flagged old = record { as_many = length_set_flagged rows flags s at old; each = set_at rows flags s at old }

  -- and no other list of fields is that
  pub sets_only : (old new : List (List ℕ)) → SetsFlagged rows flags s at old new → new ≡ set_flagged rows flags s at old
  sets_only old new h =
      ext_get_or [] new (set_flagged rows flags s at old) (h.as_many ∙ sym (length_set_flagged rows flags s at old))
      (λ k l. h.each k (omega (arith, h.as_many)) ∙ sym (set_at rows flags s at old k (omega (arith, h.as_many))))
