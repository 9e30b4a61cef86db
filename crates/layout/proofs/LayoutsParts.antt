-- The older and the newer fields of a window: valid as its fields are, they tell them, and each record reads back. Assumes nothing.
use mathlib.Core.Path.{◌≡◌, sym, ap, ap₂, subst, ◌∙◌}
use mathlib.Core.List.{List, [], ◌∷◌, ◌++◌}
use Prim.Native.Nat.{ℕ}
use lib.ListN.{length, take, drop, length-take, length-drop, take-append-drop}
use lib.Seq.{take-append_seam, drop-append_seam, drop-drop}
use Rattle.rows.specs.declared.Row.{Row}
use Rattle.rows.specs.Rows.{rows_from}
use Rattle.body.specs.Bodies.{Body, window_fields}
use Rattle.body.proofs.Placed.{Placed, All, placed}
use Rattle.layout.specs.Valid.{ValidFields, ValidBody}
use Rattle.layout.specs.Layouts.{older_fields, newer_fields, older_of, newer_of, KeepsRecord, PartsTell}
use Rattle.layout.proofs.LayoutsLossless.{keeps_rows}

-- ---- valid

valid_split : (rs more : List Row) (fs : List (List ℕ)) → ValidFields (rs ++ more) fs → ValidFields rs (take (length rs) fs) × ValidFields more (drop (length rs) fs)
valid_split [] more fs v = (tt, v)
valid_split (r ∷ rs) more [] v = absurd v
valid_split (r ∷ rs) more (f ∷ fs) v = let w = valid_split rs more fs v.1 in ((v.0, w.0), w.1)

valid_join : (rs more : List Row) (fs gs : List (List ℕ)) → ValidFields rs fs → ValidFields more gs → ValidFields (rs ++ more) (fs ++ gs)
valid_join [] more [] gs v w = w
valid_join [] more (f ∷ fs) gs v w = absurd v
valid_join (r ∷ rs) more [] gs v w = absurd v
valid_join (r ∷ rs) more (f ∷ fs) gs v w = (v.0, valid_join rs more fs gs v.1 w)

module _ (fs : List (List ℕ)) (v : ValidFields window_fields fs) where
  first_six : ValidFields (rows_from 1 7) (take 6 fs) × ValidFields (rows_from 7 22) (drop 6 fs)
  first_six = valid_split (rows_from 1 7) (rows_from 7 22) fs v

  margins : ValidFields (rows_from 7 9) (take 2 (drop 6 fs)) × ValidFields (rows_from 9 22) (drop 2 (drop 6 fs))
  margins = valid_split (rows_from 7 9) (rows_from 9 22) (drop 6 fs) first_six.1

  next_eight : ValidFields (rows_from 9 17) (take 8 (drop 8 fs)) × ValidFields (rows_from 17 22) (drop 8 (drop 8 fs))
  next_eight = valid_split (rows_from 9 17) (rows_from 17 22) (drop 8 fs) (subst (ValidFields (rows_from 9 22)) (drop-drop 2 6 fs) margins.1)

  pub valid_older : ValidFields older_fields (older_of fs)
  valid_older = valid_join (rows_from 1 7) (rows_from 9 17) (take 6 fs) (take 8 (drop 8 fs)) first_six.0 next_eight.0

  pub valid_newer : ValidFields newer_fields (newer_of fs)
  valid_newer =
      valid_join (rows_from 7 9) (rows_from 17 22) (take 2 (drop 6 fs)) (drop 16 fs) margins.0
      (subst (ValidFields (rows_from 17 22)) (drop-drop 8 8 fs) next_eight.1)

-- ---- they tell all fields

tells : (a b x y : List (List ℕ)) → length a ≡ length b → a ++ x ≡ b ++ y → (a ≡ b) × (x ≡ y)
tells a b x y l e = (
  sym (take-append_seam a x) ∙ ap (take (length a)) e ∙ ap (λ (n : ℕ). take n (b ++ y)) l ∙ take-append_seam b y,
  sym (drop-append_seam a x) ∙ ap (drop (length a)) e ∙ ap (λ (n : ℕ). drop n (b ++ y)) l ∙ drop-append_seam b y,
)

-- four parts one after the other
abbrev four : List (List ℕ) → List (List ℕ) → List (List ℕ) → List (List ℕ) → List (List ℕ)
four a b c d = a ++ (b ++ (c ++ d))

parted : (fs : List (List ℕ)) → fs ≡ four (take 6 fs) (take 2 (drop 6 fs)) (take 8 (drop 8 fs)) (drop 16 fs)
parted fs =
    sym (take-append-drop 6 fs)
    ∙ ap (λ (x : List (List ℕ)). take 6 fs ++ x)
    (sym (take-append-drop 2 (drop 6 fs))
    ∙ ap (λ (x : List (List ℕ)). take 2 (drop 6 fs) ++ x)
    (drop-drop 2 6 fs ∙ sym (take-append-drop 8 (drop 8 fs)) ∙ ap (λ (x : List (List ℕ)). take 8 (drop 8 fs) ++ x) (drop-drop 8 8 fs)))

pub parts_tell : PartsTell
unfolding PartsTell
parts_tell fs gs lf lg e n =
    let o = tells (take 6 fs) (take 6 gs) (take 8 (drop 8 fs)) (take 8 (drop 8 gs)) (as_long 6 fs gs (lf ∙ sym lg)) e in
    let w = tells (take 2 (drop 6 fs)) (take 2 (drop 6 gs)) (drop 16 fs) (drop 16 gs) (as_long 2 (drop 6 fs) (drop 6 gs) (dropped 6 fs gs (lf ∙ sym lg))) n in
    parted fs
    ∙ ap (λ (x : List (List ℕ)). four x (take 2 (drop 6 fs)) (take 8 (drop 8 fs)) (drop 16 fs)) o.0
    ∙ ap (λ (x : List (List ℕ)). four (take 6 gs) x (take 8 (drop 8 fs)) (drop 16 fs)) w.0
    ∙ ap₂ (λ (x y : List (List ℕ)). four (take 6 gs) (take 2 (drop 6 gs)) x y) o.1 w.1
    ∙ sym (parted gs)
  where
    as_long : (k : ℕ) (xs ys : List (List ℕ)) → length xs ≡ length ys → length (take k xs) ≡ length (take k ys)
    as_long k xs ys l = simp length-take (rw l)

    dropped : (k : ℕ) (xs ys : List (List ℕ)) → length xs ≡ length ys → length (drop k xs) ≡ length (drop k ys)
    dropped k xs ys l = simp length-drop (rw l)

-- ---- each record reads back

all_join : (rs more : List Row) → All Placed rs → All Placed more → All Placed (rs ++ more)
all_join [] more a b = b
all_join (r ∷ rs) more a b = (a.0, all_join rs more a.1 b)

pub keeps_older : (m n : ℕ) (b : Body) → ValidBody older_fields m n b → KeepsRecord older_fields b
keeps_older m n b v = keeps_rows older_fields m n b (all_join (rows_from 1 7) (rows_from 9 17) (placed 1 7) (placed 9 17)) v

pub keeps_newer : (m n : ℕ) (b : Body) → ValidBody newer_fields m n b → KeepsRecord newer_fields b
keeps_newer m n b v = keeps_rows newer_fields m n b (all_join (rows_from 7 9) (rows_from 17 22) (placed 7 9) (placed 17 22)) v
