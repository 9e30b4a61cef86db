-- A list begins with another; the program of an Execute. Assumes nothing.
use mathlib.Core.Path.{◌≡◌, refl, sym, ap, ◌∙◌}
use mathlib.Core.Bool.{Bool, true, false, ◌&&◌}
use mathlib.Core.List.{List, [], ◌∷◌}
use Prim.Native.Nat.{ℕ, ◌+◌, ◌-◌}
use native.Mathlib.Nat.{add-sub_cancel_left}
use lib.ListN.{length, take, drop}
use lib.Dec.{eqb}
use Rattle.std.specs.Cmp.Lexicographic.{pointwise}
use borrow.Author.Tests.{eqb-true, eq-eqb}
use Rattle.wire.specs.Tests.{both}
use Rattle.wire.proofs.Tests.{same_test}
use Rattle.wire.specs.Parts.{slice}
use Rattle.profile.specs.Programs.{begins, published, plain_flags}

eqb_swap : (a b : ℕ) → eqb a b ≡ eqb b a
eqb_swap a b = same_test (eqb a b) (eqb b a) (λ e. eq-eqb b a (sym (eqb-true a b e))) (λ e. eq-eqb a b (sym (eqb-true b a e)))

joined_as : (a : Bool) {b c : Bool} → b ≡ c → both a b ≡ (a && c)
joined_as true e = e
joined_as false e = refl

-- a list begins with t where its first entries are those of t
pub begins_is : (s t : List ℕ) → begins s t ≡ pointwise eqb t (take (length t) s)
begins_is [] [] = refl
begins_is (y ∷ s) [] = refl
begins_is [] (x ∷ t) = refl
begins_is (y ∷ s) (x ∷ t) = ap (λ (b : Bool). both b (begins s t)) (eqb_swap y x) ∙ joined_as (eqb x y) (begins_is s t)

-- ---- the program of an Execute

pub permits : (flags at len : ℕ) (src : List ℕ) {a b : Bool} → a ≡ plain_flags flags → b ≡ published (take (at + len - at) (drop at src)) → both a b ≡ both (plain_flags flags) (published (slice src at len))
unfolding slice
permits flags at len src ea eb = rw (ea, eb, add-sub_cancel_left at len)
