-- What a read came to, by how many bytes it put at the start of the memory.
use Rattle.std.proofs.Common.{◌≡◌, ℕ, ◌<◌, ◌≤◌, List, [], rules, arith, length, take, sym, subst, refl, length-take-le, ◌++◌}
use Rattle.std.proofs.lemmas.Grind.{common_steps}
use Rattle.std.specs.Prelude.{Option, Result, Ok, Err, MatchResult, IsErr, None, Some}
use Rattle.std.specs.Result.{IsErrAnd, OnOk}
use Rattle.std.specs.declared.io.Error.{Error}
use Rattle.std.specs.Io.KnownBytes.{Consumes, IsAtEnd}
use Rattle.script.specs.declared.Stop.{Stop}
use Rattle.script.specs.declared.Stop.TheVariants.{Failed}
use Rattle.script.specs.Reading.{IsOver, IsRead, IsCut, IsFailed, Unread}

-- nothing is consumed
pub consumes_none : (old : Option (List ℕ)) → Consumes old old []
consumes_none None = search rules
consumes_none (Some xs) = refl

-- a read that failed is what is told of it
pub unread_failed : {A : Type 0} (P : A → Type 0) (least size : ℕ) (old new : Option (List ℕ)) (r : Result A Stop) (error : Error) → IsErr r → IsErrAnd r (λ stop. stop ≡ Failed error) → IsFailed old new → MatchResult r P (λ stop. Unread least size old new stop)
unread_failed {A} P least size old new (Ok v) error is gives failed = search rules
unread_failed {A} P least size old new (Err stop) error is gives failed = subst (Unread least size old new) (sym gives) failed

-- what is known of a read that went well
on_ok_is : {A E : Type 0} (r : Result A E) (v : A) (P : Type 0) → r ≡ Ok v → OnOk r P → P
on_ok_is {A} {E} r v P e h = rw e at h

pub over_of : {A E : Type 0} (r : Result A E) (v : A) (n : ℕ) (old new : Option (List ℕ)) (out : List ℕ) → r ≡ Ok v → n ≡ 0 → Consumes old new (take n out) → OnOk r (n < length out → IsAtEnd new) → 0 < length out → IsOver old new
over_of {A} {E} r v n old new out ok e taken ended some =
    let t : Consumes old new (take 0 out) = subst (λ k. Consumes old new (take k out)) e taken in
    let fewer : n < length out = omega arith in
    record { nothing = t; ended = on_ok_is r v (n < length out → IsAtEnd new) ok ended fewer }

pub cut_of : {A E : Type 0} (r : Result A E) (v : A) (least size n : ℕ) (old new : Option (List ℕ)) (out : List ℕ) → r ≡ Ok v → least ≤ n → n < size → size ≡ length out → Consumes old new (take n out) → OnOk r (n < length out → IsAtEnd new) → IsCut least size old new
cut_of {A} {E} r v least size n old new out ok some fewer len taken ended =
    let same : length (take n out) ≡ n = length-take-le n out (omega arith) in
    let less : n < length out = omega arith in
    record { begun = take n out; at_least = omega arith; fewer = omega arith; taken = taken; ended = on_ok_is r v (n < length out → IsAtEnd new) ok ended less }

pub read_of : (size n : ℕ) (old new : Option (List ℕ)) (out : List ℕ) → size ≤ n → n ≤ length out → size ≡ length out → Consumes old new (take n out) → IsRead size old new out
read_of size n old new out enough within len taken =
    let whole : take n out ≡ out = grind (arith, common_steps) in
    record { whole = sym len; taken = subst (Consumes old new) whole taken }

-- a memory that was filled, in its place
pub take_filled : (n : ℕ) (out rest : List ℕ) → n ≡ length out → take n (out ++ rest) ≡ out
take_filled n out rest e = grind (arith, common_steps)
