-- The answers of the state calls and lookups at the C boundary. Assumes nothing.
use mathlib.Core.Path.{◌≡◌, sym, ap, ◌∙◌, subst}
use mathlib.Core.List.{List, []}
use Prim.Native.Nat.{ℕ, zero, suc, ◌≤◌}
use native.Mathlib.Omega.{arith}
use lib.ListN.{get_or, get_or-eq_default}
use Rattle.rows.proofs.Fields.{NoneOf}
use Rattle.store.specs.Store.{places_in}
use Rattle.journal.specs.View.{Memory, memory}
use Rattle.session.specs.declared.Reply.{Reply}
use Rattle.session.specs.declared.PictureHolder.{PictureHolder}
use Rattle.session.specs.declared.LookupTarget.TheVariants.{Shares}
use Rattle.session.specs.Calls.{reset}
use Rattle.session.specs.Outcome.{Request, Response, plain, lookup, replied, handed, CallOutcome}
use Rattle.session.specs.Packed.{packed_of}
use Rattle.rail.specs.States.{sizes, size_of, Exported}

pub exported : {q : Request} {m m' : Memory} {r : Reply} {n : ℕ} {out' : List ℕ} → CallOutcome q m (handed r out') m' → n ≡ packed_of r → Exported q m n out' m'
exported o p =
    record {
      says = p ∙ ap (λ (x : Response). packed_of x.reply) o.says;
      gives = ap (λ (x : Response). x.out) o.says;
      holds = o.holds;
      kept = λ n. o.kept (λ z. n (sym (ap (λ (x : Response). x.reply.number) o.says) ∙ z));
      past = o.past;
    }

-- emptying, with so many places lent
pub reset_exported : {k n : ℕ} {x b j x' b' j' : List ℕ} {p : List (List ℕ)} {r : Reply} → k ≡ places_in p
    → CallOutcome (plain (reset k)) (memory x b p j) (replied r) (memory x' b' p j')
    → n ≡ packed_of r
    → Exported (plain (reset (places_in p))) (memory x b p j) n [] (memory x' b' p j')
reset_exported {x = x} {b = b} {j = j} {x' = x'} {b' = b'} {j' = j'} {p = p} {r = r} e o w =
    exported (subst (λ (k : ℕ). CallOutcome (plain (reset k)) (memory x b p j) (replied r) (memory x' b' p j')) e o) w

-- whether two holders share a place
pub shared_exported : {g k g' k' : PictureHolder} {m : Memory} {r : Reply} {n : ℕ} {out out' : List ℕ} → g ≡ g' → k ≡ k'
    → CallOutcome (lookup (Shares g k) out) m (handed r out') m
    → n ≡ packed_of r
    → Exported (lookup (Shares g' k') out) m n out' m
shared_exported {g = g} {k' = k'} {m = m} {r = r} {out = out} {out' = out'} e f o w =
    exported
    (subst (λ (x : PictureHolder). CallOutcome (lookup (Shares x k') out) m (handed r out') m) e
    (subst (λ (x : PictureHolder). CallOutcome (lookup (Shares g x) out) m (handed r out') m) f o))
    w

pub size_at_lem : {what v : ℕ} (n : ℕ) → what ≡ n → v ≡ get_or sizes n 0 → v ≡ size_of what
unfolding size_of
size_at_lem n e f = f ∙ ap (λ (i : ℕ). get_or sizes i 0) (sym e)

past : (n k : ℕ) → NoneOf n k → n ≤ k
past zero k t = omega arith
past (suc n) k t = omega (arith, past n k t.0, t.1)

pub size_past : (what : ℕ) → NoneOf 12 what → 0 ≡ size_of what
unfolding size_of
size_past what t = sym (get_or-eq_default sizes 0 (past 12 what t))
