-- The loop of a run: the calls done so far, what they leave of the script, and what stands in the memory and the output. Assumes
-- nothing.
use Prim.Native.Nat.{ℕ, suc, ◌+◌, ◌*◌, ◌-◌, ◌%◌, ◌≤◌}
use mathlib.Core.Path.{◌≡◌, refl, sym, ap, ◌∙◌, subst}
use mathlib.Core.Bool.{true, false}
use mathlib.Core.List.{List, [], ◌∷◌, ◌++◌, append_assoc, append-nil, map, map-append, flatten}
use native.Mathlib.Omega.{arith}
use lib.ListN.{length, take, drop, length-append, length-take, length-drop}
use lib.Seq.{drop-drop}
use Rattle.wire.specs.Parts.{splice}
use Rattle.wire.specs.Numbers.{num_at}
use Rattle.wire.proofs.Parts.{splice_nil, splice_after, length_splice, part_back}
use Rattle.store.specs.Store.{places_in, five}
use Rattle.table.specs.Memory.{fixed_by}
use Rattle.journal.specs.View.{Memory, memory, too_short, formed, view_of}
use Rattle.session.specs.declared.Reply.{Reply}
use Rattle.session.specs.Calls.{reset}
use Rattle.session.specs.Outcome.{plain, Response, replied, CallOutcome}
use Rattle.model.specs.Updates.{Step, Said}
use Rattle.model.specs.Claim.{Calls, none, AsBook}
use Rattle.model.specs.Wellformed.{emptied_state, EmptyingGranted, EmptiedMeets}
use Rattle.model.proofs.Demand3.{as_book, snoc, past_then, calls_past}
use Rattle.model.proofs.Wellformed.{reset_long, emptying_granted, emptied_meets}
use Rattle.run.specs.Script.{step_of, first_call, item_length, block_of, block_length, ends_with, Course, ends_here, call_first, course_from, course_of, RunUnpacks, RunAs, Runs}
use Rattle.run.specs.Steps.{Takes, end_number, EndsAt, Done}
use Rattle.run.proofs.Ends.{Going, going, number_small, course_end, course_more, size_at_lem, call_at, block_at}

pub run_unpacks : RunUnpacks
unfolding RunUnpacks
run_unpacks p a b =
    let x : length p.calls % 0x100000000000000 ≡ length p.calls = omega arith in
    record { number = rw x (omega arith); calls = rw x (omega arith) }

-- ---- lists with one more at the end

flatten_more : (ls : List (List ℕ)) (l : List ℕ) → flatten (ls ++ (l ∷ [])) ≡ flatten ls ++ l
unfolding flatten
flatten_more [] l = append-nil l
flatten_more (x ∷ xs) l = ap (λ (y : List ℕ). x ++ y) (flatten_more xs l) ∙ sym (append_assoc x (flatten xs) l)

-- ---- what the loop keeps: n calls are done from m₀ on, the next is at index at, its block comes to index to

abbrev pub blocks : List Said → List (List ℕ)
blocks rs = map block_of rs

-- calls before a course
abbrev pub coming : List Step → Course → Course
coming cs p = record { calls = cs ++ p.calls; number = p.number }

pub record Ran (lent : ℕ) (s out₀ : List ℕ) (m₀ : Memory) (at to n ended : ℕ) (m : Memory) (out : List ℕ) : Type 0 where
  pub made : List Step
  pub given : List Said
  pub calls : Calls m₀ made given m
  pub left : course_of lent s (length out₀) ≡ coming made (course_from lent (length s - n) (drop at s) (length out₀ - to))
  pub count : length made ≡ n
  pub far : n ≤ at
  pub within : at ≤ length s
  pub room : to ≤ length out₀
  pub wide : length (flatten (blocks given)) ≡ to
  pub wrote : out ≡ splice out₀ 0 (flatten (blocks given))
  pub sizes : map length (blocks given) ≡ map block_length made
  pub same : length out ≡ length out₀
  pub ends : ended ≡ end_number (ends_with lent (drop at s) (length out₀ - to))

-- at the start
pub ran_start : (lent : ℕ) (s out : List ℕ) {ended : ℕ} {m : Memory} → EndsAt ended (drop 0 s) (length out) → Ran lent s out m 0 0 0 ended m out
unfolding course_of flatten
ran_start lent s out e =
    let z : length s - 0 ≡ length s = omega arith in
    let w : length out - 0 ≡ length out = omega arith in
    record {
      made = [];
      given = [];
      calls = none;
      left = rw (z, w);
      count = refl;
      far = omega arith;
      within = omega arith;
      room = omega arith;
      wide = refl;
      wrote = sym (splice_nil out 0);
      sizes = refl;
      same = refl;
      ends = rw w (e.is lent);
    }

module _ {lent : ℕ} (s out₀ : List ℕ) {m₀ : Memory} {at to n ended : ℕ} {m : Memory} {out : List ℕ} (g : Ran lent s out₀ m₀ at to n ended m out) where
  pub ended_small : ended ≤ 255
  ended_small = omega (arith, g.ends, number_small lent (drop at s) (length out₀ - to))

  -- no call more
  module _ (v : view_of m₀ ≡ formed (emptied_state lent)) (over : ended ≡ 255 → ⊥) where
    last : course_from lent (length s - n) (drop at s) (length out₀ - to) ≡ ends_here ended
    last = course_end lent (length s - n) (drop at s) (length out₀ - to) (omega (arith, length-drop at s, g.far)) g.ends over

    course-is : course_of lent s (length out₀) ≡ record { calls = g.made; number = ended }
    course-is = g.left ∙ ap (coming g.made) last ∙ ap (λ (cs : List Step). record { calls = cs; number = ended }) (append-nil g.made)

    booked : AsBook (fixed_by lent) g.made g.given m
    booked = as_book lent v g.calls

    pub ran_end : {r : ℕ} → r ≡ ended + 256 * (n % 0x100000000000000) → RunAs (fixed_by lent) (course_of lent s (length out₀)) m₀ out₀ r m out
    ran_end e =
        rw course-is
        (record {
          says = e ∙ ap (λ (k : ℕ). ended + 256 * (k % 0x100000000000000)) (sym g.count);
          answers = g.wrote ∙ ap (λ (ys : List Said). splice out₀ 0 (flatten (blocks ys))) booked.answers;
          sizes = ap (λ (ys : List Said). map length (blocks ys)) (sym booked.answers) ∙ g.sizes;
          holds = booked.holds;
          past = calls_past g.calls;
        })

  module _ (more : ended ≡ 255) where
    this : Step
    this = first_call lent (drop at s)

    goes : Going lent (drop at s) (length out₀ - to)
    goes = going lent (drop at s) (length out₀ - to) (sym g.ends ∙ more)

    pub head_ends : at + 3 ≤ length s
    head_ends = omega (arith, goes.whole, length-drop at s, g.within)

    module _ {kind size : ℕ} (k : kind ≡ num_at 1 s at) (z : size ≡ num_at 2 s (at + 1)) where
      abbrev arg : List ℕ
      arg = take (at + 3 + size - (at + 3)) (drop (at + 3) s)

      -- the item ends within the script
      pub item_ends : at + 3 + size ≤ length s
      item_ends = omega (arith, goes.whole, size_at_lem s at, z, length-drop at s, g.within)

      this-is : this ≡ step_of lent kind arg
      unfolding this
      this-is = call_at s at k z lent

      module _ {block : ℕ} (b : Takes kind block) where
        this-takes : block_length this ≡ block
        unfolding this
        this-takes = block_at s at k z lent b

        -- its block ends within the output
        pub block_ends : to + block ≤ length out
        unfolding this
        block_ends = omega (arith, this-takes, goes.fits, g.room, g.same)

        -- the part of the output that the call is lent
        lent-long : length (take (to + block - to) (drop to out)) ≡ block
        lent-long = simp (length-take, length-drop) (omega (arith, block_ends))

        pub lent_is : (places : ℕ) → length (take (to + block - to) (drop to out)) ≡ block_length (step_of places kind arg)
        lent_is places = lent-long ∙ b.takes places arg

        module _ {places ended' : ℕ} {e : Memory} {part out' : List ℕ} (as_many : places ≡ lent) (d : Done (step_of places kind arg) m e part) (kept : length part ≡ length (take (to + block - to) (drop to out))) (w : out' ≡ take to out ++ (part ++ drop (to + block - to) (drop to out))) (f : EndsAt ended' (drop (at + 3 + size) s) (length out' - (to + block))) where
          outcome : Calls m (this ∷ []) (d.said ∷ []) e
          outcome =
              subst (λ (x : Step). Calls m (x ∷ []) (d.said ∷ []) e) (ap (λ (n : ℕ). step_of n kind arg) as_many ∙ sym this-is) d.outcome

          blocks-are : blocks (g.given ++ (d.said ∷ [])) ≡ blocks g.given ++ (part ∷ [])
          blocks-are = map-append block_of g.given (d.said ∷ []) ∙ ap (λ (x : List ℕ). blocks g.given ++ (x ∷ [])) (sym d.block)

          all_are : flatten (blocks (g.given ++ (d.said ∷ []))) ≡ flatten (blocks g.given) ++ part
          all_are = ap flatten blocks-are ∙ flatten_more (blocks g.given) part

          part_long : length part ≡ block
          part_long = kept ∙ lent-long

          put_is : out' ≡ splice out to part
          put_is = w ∙ part_back out part to (to + block - to) (omega (arith, part_long))

          out-is : out' ≡ splice out₀ 0 (flatten (blocks (g.given ++ (d.said ∷ []))))
          out-is =
              let h : 0 + length (flatten (blocks g.given)) + length part ≤ length out₀ = omega (arith, g.wide, part_long, block_ends, g.same) in
              put_is ∙ ap (λ (x : List ℕ). splice x to part) g.wrote
              ∙ splice_after out₀ 0 (flatten (blocks g.given)) part to (omega (arith, g.wide)) h
              ∙ ap (splice out₀ 0) (sym all_are)

          sizes-are : map length (blocks (g.given ++ (d.said ∷ []))) ≡ map block_length (g.made ++ (this ∷ []))
          sizes-are =
              ap (map length) blocks-are ∙ map-append length (blocks g.given) (part ∷ [])
              ∙ ap (λ (x : List ℕ). x ++ (length part ∷ [])) g.sizes
              ∙ ap (λ (x : ℕ). map block_length g.made ++ (x ∷ [])) (part_long ∙ sym this-takes)
              ∙ sym (map-append block_length g.made (this ∷ []))

          out-long : length out' ≡ length out₀
          out-long = ap length put_is ∙ length_splice out to part (omega (arith, part_long, block_ends)) ∙ g.same

          -- one call fewer is to come
          next : course_from lent (length s - n) (drop at s) (length out₀ - to) ≡ call_first this (course_from lent (length s - (n + 1)) (drop (at + 3 + size) s) (length out₀ - (to + block)))
          unfolding this
          next =
              let fuel : length s - n ≡ suc (length s - (n + 1)) = omega (arith, head_ends, g.far) in
              let rest : length out₀ - to - block_length this ≡ length out₀ - (to + block) = omega (arith, this-takes) in
              let far : at + item_length (drop at s) ≡ at + 3 + size = omega (arith, size_at_lem s at, z) in
              ap (λ (x : ℕ). course_from lent x (drop at s) (length out₀ - to)) fuel
              ∙ course_more lent (length s - (n + 1)) (drop at s) goes
              ∙ ap (λ (x : List ℕ). call_first this (course_from lent (length s - (n + 1)) x (length out₀ - to - block_length this))) (drop-drop (item_length (drop at s)) at s ∙ ap (λ (x : ℕ). drop x s) far)
              ∙ ap (λ (x : ℕ). call_first this (course_from lent (length s - (n + 1)) (drop (at + 3 + size) s) x)) rest

          pub ran_more : Ran lent s out₀ m₀ (at + 3 + size) (to + block) (n + 1) ended' e out'
          ran_more =
              let p : Course = course_from lent (length s - (n + 1)) (drop (at + 3 + size) s) (length out₀ - (to + block)) in
              record {
                made = g.made ++ (this ∷ []);
                given = g.given ++ (d.said ∷ []);
                calls = snoc g.calls outcome;
                left =
                    g.left ∙ ap (coming g.made) next
                    ∙ ap (λ (cs : List Step). record { calls = cs; number = p.number }) (sym (append_assoc g.made (this ∷ []) p.calls));
                count = omega (arith, length-append g.made (this ∷ []), g.count);
                far = omega (arith, g.far);
                within = item_ends;
                room = omega (arith, block_ends, g.same);
                wide = ap length all_are ∙ length-append (flatten (blocks g.given)) part ∙ omega (arith, g.wide, part_long);
                wrote = out-is;
                sizes = sizes-are;
                same = out-long;
                ends = f.is lent ∙ ap (λ (x : ℕ). end_number (ends_with lent (drop (at + 3 + size) s) (x - (to + block)))) out-long;
              }

-- ---- the number of places goes by the lengths of the parts

pub as_many_lent : (a b c d e a' b' c' d' e' : List ℕ) → length a ≡ length a' → length b ≡ length b' → length c ≡ length c' → length d ≡ length d' → length e ≡ length e'
    → places_in (five a b c d e) ≡ places_in (five a' b' c' d' e')
unfolding places_in
as_many_lent a b c d e a' b' c' d' e' p q r s t = rw (p, q, r, s, t)

-- ---- the emptying before the run

clash : ◌≡◌ {A = ℕ} 0 1 → ⊥
clash e = omega arith

-- so many places are lent; it is granted just where the memory is long enough
module _ {lent : ℕ} {x b j x' b' j' : List ℕ} {p : List (List ℕ)} {r : Reply} (k : lent ≡ places_in p) (o : CallOutcome (plain (reset lent)) (memory x b p j) (replied r) (memory x' b' p j')) where
  abbrev m : Memory
  m = memory x b p j

  abbrev e : Memory
  e = memory x' b' p j'

  unlike : true ≡ false → ⊥
  unlike q = let z : ◌≡◌ {A = ℕ} 0 1 = cc in omega arith

  pub emptied_holds : r.number ≡ 0 → view_of e ≡ formed (emptied_state (places_in p))
  unfolding EmptiedMeets
  emptied_holds z = (emptied_meets lent m e (replied r) o z).1 ∙ ap (λ (n : ℕ). formed (emptied_state n)) k

  number_long : too_short m ≡ false → r.number ≡ 0
  unfolding EmptyingGranted
  number_long l = ap (λ (y : Response). y.reply.number) (emptying_granted lent m e (replied r) l o)

  module _ (s out : List ℕ) where
    pub run_refused : (r.number ≡ 0 → ⊥) → Runs s m out 1 e out
    run_refused n = record { refused = λ l. (refl, o.kept n, refl); ran = λ l. absurd (n (number_long l)) }

    pub run_granted : {v : ℕ} {e' : Memory} {out' : List ℕ} → r.number ≡ 0 → RunAs (fixed_by (places_in p)) (course_of (places_in p) s (length out)) e out v e' out' → Runs s m out v e' out'
    run_granted z a =
        record {
          refused = λ l. absurd (unlike (sym l ∙ reset_long lent m o.says z));
          ran = λ l. record { says = a.says; answers = a.answers; sizes = a.sizes; holds = a.holds; past = past_then o.past a.past };
        }
