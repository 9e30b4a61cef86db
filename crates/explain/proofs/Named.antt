-- The number that delivery gives names a condition: those before it are false, and it is true. Assumes nothing.
use mathlib.Core.Path.{◌≡◌, refl, sym, ap, ◌∙◌}
use mathlib.Core.Bool.{Bool, true, false, not}
use mathlib.Core.List.{List, [], ◌∷◌, ◌++◌}
use Prim.Native.Nat.{ℕ}
use native.Mathlib.Omega.{arith}
use lib.Dec.{eqb}
use lib.ListN.{length}
use Rattle.wire.specs.Tests.{pick, either}
use Rattle.wire.specs.Numbers.{num_at, Bytes}
use Rattle.order.specs.Flags.{is_window, is_notification, one_type}
use Rattle.order.specs.Judge.{refuse, flags_of, order_of}
use Rattle.index.specs.Orders.{on_judged}
use Rattle.index.specs.Index.{Index, record_number, number_in}
use Rattle.table.specs.Table as table
use Rattle.journal.specs.State.{present}
use Rattle.journal.specs.View.{Memory, too_short, well_formed, state_of, view_of}
use Rattle.session.specs.Calls.{deliver, over_full, nothing, grant, answer, answer_view}
use Rattle.session.specs.Calls as calls
use Rattle.explain.specs.Fields.{first_cut, first_outside, fields_of, icon_at}
use Rattle.explain.specs.Explain.{explain}
use Rattle.explain.specs.Conditions.{too_few, other_size, no_order, unlisted, clashing, unfilled, outside, wrong_id, table_full, empty_cell, places_full, Condition, condition, index_in, conditions, Names, none, this, later, NoneHolds, Explained}
use Rattle.explain.proofs.Judging.{ladder, judged}
use Rattle.protocol.specs.declared.Refusal.TheVariants.{TooShort, LengthDiffers, UnknownType, UnknownFlag, FlagsClash, NotFilled, OutsideSet}

-- ---- the first condition that holds

-- its number, 0 for none
unfoldable pub first_of : List Condition → ℕ
first_of [] = 0
first_of (c ∷ cs) = pick c.holds c.number (first_of cs)

pub first_names : (cs : List Condition) → Names (first_of cs) cs
unfolding first_of
first_names [] = none
first_names (c ∷ cs) = go c.number c.holds (first_names cs)
  where
    go : (k : ℕ) (t : Bool) → Names (first_of cs) cs → Names (pick t k (first_of cs)) (condition k t ∷ cs)
    go k true ih = this
    go k false ih = later ih

-- where no number is 0
unfoldable pub Numbered : List Condition → Type 0
Numbered [] = Unit {0}
Numbered (c ∷ cs) = (c.number ≡ 0 → ⊥) × Numbered cs

pub first_zero : (cs : List Condition) → Numbered cs → first_of cs ≡ 0 → NoneHolds cs
unfolding first_of Numbered NoneHolds
first_zero [] n z = tt
first_zero (c ∷ cs) n z = go c.holds refl z (first_zero cs n.1)
  where
    go : (t : Bool) → c.holds ≡ t → pick t c.number (first_of cs) ≡ 0 → (first_of cs ≡ 0 → NoneHolds cs) → (c.holds ≡ false) × NoneHolds cs
    go true e z ih = absurd (n.0 z)
    go false e z ih = (e, ih z)

pub none_zero : (cs : List Condition) → NoneHolds cs → first_of cs ≡ 0
unfolding first_of NoneHolds
none_zero [] n = refl
none_zero (c ∷ cs) n = rw n.0 (none_zero cs n.1)

-- ---- the number by the conditions

-- of an order that passes 2 to 8, on an index
abbrev on_index : Index → List ℕ → ℕ → ℕ
on_index d s rest = pick (wrong_id d s) 9 (pick (table_full d s) 10 (pick (empty_cell d s) 11 (pick (places_full d s) 17 rest)))

module _ (d : Index) (s : List ℕ) where
  -- the two kinds of records, and the desktop
  order_number : on_judged (order_of (flags_of s) s (icon_at s)) (record_number d s) (λ flags. 0) (λ number. number) ≡ on_index d s 0
  unfolding order_of record_number
  order_number = go (is_window (flags_of s)) (is_notification (flags_of s)) refl refl
    where
      go : (w n : Bool) → is_window (flags_of s) ≡ w → is_notification (flags_of s) ≡ n
          → on_judged (order_of (flags_of s) s (icon_at s)) (record_number d s) (λ flags. 0) (λ number. number) ≡ on_index d s 0
      go true n e f = rw e
      go false true e f = rw (e, f)
      go false false e f = rw (e, f)

  abbrev by_bytes : ℕ → ℕ
  by_bytes rest =
      pick (too_few s) 2 (pick (other_size s) 3 (pick (no_order s) 4 (pick (unlisted s) 5 (pick (clashing s) 6 (pick (unfilled s) 7 (pick (outside s) 8 rest))))))

  ladder_number : on_judged (ladder s) (record_number d s) (λ flags. 0) (λ number. number) ≡ by_bytes (on_index d s 0)
  ladder_number = go (too_few s) (other_size s) (eqb (num_at 1 s 0) 0x2E) (one_type (flags_of s)) (unlisted s) (clashing s) (unfilled s) (outside s)
    where
      go : (a b c d' e f g h : Bool)
          → on_judged
          (pick a (refuse TooShort 0) (pick b (refuse LengthDiffers 1) (pick (not c) (refuse UnknownType 0) (pick (not d') (refuse UnknownType 3) (pick e (refuse UnknownFlag 3) (pick f (refuse FlagsClash 3)
          (pick g (refuse NotFilled (first_cut (length s) 7 (fields_of s))) (pick h (refuse OutsideSet (first_outside 7 (fields_of s))) (order_of (flags_of s) s (icon_at s))))))))))
          (record_number d s) (λ flags. 0) (λ number. number)
          ≡ pick a 2 (pick b 3 (pick (either (not c) (not d')) 4 (pick e 5 (pick f 6 (pick g 7 (pick h 8 (on_index d s 0)))))))
      go true b c d' e f g h = refl
      go false true c d' e f g h = refl
      go false false false d' e f g h = refl
      go false false true false e f g h = refl
      go false false true true true f g h = refl
      go false false true true false true g h = refl
      go false false true true false false true h = refl
      go false false true true false false false true = refl
      go false false true true false false false false = order_number

  number_is : Bytes s → number_in d s ≡ by_bytes (on_index d s 0)
  unfolding number_in
  number_is b = rw (judged s b) ladder_number

-- 12 comes last
abbrev chain : Bool → Bool → Bool → Bool → Bool → Bool → Bool → Bool → Bool → Bool → Bool → ℕ → ℕ
chain a b c e f g h i j k l rest =
    pick a 2 (pick b 3 (pick c 4 (pick e 5 (pick f 6 (pick g 7 (pick h 8 (pick i 9 (pick j 10 (pick k 11 (pick l 17 rest))))))))))

last : (a b c e f g h i j k l x : Bool)
    → pick (not (eqb (chain a b c e f g h i j k l 0) 0)) (chain a b c e f g h i j k l 0) (pick x 12 0) ≡ chain a b c e f g h i j k l (pick x 12 0)
last true b c e f g h i j k l x = refl
last false true c e f g h i j k l x = refl
last false false true e f g h i j k l x = refl
last false false false true f g h i j k l x = refl
last false false false false true g h i j k l x = refl
last false false false false false true h i j k l x = refl
last false false false false false false true i j k l x = refl
last false false false false false false false true j k l x = refl
last false false false false false false false false true k l x = refl
last false false false false false false false false false true l x = refl
last false false false false false false false false false false true x = refl
last false false false false false false false false false false false true = refl
last false false false false false false false false false false false false = refl

-- ---- on any memory

module _ (m : Memory) (s : List ℕ) (bytes : Bytes s) where
  abbrev numbered : ℕ
  numbered = by_bytes (index_in m) s (on_index (index_in m) s (pick (over_full (state_of m).log s) 12 0))

  answer_number : (answer (deliver s) (state_of m)).number ≡ numbered
  unfolding answer
  answer_number = go (not (eqb n 0)) (over_full (state_of m).log s) ∙ whole
    where
      n : ℕ
      n = table.number (present (state_of m)) s

      go : (a b : Bool)
          → (pick a (calls.refuse n) (pick b (calls.refuse 12) (grant ((state_of m).log ++ (s ∷ [])) nothing))).number ≡ pick a n (pick b 12 0)
      go true b = refl
      go false true = refl
      go false false = refl

      is : n ≡ by_bytes (index_in m) s (on_index (index_in m) s 0)
      is = unfold table.number in number_is (index_in m) s bytes

      whole : pick (not (eqb n 0)) n (pick (over_full (state_of m).log s) 12 0) ≡ numbered
      whole =
          ap (λ (k : ℕ). pick (not (eqb k 0)) k (pick (over_full (state_of m).log s) 12 0)) is
          ∙ last (too_few s) (other_size s) (no_order s) (unlisted s) (clashing s) (unfilled s) (outside s) (wrong_id (index_in m) s) (table_full (index_in m) s)
          (empty_cell (index_in m) s) (places_full (index_in m) s) (over_full (state_of m).log s)

  pub told_first : (explain s m).number ≡ first_of (conditions m s)
  unfolding explain view_of answer_view first_of
  told_first = go (too_short m) (well_formed m) refl refl
    where
      go : (a b : Bool) → too_short m ≡ a → well_formed m ≡ b → (explain s m).number ≡ first_of (conditions m s)
      go true b x y = rw x
      go false false x y = rw (x, y)
      go false true x y = rw (x, y) answer_number

  numbers : Numbered (conditions m s)
  unfolding Numbered
  numbers = ((λ z. omega (arith, z)), ((λ z. omega (arith, z)), ((λ z. omega (arith, z)), ((λ z. omega (arith, z)), ((λ z. omega (arith, z)), ((λ z. omega (arith, z)), ((λ z. omega (arith, z)), ((λ z. omega (arith, z)), ((λ z. omega (arith, z)), ((λ z. omega (arith, z)), ((λ z. omega (arith, z)), ((λ z. omega (arith, z)), ((λ z. omega (arith, z)), tt)))))))))))))

pub explained : Explained
unfolding Explained
explained m s b =
    let e : first_of (conditions m s) ≡ (explain s m).number = sym (told_first m s b) in
    record {
      names = rw e at (first_names (conditions m s));
      accepted = λ z. first_zero (conditions m s) (numbers m s b) (e ∙ z);
      refused = λ n. told_first m s b ∙ none_zero (conditions m s) n;
    }
