-- The claims on "well formed". Assumes nothing.
use Prim.Native.Nat.{ℕ, zero, suc, ◌+◌, ◌-◌, ◌≤◌}
use mathlib.Core.Path.{◌≡◌, refl, sym, ap, ◌∙◌}
use mathlib.Core.Bool.{Bool, true, false, not}
use mathlib.Core.List.{List, [], ◌∷◌, ◌++◌}
use lib.Dec.{eqb, ltb}
use lib.ListN.{length, take, length-append, length-take}
use borrow.Author.Tests.{ltb-false}
use native.Mathlib.Omega.{arith}
use Rattle.wire.specs.Tests.{pick}
use Rattle.wire.specs.Parts.{splice}
use Rattle.table.specs.Table.{number}
use Rattle.journal.specs.Limits.{most_orders, most_bytes}
use Rattle.journal.specs.State.{State, present, bytes_in}
use Rattle.journal.specs.View.{Memory, too_short, well_formed, state_of, View, short, unformed, formed, view_of}
use Rattle.journal.proofs.Runs.{bytes_append}
use Rattle.journal.proofs.Fits.{fits}
use Rattle.session.specs.Calls.{Call, reset, deliver, checkpoint, undo, look, write_record, Payload, nothing, listed, desktop, picture, ids, orders, shared, refuse, grant, over_full, without, payload_in, found, is_reset, answer, answer_view, next_view, next}
use Rattle.session.specs.Outcome.{Response, plain, replied, response_of, answer_within, out_after_of}
use Rattle.model.specs.Wellformed.{Meets, emptied_state, EmptyingGranted, EmptiedMeets, CallsKeep, OneState, OnlyMeets, Fits, RepliesFit}
use Rattle.model.proofs.Demand3.{moved, emptied_view}
use Rattle.wire.proofs.Tests.{neither}

-- the state of a formed view
state_in : View → State → State
state_in short d = d
state_in unformed d = d
state_in (formed s) d = s

formed_same : {s t : State} → formed s ≡ formed t → s ≡ t
unfolding state_in
formed_same {s} e = ap (λ (v : View). state_in v s) e

pub only_meets : OnlyMeets
unfolding OnlyMeets view_of
only_meets m s v = go (too_short m) refl (well_formed m) refl
  where
    go : (t : Bool) → too_short m ≡ t → (u : Bool) → well_formed m ≡ u → Meets m
    go false l true w = record { long = l; rule = w }
    go false l false w = let x : unformed ≡ formed s = rw (l, w) at v in let z : ◌≡◌ {A = ℕ} 0 1 = cc in absurd (omega arith)
    go true l u w = let x : short ≡ formed s = rw l at v in let z : ◌≡◌ {A = ℕ} 0 1 = cc in absurd (omega arith)

meets_view : (m : Memory) → Meets m → view_of m ≡ formed (state_of m)
unfolding view_of
meets_view m w = rw (w.long, w.rule)

pub one_state : OneState
unfolding OneState
one_state m w =
    let f = fits m w.long w.rule in
    record {
      state = state_of m;
      described = meets_view m w;
      only = λ s v. formed_same (sym v ∙ meets_view m w);
      accepted = f.accepted;
      few = f.few;
      bytes = f.bytes;
    }

-- ---- emptying

pub emptying_granted : EmptyingGranted
unfolding EmptyingGranted view_of answer_view answer bytes_in response_of answer_within out_after_of splice
emptying_granted k m n r l s = s.says ∙ rw l (go (well_formed m))
  where
    go : (t : Bool) → response_of (plain (reset k)) (answer_view (reset k) (pick t (formed (state_of m)) unformed)) ≡ replied (record { number = 0; count = 0; bytes = 0 })
    go true = refl
    go false = refl

-- emptying refuses memory that is too short
reset_short : (k : ℕ) (m : Memory) → too_short m ≡ true → (response_of (plain (reset k)) (answer_view (reset k) (view_of m))).reply.number ≡ 1
unfolding view_of answer_view response_of answer_within
reset_short k m l = rw l

pub reset_long : (k : ℕ) (m : Memory) {r : Response} → r ≡ response_of (plain (reset k)) (answer_view (reset k) (view_of m)) → r.reply.number ≡ 0 → too_short m ≡ false
reset_long k m e g = go (too_short m) refl
  where
    go : (t : Bool) → too_short m ≡ t → too_short m ≡ false
    go false l = l
    go true l = let z : ◌≡◌ {A = ℕ} 0 1 = sym g ∙ ap (λ (x : Response). x.reply.number) e ∙ reset_short k m l in absurd (omega arith)

pub emptied_meets : EmptiedMeets
unfolding EmptiedMeets OnlyMeets
emptied_meets k m n r s g =
    let v : view_of n ≡ formed (emptied_state k) = s.holds ∙ emptied_view k m (reset_long k m s.says g) in
    (only_meets n (emptied_state k) v, v)

pub calls_keep : CallsKeep
unfolding CallsKeep OnlyMeets
calls_keep q m n r s st v =
    let c = q.call in
    let k : view_of n ≡ formed (next c s) = st.holds ∙ ap (next_view c) v ∙ moved c s in
    (only_meets n (next c s) k, k)

-- ---- what a call reports

bytes_take : (k : ℕ) (os : List (List ℕ)) → bytes_in (take k os) ≤ bytes_in os
unfolding bytes_in
bytes_take zero os = omega arith
bytes_take (suc k) [] = omega arith
bytes_take (suc k) (o ∷ os) = omega (arith, bytes_take k os)

none_fits : Fits (grant [] nothing)
unfolding bytes_in
none_fits = (omega arith, omega arith)

refused_fits : (n : ℕ) → Fits (refuse n)
refused_fits n = (omega arith, omega arith)

module _ (s : State) (few : length s.log ≤ most_orders) (bytes : bytes_in s.log ≤ most_bytes) where
  joined_fits : (o : List ℕ) → over_full s.log o ≡ false → Fits (grant (s.log ++ (o ∷ [])) nothing)
  unfolding bytes_in
  joined_fits o e =
      let x = neither (ltb most_orders (length s.log + 1)) (ltb most_bytes (bytes_in s.log + length o)) e in
      let a = ltb-false most_orders (length s.log + 1) x.0 in
      let b = ltb-false most_bytes (bytes_in s.log + length o) x.1 in
      (omega (arith, length-append s.log (o ∷ []), a), omega (arith, bytes_append s.log (o ∷ []), b))

  delivered_fits : (o : List ℕ) (t u : Bool) → over_full s.log o ≡ u
      → Fits (pick t (refuse (number (present s) o)) (pick u (refuse 12) (grant (s.log ++ (o ∷ [])) nothing)))
  delivered_fits o true u e = refused_fits (number (present s) o)
  delivered_fits o false true e = refused_fits 12
  delivered_fits o false false e = joined_fits o e

  undone_fits : (k : ℕ) (t : Bool) → Fits (pick t (refuse 13) (grant (without k s.log) nothing))
  undone_fits k true = refused_fits 13
  undone_fits k false =
      let l : length (without k s.log) ≤ length s.log = simp length-take (omega arith) in
      (omega (arith, l), omega (arith, bytes_take (length s.log - k) s.log))

  found_fits : (p : Payload) → Fits (found s.log p)
  found_fits nothing = refused_fits 9
  found_fits (listed f fs ps) = (few, bytes)
  found_fits (desktop b f) = (few, bytes)
  found_fits (picture p) = (few, bytes)
  found_fits (ids f ks) = (few, bytes)
  found_fits (orders os) = (few, bytes)
  found_fits (shared b) = (few, bytes)

  answer_fits : (c : Call) → Fits (answer c s)
  unfolding answer
  answer_fits (reset n) = none_fits
  answer_fits (deliver o) = delivered_fits o (not (eqb (number (present s) o) 0)) (over_full s.log o) refl
  answer_fits checkpoint = none_fits
  answer_fits (undo k) = undone_fits k (ltb (length s.log) k)
  answer_fits (look target) = found_fits (payload_in target (present s))
  answer_fits write_record = (few, bytes)

pub replies_fit : RepliesFit
unfolding RepliesFit view_of answer_view
replies_fit c m = go (too_short m) (well_formed m) refl refl
  where
    unformed-fits : (t : Bool) → Fits (pick t (grant [] nothing) (refuse 1))
    unformed-fits true = none_fits
    unformed-fits false = refused_fits 1

    go : (t u : Bool) → too_short m ≡ t → well_formed m ≡ u → Fits (answer_view c (pick t short (pick u (formed (state_of m)) unformed)))
    go true u x y = refused_fits 1
    go false true x y = let f = fits m x y in answer_fits (state_of m) f.few f.bytes c
    go false false x y = unformed-fits (is_reset c)
