-- A replay from a table whose index d is: it stops, and an order is cut or refused; or it goes through, and leads to an index of
-- the table after the orders and to what that has of the target. Assumes nothing.
use mathlib.Core.Path.{◌≡◌, refl, sym, ap, ◌∙◌}
use mathlib.Core.Bool.{Bool, true, false}
use mathlib.Core.List.{List}
use Prim.Native.Nat.{ℕ, zero, suc, ◌+◌, ◌-◌, ◌≤◌}
use native.Mathlib.Omega.{arith}
use lib.Dec.{eqb, ltb}
use lib.ListN.{length}
use borrow.Author.Tests.{eqb-true, ltb-false}
use Rattle.wire.specs.Tests.{both}
use Rattle.wire.proofs.Numbers.{Bytes, bytes_slice}
use Rattle.places.specs.Memory.{places_of}
use Rattle.slots.specs.Sound.{sound_index}
use Rattle.index.specs.Plans.{plan_of, plan_number}
use Rattle.index.specs.Index as index
use Rattle.index.specs.Memory.{index_of}
use Rattle.index.proofs.After.{plan_number_lem, plan_after, plan_sound}
use Rattle.table.specs.Table.{Table, number, after}
use Rattle.table.specs.Promises.{IndexAlone}
use Rattle.table.proofs.Decoded.{index_alone, places_kept}
use Rattle.std.specs.Prelude.{Option}
use Rattle.follow.specs.declared.Want.{Want}
use Rattle.follow.specs.Follow.{room_for, held_origins, origin_at, carried_by, Holds}
use Rattle.follow.proofs.Following.{follow_holds, follow_length, follow_origins}
use Rattle.journal.specs.Limits.{journal_length}
use Rattle.journal.specs.State.{run, all_accepted}
use Rattle.journal.specs.Journal.{size_at, order_at, orders_from, end_from, within_from}
use Rattle.journal.specs.Replay.{index_after, followed_after, Replay, replay_from}

-- ---- one order, on an index of a table

module _ (t : Table) (d s : List ℕ) (same : index_of d ≡ t.index) (bytes : Bytes s) (sound : sound_index d ≡ true) where
  pub number_on_lem : plan_number (plan_of d s) ≡ number t s
  unfolding number
  number_on_lem = plan_number_lem d s sound bytes ∙ ap (λ (x : index.Index). index.number_in x s) same

  pub index_on : index_of (index_after d s) ≡ (after t s).index
  index_on =
      let alone : (after t s).index ≡ index.index_after t.index s = unfold IndexAlone in index_alone t s in
      plan_after d s sound bytes ∙ ap (λ (x : index.Index). index.index_after x s) same ∙ sym alone

-- ---- where pictures came

-- 0, or the index of an order that lies within the journal
abbrev pub Within : List ℕ → ℕ → Type 0
Within j q = (q ≡ 0 → ⊥) → q + size_at j q ≤ journal_length

-- the pictures that the orders of a journal bring
abbrev pub carried_in : List ℕ → ℕ → List ℕ
carried_in j q = carried_by (order_at j q)

-- ---- two memories that describe a table and what it has of the target

pub record Ready (want : Option Want) (j : List ℕ) (marked : ℕ → List ℕ) (ok : ℕ → Bool) (places : ℕ) (t : Table) (d m : List ℕ) : Type 0 where
  pub sound : sound_index d ≡ true
  pub index : index_of d ≡ t.index
  pub lent : places_of d ≡ places
  pub room : length m ≡ room_for want
  pub holds : Holds want t d m marked (carried_in j) ok
  pub origins : (k : ℕ) → Within j (origin_at (held_origins want m) k)

-- so do they after an order that lies within the journal
ready_next : (want : Option Want) (j : List ℕ) → Bytes j → (marked : ℕ → List ℕ) (ok : ℕ → Bool) (places : ℕ) (t : Table) (d m : List ℕ) (p : ℕ) → 2 ≤ p
    → p + size_at j p ≤ journal_length → Ready want j marked ok places t d m
    → Ready want j marked ok places (after t (order_at j p)) (index_after d (order_at j p)) (followed_after want p d (order_at j p) m)
ready_next want j bytes marked ok places t d m p low fits r =
    let o = order_at j p in
    let b = bytes_slice j p (size_at j p) bytes in
    record {
      sound = plan_sound d o r.sound b;
      index = index_on t d o r.index b r.sound;
      lent = places_kept d o r.sound b ∙ r.lent;
      room = follow_length want d o m p b r.sound r.room;
      holds =
          follow_holds want t d o m p marked (carried_in j) ok b r.sound (sym r.index) r.room (λ z. omega arith) (omega arith) refl r.holds;
      origins = follow_origins want d o m p b r.sound r.room (omega arith) (Within j) r.origins (λ n. fits);
    }

-- ---- all of them

pub record Through (want : Option Want) (marked : ℕ → List ℕ) (ok : ℕ → Bool) (places n p : ℕ) (j : List ℕ) (t : Table) (r : Replay) : Type 0 where
  pub within : within_from n p j ≡ true
  pub accepted : all_accepted t (orders_from n p j) ≡ true
  pub end : r.end ≡ end_from n p j
  pub ready : Ready want j marked ok places (run t (orders_from n p j)) r.index r.followed

pub data Ran (want : Option Want) (marked : ℕ → List ℕ) (ok : ℕ → Bool) (places n p : ℕ) (j : List ℕ) (t : Table) (r : Replay) : Type 0 where
  stops : r.end ≡ 0 → both (within_from n p j) (all_accepted t (orders_from n p j)) ≡ false → Ran want marked ok places n p j t r
  through : Through want marked ok places n p j t r → Ran want marked ok places n p j t r

not_both : (a b : Bool) → b ≡ false → both a b ≡ false
not_both true b e = e
not_both false b e = refl

module _ (want : Option Want) (marked : ℕ → List ℕ) (ok : ℕ → Bool) (places n p : ℕ) (j : List ℕ) (t : Table) (d m : List ℕ) where
  abbrev o : List ℕ
  o = order_at j p

  abbrev rest : Replay
  rest = replay_from want n (p + size_at j p) j (index_after d o) (followed_after want p d o m)

  cut : ltb (journal_length - p) (size_at j p) ≡ true → Ran want marked ok places (suc n) p j t (replay_from want (suc n) p j d m)
  unfolding replay_from within_from
  cut x = stops (rw x) (rw x)

  module _ (same : plan_number (plan_of d o) ≡ number t o) (fits : ltb (journal_length - p) (size_at j p) ≡ false) where
    refused : eqb (plan_number (plan_of d o)) 0 ≡ false → Ran want marked ok places (suc n) p j t (replay_from want (suc n) p j d m)
    unfolding replay_from orders_from all_accepted
    refused x =
        let z : eqb (number t o) 0 ≡ false = ap (λ (k : ℕ). eqb k 0) (sym same) ∙ x in
        stops (rw (fits, x)) (not_both (within_from (suc n) p j) (all_accepted t (orders_from (suc n) p j)) (rw z))

    accepted : plan_number (plan_of d o) ≡ 0 → Ran want marked ok places n (p + size_at j p) j (after t o) rest
        → Ran want marked ok places (suc n) p j t (replay_from want (suc n) p j d m)
    unfolding replay_from within_from end_from orders_from all_accepted run
    accepted x (stops e f) =
        let z : number t o ≡ 0 = sym same ∙ x in
        stops (rw (fits, x) e) (rw (fits, z) f)
    accepted x (through g) =
        let z : number t o ≡ 0 = sym same ∙ x in
        through
        (record {
          within = rw fits g.within;
          accepted = rw z g.accepted;
          end = rw (fits, x) g.end;
          ready = rw (fits, x) g.ready;
        })

pub replay_ran : (want : Option Want) (j : List ℕ) → Bytes j → (marked : ℕ → List ℕ) (ok : ℕ → Bool) (places n p : ℕ) → 2 ≤ p → p ≤ journal_length → (t : Table) (d m : List ℕ)
    → Ready want j marked ok places t d m → Ran want marked ok places n p j t (replay_from want n p j d m)
unfolding replay_from within_from end_from orders_from all_accepted run
replay_ran want j bytes marked ok places zero p low high t d m r = through (record { within = refl; accepted = refl; end = refl; ready = r })
replay_ran want j bytes marked ok places (suc n) p low high t d m r =
    go (ltb (journal_length - p) (size_at j p)) (eqb (plan_number (plan_of d (order_at j p))) 0) refl refl
    (λ l.
    replay_ran want j bytes marked ok places n (p + size_at j p) (omega arith) l (after t (order_at j p)) (index_after d (order_at j p)) (followed_after want p d (order_at j p) m)
    (ready_next want j bytes marked ok places t d m p low l r))
  where
    same : plan_number (plan_of d (order_at j p)) ≡ number t (order_at j p)
    same = number_on_lem t d (order_at j p) r.index (bytes_slice j p (size_at j p) bytes) r.sound

    go : (a b : Bool) → ltb (journal_length - p) (size_at j p) ≡ a → eqb (plan_number (plan_of d (order_at j p))) 0 ≡ b
        → (p + size_at j p ≤ journal_length → Ran want marked ok places n (p + size_at j p) j (after t (order_at j p)) (rest want marked ok places n p j t d m))
        → Ran want marked ok places (suc n) p j t (replay_from want (suc n) p j d m)
    go true b x y next = cut want marked ok places n p j t d m x
    go false false x y next = refused want marked ok places n p j t d m same x y
    go false true x y next =
        let z = eqb-true (plan_number (plan_of d (order_at j p))) 0 y in
        let l = ltb-false (journal_length - p) (size_at j p) x in
        accepted want marked ok places n p j t d m same x z (next (omega arith))
