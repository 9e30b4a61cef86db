-- The figure by slots is that by ids: each slot with a window has its own id. Assumes nothing.
use mathlib.Core.Path.{◌≡◌, refl, sym, ap, ◌∙◌}
use mathlib.Core.Bool.{Bool, true, false}
use mathlib.Core.List.{List}
use mathlib.Core.Option.{none, some}
use Prim.Native.Nat.{ℕ, ◌+◌, ◌<◌}
use native.Mathlib.Omega.{arith}
use lib.Dec.{eqb}
use borrow.Author.Tests.{eq-eqb, ne_eqb}
use Rattle.std.specs.Prelude.{Option, Some, None}
use Rattle.wire.specs.Tests.{pick, both}
use Rattle.wire.specs.Numbers.{num_at, Bytes}
use Rattle.wire.proofs.Numbers.{num4_is}
use Rattle.body.specs.Bodies.{Body}
use Rattle.places.specs.declared.Family.TheVariants.{Windows}
use Rattle.places.specs.Counts.{on_found}
use Rattle.places.proofs.Counting.{found, none_passes}
use Rattle.slots.specs.Families.{slot_at}
use Rattle.slots.specs.Slots.{first_id, second_id, is_used, is_at, slot_of}
use Rattle.slots.proofs.Soundness.{Sound, sound_has, one_slot, at_is, at_free, used_has, slot_own}
use Rattle.area.specs.Area.{sum_below, one}
use Rattle.area.proofs.Counting.{sum_cong, sum_same, sum_none, sum_one, sum_swap}
use Rattle.figure.specs.Figure.{is_shown, pixels_of, window_at, shown_at, figure_of, id_end, of_window, figure_by, window_by, PlacesDontCount}

id_small : (s : List ℕ) (at : ℕ) → Bytes s → num_at 4 s at < id_end
id_small s at b = omega (arith, num4_is s at, b.small at, b.small (at + 1), b.small (at + 2), b.small (at + 3))

-- a number f of each slot, added up by the ids that stand in the slots
module _ (x : List ℕ) (bytes : Bytes x) (sound : Sound x) (f : ℕ → ℕ) where
  -- f of the slot that has an id
  abbrev by_id : ℕ → ℕ
  by_id id = on_found (slot_of x Windows id 0) 0 f

  -- f of a slot, if it has that id
  abbrev if_at : ℕ → ℕ → ℕ
  if_at id i = pick (is_at x id 0 i) (f i) 0

  one_at : (id k i : ℕ) → slot_of x Windows id 0 ≡ Some k → i < 32 → if_at id i ≡ pick (eqb k i) (f k) 0
  one_at id k i e h = go (is_at x id 0 i) refl
    where
      has : is_at x id 0 k ≡ true
      has = (found 32 0 (is_at x id 0) k e).2

      same : Some k ≡ Some i → k ≡ i
      same e = ap (λ (w : Option ℕ). on_found w 0 (λ j. j)) e

      go : (t : Bool) → is_at x id 0 i ≡ t → pick t (f i) 0 ≡ pick (eqb k i) (f k) 0
      go true q =
          let r : k ≡ i = same (sym e ∙ one_slot x sound Windows id 0 i (record { low = omega arith; high = omega arith }) q) in
          rw (eq-eqb k i r, r)
      go false q = rw (ne_eqb k i (λ r. other (sym has ∙ ap (is_at x id 0) r ∙ q)))
        where
          other : true ≡ false → ⊥
          other z = let o : ◌≡◌ {A = ℕ} 0 1 = cc in omega arith

  id_sum : (id : ℕ) → by_id id ≡ sum_below 32 (if_at id)
  id_sum id = go (slot_of x Windows id 0) refl
    where
      go : (w : Option ℕ) → slot_of x Windows id 0 ≡ w → on_found w 0 f ≡ sum_below 32 (if_at id)
      go None e =
          sym (sum_same 32 (if_at id) (λ i. 0) (λ i h. ap (λ (t : Bool). pick t (f i) 0) (none_passes 32 0 (is_at x id 0) e i (omega arith) (omega arith))) ∙ sum_none 32 (λ i. 0) (λ i. refl))
      go (Some k) e =
          sym (sum_same 32 (if_at id) (λ i. pick (eqb k i) (f k) 0) (λ i h. one_at id k i e h) ∙ sum_one 32 k (f k) (omega (arith, (found 32 0 (is_at x id 0) k e).1)))

  slot_sum : (i : ℕ) → i < 32 → sum_below id_end (λ id. if_at id i) ≡ pick (is_used x i) (f i) 0
  slot_sum i h = go (is_used x i) refl
    where
      beside : (t : Bool) → both t true ≡ t
      beside true = refl
      beside false = refl

      go : (u : Bool) → is_used x i ≡ u → sum_below id_end (λ id. if_at id i) ≡ pick u (f i) 0
      go true e =
          let u = used_has x i e in
          let o = slot_own x 0 32 0 i (sound.slots Windows i (record { low = omega arith; high = omega arith })) u in
          let z : second_id x i ≡ 0 = omega (arith, o.second) in
          sum_cong id_end (λ id. if_at id i) (λ id. pick (eqb (first_id x i) id) (f i) 0)
          (λ id. ap (λ (t : Bool). pick t (f i) 0) (at_is x i u id 0 ∙ ap (both (eqb (first_id x i) id)) (eq-eqb (second_id x i) 0 z) ∙ beside (eqb (first_id x i) id)))
          ∙ sum_one id_end (first_id x i) (f i) (unfold first_id in id_small x (slot_at i + 1) bytes)
      go false e = sum_none id_end (λ id. if_at id i) (λ id. ap (λ (t : Bool). pick t (f i) 0) (at_free x i e id 0))

  pub ids_slots : sum_below id_end by_id ≡ sum_below 32 (λ i. pick (is_used x i) (f i) 0)
  ids_slots =
      sum_cong id_end by_id (λ id. sum_below 32 (if_at id)) id_sum
      ∙ sum_swap id_end 32 if_at
      ∙ sum_same 32 (λ i. sum_below id_end (λ id. if_at id i)) (λ i. pick (is_used x i) (f i) 0) slot_sum

-- a number of each window, by ids and by slots
window_sum : (x bodies : List ℕ) → Bytes x → Sound x → (f : Body → ℕ)
    → sum_below 32 (λ i. pick (is_used x i) (f (window_at bodies i)) 0) ≡ sum_below id_end (λ id. of_window f (window_by x bodies id))
window_sum x bodies b s f =
    sym (ids_slots x b s (λ i. f (window_at bodies i)))
    ∙ sum_cong id_end (λ id. on_found (slot_of x Windows id 0) 0 (λ i. f (window_at bodies i))) (λ id. of_window f (window_by x bodies id)) (λ id. go (slot_of x Windows id 0))
  where
    go : (w : Option ℕ) → on_found w 0 (λ i. f (window_at bodies i)) ≡ of_window f (on_found w none (λ i. some (window_at bodies i)))
    go None = refl
    go (Some i) = refl

pub places_dont_count : PlacesDontCount
unfolding figure_of figure_by
places_dont_count x bodies b e =
    let s = sound_has x e in
    let shown : sum_below 32 (λ i. one (shown_at x bodies i)) ≡ sum_below 32 (λ i. pick (is_used x i) (one (is_shown (window_at bodies i))) 0) = sum_cong 32 (λ i. one (shown_at x bodies i)) (λ i. pick (is_used x i) (one (is_shown (window_at bodies i))) 0) (λ i. go (is_used x i) (is_shown (window_at bodies i))) in
    rw (shown, window_sum x bodies b s (λ w. one (is_shown w)), window_sum x bodies b s pixels_of)
  where
    go : (u t : Bool) → one (both u t) ≡ pick u (one t) 0
    go true t = refl
    go false t = refl
