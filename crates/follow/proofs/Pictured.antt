-- The pictures followed by their origins: each holder shows what the table says after an order. Assumes nothing.
use mathlib.Core.Path.{◌≡◌, refl, sym, ap, ◌∙◌, fun_ext}
use mathlib.Core.Bool.{Bool, true, false}
use mathlib.Core.List.{List, []}
use Prim.Native.Nat.{ℕ, ◌+◌, ◌-◌}
use native.Mathlib.Omega.{arith}
use lib.Dec.{eqb}
use borrow.Author.Tests.{eq-eqb, ne_eqb}
use Rattle.std.specs.Prelude.{Ok, Err}
use Rattle.wire.specs.Tests.{pick, has}
use Rattle.wire.proofs.Numbers.{Bytes}
use Rattle.protocol.specs.Flags.{desktop_none}
use Rattle.order.specs.declared.Order.TheVariants.{Window, Notification, Desktop}
use Rattle.order.specs.Judge.{Judged, judge_of}
use Rattle.places.specs.Memory.{pointer_at, with_picture}
use Rattle.places.specs.Holder.{Holder}
use Rattle.slots.specs.Sound.{sound_index}
use Rattle.slots.proofs.Soundness.{Sound, sound_has}
use Rattle.index.specs.declared.RecordOrder.{RecordOrder}
use Rattle.index.specs.declared.Change.{Change}
use Rattle.index.specs.declared.Plan.{Plan}
use Rattle.index.specs.declared.Plan.TheVariants.{ChangeRecord, ChangeDesktop, Refuse}
use Rattle.index.specs.Orders.{on_judged, brings_icon}
use Rattle.index.specs.Memory.{index_of}
use Rattle.index.specs.Plans.{change_of, plan_record, plan_of}
use Rattle.index.specs.Changes.{cleared_of, applied_of, FitsPlan}
use Rattle.index.proofs.Ordered.{window_order, notification_order, ordered_window, ordered_notification}
use Rattle.index.proofs.Numbered.{Outcome, refused, changes, outcome}
use Rattle.index.proofs.After.{plan_fits}
use Rattle.cache.specs.Cells.{carried_picture}
use Rattle.table.specs.Table.{Table, after}
use Rattle.table.specs.Memory.{shown_in}
use Rattle.table.specs.Changes.{puts_picture, pictures_by}
use Rattle.table.proofs.OfKinds.{Planning, changes_record, changes_desktop, changes_none, planning}
use Rattle.table.proofs.Pointed.{cleared_pointers, pointers_after}
use Rattle.table.proofs.Shown.{shown_applied}
use Rattle.follow.specs.Follow.{origin_at, carried_by, present_pictures, PicturesHeld}
use Rattle.follow.proofs.Origins.{puts_at}

-- the picture that a plan puts at its place is the one that the order carries
planned_carries : (x s : List ℕ) → Sound x → Bytes s → (c : Change) → plan_of x s ≡ ChangeRecord c → brings_icon c.flags ≡ true
    → carried_by s ≡ carried_picture s c.icon
unfolding plan_of carried_by
planned_carries x s sound bytes c = go (judge_of s) refl
  where
    of : (o : RecordOrder) (p : Plan) → Outcome x s o p → p ≡ ChangeRecord c → brings_icon c.flags ≡ true
        → pick (brings_icon o.flags) (carried_picture s o.icon) [] ≡ carried_picture s c.icon
    of o (Refuse m) (refused n ne e) h t = let z : ◌≡◌ {A = ℕ} 0 1 = cc in absurd (omega arith)
    of o (ChangeRecord b) (changes i place e p) h t =
        let r : change_of s o i place ≡ c = cc in
        let f : o.flags ≡ c.flags = ap (λ (c : Change). c.flags) r in
        let k : o.icon ≡ c.icon = ap (λ (c : Change). c.icon) r in
        rw (f, t, k)
    of o (ChangeDesktop _) x5 h t = elim x5 [ ]

    go : (j : Judged) → judge_of s ≡ j → on_judged j (plan_record x s) ChangeDesktop Refuse ≡ ChangeRecord c → brings_icon c.flags ≡ true
        → on_judged j (λ o. pick (brings_icon o.flags) (carried_picture s o.icon) []) (λ flags. []) (λ n. []) ≡ carried_picture s c.icon
    go (Ok (Window o)) e h t = of (window_order o) (plan_record x s (window_order o)) (outcome x s (window_order o) sound (ordered_window s bytes o e)) h t
    go (Ok (Notification o)) e h t =
        of (notification_order o) (plan_record x s (notification_order o)) (outcome x s (notification_order o) sound (ordered_notification s bytes o e)) h t
    go (Ok (Desktop o)) e h t = let z : ◌≡◌ {A = ℕ} 0 1 = cc in absurd (omega arith)
    go (Err n) e h t = let z : ◌≡◌ {A = ℕ} 0 1 = cc in absurd (omega arith)

puts_brings : (d b : Bool) → pick d false b ≡ true → b ≡ true
puts_brings true b e = let z : ◌≡◌ {A = ℕ} 0 1 = cc in absurd (omega arith)
puts_brings false b e = e

module _ (marked since : ℕ → List ℕ) (origins now : List ℕ) (q : ℕ) (ne : q ≡ 0 → ⊥) where
  -- the pictures now, by what a plan puts
  present_by : (s : List ℕ) (p : Plan) → ((k : ℕ) → origin_at now k ≡ pick (puts_at p k) q (origin_at origins k))
      → ((c : Change) → p ≡ ChangeRecord c → puts_picture c ≡ true → since q ≡ carried_picture s c.icon)
      → pictures_by s p (present_pictures marked since origins) ≡ present_pictures marked since now
  unfolding pictures_by present_pictures with_picture
  present_by s (ChangeRecord c) e carried = go (puts_picture c) refl
    where
      go : (t : Bool) → puts_picture c ≡ t
          → pick t (with_picture (present_pictures marked since origins) c.place (carried_picture s c.icon)) (present_pictures marked since origins)
          ≡ present_pictures marked since now
      go false t = fun_ext (λ k. rw (e k, t))
      go true t = fun_ext (λ k. rw (e k, t) (at k (eqb k c.place)))
        where
          at : (k : ℕ) (u : Bool)
              → pick u (carried_picture s c.icon) (pick (eqb (origin_at origins k) 0) (marked k) (since (origin_at origins k)))
              ≡ pick (eqb (pick u q (origin_at origins k)) 0) (marked k) (since (pick u q (origin_at origins k)))
          at k true = rw (ne_eqb q 0 ne) (sym (carried c refl t))
          at k false = refl
  present_by s (ChangeDesktop flags) e carried = fun_ext (λ k. rw (e k))
  present_by s (Refuse n) e carried = fun_ext (λ k. rw (e k))

  -- a place that still has its picture of the mark had it before
  origin_was : (p : Plan) → ((k : ℕ) → origin_at now k ≡ pick (puts_at p k) q (origin_at origins k)) → (k : ℕ) → origin_at now k ≡ 0 → origin_at origins k ≡ 0
  origin_was p e k z = go (puts_at p k) (sym (e k) ∙ z)
    where
      go : (t : Bool) → pick t q (origin_at origins k) ≡ 0 → origin_at origins k ≡ 0
      go true h = absurd (ne h)
      go false h = h

-- ---- where holders point after a plan: at nothing, where some holder pointed, or at the place of its picture

pointers_applied : (x s : List ℕ) → sound_index x ≡ true → Bytes s → (P : ℕ → Type 0) → P 0 → ((h : ℕ) → P (pointer_at x h))
    → ((c : Change) → plan_of x s ≡ ChangeRecord c → puts_picture c ≡ true → P (c.place + 1)) → (h : ℕ) → P (pointer_at (applied_of x (plan_of x s)) h)
unfolding applied_of
pointers_applied x s ok bytes P none were new h = go (plan_of x s) (planning x s ok bytes) (plan_fits x s ok bytes) new
  where
    sound : Sound x
    sound = sound_has x ok

    cleared : (t : Bool) → P (pointer_at (pick t (cleared_of x) x) h)
    cleared true = cleared_pointers P x sound.long none were h
    cleared false = were h

    go : (p : Plan) → Planning x s p → FitsPlan p → ((c : Change) → p ≡ ChangeRecord c → puts_picture c ≡ true → P (c.place + 1)) → P (pointer_at (applied_of x p) h)
    go (ChangeRecord c) (changes_record o i place k p e) fits new = pointers_after x s o i place sound k.ordered p fits P none were (new (change_of s o i place) refl) h
    go (ChangeDesktop flags) (changes_desktop n k) fits new = cleared (has flags desktop_none)
    go (Refuse n) (changes_none k e) fits new = were h

-- ---- the pictures after an order

module _ (t : Table) (d s : List ℕ) (q : ℕ) (marked since : ℕ → List ℕ) (ok : ℕ → Bool) (bytes : Bytes s) (sound : sound_index d ≡ true)
    (same : t.index ≡ index_of d) (ne : q ≡ 0 → ⊥) (carried : since q ≡ carried_by s) (origins now : List ℕ)
    (puts : (k : ℕ) → origin_at now k ≡ pick (puts_at (plan_of d s) k) q (origin_at origins k)) (h : PicturesHeld t d origins marked since ok) where
  brings : (c : Change) → plan_of d s ≡ ChangeRecord c → puts_picture c ≡ true → since q ≡ carried_picture s c.icon
  brings c e u = carried ∙ planned_carries d s (sound_has d sound) bytes c e (puts_brings c.deleted (brings_icon c.flags) u)

  shows_then : (g : Holder) → (after t s).shown g ≡ shown_in (applied_of d (plan_of d s)) (present_pictures marked since now) g
  shows_then g =
      shown_applied d s sound bytes (present_pictures marked since origins) t same h.shows g
      ∙ ap (λ (pictures : ℕ → List ℕ). shown_in (applied_of d (plan_of d s)) pictures g) (present_by marked since origins now q ne s (plan_of d s) puts brings)

  -- a pointer whose place has its picture of the mark passes the test
  abbrev Passes : ℕ → Type 0
  Passes v = (v ≡ 0 → ⊥) → origin_at now (v - 1) ≡ 0 → ok (v - 1) ≡ true

  new_origin : (c : Change) → plan_of d s ≡ ChangeRecord c → puts_picture c ≡ true → origin_at now c.place ≡ q
  new_origin c e u = puts c.place ∙ rw (e, u, eq-eqb c.place c.place refl)

  pub pictures_then : PicturesHeld (after t s) (applied_of d (plan_of d s)) now marked since ok
  pictures_then =
      record {
        shows = shows_then;
        heads =
            pointers_applied d s sound bytes Passes (λ z. absurd (z refl)) (λ g n z. h.heads g n (origin_was marked since origins now q ne (plan_of d s) puts (pointer_at d g - 1) z))
            (λ c e u n z. let k : c.place + 1 - 1 ≡ c.place = omega arith in absurd (ne (sym (new_origin c e u) ∙ ap (origin_at now) (sym k) ∙ z)));
      }
