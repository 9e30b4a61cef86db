-- An order by its kind: what it brings, its number, its plan and its change on any table. Assumes nothing.
use mathlib.Core.Path.{◌≡◌, refl, sym, ap, subst, ◌∙◌}
use mathlib.Core.Bool.{Bool, true, false}
use mathlib.Core.List.{List}
use Prim.Native.Nat.{ℕ, ◌≤◌}
use lib.Dec.{eqb}
use lib.ListN.{length}
use borrow.Author.Tests.{ne_eqb}
use Rattle.std.specs.Prelude.{Ok, Err}
use Rattle.wire.specs.Tests.{pick}
use Rattle.wire.proofs.Numbers.{Bytes}
use Rattle.order.specs.declared.WindowOrder.{WindowOrder}
use Rattle.order.specs.declared.NotificationOrder.{NotificationOrder}
use Rattle.order.specs.declared.DesktopOrder.{DesktopOrder}
use Rattle.protocol.specs.Refusals.{number_of}
use Rattle.order.specs.declared.Order.TheVariants.{Window, Notification, Desktop}
use Rattle.order.specs.Judge.{Judged, flags_of, judge_of}
use Rattle.order.proofs.Accepted.{a_window, a_notification, a_desktop}
use Rattle.slots.specs.Sound.{sound_index}
use Rattle.slots.proofs.Soundness.{sound_has}
use Rattle.index.specs.declared.RecordOrder.{RecordOrder}
use Rattle.index.specs.declared.Plan.{Plan}
use Rattle.index.specs.declared.Plan.TheVariants.{ChangeRecord, ChangeDesktop, Refuse}
use Rattle.index.specs.Index.{record_number, number_in}
use Rattle.index.specs.Memory.{index_of}
use Rattle.index.specs.Plans.{change_of, plan_record, plan_of}
use Rattle.index.proofs.Ordered.{Ordered, window_order, notification_order, ordered_window, ordered_notification}
use Rattle.index.proofs.Numbered.{Planned, Outcome, refused, changes, outcome}
use Rattle.body.specs.Bodies.{window_fields, notification_fields, desktop_fields}
use Rattle.body.specs.Stores.{EndsWell}
use Rattle.body.proofs.Begins.{window_begins, notification_begins, desktop_begins}
use Rattle.table.specs.Table.{Table, number, field_rows, fields_at, change_record, change_desktop, after}

-- an order for a record that its bytes do not refuse
pub record OfRecord (s : List ℕ) (o : RecordOrder) : Type 0 where
  pub ordered : Ordered s o
  pub within : fields_at o.family ≤ length s
  pub fields : EndsWell (field_rows o.family) o.flags s (fields_at o.family)
  pub plans : (x : List ℕ) → plan_of x s ≡ plan_record x s o
  pub numbered : (t : Table) → number t s ≡ record_number t.index s o
  pub changed : (t : Table) → after t s ≡ pick (eqb (number t s) 0) (change_record t s o) t

-- an order for the desktop
pub record OfDesktop (s : List ℕ) (flags : ℕ) : Type 0 where
  pub within : 7 ≤ length s
  pub fields : EndsWell desktop_fields flags s 7
  pub plans : (x : List ℕ) → plan_of x s ≡ ChangeDesktop flags
  pub changed : (t : Table) → after t s ≡ change_desktop t s flags

-- an order that its bytes refuse
pub record OfNone (s : List ℕ) (n : ℕ) : Type 0 where
  pub plans : (x : List ℕ) → plan_of x s ≡ Refuse n
  pub changed : (t : Table) → after t s ≡ t

pub data Kind (s : List ℕ) : Type 0 where
  of_record : (o : RecordOrder) → OfRecord s o → Kind s
  of_desktop : (flags : ℕ) → OfDesktop s flags → Kind s
  of_none : (n : ℕ) → OfNone s n → Kind s

module _ (s : List ℕ) (bytes : Bytes s) where
  window_kind : (o : WindowOrder) → judge_of s ≡ Ok (Window o) → OfRecord s (window_order o)
  unfolding plan_of number number_in after
  window_kind o e =
      let w = a_window s o e in
      let f : o.flags ≡ flags_of s = ap (λ (o : WindowOrder). o.flags) w.is in
      let k = window_begins s w in
      record {
        ordered = ordered_window s bytes o e;
        within = k.0;
        fields = subst (λ (m : ℕ). EndsWell window_fields m s 11) (sym f) k.1;
        plans = λ x. rw e;
        numbered = λ t. rw e;
        changed = λ t. rw e;
      }

  notification_kind : (o : NotificationOrder) → judge_of s ≡ Ok (Notification o) → OfRecord s (notification_order o)
  unfolding plan_of number number_in after
  notification_kind o e =
      let w = a_notification s o e in
      let f : o.flags ≡ flags_of s = ap (λ (o : NotificationOrder). o.flags) w.is in
      let k = notification_begins s w in
      record {
        ordered = ordered_notification s bytes o e;
        within = k.0;
        fields = subst (λ (m : ℕ). EndsWell notification_fields m s 15) (sym f) k.1;
        plans = λ x. rw e;
        numbered = λ t. rw e;
        changed = λ t. rw e;
      }

  desktop_kind : (o : DesktopOrder) → judge_of s ≡ Ok (Desktop o) → OfDesktop s o.flags
  unfolding plan_of number number_in after
  desktop_kind o e =
      let w = a_desktop s o e in
      let f : o.flags ≡ flags_of s = ap (λ (o : DesktopOrder). o.flags) w.is in
      let k = desktop_begins s w in
      record {
        within = k.0;
        fields = subst (λ (m : ℕ). EndsWell desktop_fields m s 7) (sym f) k.1;
        plans = λ x. rw e;
        changed = λ t. rw e;
      }

  pub kind : Kind s
  unfolding plan_of number number_in after
  kind = go (judge_of s) refl
    where
      same : {A : Type 0} (b : Bool) (t : A) → pick b t t ≡ t
      same true t = refl
      same false t = refl

      go : (j : Judged) → judge_of s ≡ j → Kind s
      go (Ok (Window o)) e = of_record (window_order o) (window_kind o e)
      go (Ok (Notification o)) e = of_record (notification_order o) (notification_kind o e)
      go (Ok (Desktop o)) e = of_desktop o.flags (desktop_kind o e)
      go (Err f) e = of_none (number_of f.refusal) (record { plans = λ x. rw e; changed = λ t. rw e (same (eqb (number_of f.refusal) 0) t) })

-- ---- the plan of an order

pub data Planning (x s : List ℕ) : Plan → Type 0 where
  changes_record : (o : RecordOrder) (i place : ℕ) → OfRecord s o → Planned x s o i place → ((t : Table) → t.index ≡ index_of x → after t s ≡ change_record t s o)
      → Planning x s (ChangeRecord (change_of s o i place))
  changes_desktop : (flags : ℕ) → OfDesktop s flags → Planning x s (ChangeDesktop flags)
  changes_none : (n : ℕ) → ((t : Table) → t.index ≡ index_of x → after t s ≡ t) → Planning x s (Refuse n)

pub planning : (x s : List ℕ) → sound_index x ≡ true → Bytes s → Planning x s (plan_of x s)
planning x s ok bytes = go (kind s bytes)
  where
    of : (o : RecordOrder) → OfRecord s o → (p : Plan) → Outcome x s o p → Planning x s p
    of o k (Refuse m) (refused n ne e) = changes_none n (λ t h. k.changed t ∙ (rw (k.numbered t, h, e, ne_eqb n 0 ne)))
    of o k (ChangeRecord c) (changes i place e p) = changes_record o i place k p (λ t h. k.changed t ∙ (rw (k.numbered t, h, e)))
    of o k (ChangeDesktop _) x3 = elim x3 [ ]

    go : Kind s → Planning x s (plan_of x s)
    go (of_record o k) = rw (k.plans x) (of o k (plan_record x s o) (outcome x s o (sound_has x ok) k.ordered))
    go (of_desktop flags k) = rw (k.plans x) (changes_desktop flags k)
    go (of_none n k) = rw (k.plans x) (changes_none n (λ t h. k.changed t))
