-- An icon with cache id FF touches its pointer alone; a place that only its holders point at is shared with no other. Assumes nothing.
use mathlib.Core.Path.{◌≡◌, refl, sym, ap, ◌∙◌}
use mathlib.Core.Bool.{Bool, true, false}
use mathlib.Core.List.{List}
use mathlib.Core.Option.{some}
use Prim.Native.Nat.{ℕ}
use native.Mathlib.Omega.{arith}
use Rattle.std.specs.Prelude.{Ok, Err}
use Rattle.wire.specs.Tests.{pick}
use Rattle.order.specs.declared.Order.TheVariants.{Window, Notification, Desktop}
use Rattle.order.specs.Judge.{Judged, judge_of}
use Rattle.places.specs.Sharing.{is_one, fresh, full, taken}
use Rattle.places.specs.Holder.{Holder, cell, same_holder}
use Rattle.places.proofs.Named.{holder_same}
use Rattle.index.specs.declared.RecordOrder.{RecordOrder}
use Rattle.index.specs.Orders.{on_judged, brings_icon, sent_once, pointer_of, holders_of}
use Rattle.index.specs.Index as index
use Rattle.index.specs.Promises.{touched}
use Rattle.index.proofs.Ordered.{window_order, notification_order}
use Rattle.index.proofs.Promises.{others_keep}
use Rattle.table.specs.Table.{Table, number, change_record}
use Rattle.table.specs.Promises.{record_order, Updates, Updated, UpdatesKeep, OnceOnly, OnceKeeps}
use Rattle.table.proofs.Promises.{after_is, updates_keep}

-- no number: no place is lacking
last_number : (a b c d : Bool) → ◌≡◌ {A = ℕ} (pick a 9 (pick b 10 (pick c 11 (pick d 17 0)))) 0 → d ≡ false
last_number true b c d e = absurd (omega arith)
last_number false true c d e = absurd (omega arith)
last_number false false true d e = absurd (omega arith)
last_number false false false true e = absurd (omega arith)
last_number false false false false e = refl

module _ (t : Table) (s : List ℕ) (o : RecordOrder) (u : Updates t s o) (e : brings_icon o.flags ≡ true) (once : sent_once s o.icon ≡ true) where
  number_on_lem : (j : Judged) → record_order j ≡ some o
      → on_judged j (index.record_number t.index s) (λ flags. 0) (λ n. n) ≡ index.record_number t.index s o
  number_on_lem (Ok (Window w)) k = let m : window_order w ≡ o = cc in ap (index.record_number t.index s) m
  number_on_lem (Ok (Notification w)) k = let m : notification_order w ≡ o = cc in ap (index.record_number t.index s) m
  number_on_lem (Ok (Desktop w)) k = let z : ◌≡◌ {A = ℕ} 0 1 = cc in absurd (omega arith)
  number_on_lem (Err r) k = let z : ◌≡◌ {A = ℕ} 0 1 = cc in absurd (omega arith)

  accepted_is : index.record_number t.index s o ≡ 0
  unfolding number index.number_in
  accepted_is = sym (number_on_lem (judge_of s) u.judged) ∙ u.accepted

  not_full : full same_holder (holders_of s o) t.index.sharing ≡ false
  unfolding index.record_number index.no_place
  not_full =
      let n = last_number (index.not_there t.index o) (index.no_room t.index o) (index.no_picture t.index s o) (index.no_place t.index s o) accepted_is in
      let r : full same_holder (holders_of s o) t.index.sharing ≡ false = rw e at n in
      r

  untouched : (h : Holder) → same_holder h (pointer_of o) ≡ false → is_one same_holder (touched s o) h ≡ false
  unfolding touched
  untouched h ne = rw (u.stays, e, once, ne)

  -- the place that it takes
  not_shared : (h : Holder) → same_holder h (pointer_of o) ≡ false → (change_record t s o).index.sharing.shares h (pointer_of o) ≡ false
  unfolding change_record index.change_record index.pictured taken fresh
  not_shared h ne = rw (u.stays, e, not_full, once, ne, holder_same (pointer_of o))

  still_shared : (h k : Holder) → same_holder h (pointer_of o) ≡ false → same_holder k (pointer_of o) ≡ false
      → (change_record t s o).index.sharing.shares h k ≡ t.index.sharing.shares h k
  unfolding change_record
  still_shared h k m n = others_keep t.index s o h k (untouched h m) (untouched k n)

  own_holder : is_one same_holder (holders_of s o) (pointer_of o) ≡ true
  own_holder = rw (once, holder_same (pointer_of o))

  once_only : Updated t s o → OnceOnly t s o
  once_only w =
      record {
        own = w.brought e (pointer_of o) own_holder;
        alone = λ h ne. ap (λ (v : Table). v.index.sharing.shares h (pointer_of o)) (after_is t s o u) ∙ not_shared h ne;
        others = λ h ne. w.pictures h (untouched h ne);
        sharing = λ h k m n. ap (λ (v : Table). v.index.sharing.shares h k) (after_is t s o u) ∙ still_shared h k m n;
        cells = λ c. w.pictures (cell c) (untouched (cell c) refl);
      }

pub once_keeps : OnceKeeps
unfolding OnceKeeps UpdatesKeep
once_keeps t s o u e once = once_only t s o u e once (updates_keep t s o u)
