-- The offset of the number that an order gets: the one that judging its bytes tells, or 7. Assumes nothing.
use mathlib.Core.Path.{◌≡◌, refl}
use mathlib.Core.Bool.{Bool, true, false, not}
use mathlib.Core.List.{List}
use Prim.Native.Nat.{ℕ}
use native.Mathlib.Omega.{arith}
use lib.Dec.{eqb}
use Rattle.std.specs.Prelude.{Ok, Err}
use Rattle.wire.specs.Tests.{pick}
use Rattle.wire.specs.Numbers.{num_at, Bytes}
use Rattle.order.specs.declared.Order.TheVariants.{Window, Notification, Desktop}
use Rattle.order.specs.Flags.{is_window, is_notification, one_type}
use Rattle.order.specs.Judge.{Judged, refuse, number_of, flags_of, order_of, judge_of}
use Rattle.index.specs.declared.RecordOrder.{RecordOrder}
use Rattle.index.specs.Orders.{on_judged}
use Rattle.index.specs.Index.{Index, not_there, no_room, no_picture, no_place, record_number}
use Rattle.explain.specs.Fields.{icon_at}
use Rattle.explain.specs.Explain.{offset_of}
use Rattle.explain.specs.Conditions.{too_few, other_size, unlisted, clashing, unfilled, outside}
use Rattle.explain.proofs.Judging.{ladder, judged}
use Rattle.protocol.specs.declared.Refusal.TheVariants.{TooShort, LengthDiffers, UnknownType, UnknownFlag, FlagsClash, NotFilled, OutsideSet}

-- of a refusal by its bytes, and of an order that passes them
unfoldable pub Tells : List ℕ → Judged → Type 0
Tells s (Ok o) = Unit {0}
Tells s (Err f) = f.at ≡ offset_of (number_of (Err f)) s

module _ (s : List ℕ) where
  passed_tells : (icon : ℕ) → Tells s (order_of (flags_of s) s icon)
  unfolding Tells order_of
  passed_tells icon = go (is_window (flags_of s)) (is_notification (flags_of s))
    where
      go : (w n : Bool)
          → Tells s
          (pick w (Ok (Window (record { window = record { id = num_at 4 s 7 }; flags = flags_of s; icon = icon })))
          (pick n (Ok (Notification (record { window = record { id = num_at 4 s 7 }; notify = record { id = num_at 4 s 11 }; flags = flags_of s; icon = icon })))
          (Ok (Desktop (record { flags = flags_of s })))))
      go true n = tt
      go false true = tt
      go false false = tt

  ladder_tells : Tells s (ladder s)
  unfolding Tells offset_of
  ladder_tells = go (too_few s) (other_size s) (eqb (num_at 1 s 0) 0x2E) refl (one_type (flags_of s)) (unlisted s) (clashing s) (unfilled s) (outside s)
    where
      go : (a b c : Bool) → eqb (num_at 1 s 0) 0x2E ≡ c → (d e f g h : Bool)
          → Tells s
          (pick a (refuse TooShort 0) (pick b (refuse LengthDiffers 1) (pick (not c) (refuse UnknownType 0) (pick (not d) (refuse UnknownType 3) (pick e (refuse UnknownFlag 3) (pick f (refuse FlagsClash 3)
          (pick g (refuse NotFilled (offset_of 7 s)) (pick h (refuse OutsideSet (offset_of 8 s)) (order_of (flags_of s) s (icon_at s))))))))))
      go true b c x d e f g h = refl
      go false true c x d e f g h = refl
      go false false false x d e f g h = rw x
      go false false true x false e f g h = rw x
      go false false true x true true f g h = refl
      go false false true x true false true g h = refl
      go false false true x true false false true h = refl
      go false false true x true false false false true = refl
      go false false true x true false false false false = passed_tells (icon_at s)

  pub judged_tells : Bytes s → Tells s (judge_of s)
  judged_tells b = rw (judged s b) ladder_tells

  -- 9, 10, 11 and 17
  pub record_seven : (d : Index) (o : RecordOrder) → offset_of (record_number d s o) s ≡ pick (eqb (record_number d s o) 0) 0 7
  unfolding record_number offset_of
  record_seven d o = go (not_there d o) (no_room d o) (no_picture d s o) (no_place d s o)
    where
      go : (a b c e : Bool)
          → offset_of (pick a 9 (pick b 10 (pick c 11 (pick e 17 0)))) s ≡ pick (eqb (pick a 9 (pick b 10 (pick c 11 (pick e 17 0)))) 0) 0 7
      go true b c e = refl
      go false true c e = refl
      go false false true e = refl
      go false false false true = refl
      go false false false false = refl

  -- every number of an order that passes the bytes' rules
  pub passed_seven : (d : Index) (j : Judged) → number_of j ≡ 0
      → offset_of (on_judged j (record_number d s) (λ flags. 0) (λ number. number)) s ≡ pick (eqb (on_judged j (record_number d s) (λ flags. 0) (λ number. number)) 0) 0 7
  unfolding offset_of
  passed_seven d (Ok (Window o)) z = record_seven d _
  passed_seven d (Ok (Notification o)) z = record_seven d _
  passed_seven d (Ok (Desktop o)) z = refl
  passed_seven d (Err f) z = rw z
