-- An order is judged on its bytes by the conditions of the numbers 2 to 8. Assumes nothing.
use mathlib.Core.Path.{◌≡◌, refl, sym, ◌∙◌}
use mathlib.Core.Bool.{Bool, true, false, not}
use mathlib.Core.List.{List}
use Prim.Native.Nat.{ℕ, ◌≤◌}
use native.Mathlib.Omega.{arith}
use lib.Dec.{eqb, ltb}
use lib.ListN.{length}
use borrow.Author.Tests.{leb-true, ltb-false, eqb-true}
use Rattle.wire.specs.Tests.{pick, either}
use Rattle.wire.specs.Numbers.{num_at, Bytes}
use Rattle.wire.proofs.Numbers.{num2_is}
use Rattle.rows.specs.declared.Fit.TheVariants.{Ends, Short}
use Rattle.rows.specs.Rows.{first_bad, on_fit, walk_of}
use Rattle.order.specs.Flags.{one_type, closed, clash}
use Rattle.order.specs.Icons.{picture_fit}
use Rattle.order.specs.Judge.{Judged, refuse, flags_of, order_of, kind_rows, fields_fit, judge_of}
use Rattle.explain.specs.Fields.{Field, plain_part, picture_fields, icon_at, fields_of, end_of, all_fit, first_cut, all_in, first_outside}
use Rattle.explain.specs.Conditions.{too_few, other_size, unlisted, clashing, unfilled, outside}
use Rattle.explain.proofs.Walks.{fit_of_lem, fit_append, fit_told, end_on, fit_end, cut_none, in_none}
use Rattle.explain.proofs.RowFields.{walk_fit, kinds_later}
use Rattle.explain.proofs.IconFields.{picture_fields_lem}
use Rattle.protocol.specs.declared.Refusal.TheVariants.{TooShort, LengthDiffers, UnknownType, UnknownFlag, FlagsClash, NotFilled, OutsideSet}

after_seven : (fs : List Field) → 1 ≤ end_of 7 fs
after_seven fs = omega (arith, end_on 7 fs)

module _ (s : List ℕ) where
  abbrev flags : ℕ
  flags = flags_of s

  abbrev fs : List Field
  fs = fields_of s

  -- the end of the ladder
  abbrev at_end : ℕ → ℕ → ℕ → Judged
  at_end icon end first = pick (not (eqb end (length s))) (refuse NotFilled end) (pick (not (eqb first 0)) (refuse OutsideSet first) (order_of flags s icon))

  abbrev in_body : Judged
  in_body = on_fit (fields_fit flags s) (λ cut. refuse NotFilled cut) (λ icon bad. on_fit (picture_fit flags s icon bad) (λ cut. refuse NotFilled cut) (λ end first. at_end icon end first))

  -- the same by the conditions
  abbrev pub by_fields : Judged
  by_fields = pick (unfilled s) (refuse NotFilled (first_cut (length s) 7 fs)) (pick (outside s) (refuse OutsideSet (first_outside 7 fs)) (order_of flags s (icon_at s)))

  module _ (low : 7 ≤ length s) (high : length s ≤ 65535) where
    -- both parts of the fields in one walk
    joined : in_body ≡ on_fit (fit_of_lem (length s) 7 0 fs) (λ cut. refuse NotFilled cut) (λ end first. at_end (icon_at s) end first)
    unfolding fields_fit fields_of icon_at
    joined =
        let walk : walk_of (kind_rows flags) flags s 7 0 ≡ fit_of_lem (length s) 7 0 (plain_part s) = unfold plain_part in walk_fit (kind_rows flags) (kinds_later flags) flags s 7 0 low high in
        let told = fit_told (length s) 7 0 (plain_part s) (omega arith) in
        rw (fit_append (length s) 7 0 (plain_part s) (picture_fields flags s (icon_at s)), walk, told)
        (go (all_fit (length s) 7 (plain_part s)) refl)
      where
        stood : ℕ
        stood = first_bad 0 (first_outside 7 (plain_part s))

        go : (t : Bool) → all_fit (length s) 7 (plain_part s) ≡ t
            → on_fit (pick t (Ends (end_of 7 (plain_part s)) stood) (Short (first_cut (length s) 7 (plain_part s)))) (λ cut. refuse NotFilled cut)
            (λ icon bad. on_fit (picture_fit flags s icon bad) (λ cut. refuse NotFilled cut) (λ end first. at_end icon end first))
            ≡ on_fit
            (on_fit (pick t (Ends (end_of 7 (plain_part s)) stood) (Short (first_cut (length s) 7 (plain_part s)))) (λ c. Short c)
            (λ q b. fit_of_lem (length s) q b (picture_fields flags s (icon_at s))))
            (λ cut. refuse NotFilled cut) (λ end first. at_end (icon_at s) end first)
        go true e =
            let in_order : end_of 7 (plain_part s) ≤ length s = leb-true (end_of 7 (plain_part s)) (length s) (sym (fit_end (length s) 7 (plain_part s) low) ∙ e) in
            let icon : picture_fit flags s (icon_at s) stood ≡ fit_of_lem (length s) (icon_at s) stood (picture_fields flags s (icon_at s)) =
            picture_fields_lem s (end_of 7 (plain_part s)) stood (after_seven (plain_part s)) in_order flags in
            rw icon
        go false e = refl

    by-fields : in_body ≡ by_fields
    unfolding unfilled outside
    by-fields = joined ∙ rw (fit_told (length s) 7 0 fs (omega arith)) (go (all_fit (length s) 7 fs) refl)
      where
        go : (t : Bool) → all_fit (length s) 7 fs ≡ t
            → on_fit (pick t (Ends (end_of 7 fs) (first_bad 0 (first_outside 7 fs))) (Short (first_cut (length s) 7 fs))) (λ cut. refuse NotFilled cut) (λ end first. at_end (icon_at s) end first)
            ≡ pick (either (not t) (not (eqb (end_of 7 fs) (length s)))) (refuse NotFilled (first_cut (length s) 7 fs))
            (pick (not (all_in fs)) (refuse OutsideSet (first_outside 7 fs)) (order_of flags s (icon_at s)))
        go true e = rw (cut_none (length s) 7 fs e, in_none 7 fs (omega arith))
        go false e = refl

  -- the ladder by the conditions; 4 in its two halves, which have offsets of their own
  abbrev pub ladder : Judged
  ladder =
      pick (too_few s) (refuse TooShort 0)
      (pick (other_size s) (refuse LengthDiffers 1)
      (pick (not (eqb (num_at 1 s 0) 0x2E)) (refuse UnknownType 0)
      (pick (not (one_type flags)) (refuse UnknownType 3)
      (pick (unlisted s) (refuse UnknownFlag 3)
      (pick (clashing s) (refuse FlagsClash 3)
      by_fields)))))

  pub judged : Bytes s → judge_of s ≡ ladder
  unfolding judge_of
  judged b = go (ltb (length s) 7) (eqb (num_at 2 s 1) (length s)) refl refl
    where
      small : num_at 2 s 1 ≤ 65535
      small = omega (arith, num2_is s 1, b.small 1, b.small 2)

      go : (x y : Bool) → ltb (length s) 7 ≡ x → eqb (num_at 2 s 1) (length s) ≡ y
          → pick x (refuse TooShort 0) (pick (not y) (refuse LengthDiffers 1) (pick (not (eqb (num_at 1 s 0) 0x2E)) (refuse UnknownType 0) (pick (not (one_type flags)) (refuse UnknownType 3)
          (pick (not (closed flags)) (refuse UnknownFlag 3) (pick (clash flags) (refuse FlagsClash 3) in_body)))))
          ≡ pick x (refuse TooShort 0) (pick (not y) (refuse LengthDiffers 1) (pick (not (eqb (num_at 1 s 0) 0x2E)) (refuse UnknownType 0) (pick (not (one_type flags)) (refuse UnknownType 3)
          (pick (not (closed flags)) (refuse UnknownFlag 3) (pick (clash flags) (refuse FlagsClash 3) by_fields)))))
      go true y e f = refl
      go false false e f = refl
      go false true e f =
          let short : length s ≤ 65535 = omega (arith, eqb-true (num_at 2 s 1) (length s) f, small) in
          rw (by-fields (ltb-false (length s) 7 e) short)
