-- An icon or cached icon is told by the walk over its fields. Assumes nothing.
use mathlib.Core.Path.{◌≡◌, refl, sym, ap, ◌∙◌}
use mathlib.Core.Bool.{Bool, true, false, not}
use mathlib.Core.List.{List, []}
use Prim.Native.Nat.{ℕ, ◌+◌, ◌*◌, ◌/◌, ◌-◌, ◌≤◌, ◌<◌}
use native.Mathlib.Omega.{arith}
use lib.Dec.{leb}
use lib.ListN.{length}
use borrow.Author.Tests.{leb-false}
use Rattle.wire.specs.Tests.{pick, has}
use Rattle.wire.specs.Numbers.{num_at}
use Rattle.protocol.specs.Flags.{flag_cached_icon, flag_icon}
use Rattle.rows.specs.declared.Fit.TheVariants.{Ends, Short}
use Rattle.rows.specs.Rows.{first_bad}
use Rattle.order.specs.declared.IconParts.{IconParts}
use Rattle.order.specs.Icons.{tabled, parts_from, parts_of, entry_ok, cache_ok, bits_ok, side_ok, icon_numbers_bad, icon_bad, cached_bad, head_cut, parts_cut, icon_fit, cached_fit, picture_fit}
use Rattle.order.proofs.Pictures.{head_entry, head_byte, head_word, cut_head, cut_mask, cut_table, cut_color}
use Rattle.explain.specs.Fields.{Field, tabled_fields, plain_fields, begun, icon_fields, cached_fields, picture_fields, end_of, all_fit, first_cut, first_outside}
use Rattle.explain.proofs.Walks.{leb_same, fit_of_lem, fit_told, fit_end, cut_step}

-- what fields tell is a `Fit` that has the same end, the same first cut and the same first outside
fit_as : (n at bad : ℕ) (fs : List Field) {end out cut : ℕ} → 1 ≤ at → at ≤ n → end_of at fs ≡ end → first_outside at fs ≡ out → (n < end → first_cut n at fs ≡ cut)
    → pick (leb end n) (Ends end (first_bad bad out)) (Short cut) ≡ fit_of_lem n at bad fs
fit_as n at bad fs {end} {out} {cut} one l e o c = go (leb end n) refl ∙ sym (fit_told n at bad fs one)
  where
    all-is : all_fit n at fs ≡ leb end n
    all-is = fit_end n at fs l ∙ ap (λ (k : ℕ). leb k n) e

    go : (t : Bool) → leb end n ≡ t
        → pick t (Ends end (first_bad bad out)) (Short cut) ≡ pick (all_fit n at fs) (Ends (end_of at fs) (first_bad bad (first_outside at fs))) (Short (first_cut n at fs))
    go true h = rw (all-is, h, e, o)
    go false h = rw (all-is, h, c (leb-false end n h))

-- ---- where it is cut

-- x is where the number begins that is cut of a header at index at
record HeadCut (n at x : ℕ) : Type 0 where
  pub entry : n - at < 2 → at ≡ x
  pub byte : 2 ≤ n - at → n - at < 4 → at + (n - at) ≡ x
  pub word : 4 ≤ n - at → at + (n - at) / 2 * 2 ≡ x

-- x is where the number or run begins that is cut of an icon with its parts at index mask
record IconCut (n at mask m t x : ℕ) : Type 0 where
  pub head : n < mask → HeadCut n at x
  pub first : mask ≤ n → n < mask + m → mask ≡ x
  pub second : mask + m ≤ n → n < mask + m + t → mask + m ≡ x
  pub third : mask + m + t ≤ n → mask + m + t ≡ x

module _ (n at x : ℕ) (l : at ≤ n) where
  head_cut_lem : head_cut (n - at) + at ≡ x → HeadCut n at x
  head_cut_lem e =
      record {
        entry = λ h. let k : 0 ≡ head_cut (n - at) = head_entry (n - at) h in omega (arith, e, k);
        byte = λ h g. let k : n - at ≡ head_cut (n - at) = head_byte (n - at) h g in omega (arith, e, k);
        word = λ h. let k : (n - at) / 2 * 2 ≡ head_cut (n - at) = head_word (n - at) h in omega (arith, e, k);
      }

  parts_cut_lem : (mask m t c : ℕ) → parts_cut at n (parts_from mask m t c) ≡ x → IconCut n at mask m t x
  parts_cut_lem mask m t c e =
      let p = parts_from mask m t c in
      record {
        head = λ h. let k : at + head_cut (n - at) ≡ parts_cut at n p = cut_head at n p h refl in head_cut_lem (omega (arith, k, e));
        first = λ h g. cut_mask at n p h g ∙ e;
        second = λ h g. cut_table at n p (omega arith) h g ∙ e;
        third = λ h. cut_color at n p (omega arith) (omega arith) h ∙ e;
      }

  -- the five numbers that every icon begins with lead on to the rest
  begin_cut : (s : List ℕ) (rest : List Field) → (at + 8 ≤ n → first_cut n (at + 2 + 1 + 1 + 2 + 2) rest ≡ x) → (n < at + 8 → HeadCut n at x)
      → first_cut n at (begun s at rest) ≡ x
  unfolding first_cut
  begin_cut s rest f g =
      cut_step n at 2 x
      (λ h2. cut_step n (at + 2) 1 x
      (λ h3. cut_step n (at + 2 + 1) 1 x
      (λ h4. cut_step n (at + 2 + 1 + 1) 2 x
      (λ h6. cut_step n (at + 2 + 1 + 1 + 2) 2 x
      (λ h8. f (omega arith))
      (λ i. let k = (g (omega arith)).word (omega arith) in omega (arith, k)))
      (λ i. let k = (g (omega arith)).word (omega arith) in omega (arith, k)))
      (λ i. let k = (g (omega arith)).byte (omega arith) (omega arith) in omega (arith, k)))
      (λ i. let k = (g (omega arith)).byte (omega arith) (omega arith) in omega (arith, k)))
      (λ i. let k = (g (omega arith)).entry (omega arith) in omega (arith, k))

module _ (n at x table mask color : ℕ) where
  abbrev here : ℕ
  here = at + 2 + 1 + 1 + 2 + 2

  tabled_cut : at + 8 ≤ n → n < at + 14 + mask + table + color → IconCut n at (at + 14) mask table x
      → first_cut n (at + 2 + 1 + 1 + 2 + 2) (tabled_fields table mask color) ≡ x
  unfolding first_cut
  tabled_cut l r p =
      cut_step n here 2 x
      (λ h10. cut_step n (here + 2) 2 x
      (λ h12. cut_step n (here + 2 + 2) 2 x
      (λ h14. cut_step n (here + 2 + 2 + 2) mask x
      (λ hm. cut_step n (here + 2 + 2 + 2 + mask) table x
      (λ ht. cut_step n (here + 2 + 2 + 2 + mask + table) color x
      (λ hc. absurd (omega arith))
      (λ i. let k = p.third (omega arith) in omega (arith, k)))
      (λ i. let k = p.second (omega arith) (omega arith) in omega (arith, k)))
      (λ i. let k = p.first (omega arith) (omega arith) in omega (arith, k)))
      (λ i. let k = (p.head (omega arith)).word (omega arith) in omega (arith, k)))
      (λ i. let k = (p.head (omega arith)).word (omega arith) in omega (arith, k)))
      (λ i. let k = (p.head (omega arith)).word (omega arith) in omega (arith, k))

  plain_cut : at + 8 ≤ n → n < at + 12 + mask + 0 + color → IconCut n at (at + 12) mask 0 x
      → first_cut n (at + 2 + 1 + 1 + 2 + 2) (plain_fields mask color) ≡ x
  unfolding first_cut
  plain_cut l r p =
      cut_step n here 2 x
      (λ h10. cut_step n (here + 2) 2 x
      (λ h12. cut_step n (here + 2 + 2) mask x
      (λ hm. cut_step n (here + 2 + 2 + mask) color x
      (λ hc. absurd (omega arith))
      (λ i. let k = p.third (omega arith) in omega (arith, k)))
      (λ i. let k = p.first (omega arith) (omega arith) in omega (arith, k)))
      (λ i. let k = (p.head (omega arith)).word (omega arith) in omega (arith, k)))
      (λ i. let k = (p.head (omega arith)).word (omega arith) in omega (arith, k))

-- ---- the first number outside its set

numbers_outside : (at p2 p3 p4 p6 o x : ℕ) (a b c d e : Bool) → p2 ≡ at + 2 → p3 ≡ at + 3 → p4 ≡ at + 4 → p6 ≡ at + 6 → o ≡ x
    → pick a (pick b (pick c (pick d (pick e o p6) p4) p3) p2) at
    ≡ pick (not a) at (pick (not b) (at + 2) (pick (not c) (at + 3) (pick (not d) (at + 4) (pick (not e) (at + 6) x))))
numbers_outside at p2 p3 p4 p6 o x false b c d e x2 x3 x4 x6 xo = refl
numbers_outside at p2 p3 p4 p6 o x true false c d e x2 x3 x4 x6 xo = x2
numbers_outside at p2 p3 p4 p6 o x true true false d e x2 x3 x4 x6 xo = x3
numbers_outside at p2 p3 p4 p6 o x true true true false e x2 x3 x4 x6 xo = x4
numbers_outside at p2 p3 p4 p6 o x true true true true false x2 x3 x4 x6 xo = x6
numbers_outside at p2 p3 p4 p6 o x true true true true true x2 x3 x4 x6 xo = xo

-- ---- the icon

-- the rest of an icon's fields, whose parts are p: where they end, that the color's length alone may be outside, and where they are cut
record Rest (n at : ℕ) (p : IconParts) (rest : List Field) : Type 0 where
  pub ends : end_of (at + 2 + 1 + 1 + 2 + 2) rest ≡ p.end
  pub outside : first_outside (at + 2 + 1 + 1 + 2 + 2) rest ≡ pick (not (leb (p.end - p.mask) 4224)) (p.mask - 2) 0
  pub cut : at ≤ n → n < p.end → at + 8 ≤ n → first_cut n (at + 2 + 1 + 1 + 2 + 2) rest ≡ parts_cut at n p
  pub head : at ≤ n → n < at + 8 → HeadCut n at (parts_cut at n p)

module _ (n at : ℕ) where
  passes : (small : Bool) (o last : ℕ) → o ≡ last → pick small 0 o ≡ pick (not small) last 0
  passes true o last e = refl
  passes false o last e = e

  tabled_rest : (table mask color : ℕ) → Rest n at (parts_from (at + 14) mask table color) (tabled_fields table mask color)
  unfolding end_of first_outside
  tabled_rest table mask color =
      let p = parts_from (at + 14) mask table color in
      let bytes : at + 14 + mask + table + color - (at + 14) ≡ mask + table + color = omega arith in
      record {
        ends = omega arith;
        outside = rw bytes (passes (leb (mask + table + color) 4224) (at + 2 + 1 + 1 + 2 + 2 + 2 + 2) (at + 14 - 2) (omega arith));
        cut = λ l g h. tabled_cut n at (parts_cut at n p) table mask color h g (parts_cut_lem n at (parts_cut at n p) l (at + 14) mask table color refl);
        head = λ l h. (parts_cut_lem n at (parts_cut at n p) l (at + 14) mask table color refl).head (omega arith);
      }

  plain_rest : (mask color : ℕ) → Rest n at (parts_from (at + 12) mask 0 color) (plain_fields mask color)
  unfolding end_of first_outside
  plain_rest mask color =
      let p = parts_from (at + 12) mask 0 color in
      let bytes : at + 12 + mask + 0 + color - (at + 12) ≡ mask + color = omega arith in
      record {
        ends = omega arith;
        outside = rw bytes (passes (leb (mask + color) 4224) (at + 2 + 1 + 1 + 2 + 2 + 2) (at + 12 - 2) (omega arith));
        cut = λ l g h. plain_cut n at (parts_cut at n p) 0 mask color h g (parts_cut_lem n at (parts_cut at n p) l (at + 12) mask 0 color refl);
        head = λ l h. (parts_cut_lem n at (parts_cut at n p) l (at + 12) mask 0 color refl).head (omega arith);
      }

module _ (s : List ℕ) (at bad : ℕ) (one : 1 ≤ at) (l : at ≤ length s) where
  rest_fit : (p : IconParts) (rest : List Field) → Rest (length s) at p rest
      → pick (leb p.end (length s))
      (Ends p.end (first_bad bad (icon_numbers_bad at (num_at 2 s at) (num_at 1 s (at + 2)) (num_at 1 s (at + 3)) (num_at 2 s (at + 4)) (num_at 2 s (at + 6)) (p.end - p.mask) (p.mask - 2))))
      (Short (parts_cut at (length s) p))
      ≡ fit_of_lem (length s) at bad (begun s at rest)
  rest_fit p rest r =
      fit_as (length s) at bad (begun s at rest) one l ends outside
      (λ g. begin_cut (length s) at (parts_cut at (length s) p) l s rest (λ h. r.cut l g h) (λ h. r.head l h))
    where
      ends : end_of at (begun s at rest) ≡ p.end
      ends = unfold end_of in r.ends

      outside : first_outside at (begun s at rest)
          ≡ icon_numbers_bad at (num_at 2 s at) (num_at 1 s (at + 2)) (num_at 1 s (at + 3)) (num_at 2 s (at + 4)) (num_at 2 s (at + 6)) (p.end - p.mask) (p.mask - 2)
      outside =
          unfold first_outside in
          numbers_outside at (at + 2) (at + 2 + 1) (at + 2 + 1 + 1) (at + 2 + 1 + 1 + 2) (first_outside (at + 2 + 1 + 1 + 2 + 2) rest)
          (pick (not (leb (p.end - p.mask) 4224)) (p.mask - 2) 0) (entry_ok (num_at 2 s at) (num_at 1 s (at + 2))) (cache_ok (num_at 1 s (at + 2)))
          (bits_ok (num_at 1 s (at + 3))) (side_ok (num_at 2 s (at + 4))) (side_ok (num_at 2 s (at + 6))) refl (omega arith) (omega arith) (omega arith) r.outside

  -- the fields after the first five, of either kind of icon
  abbrev with_table_lem : List Field
  with_table_lem = tabled_fields (num_at 2 s (at + 8)) (num_at 2 s (at + 10)) (num_at 2 s (at + 12))

  abbrev without_table : List Field
  without_table = plain_fields (num_at 2 s (at + 8)) (num_at 2 s (at + 10))

  abbrev later : List Field
  later = pick (tabled (num_at 1 s (at + 3))) with_table_lem without_table

  icon_with : (p : IconParts) (rest : List Field) → parts_of s at ≡ p → later ≡ rest → Rest (length s) at p rest → icon_fit s at bad ≡ fit_of_lem (length s) at bad (icon_fields s at)
  unfolding icon_fit icon_fields icon_bad
  icon_with p rest parts is r = rw parts (rest_fit p rest r ∙ sym (ap (λ (fs : List Field). fit_of_lem (length s) at bad (begun s at fs)) is))

  icon_fields_lem : icon_fit s at bad ≡ fit_of_lem (length s) at bad (icon_fields s at)
  icon_fields_lem = go (tabled (num_at 1 s (at + 3))) refl
    where
      go : (t : Bool) → tabled (num_at 1 s (at + 3)) ≡ t → icon_fit s at bad ≡ fit_of_lem (length s) at bad (icon_fields s at)
      go true e =
          icon_with (parts_from (at + 14) (num_at 2 s (at + 10)) (num_at 2 s (at + 8)) (num_at 2 s (at + 12))) with_table_lem (unfold parts_of in rw e) (rw e)
          (tabled_rest (length s) at (num_at 2 s (at + 8)) (num_at 2 s (at + 10)) (num_at 2 s (at + 12)))
      go false e =
          icon_with (parts_from (at + 12) (num_at 2 s (at + 8)) 0 (num_at 2 s (at + 10))) without_table (unfold parts_of in rw e) (rw e)
          (plain_rest (length s) at (num_at 2 s (at + 8)) (num_at 2 s (at + 10)))

  cached_fields_lem : cached_fit s at bad ≡ fit_of_lem (length s) at bad (cached_fields s at)
  unfolding cached_fit cached_fields cached_bad first_outside end_of first_cut
  cached_fields_lem =
      let same : leb 3 (length s - at) ≡ leb (at + 3) (length s) = leb_same 3 (length s - at) (at + 3) (length s) (λ h. omega arith) (λ h. omega arith) in
      rw same
      (fit_as (length s) at bad _ one l (omega arith) (outside (leb (num_at 2 s at) 5) (leb (num_at 1 s (at + 2)) 1))
      (λ g.
      let x = at + head_cut (length s - at) in
      let k = head_cut_lem (length s) at x l (omega arith) in
      cut_step (length s) at 2 x
      (λ h. cut_step (length s) (at + 2) 1 x (λ i. absurd (omega arith)) (λ i. let y = k.byte (omega arith) (omega arith) in omega (arith, y)))
      (λ i. k.entry (omega arith))))
    where
      outside : (a b : Bool) → pick a (pick b 0 (at + 2)) at ≡ pick (not a) at (pick (not b) (at + 2) 0)
      outside false b = refl
      outside true false = refl
      outside true true = refl

  pub picture_fields_lem : (flags : ℕ) → picture_fit flags s at bad ≡ fit_of_lem (length s) at bad (picture_fields flags s at)
  unfolding picture_fit picture_fields fit_of_lem
  picture_fields_lem flags = go (has flags flag_icon) (has flags flag_cached_icon)
    where
      go : (a b : Bool) → pick a (icon_fit s at bad) (pick b (cached_fit s at bad) (Ends at bad)) ≡ fit_of_lem (length s) at bad (pick a (icon_fields s at) (pick b (cached_fields s at) []))
      go true b = icon_fields_lem
      go false true = cached_fields_lem
      go false false = refl
