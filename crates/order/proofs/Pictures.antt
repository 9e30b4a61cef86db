-- What each function over an icon or a cached icon answers, by its tests: one law for each way out. Assumes nothing.
use mathlib.Core.Path.{◌≡◌, refl, sym, subst, ◌∙◌}
use mathlib.Core.Bool.{Bool, true, false, not}
use mathlib.Core.List.{List}
use Prim.Native.Nat.{ℕ, ◌+◌, ◌*◌, ◌/◌, ◌-◌, ◌≤◌, ◌<◌}
use native.Mathlib.Omega.{arith}
use lib.Dec.{eqb, leb, ltb}
use lib.Bits.{bit_and}
use lib.ListN.{length}
use borrow.Author.Tests.{le-leb, lt-leb, leb-true, leb-false, ne_eqb, eq-eqb, lt-ltb, le-ltb, ltb-false}
use Rattle.wire.specs.Tests.{pick, both, has}
use Rattle.wire.specs.Numbers.{num_at}
use Rattle.rows.specs.declared.Fit.{Fit}
use Rattle.rows.specs.declared.Fit.TheVariants.{Ends, Short}
use Rattle.rows.specs.Rows.{first_bad, Within}
use Rattle.rows.proofs.Fields.{bad_within}
use Rattle.order.specs.declared.IconParts.{IconParts}
use Rattle.order.specs.Icons.{tabled, parts_from, parts_of, entry_ok, cache_ok, bits_ok, side_ok, icon_numbers_bad, icon_bad, cached_numbers_bad, cached_bad, head_cut, parts_cut, icon_fit, cached_fit, picture_fit, ends_good, icon_whole, cached_whole}
use Rattle.protocol.specs.Flags.{flag_cached_icon, flag_icon}

-- ---- the parts

module _ (s : List ℕ) (at : ℕ) where
  pub parts_table : {bits a b d : ℕ} {t : Bool} {p : IconParts} → bits ≡ num_at 1 s (at + 3) → t ≡ tabled bits → t ≡ true
      → a ≡ num_at 2 s (at + 8) → b ≡ num_at 2 s (at + 10) → d ≡ num_at 2 s (at + 12) → p ≡ parts_from (at + 14) b a d → p ≡ parts_of s at
  unfolding parts_of
  parts_table e f t x y z g = rw (← e, sym f ∙ t, ← x, ← y, ← z) g

  pub parts_plain : {bits a b : ℕ} {t : Bool} {p : IconParts} → bits ≡ num_at 1 s (at + 3) → t ≡ tabled bits → t ≡ false
      → a ≡ num_at 2 s (at + 8) → b ≡ num_at 2 s (at + 10) → p ≡ parts_from (at + 12) a 0 b → p ≡ parts_of s at
  unfolding parts_of
  parts_plain e f t x y g = rw (← e, sym f ∙ t, ← x, ← y) g

-- how the parts lie
pub record Laid (at : ℕ) (p : IconParts) : Type 0 where
  pub low : at + 12 ≤ p.mask
  pub high : p.mask ≤ at + 14
  pub first : p.mask ≤ p.table
  pub second : p.table ≤ p.color
  pub third : p.color ≤ p.end

pub laid : (s : List ℕ) (at : ℕ) → Laid at (parts_of s at)
unfolding parts_of
laid s at = go (tabled (num_at 1 s (at + 3)))
  where
    go : (b : Bool)
        → Laid at
        (pick b (parts_from (at + 14) (num_at 2 s (at + 10)) (num_at 2 s (at + 8)) (num_at 2 s (at + 12))) (parts_from (at + 12) (num_at 2 s (at + 8)) 0 (num_at 2 s (at + 10))))
    go true = record { low = omega arith; high = omega arith; first = omega arith; second = omega arith; third = omega arith }
    go false = record { low = omega arith; high = omega arith; first = omega arith; second = omega arith; third = omega arith }

pub laid_is : {p : IconParts} (s : List ℕ) (at : ℕ) → p ≡ parts_of s at → Laid at p
laid_is s at e = subst (λ (p : IconParts). Laid at p) (sym e) (laid s at)

-- ---- 8

module _ (s : List ℕ) (at : ℕ) where
  pub icon_join : {entry cache bits width height n : ℕ} {p : IconParts} → n ≡ icon_numbers_bad at entry cache bits width height (p.end - p.mask) (p.mask - 2)
      → entry ≡ num_at 2 s at → cache ≡ num_at 1 s (at + 2) → bits ≡ num_at 1 s (at + 3) → width ≡ num_at 2 s (at + 4) → height ≡ num_at 2 s (at + 6) → p ≡ parts_of s at
      → n ≡ icon_bad s at
  unfolding icon_bad
  icon_join h a b c d e f = rw (← a, ← b, ← c, ← d, ← e, ← f) h

  pub cached_join : {entry cache n : ℕ} → n ≡ cached_numbers_bad at entry cache → entry ≡ num_at 2 s at → cache ≡ num_at 1 s (at + 2) → n ≡ cached_bad s at
  unfolding cached_bad
  cached_join h a b = rw (← a, ← b) h

-- ---- 7

pub head_entry : (a : ℕ) → a < 2 → 0 ≡ head_cut a
head_entry a h = rw (lt-ltb a 2 h)

pub head_byte : (a : ℕ) → 2 ≤ a → a < 4 → a ≡ head_cut a
head_byte a h l = rw (le-ltb a 2 h, lt-ltb a 4 l)

pub head_word : (a : ℕ) → 4 ≤ a → a / 2 * 2 ≡ head_cut a
head_word a l = let h : 2 ≤ a = omega arith in rw (le-ltb a 2 h, le-ltb a 4 l)

pub head_within : (a : ℕ) → head_cut a ≤ a
head_within a = go (ltb a 2) (ltb a 4)
  where
    go : (b c : Bool) → pick b 0 (pick c a (a / 2 * 2)) ≤ a
    go true c = omega arith
    go false true = omega arith
    go false false = omega arith

module _ (at end : ℕ) (p : IconParts) where
  pub cut_head : {n : ℕ} → end < p.mask → n ≡ head_cut (end - at) → at + n ≡ parts_cut at end p
  cut_head h e = rw (lt-ltb end p.mask h, e)

  module _ (m : p.mask ≤ end) where
    pub cut_mask : end < p.table → p.mask ≡ parts_cut at end p
    cut_mask h = rw (le-ltb end p.mask m, lt-ltb end p.table h)

    pub cut_table : p.table ≤ end → end < p.color → p.table ≡ parts_cut at end p
    cut_table t h = rw (le-ltb end p.mask m, le-ltb end p.table t, lt-ltb end p.color h)

    pub cut_color : p.table ≤ end → p.color ≤ end → p.color ≡ parts_cut at end p
    cut_color t h = rw (le-ltb end p.mask m, le-ltb end p.table t, le-ltb end p.color h)

  cut_within : at ≤ end → parts_cut at end p ≤ end
  cut_within h = go (ltb end p.mask) (ltb end p.table) (ltb end p.color) refl refl refl
    where
      go : (a b c : Bool) → ltb end p.mask ≡ a → ltb end p.table ≡ b → ltb end p.color ≡ c
          → pick a (at + head_cut (end - at)) (pick b p.mask (pick c p.table p.color)) ≤ end
      go true b c x y z = omega (arith, head_within (end - at))
      go false true c x y z = ltb-false end p.mask x
      go false false true x y z = ltb-false end p.table y
      go false false false x y z = ltb-false end p.color z

-- ---- the icon or cached icon

module _ (s : List ℕ) (at bad : ℕ) where
  pub icon_ends : {p : IconParts} {more b : ℕ} → p ≡ parts_of s at → p.end ≤ length s → more ≡ icon_bad s at → b ≡ first_bad bad more
      → Ends p.end b ≡ icon_fit s at bad
  unfolding icon_fit
  icon_ends {p} e l m f = rw (← e, le-leb p.end (length s) l, ← m, f)

  pub icon_short : {p : IconParts} {c : ℕ} → p ≡ parts_of s at → length s < p.end → c ≡ parts_cut at (length s) p → Short c ≡ icon_fit s at bad
  unfolding icon_fit
  icon_short {p} e l f = rw (← e, lt-leb p.end (length s) l, f)

  pub cached_ends : {more b : ℕ} → 3 ≤ length s - at → more ≡ cached_bad s at → b ≡ first_bad bad more → Ends (at + 3) b ≡ cached_fit s at bad
  unfolding cached_fit
  cached_ends l m f = rw (le-leb 3 (length s - at) l, ← m, f)

  pub cached_short : {n : ℕ} → length s - at < 3 → n ≡ head_cut (length s - at) → Short (at + n) ≡ cached_fit s at bad
  unfolding cached_fit
  cached_short l e = rw (lt-leb 3 (length s - at) l, e)

  module _ (flags : ℕ) {f : Fit} where
    pub picture_icon : (bit_and flags flag_icon ≡ 0 → ⊥) → f ≡ icon_fit s at bad → f ≡ picture_fit flags s at bad
    unfolding picture_fit
    picture_icon h e = rw (ne_eqb (bit_and flags flag_icon) 0 h) e

    pub picture_cached : bit_and flags flag_icon ≡ 0 → (bit_and flags flag_cached_icon ≡ 0 → ⊥) → f ≡ cached_fit s at bad → f ≡ picture_fit flags s at bad
    unfolding picture_fit
    picture_cached g h e = rw (eq-eqb (bit_and flags flag_icon) 0 g, ne_eqb (bit_and flags flag_cached_icon) 0 h) e

  pub picture_none : (flags : ℕ) → bit_and flags flag_icon ≡ 0 → bit_and flags flag_cached_icon ≡ 0 → Ends at bad ≡ picture_fit flags s at bad
  unfolding picture_fit
  picture_none flags g h = rw (eq-eqb (bit_and flags flag_icon) 0 g, eq-eqb (bit_and flags flag_cached_icon) 0 h)

-- ---- what fills the order

-- one that ends past the order does not end with it
filled : (n end bad cut : ℕ) (t : Bool) → leb end n ≡ t → both (eqb end n) (eqb bad 0) ≡ ends_good n (pick t (Ends end bad) (Short cut))
filled n end bad cut true e = refl
filled n end bad cut false e = let h : end ≡ n → ⊥ = λ x. omega (arith, x, leb-false end n e) in rw (ne_eqb end n h)

module _ (s : List ℕ) (at : ℕ) where
  pub icon_whole_lem : {p : IconParts} {bad : ℕ} → p ≡ parts_of s at → bad ≡ icon_bad s at → both (eqb p.end (length s)) (eqb bad 0) ≡ icon_whole s at
  unfolding icon_whole icon_fit
  icon_whole_lem {p} {bad} e f = rw (← e, ← f) (filled (length s) p.end bad (parts_cut at (length s) p) (leb p.end (length s)) refl)

  cached_tests : at ≤ length s → both (eqb (at + 3) (length s)) (eqb (cached_bad s at) 0) ≡ cached_whole s at
  unfolding cached_whole cached_fit
  cached_tests l = rw room (filled (length s) (at + 3) (cached_bad s at) (at + head_cut (length s - at)) (leb (at + 3) (length s)) refl)
    where
      room : leb 3 (length s - at) ≡ leb (at + 3) (length s)
      room = go (leb (at + 3) (length s)) refl
        where
          go : (t : Bool) → leb (at + 3) (length s) ≡ t → leb 3 (length s - at) ≡ t
          go true e = le-leb 3 (length s - at) (omega (arith, leb-true (at + 3) (length s) e))
          go false e = lt-leb 3 (length s - at) (omega (arith, leb-false (at + 3) (length s) e))

  pub cached_over : at ≤ length s → (at + 3 ≡ length s → ⊥) → false ≡ cached_whole s at
  cached_over l n = rw (ne_eqb (at + 3) (length s) n) at (cached_tests l)

  pub cached_whole_lem : {bad : ℕ} → at ≤ length s → at + 3 ≡ length s → bad ≡ cached_bad s at → eqb bad 0 ≡ cached_whole s at
  cached_whole_lem l e f = rw f (rw (eq-eqb (at + 3) (length s) e) at (cached_tests l))

-- ---- every offset lies within the order

numbers_within : (at last n : ℕ) (a b c d e f : Bool) → at + 6 ≤ n → last ≤ n
    → pick (not a) at (pick (not b) (at + 2) (pick (not c) (at + 3) (pick (not d) (at + 4) (pick (not e) (at + 6) (pick (not f) last 0))))) ≤ n
numbers_within at last n false b c d e f h l = omega arith
numbers_within at last n true false c d e f h l = omega arith
numbers_within at last n true true false d e f h l = omega arith
numbers_within at last n true true true false e f h l = omega arith
numbers_within at last n true true true true false f h l = omega arith
numbers_within at last n true true true true true false h l = l
numbers_within at last n true true true true true true h l = omega arith

module _ (s : List ℕ) (at bad : ℕ) (in-at : at ≤ length s) (in-bad : bad ≤ length s) where
  bad_in_icon : (parts_of s at).end ≤ length s → icon_bad s at ≤ length s
  unfolding icon_bad
  bad_in_icon h =
      let p = parts_of s at in
      let w = laid s at in
      numbers_within at (p.mask - 2) (length s) (entry_ok (num_at 2 s at) (num_at 1 s (at + 2))) (cache_ok (num_at 1 s (at + 2))) (bits_ok (num_at 1 s (at + 3)))
      (side_ok (num_at 2 s (at + 4))) (side_ok (num_at 2 s (at + 6))) (leb (p.end - p.mask) 4224) (omega arith) (omega arith)

  icon_within : Within (icon_fit s at bad) (length s)
  unfolding icon_fit
  icon_within = go (leb (parts_of s at).end (length s)) refl
    where
      go : (b : Bool) → leb (parts_of s at).end (length s) ≡ b
          → Within (pick b (Ends (parts_of s at).end (first_bad bad (icon_bad s at))) (Short (parts_cut at (length s) (parts_of s at)))) (length s)
      go true e = let h = leb-true (parts_of s at).end (length s) e in (h, bad_within bad (icon_bad s at) (length s) in-bad (bad_in_icon h))
      go false e = cut_within at (length s) (parts_of s at) in-at

  cached_within : Within (cached_fit s at bad) (length s)
  unfolding cached_fit cached_bad
  cached_within = go (leb 3 (length s - at)) (leb (num_at 2 s at) 5) (leb (num_at 1 s (at + 2)) 1) refl
    where
      numbers : (b c : Bool) → 3 ≤ length s - at → pick (not b) at (pick (not c) (at + 2) 0) ≤ length s
      numbers false c h = in-at
      numbers true false h = omega arith
      numbers true true h = omega arith

      go : (a b c : Bool) → leb 3 (length s - at) ≡ a
          → Within (pick a (Ends (at + 3) (first_bad bad (pick (not b) at (pick (not c) (at + 2) 0)))) (Short (at + head_cut (length s - at)))) (length s)
      go true b c e =
          let h = leb-true 3 (length s - at) e in
          (omega arith, bad_within bad (pick (not b) at (pick (not c) (at + 2) 0)) (length s) in-bad (numbers b c h))
      go false b c e = omega (arith, head_within (length s - at))

  pub picture_within : (flags : ℕ) → Within (picture_fit flags s at bad) (length s)
  unfolding picture_fit
  picture_within flags = go (has flags flag_icon) (has flags flag_cached_icon)
    where
      go : (b c : Bool) → Within (pick b (icon_fit s at bad) (pick c (cached_fit s at bad) (Ends at bad))) (length s)
      go true c = icon_within
      go false true = cached_within
      go false false = (in-at, in-bad)
