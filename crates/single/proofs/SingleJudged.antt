-- An order that says one thing is judged by four tests: type byte and size, flags, fields that end by the table, a picture that fills the
-- rest. What the four kinds of them say follows. Assumes nothing.
use mathlib.Core.Path.{◌≡◌, refl, sym, ap, subst, ◌∙◌}
use mathlib.Core.Bool.{Bool, true, false}
use mathlib.Core.List.{List}
use Prim.Native.Nat.{ℕ, ◌≤◌}
use native.Mathlib.Omega.{arith}
use lib.Dec.{eqb, leb}
use lib.Bits.{bit_and}
use lib.ListN.{length}
use borrow.Author.Tests.{eqb-true, eq-eqb, leb-true, le-leb}
use Rattle.std.specs.Prelude.{Ok}
use Rattle.wire.specs.Tests.{both, either}
use Rattle.wire.specs.Numbers.{num_at}
use Rattle.wire.proofs.Tests.{both_left, both_right, never}
use Rattle.rows.specs.declared.Row.{Row}
use Rattle.rows.specs.declared.Fit.{Fit}
use Rattle.rows.specs.declared.Fit.TheVariants.{Ends, Short}
use Rattle.rows.specs.Rows.{window_rows, walk_of}
use Rattle.rows.specs.Ends.{ends_of}
use Rattle.rows.proofs.Absent.{bare_ends}
use Rattle.rows.proofs.Ended.{ends_on}
use Rattle.rows.proofs.RowsCarried.{walk_ends}
use Rattle.order.specs.declared.Order.TheVariants.{Desktop}
use Rattle.order.specs.Flags.{is_window, one_type, closed, clash}
use Rattle.order.specs.Icons.{picture_fit, ends_good, picture_whole}
use Rattle.order.specs.Judge.{number_of, flags_of, kind_rows, fields_fit, order_of, judge_of}
use Rattle.order.proofs.Accepted.{Accepted, accepted}
use Rattle.order.proofs.Verdicts.{end_good, rows_end, fit_ended, flags_good, framed}
use Rattle.single.specs.Single.{delete_flags, cached_flags, cached_big_flags, icon_flags, icon_big_flags, list_flags, window_of, BringsCached, BringsIcon, framed_to, good_with}

-- what fits ends at n, with nothing at fault
good_end : (n : ℕ) (f : Fit) → ends_good n f ≡ true → Ends n 0 ≡ f
good_end n (Ends end first) e =
    let a : n ≡ end = sym (eqb-true end n (both_left (eqb end n) (eqb first 0) e)) in
    let b : 0 ≡ first = sym (eqb-true first 0 (both_right (eqb end n) (eqb first 0) e)) in
    rw (a, b)
good_end n (Short cut) e = never e

end_is_good : (n : ℕ) (f : Fit) → f ≡ Ends n 0 → ends_good n f ≡ true
end_is_good n f e = rw (e, eq-eqb n n refl)

-- what the first test says
pub record Framed (s : List ℕ) (end : ℕ) : Type 0 where
  pub type : num_at 1 s 0 ≡ 0x2E
  pub size : num_at 2 s 1 ≡ length s
  pub within : end ≤ length s

pub frame_says : (s : List ℕ) (end : ℕ) → framed_to s end ≡ true → Framed s end
unfolding framed_to
frame_says s end e =
    let a = eqb (num_at 1 s 0) 0x2E in
    let b = eqb (num_at 2 s 1) (length s) in
    let c = leb end (length s) in
    let ab = both_left (both a b) c e in
    record {
      type = eqb-true (num_at 1 s 0) 0x2E (both_left a b ab);
      size = eqb-true (num_at 2 s 1) (length s) (both_right a b ab);
      within = leb-true end (length s) (both_right (both a b) c e);
    }

-- ---- an order with these flags

-- where its fields end by the table
abbrev pub fields_end : ℕ → List ℕ → ℕ
fields_end flags s = ends_of (kind_rows flags) flags s 7

-- the flags of a window's fields
abbrev pub field_flags : ℕ
field_flags = 0x08CFDFDF

-- no line refuses the flags
pub record Passing (flags : ℕ) : Type 0 where
  pub one : one_type flags ≡ true
  pub listed : closed flags ≡ true
  pub clean : clash flags ≡ false

module _ (flags : ℕ) (s : List ℕ) where
  -- the tests hold
  pub judged_whole : Passing flags → length s ≤ 65535
      → framed_to s (fields_end flags s) ≡ true → num_at 4 s 3 ≡ flags → picture_whole flags s (fields_end flags s) ≡ true → judge_of s ≡ order_of flags s (fields_end flags s)
  unfolding picture_whole
  judged_whole passing small frame word whole =
      let end = fields_end flags s in
      let f = frame_says s end frame in
      let long : 7 ≤ length s = omega (arith, ends_on (kind_rows flags) flags s 7, f.within) in
      sym
      (framed s long (sym f.size) refl (sym word)
      (flags_good flags s (sym f.type) refl (sym passing.one) refl (sym passing.listed) refl (sym passing.clean) refl
      (rows_end (kind_rows flags) flags s (fit_ended (kind_rows flags) flags s small refl f.within) refl
      (end_good flags s end 0 (good_end (length s) (picture_fit flags s end 0) whole) refl refl refl refl))))

  -- the other way: where the order is good, the tests hold
  pub record Good : Type 0 where
    pub frame : framed_to s (fields_end flags s) ≡ true
    pub word : num_at 4 s 3 ≡ flags
    pub whole : picture_whole flags s (fields_end flags s) ≡ true
    pub order : judge_of s ≡ order_of flags s (fields_end flags s)

  good_by : Accepted s → flags_of s ≡ flags → Good
  unfolding flags_of fields_fit framed_to picture_whole
  good_by w word =
      let fields : walk_of (kind_rows flags) flags s 7 0 ≡ Ends w.icon 0 = sym (ap (λ (f : ℕ). fields_fit f s) word) ∙ w.fields in
      let picture : picture_fit flags s w.icon 0 ≡ Ends (length s) 0 = sym (ap (λ (f : ℕ). picture_fit f s w.icon 0) word) ∙ w.picture in
      let order : judge_of s ≡ order_of flags s w.icon = w.order ∙ ap (λ (f : ℕ). order_of f s w.icon) word in
      let e = walk_ends (kind_rows flags) flags s 7 w.icon (omega arith) w.long fields in
      let end : fields_end flags s ≡ w.icon = e.0 in
      let within : fields_end flags s ≤ length s = omega (arith, end, e.1) in
      record {
        frame = rw (eq-eqb (num_at 1 s 0) 0x2E w.begins, eq-eqb (num_at 2 s 1) (length s) w.sized, le-leb (fields_end flags s) (length s) within);
        word = word;
        whole = end_is_good (length s) (picture_fit flags s (fields_end flags s) 0) (ap (λ (n : ℕ). picture_fit flags s n 0) end ∙ picture);
        order = order ∙ ap (order_of flags s) (sym end);
      }

  pub good : good_with flags s ≡ true → Good
  unfolding good_with flags_of
  good e =
      let word = eqb (num_at 4 s 3) flags in
      let number = eqb (number_of (judge_of s)) 0 in
      good_by (accepted s (eqb-true (number_of (judge_of s)) 0 (both_right word number e))) (eqb-true (num_at 4 s 3) flags (both_left word number e))

  -- a window's order that carries no field: its id alone
  pub id_alone : is_window flags ≡ true → bit_and flags field_flags ≡ 0 → fields_end flags s ≡ 11
  id_alone window none = let rows : kind_rows flags ≡ window_rows = rw window in ap (λ (rs : List Row). ends_of rs flags s 7) rows ∙ sym (bare_ends flags s none)

  bare_judged : is_window flags ≡ true → bit_and flags field_flags ≡ 0 → good_with flags s ≡ true → judge_of s ≡ window_of flags s
  unfolding order_of
  bare_judged window none e = (good e).order ∙ ap (order_of flags s) (id_alone window none) ∙ rw window

-- ---- the four

module _ (s : List ℕ) where
  -- what holds of an order with either flags, by its flags
  of_two : (P : ℕ → Type 0) (a b : ℕ) → (good_with a s ≡ true → P a) → (good_with b s ≡ true → P b) → either (good_with a s) (good_with b s) ≡ true → P (num_at 4 s 3)
  of_two P a b f g e = go (good_with a s) (good_with b s) refl refl e
    where
      go : (t u : Bool) → good_with a s ≡ t → good_with b s ≡ u → either t u ≡ true → P (num_at 4 s 3)
      go true u x y e = subst P (sym (good a s x).word) (f x)
      go false true x y e = subst P (sym (good b s y).word) (g y)
      go false false x y e = never e

  pub delete_judged : good_with delete_flags s ≡ true → judge_of s ≡ window_of delete_flags s
  delete_judged e = bare_judged delete_flags s refl refl e

  pub cached_judged : either (good_with cached_flags s) (good_with cached_big_flags s) ≡ true → (judge_of s ≡ window_of (num_at 4 s 3) s) × BringsCached (num_at 4 s 3)
  cached_judged e =
      of_two (λ (flags : ℕ). (judge_of s ≡ window_of flags s) × BringsCached flags) cached_flags cached_big_flags
      (λ x. (bare_judged cached_flags s refl refl x, record { icon = refl; cached = λ z. omega (arith, z); deleted = refl; new = refl }))
      (λ x. (bare_judged cached_big_flags s refl refl x, record { icon = refl; cached = λ z. omega (arith, z); deleted = refl; new = refl })) e

  pub icon_judged : either (good_with icon_flags s) (good_with icon_big_flags s) ≡ true → (judge_of s ≡ window_of (num_at 4 s 3) s) × BringsIcon (num_at 4 s 3)
  icon_judged e =
      of_two (λ (flags : ℕ). (judge_of s ≡ window_of flags s) × BringsIcon flags) icon_flags icon_big_flags
      (λ x. (bare_judged icon_flags s refl refl x, record { icon = λ z. omega (arith, z); cached = refl; deleted = refl; new = refl; overlay = refl }))
      (λ x. (bare_judged icon_big_flags s refl refl x, record { icon = λ z. omega (arith, z); cached = refl; deleted = refl; new = refl; overlay = refl })) e

  pub list_judged : good_with list_flags s ≡ true → judge_of s ≡ Ok (Desktop (record { flags = list_flags }))
  unfolding order_of
  list_judged e = (good list_flags s e).order
