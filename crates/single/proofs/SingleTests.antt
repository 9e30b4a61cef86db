-- The tests of an order that says one thing, as the functions make them: one law for each way out. Assumes nothing.
use mathlib.Core.Path.{◌≡◌, refl, sym, ap, ◌∙◌}
use mathlib.Core.Bool.{Bool, true, false, not}
use mathlib.Core.List.{List}
use Prim.Native.Nat.{ℕ, ◌≤◌}
use native.Mathlib.Omega.{arith}
use lib.Dec.{eqb, leb}
use lib.Bits.{bit_and}
use lib.ListN.{length}
use borrow.Author.Tests.{eqb-true, eqb-false, eq-eqb, not-true, not-false}
use Rattle.std.specs.Prelude.{Ok}
use Rattle.wire.specs.Tests.{pick, both, either}
use Rattle.wire.specs.Numbers.{num_at}
use Rattle.wire.proofs.Tests.{both_left, both_right, never, same_test, both_true}
use Rattle.protocol.specs.Flags.{flag_cached_icon, flag_icon}
use Rattle.order.specs.declared.Order.TheVariants.{Window, Notification, Desktop}
use Rattle.order.specs.Flags.{is_window, is_notification}
use Rattle.order.specs.Icons.{picture_fit, icon_whole, cached_whole, picture_whole}
use Rattle.order.specs.Judge.{number_of, order_of}
use Rattle.order.proofs.Pictures.{picture_none, cached_over}
use Rattle.single.specs.Single.{delete_flags, cached_flags, cached_big_flags, icon_flags, icon_big_flags, framed_to, good_with}
use Rattle.single.proofs.SingleJudged.{frame_says, fields_end, field_flags, Passing, judged_whole, good, id_alone}

-- ---- booleans

not_so : {b : Bool} → (b ≡ true → ⊥) → false ≡ b
not_so {b} n = same_test false b never (λ e. absurd (n e))

-- ---- the first test

module _ (s : List ℕ) where
  pub frame_seen : {a b : ℕ} (end : ℕ) → a ≡ num_at 1 s 0 → b ≡ num_at 2 s 1 → b ≤ 65535
      → (both (both (eqb a 0x2E) (eqb b (length s))) (leb end (length s)) ≡ framed_to s end)
      × (both (both (eqb a 0x2E) (eqb b (length s))) (leb end (length s)) ≡ true → length s ≤ 65535)
  unfolding framed_to
  frame_seen {a} {b} end e f l =
      (rw (e, f), λ h. let z : b ≡ length s = eqb-true b (length s) (both_right (eqb a 0x2E) (eqb b (length s)) (both_left (both (eqb a 0x2E) (eqb b (length s))) (leb end (length s)) h)) in omega (arith, z))

  pub frame_within : {t : Bool} (end : ℕ) → t ≡ framed_to s end → not t ≡ false → end ≤ length s
  frame_within {t} end e f = (frame_says s end (sym e ∙ not-false t f)).within

-- ---- all of them

module _ (flags : ℕ) (s : List ℕ) where
  good_number : (icon : ℕ) → number_of (order_of flags s icon) ≡ 0
  unfolding order_of
  good_number icon = go (is_window flags) (is_notification flags)
    where
      go : (a b : Bool)
          → number_of
          (pick a (Ok (Window (record { window = record { id = num_at 4 s 7 }; flags = flags; icon = icon })))
          (pick b (Ok (Notification (record { window = record { id = num_at 4 s 7 }; notify = record { id = num_at 4 s 11 }; flags = flags; icon = icon })))
          (Ok (Desktop (record { flags = flags }))))) ≡ 0
      go true b = refl
      go false true = refl
      go false false = refl

  pub other_flags : {w : ℕ} → w ≡ num_at 4 s 3 → (w ≡ flags → ⊥) → false ≡ good_with flags s
  other_flags e n = not_so (λ g. n (e ∙ (good flags s g).word))

  module _ {t : Bool} {p : ℕ} (end : p ≡ fields_end flags s) where
    pub unframed : t ≡ framed_to s p → t ≡ false → false ≡ good_with flags s
    unframed f n = not_so (λ g. never (sym n ∙ f ∙ ap (framed_to s) end ∙ (good flags s g).frame))

    -- the tests are whether the order is good
    pub tests_are : {w : ℕ} {x : Bool} → Passing flags → t ≡ framed_to s p → (t ≡ true → length s ≤ 65535)
        → w ≡ num_at 4 s 3 → x ≡ picture_whole flags s p → both (both t (eqb w flags)) x ≡ good_with flags s
    unfolding good_with
    tests_are {w} {x} passing frame small word whole = same_test (both (both t (eqb w flags)) x) (good_with flags s) there back
      where
        there : both (both t (eqb w flags)) x ≡ true → good_with flags s ≡ true
        there e =
            let h = both_left (both t (eqb w flags)) x e in
            let f = both_left t (eqb w flags) h in
            let v : num_at 4 s 3 ≡ flags = sym word ∙ eqb-true w flags (both_right t (eqb w flags) h) in
            let j =
            judged_whole flags s passing (small f) (ap (framed_to s) (sym end) ∙ sym frame ∙ f) v
            (ap (picture_whole flags s) (sym end) ∙ sym whole ∙ both_right (both t (eqb w flags)) x e) in
            rw (eq-eqb (num_at 4 s 3) flags v, j, good_number (fields_end flags s))

        back : good_with flags s ≡ true → both (both t (eqb w flags)) x ≡ true
        back e =
            let g = good flags s e in
            let f : t ≡ true = frame ∙ ap (framed_to s) end ∙ g.frame in
            let y : x ≡ true = whole ∙ ap (picture_whole flags s) end ∙ g.whole in
            rw (f, eq-eqb w flags (word ∙ g.word), y)

  -- ---- flags that name no picture: the order ends where its fields do

  module _ (none : bit_and flags flag_icon ≡ 0) (nor : bit_and flags flag_cached_icon ≡ 0) where
    no_picture_lem : (at : ℕ) → picture_whole flags s at ≡ eqb at (length s)
    unfolding picture_whole
    no_picture_lem at = rw (← picture_none s at 0 flags none nor) (both_true (eqb at (length s)))

    module _ {p : ℕ} (end : p ≡ fields_end flags s) where
      pub other_end : (p ≡ length s → ⊥) → false ≡ good_with flags s
      other_end n = not_so (λ g. n (end ∙ eqb-true (fields_end flags s) (length s) (sym (no_picture_lem (fields_end flags s)) ∙ (good flags s g).whole)))

      pub ended : {t : Bool} {w : ℕ} → Passing flags → p ≡ length s
          → t ≡ framed_to s p → (t ≡ true → length s ≤ 65535) → w ≡ num_at 4 s 3 → both t (eqb w flags) ≡ good_with flags s
      ended {t} {w} passing q frame small word =
          let whole : true ≡ picture_whole flags s p = sym (no_picture_lem p ∙ eq-eqb p (length s) q) in
          sym (both_true (both t (eqb w flags))) ∙ tests_are end passing frame small word whole

      pub ended_with : {t : Bool} {w : ℕ} → Passing flags → p ≡ length s → t ≡ framed_to s p → (t ≡ true → length s ≤ 65535) → w ≡ num_at 4 s 3 → w ≡ flags → t ≡ good_with flags s
      ended_with {t} {w} passing q frame small word is =
          let e : both t (eqb w flags) ≡ t = rw (eq-eqb w flags is) (both_true t) in
          sym e ∙ ended passing q frame small word

-- ---- a picture of a window, small or big, after the id

-- flags of a window's order that carries no field
pub record Bare (flags : ℕ) : Type 0 where
  pub passing : Passing flags
  pub window : is_window flags ≡ true
  pub none : bit_and flags field_flags ≡ 0

-- its fields end behind the id
pub bare_end : (flags : ℕ) (s : List ℕ) → Bare flags → 11 ≡ fields_end flags s
bare_end flags s bare = sym (id_alone flags s bare.window bare.none)

module _ (small big : ℕ) (s : List ℕ) {w : ℕ} (word : w ≡ num_at 4 s 3) where
  pub neither_flags : both (not (eqb w small)) (not (eqb w big)) ≡ true → false ≡ either (good_with small s) (good_with big s)
  neither_flags e =
      let a : eqb w small ≡ false = not-true (eqb w small) (both_left (not (eqb w small)) (not (eqb w big)) e) in
      let b : eqb w big ≡ false = not-true (eqb w big) (both_right (not (eqb w small)) (not (eqb w big)) e) in
      rw (← other_flags small s word (eqb-false w small a), ← other_flags big s word (eqb-false w big b))

  module _ (bare : Bare small) (bare-big : Bare big) {t : Bool} (frame : t ≡ framed_to s 11) where
    pub neither_framed : not t ≡ true → false ≡ either (good_with small s) (good_with big s)
    neither_framed n =
        let f = not-true t n in
        rw (← unframed small s (bare_end small s bare) frame f, ← unframed big s (bare_end big s bare-big) frame f)

    pub either_whole : {x : Bool} → (t ≡ true → length s ≤ 65535) → not t ≡ false → both (not (eqb w small)) (not (eqb w big)) ≡ false
        → x ≡ picture_whole small s 11 → x ≡ picture_whole big s 11 → x ≡ either (good_with small s) (good_with big s)
    either_whole {x} short e f a b =
        rw (
          ← tests_are small s (bare_end small s bare) bare.passing frame short word a,
          ← tests_are big s (bare_end big s bare-big) bare-big.passing frame short word b,
          not-false t e,
        )
        (go (eqb w small) (eqb w big) x f)
      where
        go : (a b x : Bool) → both (not a) (not b) ≡ false → x ≡ either (both a x) (both b x)
        go true b true f = refl
        go true true false f = refl
        go true false false f = refl
        go false true x f = refl
        go false false x f = never (sym f)

pub bare_cached : Bare cached_flags
bare_cached = record { passing = record { one = refl; listed = refl; clean = refl }; window = refl; none = refl }

pub bare_cached_big : Bare cached_big_flags
bare_cached_big = record { passing = record { one = refl; listed = refl; clean = refl }; window = refl; none = refl }

pub bare_icon : Bare icon_flags
bare_icon = record { passing = record { one = refl; listed = refl; clean = refl }; window = refl; none = refl }

pub bare_icon_big : Bare icon_big_flags
bare_icon_big = record { passing = record { one = refl; listed = refl; clean = refl }; window = refl; none = refl }

pub bare_delete : Bare delete_flags
bare_delete = record { passing = record { one = refl; listed = refl; clean = refl }; window = refl; none = refl }

module _ (s : List ℕ) where
  pub cached_named : {x : Bool} → x ≡ cached_whole s 11 → (x ≡ picture_whole cached_flags s 11) × (x ≡ picture_whole cached_big_flags s 11)
  unfolding picture_whole cached_whole picture_fit
  cached_named e = (e, e)

  pub icon_named : {x : Bool} → x ≡ icon_whole s 11 → (x ≡ picture_whole icon_flags s 11) × (x ≡ picture_whole icon_big_flags s 11)
  unfolding picture_whole icon_whole picture_fit
  icon_named e = (e, e)

  -- an order that brings a cached icon has one length
  other_cached : (flags : ℕ) → Bare flags → cached_whole s 11 ≡ picture_whole flags s 11 → (14 ≡ length s → ⊥) → false ≡ good_with flags s
  other_cached flags bare named n =
      not_so
      (λ e. let g = good flags s e in
      let end = bare_end flags s bare in
      let l = (frame_says s 11 (ap (framed_to s) end ∙ g.frame)).within in
      never (cached_over s 11 l n ∙ named ∙ ap (picture_whole flags s) end ∙ g.whole))

  pub neither_cached : (14 ≡ length s → ⊥) → false ≡ either (good_with cached_flags s) (good_with cached_big_flags s)
  neither_cached n =
      let named = cached_named refl in
      rw (← other_cached cached_flags bare_cached named.0 n, ← other_cached cached_big_flags bare_cached_big named.1 n)
