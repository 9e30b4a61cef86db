-- Window orders without icon and cell beside each other on a table. The only facts of `number` and `change_record` that are used
-- stand here. Assumes nothing.
use Prim.Native.Nat.{ℕ, ◌+◌, ◌≤◌}
use mathlib.Core.Path.{◌≡◌, refl, sym, ap, ◌∙◌}
use mathlib.Core.Bool.{Bool, true, false, not}
use mathlib.Core.List.{List, []}
use mathlib.Core.Option.{none}
use native.Mathlib.Omega.{arith}
use lib.Dec.{eqb, leb}
use borrow.Author.Tests.{eqb-true, ne_eqb, not-true}
use Rattle.std.specs.Prelude.{Ok, Err}
use Rattle.wire.specs.Tests.{pick, both, either, has}
use Rattle.wire.proofs.Tests.{both_left, both_right, never}
use Rattle.order.specs.declared.WindowOrder.{WindowOrder}
use Rattle.order.specs.declared.Order.TheVariants.{Window, Notification, Desktop}
use Rattle.order.specs.Judge.{Judged, flags_of, judge_of}
use Rattle.order.proofs.Accepted.{a_window}
use Rattle.places.specs.declared.Family.{Family}
use Rattle.places.specs.declared.Family.TheVariants.{Windows, Notifications}
use Rattle.places.specs.Sharing.{is_one, drop_all}
use Rattle.places.specs.Holder.{Holder, icon, same_holder, icons_of}
use Rattle.slots.specs.Families.{capacity, same_record}
use Rattle.index.specs.Orders.{on_judged, is_new, is_delete, brings_icon, brings_cached, clears_overlay, which_of}
use Rattle.index.specs.Index as index
use Rattle.index.proofs.After.{same_index}
use Rattle.index.proofs.Ordered.{deleted_old, window_order}
use Rattle.body.specs.Bodies.{window_fields, set_flagged, empty_fields}
use Rattle.table.specs.Table.{Table, number, record_fields, fields_after, shown_after, change_record, change_desktop, after}
use Rattle.table.proofs.Joined.{same_table}
use Rattle.protocol.specs.Flags.{flag_icon, flag_cached_icon}
use Rattle.side_by_side.specs.SideBySide.{edits, PlacesCount, Counts}
use Rattle.side_by_side.proofs.Commute.{Apart, first_number_lem, second_number, same_end, keyed_number, edit, edit_other, edits_commute, none_swap, count_by, count_next, counts_commute}
use Rattle.side_by_side.proofs.Drops.{gone_of, gone_apart, all_commute}

-- ---- fact 1: the number of a window order without icon and cell depends on whether its window is listed and on the count alone

pub record Plain (id : ℕ) (o : WindowOrder) : Type 0 where
  pub names : o.window.id ≡ id
  pub no_icon : brings_icon o.flags ≡ false
  pub no_cell : brings_cached o.flags ≡ false

pub plain_has : (id : ℕ) (o : WindowOrder) → edits id (Ok (Window o)) ≡ true → Plain id o
plain_has id o e =
    let a = eqb o.window.id id in
    let b = not (has o.flags flag_icon) in
    let c = not (has o.flags flag_cached_icon) in
    let ab : both a b ≡ true = both_left (both a b) c e in
    record {
      names = eqb-true o.window.id id (both_left a b ab);
      no_icon = not-true (has o.flags flag_icon) (both_right a b ab);
      no_cell = not-true (has o.flags flag_cached_icon) (both_right (both a b) c e);
    }

abbrev pub verdict : Bool → Bool → Bool → ℕ
verdict fresh listed full = pick (pick fresh listed (not listed)) 9 (pick (both fresh full) 10 0)

abbrev pub number_for : Table → List ℕ → Judged → ℕ
number_for t s j = on_judged j (index.record_number t.index s) (λ flags. 0) (λ number. number)

abbrev pub listed_in : Table → ℕ → Bool
listed_in t id = t.index.listed Windows id 0

abbrev pub many_in : Table → ℕ
many_in t = t.index.many Windows

pub window_number : (t : Table) (s : List ℕ) (id : ℕ) (o : WindowOrder) → Plain id o
    → number_for t s (Ok (Window o)) ≡ verdict (is_new Windows o.flags) (listed_in t id) (leb (capacity Windows) (many_in t))
unfolding index.record_number index.not_there index.no_room index.no_picture index.no_place
window_number t s id o p = rw (p.names, p.no_icon, p.no_cell)

-- ---- facts 2 to 7: what it makes of the index, the fields, what is shown, and the desktop

pub record Key : Type 0 where
  pub family : Family
  pub a : ℕ
  pub b : ℕ

abbrev pub key : Family → ℕ → ℕ → Key
key f a b = record { family = f; a = a; b = b }

abbrev pub same_key : Key → Key → Bool
same_key k j = same_record k.family k.a k.b j.family j.a j.b

-- no record is both windows'
not_both : (p q : ℕ) → (p ≡ q → ⊥) → (g : Family) (x y : ℕ) → both (same_key (key Windows p 0) (key g x y)) (same_key (key Windows q 0) (key g x y)) ≡ false
not_both p q n Notifications x y = refl
not_both p q n Windows x y = go (eqb x p) refl (eqb x q) refl (eqb y 0)
  where
    go : (u : Bool) → eqb x p ≡ u → (v : Bool) → eqb x q ≡ v → (w : Bool) → both (both u w) (both v w) ≡ false
    go true e true f w = absurd (n (sym (eqb-true x p e) ∙ eqb-true x q f))
    go true e false f true = refl
    go true e false f false = refl
    go false e v f w = refl

not_same : (p q : ℕ) → (p ≡ q → ⊥) → same_key (key Windows p 0) (key Windows q 0) ≡ false
not_same p q n = rw (ne_eqb q p (λ z. n (sym z)))

module _ (s : List ℕ) (o : WindowOrder) where
  abbrev pub fresh : Bool
  fresh = is_new Windows o.flags

  abbrev pub deleted : Bool
  deleted = is_delete o.flags

  -- what becomes of the window's record: by the order and that record alone
  abbrev pub listed_by : Bool → Bool
  listed_by v = not deleted

  abbrev pub fields_by : List (List ℕ) → List (List ℕ)
  fields_by v = pick deleted [] (set_flagged window_fields o.flags s 11 (pick fresh (empty_fields window_fields) v))

  abbrev pub at_window_lem : Key
  at_window_lem = key Windows o.window.id 0

  abbrev pub overlay_none : Bool
  overlay_none = clears_overlay o.flags

  -- the holders that let their places go: all of a deleted window, or its overlay icon
  abbrev pub let_go : List Holder
  let_go = gone_of deleted overlay_none o.window.id (which_of o.flags)

  module _ (t : Table) where
    abbrev pub changed : Table
    changed = change_record t s (window_order o)

    abbrev listed_at : Key → Bool
    listed_at k = t.index.listed k.family k.a k.b

    abbrev fields_at : Key → List (List ℕ)
    fields_at k = t.fields k.family k.a k.b

    pub listed_are : (k : Key) → changed.index.listed k.family k.a k.b ≡ edit same_key at_window_lem listed_by listed_at k
    unfolding change_record index.change_record
    listed_are k = go deleted refl
      where
        go : (d : Bool) → deleted ≡ d → changed.index.listed k.family k.a k.b ≡ edit same_key at_window_lem listed_by listed_at k
        go true h = rw h
        go false h = rw h

    pub many_are : changed.index.many Windows ≡ count_by deleted fresh (many_in t)
    unfolding change_record index.change_record
    many_are = go deleted refl
      where
        grow : (f : Bool) → pick (both f true) (many_in t + 1) (many_in t) ≡ pick f (many_in t + 1) (many_in t)
        grow true = refl
        grow false = refl

        go : (d : Bool) → deleted ≡ d → changed.index.many Windows ≡ count_by deleted fresh (many_in t)
        go true h = rw h
        go false h = rw h (grow fresh)

    pub icons_are : changed.index.many Notifications ≡ t.index.many Notifications
    unfolding change_record index.change_record
    icons_are = go deleted refl
      where
        grow : (f : Bool) → pick (both f false) (t.index.many Notifications + 1) (t.index.many Notifications) ≡ t.index.many Notifications
        grow true = refl
        grow false = refl

        go : (d : Bool) → deleted ≡ d → changed.index.many Notifications ≡ t.index.many Notifications
        go true h = rw h
        go false h = rw h (grow fresh)

    pub fields_are : (k : Key) → changed.fields k.family k.a k.b ≡ edit same_key at_window_lem fields_by fields_at k
    unfolding change_record fields_after record_fields
    fields_are k = refl

    pub desktop_is : changed.desktop ≡ t.desktop
    unfolding change_record
    desktop_is = refl

    module _ (no_icon : brings_icon o.flags ≡ false) (no_cell : brings_cached o.flags ≡ false) where
      pub sharing_is : changed.index.sharing ≡ drop_all same_holder let_go t.index.sharing
      unfolding change_record index.change_record index.pictured
      sharing_is = go deleted overlay_none refl refl
        where
          go : (d v : Bool) → deleted ≡ d → overlay_none ≡ v → changed.index.sharing ≡ drop_all same_holder let_go t.index.sharing
          go true v h k = rw h
          go false true h k = rw (h, no_icon, no_cell, k)
          go false false h k = rw (h, no_icon, no_cell, k)

      pub shown_are : (h : Holder) → changed.shown h ≡ pick (is_one same_holder let_go h) none (t.shown h)
      unfolding change_record shown_after
      shown_are h = rw (no_icon, no_cell) (go deleted overlay_none)
        where
          only : (u : Bool) → pick u none (t.shown h) ≡ pick (either u false) none (t.shown h)
          only true = refl
          only false = refl

          go : (d v : Bool)
              → pick d (pick (is_one same_holder (icons_of Windows o.window.id 0) h) none (t.shown h))
              (pick v (pick (same_holder h (icon Windows o.window.id 0 (which_of o.flags))) none (t.shown h)) (t.shown h))
              ≡ pick (is_one same_holder (gone_of d v o.window.id (which_of o.flags)) h) none (t.shown h)
          go true v = refl
          go false true = only (same_holder h (icon Windows o.window.id 0 (which_of o.flags)))
          go false false = refl

-- ---- so changes of two windows commute

module _ (t : Table) (a b : List ℕ) (o r : WindowOrder) (n : o.window.id ≡ r.window.id → ⊥) where
  abbrev with_a : Table → Table
  with_a u = changed a o u

  abbrev with_b : Table → Table
  with_b u = changed b r u

  -- what stands by keys, of which each order edits its own
  keyed_swap : {A : Type 0} (at : Table → Key → A) (f g : A → A) → ((u : Table) (k : Key) → at (with_a u) k ≡ edit same_key (at_window_lem a o) f (at u) k)
      → ((u : Table) (k : Key) → at (with_b u) k ≡ edit same_key (at_window_lem b r) g (at u) k) → (k : Key) → at (with_b (with_a t)) k ≡ at (with_a (with_b t)) k
  keyed_swap {A = A} at f g ea eb k =
      eb (with_a t) k
      ∙ ap (λ (u : Key → A). edit same_key (at_window_lem b r) g u k) (λ i j. ea t j i)
      ∙ edits_commute same_key (at_window_lem a o) (at_window_lem b r) f g (at t) (not_same o.window.id r.window.id n) (not_same r.window.id o.window.id (λ z. n (sym z))) k
      (not_both o.window.id r.window.id n k.family k.a k.b)
      ∙ sym (ea (with_b t) k ∙ ap (λ (u : Key → A). edit same_key (at_window_lem a o) f u k) (λ i j. eb t j i))

  many_swap : (deleted a o ≡ true → 1 ≤ many_in t) → (deleted b r ≡ true → 1 ≤ many_in t)
      → (g : Family) → (with_b (with_a t)).index.many g ≡ (with_a (with_b t)).index.many g
  many_swap f g Windows =
      many_are b r (with_a t)
      ∙ ap (count_by (deleted b r) (fresh b r)) (many_are a o t)
      ∙ counts_commute (many_in t) (deleted a o) (fresh a o) (deleted b r) (fresh b r) f g
      ∙ sym (many_are a o (with_b t) ∙ ap (count_by (deleted a o) (fresh a o)) (many_are b r t))
  many_swap f g Notifications = icons_are b r (with_a t) ∙ icons_are a o t ∙ sym (icons_are a o (with_b t) ∙ icons_are b r t)

  module _ (x y : ℕ) (p : Plain x o) (q : Plain y r) where
    sharing-swap : PlacesCount t → (with_b (with_a t)).index.sharing ≡ (with_a (with_b t)).index.sharing
    sharing-swap f =
        sharing_is b r (with_a t) q.no_icon q.no_cell
        ∙ ap (drop_all same_holder (let_go b r)) (sharing_is a o t p.no_icon p.no_cell)
        ∙ all_commute same_holder (let_go a o) (let_go b r) t.index.sharing f
        (gone_apart o.window.id r.window.id (which_of o.flags) (which_of r.flags) n (deleted a o) (overlay_none a o) (deleted b r) (overlay_none b r))
        ∙ sym (sharing_is a o (with_b t) p.no_icon p.no_cell ∙ ap (drop_all same_holder (let_go a o)) (sharing_is b r t q.no_icon q.no_cell))

    shown-swap : (h : Holder) → (with_b (with_a t)).shown h ≡ (with_a (with_b t)).shown h
    shown-swap h =
        shown_are b r (with_a t) q.no_icon q.no_cell h
        ∙ ap (pick (is_one same_holder (let_go b r) h) none) (shown_are a o t p.no_icon p.no_cell h)
        ∙ none_swap none (is_one same_holder (let_go a o) h) (is_one same_holder (let_go b r) h) (t.shown h)
        ∙ sym (shown_are a o (with_b t) p.no_icon p.no_cell h
        ∙ ap (pick (is_one same_holder (let_go a o) h) none) (shown_are b r t q.no_icon q.no_cell h))

    pub changes_commute : PlacesCount t → (deleted a o ≡ true → 1 ≤ many_in t) → (deleted b r ≡ true → 1 ≤ many_in t) → with_b (with_a t) ≡ with_a (with_b t)
    changes_commute fair f g =
        same_table (with_b (with_a t)) (with_a (with_b t))
        (same_index (with_b (with_a t)).index (with_a (with_b t)).index
        (λ f x y. keyed_swap (λ (u : Table) (k : Key). u.index.listed k.family k.a k.b) (listed_by a o) (listed_by b r) (listed_are a o) (listed_are b r) (key f x y))
        (many_swap f g) (sharing-swap fair))
        (λ f x y. keyed_swap (λ (u : Table) (k : Key). u.fields k.family k.a k.b) (fields_by a o) (fields_by b r) (fields_are a o) (fields_are b r) (key f x y))
        shown-swap
        (desktop_is b r (with_a t) ∙ desktop_is a o t ∙ sym (desktop_is a o (with_b t) ∙ desktop_is b r t))

-- ---- two orders beside each other on a table

-- the change of an accepted order
abbrev pub change_for : Table → List ℕ → Judged → Table
change_for t s j = on_judged j (change_record t s) (change_desktop t s) (λ n. t)

abbrev pub change_by : Table → List ℕ → Table
change_by t s = change_for t s (judge_of s)

-- what is deleted is listed before, so counted
deleted_counts : (t : Table) (s : List ℕ) (id : ℕ) (o : WindowOrder) → judge_of s ≡ Ok (Window o) → Plain id o → Counts t → number_for t s (Ok (Window o)) ≡ 0
    → is_delete o.flags ≡ true → 1 ≤ many_in t
deleted_counts t s id o j p c z d =
    let w = a_window s o j in
    let e : o.flags ≡ flags_of s = ap (λ (x : WindowOrder). x.flags) w.is in
    let h : is_new Windows o.flags ≡ false = deleted_old Windows o.flags (rw e w.whole.agrees) d in
    let v : verdict (is_new Windows o.flags) (listed_in t id) (leb (capacity Windows) (many_in t)) ≡ 0 = sym (window_number t s id o p) ∙ z in
    go (listed_in t id) refl (rw h at v)
  where
    go : (u : Bool) → listed_in t id ≡ u → ◌≡◌ {A = ℕ} (pick (not u) 9 0) 0 → 1 ≤ many_in t
    go true l e = c.windows id l
    go false l e = absurd (omega (arith, e))

module _ (t : Table) (a b : List ℕ) (x y : ℕ) (n : x ≡ y → ⊥) (few : t.index.many Windows ≤ 30) (c : Counts t) where
  -- the number of a window order after another window's change
  beside_number : (s r : List ℕ) (i k : ℕ) (o p : WindowOrder) → (i ≡ k → ⊥) → Plain i o → Plain k p
      → number_for (change_for t r (Ok (Window p))) s (Ok (Window o)) ≡ number_for t s (Ok (Window o))
  beside_number s r i k o p d f g =
      let u = changed r p t in
      let e : listed_in u i ≡ listed_in t i =
      listed_are r p t (key Windows i 0)
      ∙ edit_other same_key (at_window_lem r p) (listed_by r p) (λ (k : Key). t.index.listed k.family k.a k.b) (key Windows i 0)
      (not_same p.window.id i (λ z. d (sym z ∙ g.names))) in
      keyed_number (λ (v : Table). listed_in v i) many_in (capacity Windows) (verdict (is_new Windows o.flags)) (λ (v : Table). number_for v s (Ok (Window o)))
      (λ v. window_number v s i o f) t u e (omega (arith, many_are r p t, count_next (deleted r p) (fresh r p) (many_in t))) (omega (arith, few))

  -- whatever the two are judged to be
  number_on_lem : (s r : List ℕ) (i k : ℕ) (j h : Judged) → (i ≡ k → ⊥) → edits i j ≡ true → edits k h ≡ true
      → number_for (change_for t r h) s j ≡ number_for t s j
  number_on_lem s r i k (Ok (Window o)) (Ok (Window p)) d e f = beside_number s r i k o p d (plain_has i o e) (plain_has k p f)
  number_on_lem s r i k (Ok (Window o)) (Err p) d e f = refl
  number_on_lem s r i k (Ok (Window o)) (Ok (Notification p)) d e f = never f
  number_on_lem s r i k (Ok (Window o)) (Ok (Desktop p)) d e f = never f
  number_on_lem s r i k (Err o) h d e f = refl
  number_on_lem s r i k (Ok (Notification o)) h d e f = never e
  number_on_lem s r i k (Ok (Desktop o)) h d e f = never e

  changes_on : (j h : Judged) → judge_of a ≡ j → judge_of b ≡ h → edits x j ≡ true → edits y h ≡ true → number_for t a j ≡ 0 → number_for t b h ≡ 0
      → change_for (change_for t a j) b h ≡ change_for (change_for t b h) a j
  changes_on (Ok (Window o)) (Ok (Window p)) v w e f za zb =
      let g = plain_has x o e in
      let k = plain_has y p f in
      changes_commute t a b o p (λ z. n (sym g.names ∙ z ∙ k.names)) x y g k c.places (deleted_counts t a x o v g c za) (deleted_counts t b y p w k c zb)
  changes_on (Ok (Window o)) (Err p) v w e f za zb = refl
  changes_on (Ok (Window o)) (Ok (Notification p)) v w e f za zb = never f
  changes_on (Ok (Window o)) (Ok (Desktop p)) v w e f za zb = never f
  changes_on (Err o) h v w e f za zb = refl
  changes_on (Ok (Notification o)) h v w e f za zb = never e
  changes_on (Ok (Desktop o)) h v w e f za zb = never e

  pub orders_apart : edits x (judge_of a) ≡ true → edits y (judge_of b) ≡ true → Apart number change_by t a b
  unfolding number index.number_in
  orders_apart e f =
      record {
        first = λ z. number_on_lem a b x y (judge_of a) (judge_of b) n e f;
        second = λ z. number_on_lem b a y x (judge_of b) (judge_of a) (λ v. n (sym v)) f e;
        changes = λ za zb. changes_on (judge_of a) (judge_of b) refl refl e f za zb;
      }

-- ---- numbers and table

-- what holds of two orders on a table, stated without saying how tables change
pub record Swaps (t : Table) (a b : List ℕ) : Type 0 where
  pub first : number (after t b) a ≡ number t a
  pub second : number (after t a) b ≡ number t b
  pub end : after (after t a) b ≡ after (after t b) a

pub apart_swaps : (t : Table) (a b : List ℕ) → Apart number change_by t a b → Swaps t a b
unfolding after
apart_swaps t a b p =
    record {
      first = first_number_lem number change_by t a b p;
      second = second_number number change_by t a b p;
      end = same_end number change_by t a b p;
    }

pub windows_swap : (t : Table) (a b : List ℕ) (x y : ℕ) → (x ≡ y → ⊥) → t.index.many Windows ≤ 30 → Counts t → edits x (judge_of a) ≡ true → edits y (judge_of b) ≡ true
    → Swaps t a b
windows_swap t a b x y n few c e f = apart_swaps t a b (orders_apart t a b x y n few c e f)
