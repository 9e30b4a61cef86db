-- As many windows are listed as the count says, and sharing is fair, in every table that a memory describes. Assumes nothing.
use Prim.Native.Nat.{ℕ, zero, suc, ◌+◌, ◌-◌, ◌≤◌, ◌<◌}
use mathlib.Core.Path.{◌≡◌, refl, sym, ap, subst, ◌∙◌}
use mathlib.Core.Bool.{Bool, true, false, not}
use mathlib.Core.List.{List, [], ◌∷◌}
use native.Mathlib.Omega.{arith}
use lib.Dec.{eqb}
use borrow.Author.Tests.{eqb-true, eqb-false, eq-eqb}
use Rattle.std.specs.Prelude.{Ok, Err, Option, Some, None}
use Rattle.wire.specs.Tests.{pick, both, either, has}
use Rattle.order.specs.declared.WindowOrder.{WindowOrder}
use Rattle.order.specs.declared.NotificationOrder.{NotificationOrder}
use Rattle.order.specs.declared.Order.TheVariants.{Window, Notification, Desktop}
use Rattle.order.specs.Judge.{Judged, flags_of, judge_of}
use Rattle.order.proofs.Accepted.{a_window}
use Rattle.protocol.specs.Flags.{desktop_none}
use Rattle.places.specs.declared.Family.TheVariants.{Windows, Notifications}
use Rattle.places.specs.Counts.{count_below, first_from, on_found}
use Rattle.places.proofs.Counting.{found, none_passes}
use Rattle.places.proofs.Pointers.{eqb_sym}
use Rattle.slots.specs.Slots.{first_id, second_id, is_used, is_at}
use Rattle.slots.proofs.Soundness.{Within, at_is, at_free, used_has, slot_own, Sound, sound_has, one_slot}
use Rattle.index.specs.Orders.{on_judged, is_new, is_delete}
use Rattle.index.specs.Index.{Index, not_there, no_room, no_picture, no_place, record_number, number_in, change_record, change_desktop, index_after}
use Rattle.index.specs.Memory.{index_of}
use Rattle.index.proofs.Ordered.{deleted_old, window_order, notification_order}
use Rattle.table.specs.Table.{Table, after}
use Rattle.table.specs.Memory.{decode}
use Rattle.table.specs.Promises.{IndexAlone}
use Rattle.table.proofs.Decoded.{index_alone}
use Rattle.table.proofs.Rule.{table_has}
use Rattle.store.specs.Store.{places_in}
use Rattle.journal.specs.State.{State, run, present}
use Rattle.journal.specs.Journal.{log_of}
use Rattle.journal.specs.View.{formed}
use Rattle.journal.proofs.Logged.{marked_in, formed_logged, logged_view}
use Rattle.model.specs.Wellformed.{OnlyMeets}
use Rattle.model.proofs.Wellformed.{only_meets}
use Rattle.side_by_side.specs.SideBySide.{Fair, Counts, DescribedCounts}
use Rattle.side_by_side.proofs.Fairness.{order_fair, memory_fair}
use Rattle.wire.proofs.Tests.{never, not_not}

-- ---- n numbers have the mark f

pub data Counted : (ℕ → Bool) → ℕ → Type 0 where
  none : {f : ℕ → Bool} {n : ℕ} → n ≡ 0 → ((x : ℕ) → f x ≡ false) → Counted f n
  one : {f g : ℕ → Bool} {n k : ℕ} (a : ℕ) → n ≡ k + 1 → g a ≡ false → ((x : ℕ) → f x ≡ either (eqb a x) (g x)) → Counted g k → Counted f n

pub counted_as : {f g : ℕ → Bool} {n m : ℕ} → m ≡ n → ((x : ℕ) → g x ≡ f x) → Counted f n → Counted g m
counted_as e s (none z empty) = none (e ∙ z) (λ x. s x ∙ empty x)
counted_as e s (one a more new is c) = one a (e ∙ more) new (λ x. s x ∙ is x) c

pub counted_some : {f : ℕ → Bool} {n : ℕ} (a : ℕ) → f a ≡ true → Counted f n → 1 ≤ n
counted_some a t (none z empty) = never (sym (empty a) ∙ t)
counted_some a t (one b more new is c) = omega (arith, more)

-- the mark taken away from what had it last, and from another
same_gone : (b y : ℕ) (f h : ℕ → Bool) → h b ≡ false → f y ≡ either (eqb b y) (h y) → pick (eqb b y) false (f y) ≡ h y
same_gone b y f h new is = go (eqb b y) refl is
  where
    go : (v : Bool) → eqb b y ≡ v → f y ≡ either v (h y) → pick v false (f y) ≡ h y
    go true x is = sym (ap h (sym (eqb-true b y x)) ∙ new)
    go false x is = is

other_gone : (a b y : ℕ) (f h : Bool) → eqb b a ≡ false → f ≡ either (eqb b y) h → pick (eqb a y) false f ≡ either (eqb b y) (pick (eqb a y) false h)
other_gone a b y f h n is = go (eqb a y) refl (eqb b y) refl is
  where
    go : (v : Bool) → eqb a y ≡ v → (w : Bool) → eqb b y ≡ w → f ≡ either w h → pick v false f ≡ either w (pick v false h)
    go true x true z is = absurd (eqb-false b a n (eqb-true b y z ∙ sym (eqb-true a y x)))
    go true x false z is = refl
    go false x true z is = is
    go false x false z is = is

nowhere : (t : Bool) → pick t false false ≡ false
nowhere true = refl
nowhere false = refl

pub counted_less : {f g : ℕ → Bool} {n m : ℕ} (a : ℕ) → f a ≡ true → m ≡ n - 1 → ((x : ℕ) → g x ≡ pick (eqb a x) false (f x)) → Counted f n → Counted g m
counted_less a t e gone (none z empty) = never (sym (empty a) ∙ t)
counted_less {f = f} {g = g} {n = n} {m = m} a t e gone (one {g = h} {k = k} b more new is c) =
    go (eqb b a) refl (λ i. counted_less {g = λ y. pick (eqb a y) false (h y)} a i refl (λ y. refl) c)
  where
    go : (u : Bool) → eqb b a ≡ u → (h a ≡ true → Counted (λ y. pick (eqb a y) false (h y)) (k - 1)) → Counted g m
    go true x inner =
        let s : b ≡ a = eqb-true b a x in
        counted_as (omega (arith, e, more)) (λ y. gone y ∙ ap (λ (z : ℕ). pick (eqb z y) false (f y)) (sym s) ∙ same_gone b y f h new (is y)) c
    go false x inner =
        let w : f a ≡ h a = is a ∙ rw x in
        let i : h a ≡ true = sym w ∙ t in
        let q : pick (eqb a b) false (h b) ≡ false = rw new (nowhere (eqb a b)) in
        one {n = m} {k = k - 1} b (omega (arith, e, more, counted_some a i c)) q
        (λ y. gone y ∙ other_gone a b y (f y) (h y) x (is y)) (inner i)

-- ---- the windows of an index

abbrev pub Lists : Index → Type 0
Lists d = Counted (λ x. d.listed Windows x 0) (d.many Windows)

-- what an accepted order says of its window
not_nine : (t : Bool) (n : ℕ) → pick t 9 n ≡ 0 → t ≡ false
not_nine false n e = refl
not_nine true n e = absurd (omega (arith, e))

-- the window of an order, by either way of asking
same_id : (x a : ℕ) (r l : Bool) → pick (both (eqb x a) true) r l ≡ pick (eqb a x) r l
same_id x a r l = rw (eqb_sym x a) (go (eqb a x))
  where
    go : (t : Bool) → pick (both t true) r l ≡ pick t r l
    go true = refl
    go false = refl

-- each order keeps it
module _ (d : Index) (l : Lists d) (s : List ℕ) where
  module _ (o : WindowOrder) where
    abbrev a : ℕ
    a = o.window.id

    abbrev listed : Bool
    listed = d.listed Windows a 0

    deleted-lists : is_delete o.flags ≡ true → listed ≡ true → Lists (change_record d s (window_order o))
    unfolding change_record
    deleted-lists h e = rw h (counted_less a e refl (λ x. same_id x a false (d.listed Windows x 0)) l)

    new-lists : is_delete o.flags ≡ false → is_new Windows o.flags ≡ true → listed ≡ false → Lists (change_record d s (window_order o))
    unfolding change_record
    new-lists h n e = rw (h, n) (one a refl e (λ x. same_id x a true (d.listed Windows x 0) ∙ go (eqb a x) (d.listed Windows x 0)) l)
      where
        go : (t l : Bool) → pick t true l ≡ either t l
        go true l = refl
        go false l = refl

    old-lists : is_delete o.flags ≡ false → is_new Windows o.flags ≡ false → listed ≡ true → Lists (change_record d s (window_order o))
    unfolding change_record
    old-lists h n e = rw (h, n) (counted_as refl (λ x. same_id x a true (d.listed Windows x 0) ∙ go x (eqb a x) refl) l)
      where
        go : (x : ℕ) (t : Bool) → eqb a x ≡ t → pick t true (d.listed Windows x 0) ≡ d.listed Windows x 0
        go x true f = sym (ap (λ (z : ℕ). d.listed Windows z 0) (sym (eqb-true a x f)) ∙ e)
        go x false f = refl

    old-if : judge_of s ≡ Ok (Window o) → is_delete o.flags ≡ true → is_new Windows o.flags ≡ false
    old-if j h =
        let w = a_window s o j in
        let e : o.flags ≡ flags_of s = ap (λ (x : WindowOrder). x.flags) w.is in
        deleted_old Windows o.flags (rw e w.whole.agrees) h

    there : record_number d s (window_order o) ≡ 0 → pick (is_new Windows o.flags) listed (not listed) ≡ false
    unfolding record_number not_there
    there z =
        not_nine (pick (is_new Windows o.flags) listed (not listed))
        (pick (no_room d (window_order o)) 10 (pick (no_picture d s (window_order o)) 11 (pick (no_place d s (window_order o)) 17 0))) z

    window-lists : judge_of s ≡ Ok (Window o) → record_number d s (window_order o) ≡ 0 → Lists (change_record d s (window_order o))
    window-lists j z = go (is_new Windows o.flags) refl (is_delete o.flags) refl (there z)
      where
        go : (f : Bool) → is_new Windows o.flags ≡ f → (t : Bool) → is_delete o.flags ≡ t → pick f listed (not listed) ≡ false
            → Lists (change_record d s (window_order o))
        go true f true h z = never (sym (old-if j h) ∙ f)
        go true f false h z = new-lists h f z
        go false f true h z = deleted-lists h (not_not listed z)
        go false f false h z = old-lists h f (not_not listed z)

  icon_lists : (o : NotificationOrder) → Lists (change_record d s (notification_order o))
  unfolding change_record
  icon_lists o = go (is_delete o.flags) refl
    where
      none-new : (f : Bool) → pick (both f false) (d.many Windows + 1) (d.many Windows) ≡ d.many Windows
      none-new true = refl
      none-new false = refl

      go : (t : Bool) → is_delete o.flags ≡ t → Lists (change_record d s (notification_order o))
      go true h = rw h l
      go false h = rw h (counted_as (none-new (is_new Notifications o.flags)) (λ x. refl) l)

  desktop_lists : (flags : ℕ) → Lists (change_desktop d flags)
  unfolding change_desktop
  desktop_lists flags = go (has flags desktop_none) refl
    where
      go : (t : Bool) → has flags desktop_none ≡ t → Lists (change_desktop d flags)
      go true h = rw h (none refl (λ x. refl))
      go false h = rw h l

  on_lists : (j : Judged) → judge_of s ≡ j → on_judged j (record_number d s) (λ flags. 0) (λ number. number) ≡ 0
      → Lists (on_judged j (change_record d s) (change_desktop d) (λ number. d))
  on_lists (Ok (Window o)) e z = window-lists o e z
  on_lists (Ok (Notification o)) e z = icon_lists o
  on_lists (Ok (Desktop o)) e z = desktop_lists o.flags
  on_lists (Err r) e z = l

  pub order_lists : Lists (index_after d s)
  unfolding index_after number_in
  order_lists = go (eqb (number_in d s) 0) refl
    where
      go : (t : Bool) → eqb (number_in d s) 0 ≡ t → Lists (pick t (on_judged (judge_of s) (change_record d s) (change_desktop d) (λ number. d)) d)
      go true e = on_lists (judge_of s) refl (eqb-true (number_in d s) 0 e)
      go false e = l

-- ---- the index of a memory

-- one of the first n passes
unfoldable met : ℕ → (ℕ → Bool) → Bool
met zero test = false
met (suc n) test = either (test n) (met n test)

met_none : (n : ℕ) (test : ℕ → Bool) → ((k : ℕ) → k < n → test k ≡ false) → met n test ≡ false
unfolding met
met_none zero test h = refl
met_none (suc n) test h = rw (h n (omega arith)) (met_none n test (λ k l. h k (omega arith)))

met_some : (n : ℕ) (test : ℕ → Bool) (k : ℕ) → k < n → test k ≡ true → met n test ≡ true
unfolding met
met_some zero test k l e = absurd (omega arith)
met_some (suc n) test k l e = go (test n) refl (λ m. met_some n test k m e)
  where
    before : test n ≡ false → (u : Bool) → eqb k n ≡ u → k < n
    before f true g = never (sym f ∙ ap test (sym (eqb-true k n g)) ∙ e)
    before f false g = let ne = eqb-false k n g in omega (arith, ne)

    go : (t : Bool) → test n ≡ t → (k < n → met n test ≡ true) → either t (met n test) ≡ true
    go true f inner = refl
    go false f inner = inner (before f (eqb k n) refl)

first_met : (n i : ℕ) (test : ℕ → Bool) → on_found (first_from n i test) false (λ k. true) ≡ met n (λ k. test (i + k))
first_met n i test = go (first_from n i test) refl
  where
    go : (w : Option ℕ) → first_from n i test ≡ w → on_found w false (λ k. true) ≡ met n (λ k. test (i + k))
    go None f = sym (met_none n (λ k. test (i + k)) (λ k l. none_passes n i test f (i + k) (omega arith) (omega arith)))
    go (Some j) f =
        let h = found n i test j f in
        let l = h.0 in
        let u = h.1 in
        let e : i + (j - i) ≡ j = omega arith in
        sym (met_some n (λ k. test (i + k)) (j - i) (omega arith) (rw e h.2))

module _ (x : List ℕ) (s : Sound x) where
  -- a window's second id is 0
  at_id : (i : ℕ) → Within Windows i → is_used x i ≡ true → (id : ℕ) → is_at x id 0 i ≡ eqb (first_id x i) id
  at_id i w e id =
      let h = used_has x i e in
      let o = slot_own x 0 32 0 i (s.slots Windows i w) h in
      let z : second_id x i ≡ 0 = omega (arith, o.second) in
      at_is x i h id 0 ∙ rw z (alone (eqb (first_id x i) id))
    where
      alone : (t : Bool) → both t true ≡ t
      alone true = refl
      alone false = refl

  -- it stands in one slot, so not among those before it
  not_before : (i j : ℕ) → Within Windows i → Within Windows j → j < i → is_used x i ≡ true → is_at x (first_id x i) 0 j ≡ false
  not_before i j w v l e = go (is_at x (first_id x i) 0 j) refl
    where
      go : (t : Bool) → is_at x (first_id x i) 0 j ≡ t → is_at x (first_id x i) 0 j ≡ false
      go false f = f
      go true f =
          let a = one_slot x s Windows (first_id x i) 0 i w (at_id i w e (first_id x i) ∙ eq-eqb (first_id x i) (first_id x i) refl) in
          let b = one_slot x s Windows (first_id x i) 0 j v f in
          let c : Some i ≡ Some j = sym a ∙ b in
          let d : i ≡ j = cc in
          absurd (omega (arith, d))

  slots_counted : (n i : ℕ) → i + n ≤ 32 → Counted (λ id. met n (λ k. is_at x id 0 (i + k))) (count_below n (λ k. is_used x (i + k)))
  unfolding met count_below
  slots_counted zero i u = none refl (λ id. refl)
  slots_counted (suc n) i u = go (is_used x (i + n)) refl (slots_counted n i (omega arith))
    where
      within : (k : ℕ) → k < suc n → Within Windows (i + k)
      within k l = record { low = omega arith; high = omega arith }

      go : (t : Bool) → is_used x (i + n) ≡ t → Counted (λ id. met n (λ k. is_at x id 0 (i + k))) (count_below n (λ k. is_used x (i + k)))
          → Counted (λ id. either (is_at x id 0 (i + n)) (met n (λ k. is_at x id 0 (i + k)))) (count_below n (λ k. is_used x (i + k)) + pick t 1 0)
      go true e c =
          one (first_id x (i + n)) refl
          (met_none n (λ k. is_at x (first_id x (i + n)) 0 (i + k))
          (λ k l. not_before (i + n) (i + k) (within n (omega arith)) (within k (omega arith)) (omega arith) e))
          (λ id. ap (λ (t : Bool). either t (met n (λ k. is_at x id 0 (i + k)))) (at_id (i + n) (within n (omega arith)) e id)) c
      go false e c =
          counted_as (omega arith) (λ id. ap (λ (t : Bool). either t (met n (λ k. is_at x id 0 (i + k)))) (at_free x (i + n) e id 0)) c

  pub memory_lists : Lists (index_of x)
  unfolding index_of
  memory_lists = counted_as refl (λ id. first_met 32 0 (is_at x id 0)) (slots_counted 32 0 (omega arith))

-- ---- every table of a run

pub record Proper (d : Index) : Type 0 where
  pub lists : Lists d
  pub fair : Fair d.sharing

pub run_proper : (t : Table) (os : List (List ℕ)) → Proper t.index → Proper (run t os).index
unfolding run IndexAlone
run_proper t [] p = p
run_proper t (o ∷ os) p =
    run_proper (after t o) os
    (subst Proper (sym (index_alone t o)) (record { lists = order_lists t.index p.lists o; fair = order_fair t.index p.fair o }))

pub table_counts : (t : Table) → Proper t.index → Counts t
table_counts t p = record { windows = λ id e. counted_some id e p.lists; places = p.fair }

pub described_counts : DescribedCounts
unfolding DescribedCounts OnlyMeets decode
described_counts m s v =
    let w = only_meets m s v in
    let g = formed_logged m w.long w.rule in
    let f : formed s ≡ formed (record { marked = marked_in m; log = log_of m.journal }) = sym v ∙ logged_view g in
    let e : s ≡ record { marked = marked_in m; log = log_of m.journal } = cc in
    let x = (table_has m.index m.bodies (places_in m.store) g.sound).index in
    let p : Proper (marked_in m).index = record { lists = memory_lists m.index (sound_has m.index x); fair = memory_fair m.index } in
    subst (λ (s : State). Counts (present s)) (sym e) (table_counts (run (marked_in m) (log_of m.journal)) (run_proper (marked_in m) (log_of m.journal) p))
