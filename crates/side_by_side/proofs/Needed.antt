-- The premises are needed, by computation. Assumes nothing.
use Prim.Native.Nat.{ℕ}
use mathlib.Core.Path.{◌≡◌, refl, sym, ap, subst, ◌∙◌}
use mathlib.Core.Bool.{true}
use mathlib.Core.List.{List, [], ◌∷◌}
use native.Mathlib.Omega.{arith}
use lib.ListN.{length, get_or}
use Rattle.wire.specs.Numbers.{num_at, nums_at}
use Rattle.wire.specs.Parts.{slice}
use Rattle.rows.specs.Rows.{first_of, len_of, ok_of, cut_of, field_of, step_of, walk_of}
use Rattle.order.specs.Icons.{picture_fit}
use Rattle.order.specs.Judge.{flags_of, order_of, fields_fit, judge_of}
use Rattle.places.specs.declared.Family.TheVariants.{Windows}
use Rattle.places.specs.Sharing.{Sharing, drop}
use Rattle.places.specs.Holder.{Holder}
use Rattle.index.specs.Index as index
use Rattle.body.specs.Bodies.{window_fields, set_flagged, begins_at, carried_at, empty_fields, empty_body}
use Rattle.body.proofs.Each.{set_at}
use Rattle.table.specs.Table.{Table, emptied, number, record_fields, fields_after, shown_after, change_record, after}
use Rattle.journal.specs.State.{State, run, present, bytes_in}
use Rattle.session.specs.Calls.{answer, next}
use Rattle.side_by_side.specs.SideBySide.{edits, Fair, EitherWay, Claim}
use Rattle.side_by_side.specs.Needed.{new_window, delete_window, title_window, delivered, new_windows, crowded, single, uncounted, uneven, Numbers, AtThirtyOne, RoomForOne, OneWindow, LastStands, Uncounted, Uneven, ThirtyNeeded, DifferentNeeded, WindowsCountNeeded, PlacesCountNeeded}
use Rattle.side_by_side.proofs.Fairness.{empty_fair}

-- ---- what is computed

-- the letter of window 7's title
abbrev letter_in : Table → ℕ
letter_in t = get_or (get_or (t.fields Windows 7 0) 3 []) 2 0

-- no holder shares, of 64 places
abbrev none_share : Sharing Holder
none_share = (index.empty_index 64).sharing

-- a state's windows, orders and their bytes
record Sized (s : State) (n orders bytes : ℕ) : Type 0 where
  many : (present s).index.many Windows ≡ n
  orders_are : length s.log ≡ orders
  bytes_are : bytes_in s.log ≡ bytes

-- whatever the fields were, a title is set
titled : (letter : ℕ) (old : List (List ℕ)) → get_or (get_or (set_flagged window_fields 0x01000004 (title_window 7 letter) 11 old) 3 []) 2 0 ≡ letter
unfolding carried_at begins_at num_at slice first_of len_of
titled letter old = ap (λ (f : List ℕ). get_or f 2 0) (set_at window_fields 0x01000004 (title_window 7 letter) 11 old 3 (omega arith))

record Computed : Type 0 where
  thirty_one : AtThirtyOne
  no_room_lem : RoomForOne
  one : OneWindow
  titles : Numbers single (title_window 7 0x41) (title_window 7 0x42) 0 0 0 0
  second_letter : letter_in (present (delivered single (title_window 7 0x41 ∷ title_window 7 0x42 ∷ []))) ≡ 0x42
  first_letter : letter_in (present (delivered single (title_window 7 0x42 ∷ title_window 7 0x41 ∷ []))) ≡ 0x41
  not_counted : Uncounted
  not_even : Uneven
  crowded_size : Sized crowded 31 31 341
  crowded_share : (present crowded).index.sharing ≡ none_share
  single_size : Sized single 1 1 11
  single_share : (present single).index.sharing ≡ none_share
  uncounted_size : Sized uncounted 0 0 0
  uncounted_share : (present uncounted).index.sharing ≡ none_share
  uneven_size : Sized uneven 2 0 0
  new_7 : edits 7 (judge_of (new_window 7)) ≡ true
  new_8 : edits 8 (judge_of (new_window 8)) ≡ true
  new_31 : edits 31 (judge_of (new_window 31)) ≡ true
  new_32 : edits 32 (judge_of (new_window 32)) ≡ true
  delete_7 : edits 7 (judge_of (delete_window 7)) ≡ true
  delete_8 : edits 8 (judge_of (delete_window 8)) ≡ true

computed : Computed
unfolding AtThirtyOne RoomForOne OneWindow Uncounted Uneven delivered new_windows num_at nums_at slice first_of len_of ok_of cut_of field_of step_of walk_of picture_fit flags_of order_of fields_fit judge_of drop index.record_number index.not_there index.no_room index.no_picture index.no_place index.number_in index.pictured index.change_record index.empty_index empty_fields empty_body emptied number record_fields fields_after shown_after change_record after run bytes_in answer next
computed =
    record {
      thirty_one = (refl, record { a_first = refl; then_b = refl; b_first = refl; then_a = refl });
      no_room_lem = record { a_first = refl; then_b = refl; b_first = refl; then_a = refl };
      one = record { a_first = refl; then_b = refl; b_first = refl; then_a = refl };
      titles = record { a_first = refl; then_b = refl; b_first = refl; then_a = refl };
      second_letter = titled 0x42 _;
      first_letter = titled 0x41 _;
      not_counted = (record { a_first = refl; then_b = refl; b_first = refl; then_a = refl }, refl, refl);
      not_even = (record { a_first = refl; then_b = refl; b_first = refl; then_a = refl }, refl, refl);
      crowded_size = record { many = refl; orders_are = refl; bytes_are = refl };
      crowded_share = refl;
      single_size = record { many = refl; orders_are = refl; bytes_are = refl };
      single_share = refl;
      uncounted_size = record { many = refl; orders_are = refl; bytes_are = refl };
      uncounted_share = refl;
      uneven_size = record { many = refl; orders_are = refl; bytes_are = refl };
      new_7 = refl;
      new_8 = refl;
      new_31 = refl;
      new_32 = refl;
      delete_7 = refl;
      delete_8 = refl;
    }

-- ---- the examples

pub at_thirty_one : AtThirtyOne
at_thirty_one = computed.thirty_one

pub room_for_one : RoomForOne
room_for_one = computed.no_room_lem

pub one_window : OneWindow
one_window = computed.one

pub last_stands : LastStands
unfolding LastStands
last_stands =
    (computed.titles, λ e. let z : ◌≡◌ {A = ℕ} 0x42 0x41 = sym computed.second_letter ∙ ap letter_in e ∙ computed.first_letter in absurd (omega (arith, z)))

pub uncounted_ends : Uncounted
uncounted_ends = computed.not_counted

pub uneven_ends : Uneven
uneven_ends = computed.not_even

-- ---- the claim with another premise fails on them

-- what no holder shares is fair
none_fair : {t : Sharing Holder} → t ≡ none_share → Fair t
none_fair e = subst Fair (sym e) (empty_fair 64)

pub thirty_needed : ThirtyNeeded
unfolding ThirtyNeeded Claim AtThirtyOne
thirty_needed claim =
    let z = computed.crowded_size in
    let m = z.many in
    let o = z.orders_are in
    let n = z.bytes_are in
    let w : EitherWay crowded (new_window 31) (new_window 32) =
    claim crowded (new_window 31) (new_window 32) 31 32 (record { windows = λ id e. omega (arith, m); places = none_fair computed.crowded_share })
    (record {
      first = computed.new_31;
      second = computed.new_32;
      named = λ e. omega (arith, e);
      few = omega (arith, m);
      orders = omega (arith, o);
      bytes = omega (arith, n);
    }) in
    let k = at_thirty_one.1 in
    absurd (omega (arith, k.then_b, k.b_first, w.second))

pub different_needed : DifferentNeeded
unfolding DifferentNeeded Claim OneWindow
different_needed claim =
    let z = computed.single_size in
    let m = z.many in
    let o = z.orders_are in
    let n = z.bytes_are in
    let w : EitherWay single (delete_window 7) (new_window 7) =
    claim single (delete_window 7) (new_window 7) 7 7 (record { windows = λ id e. omega (arith, m); places = none_fair computed.single_share })
    (record {
      first = computed.delete_7;
      second = computed.new_7;
      named = refl;
      few = omega (arith, m);
      orders = omega (arith, o);
      bytes = omega (arith, n);
    }) in
    absurd (omega (arith, one_window.then_b, one_window.b_first, w.second))

pub windows_count_needed : WindowsCountNeeded
unfolding WindowsCountNeeded Claim Uncounted delivered
windows_count_needed claim =
    let z = computed.uncounted_size in
    let m = z.many in
    let o = z.orders_are in
    let n = z.bytes_are in
    let w : EitherWay uncounted (delete_window 7) (new_window 8) =
    claim uncounted (delete_window 7) (new_window 8) 7 8 (none_fair computed.uncounted_share)
    (record {
      first = computed.delete_7;
      second = computed.new_8;
      named = λ e. omega (arith, e);
      few = omega (arith, m);
      orders = omega (arith, o);
      bytes = omega (arith, n);
    }) in
    let k : ◌≡◌ {A = ℕ} 1 0 = sym uncounted_ends.1 ∙ ap (λ (t : Table). t.index.many Windows) w.table ∙ uncounted_ends.2 in
    absurd (omega (arith, k))

pub places_count_needed : PlacesCountNeeded
unfolding PlacesCountNeeded Claim Uneven delivered
places_count_needed claim =
    let z = computed.uneven_size in
    let m = z.many in
    let o = z.orders_are in
    let n = z.bytes_are in
    let w : EitherWay uneven (delete_window 7) (delete_window 8) =
    claim uneven (delete_window 7) (delete_window 8) 7 8 (λ id e. omega (arith, m))
    (record {
      first = computed.delete_7;
      second = computed.delete_8;
      named = λ e. omega (arith, e);
      few = omega (arith, m);
      orders = omega (arith, o);
      bytes = omega (arith, n);
    }) in
    let k : ◌≡◌ {A = ℕ} 0 2 = sym uneven_ends.1 ∙ ap (λ (t : Table). t.index.sharing.used) w.table ∙ uneven_ends.2 in
    absurd (omega (arith, k))
