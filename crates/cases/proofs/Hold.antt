-- The cases marked (T) hold, by computation. A window's fields are computed once, by a function with a single call of itself. Assumes nothing.
use Prim.Native.Nat.{ℕ, ◌+◌}
use mathlib.Core.Path.{◌≡◌, refl, ap, ap₂}
use mathlib.Core.Bool.{Bool, true, false}
use mathlib.Core.List.{List, [], ◌∷◌}
use mathlib.Core.Option.{none, some}
use Rattle.wire.specs.Tests.{pick, has_all}
use Rattle.wire.specs.Numbers.{num_at, nums_at}
use Rattle.pdu.specs.Layout.{known, widths}
use Rattle.pdu.specs.Records.{record_of, size_of}
use Rattle.pdu.specs.Rules.{allowed}
use Rattle.pdu.specs.Reading.{record_as, body_of, read_of}
use Rattle.rows.specs.declared.Row.{Row}
use Rattle.rows.specs.Rows.{first_of, len_of, ok_of, cut_of, field_of, step_of, walk_of}
use Rattle.order.specs.Icons.{picture_fit}
use Rattle.order.specs.Judge.{flags_of, order_of, fields_fit, judge_of}
use Rattle.wire.specs.Parts.{slice}
use Rattle.places.specs.Sharing.{drop, cells_only}
use Rattle.places.specs.Counts.{count_below}
use Rattle.index.specs.Index as index
use Rattle.body.specs.Bodies.{Body, window_fields, first, rest, set_flagged, empty_fields, empty_body}
use Rattle.places.specs.declared.Family.TheVariants as family
use Rattle.area.specs.Area.{one}
use Rattle.area.proofs.Counting.{sum_none}
use Rattle.figure.specs.declared.Figure.{Figure}
use Rattle.figure.specs.Figure.{is_shown, pixels_of, id_end, of_window, figure_by}
use Rattle.table.specs.Table.{Table, emptied, number, record_fields, fields_after, shown_after, change_record, desktop_after, change_desktop, after}
use Rattle.present.specs.TableFigure.{unmarked, window_in, figure_in}
use Rattle.session.specs.Calls.{deliver}
use Rattle.model.specs.Book.{new_book, makes, table_of, bytes_of, book_next, book_after, book_answer, book_answers}
use Rattle.cases.specs.Cases.{places, new_a, desktop_none_order, window_a, nothing_shown_of, CasesHold}

-- ---- the fields of case 4's window

-- `set_flagged` with one call of itself: it calls itself in both arms of a choice, and both are computed at every row
set_once_lem : List Row → ℕ → List ℕ → ℕ → List (List ℕ) → List (List ℕ)
set_once_lem [] flags s at old = []
set_once_lem (r ∷ rs) flags s at old =
    pick (has_all flags r.flag) (slice s at (len_of r s at)) (first old)
    ∷ set_once_lem rs flags s (pick (has_all flags r.flag) (at + len_of r s at) at) (rest old)

set_once : (rs : List Row) (flags : ℕ) (s : List ℕ) (at : ℕ) (old : List (List ℕ)) → set_flagged rs flags s at old ≡ set_once_lem rs flags s at old
unfolding set_flagged set_once_lem
set_once [] flags s at old = refl
set_once (r ∷ rs) flags s at old = go (has_all flags r.flag) (λ p. set_once rs flags s p (rest old))
  where
    go : (b : Bool) → ((p : ℕ) → set_flagged rs flags s p (rest old) ≡ set_once_lem rs flags s p (rest old))
        → pick b (slice s at (len_of r s at) ∷ set_flagged rs flags s (at + len_of r s at) (rest old)) (first old ∷ set_flagged rs flags s at (rest old))
        ≡ pick b (slice s at (len_of r s at)) (first old) ∷ set_once_lem rs flags s (pick b (at + len_of r s at) at) (rest old)
    go true ih = ap (λ (l : List (List ℕ)). slice s at (len_of r s at) ∷ l) (ih (at + len_of r s at))
    go false ih = ap (λ (l : List (List ℕ)). first old ∷ l) (ih at)

-- what the order makes of an empty record
window_a_lem : set_flagged window_fields 0x11000004 new_a 11 (empty_fields window_fields) ≡ window_a
unfolding set_once_lem num_at first_of len_of slice empty_fields
window_a_lem = set_once window_fields 0x11000004 new_a 11 (empty_fields window_fields)

-- ---- the figure after case 6's order

-- a table that lists no window shows none
none_shown : (t : Table) → ((id : ℕ) → t.index.listed family.Windows id 0 ≡ false) → figure_in t ≡ nothing_shown_of
unfolding figure_in figure_by
none_shown t e =
    ap₂ figure (sum_none id_end (λ id. of_window (λ b. one (is_shown b)) (window_in t id)) (gone (λ b. one (is_shown b))))
    (sum_none id_end (λ id. of_window pixels_of (window_in t id)) (gone pixels_of))
  where
    figure : ℕ → ℕ → Figure
    figure m n = record { windows = m; pixels = n }

    gone : (f : Body → ℕ) (id : ℕ) → of_window f (window_in t id) ≡ 0
    gone f id = ap (λ (l : Bool). of_window f (pick l (some (unmarked (t.fields family.Windows id 0))) none)) (e id)

none_listed : (id : ℕ) → (table_of (book_next (deliver desktop_none_order) (new_book places))).index.listed family.Windows id 0 ≡ false
unfolding read_of body_of record_as record_of known widths nums_at num_at size_of allowed first_of len_of ok_of cut_of field_of step_of walk_of picture_fit flags_of order_of fields_fit judge_of slice drop cells_only count_below index.record_number index.not_there index.no_room index.no_picture index.no_place index.number_in index.pictured index.change_record index.change_desktop index.empty_index empty_fields empty_body emptied number record_fields fields_after shown_after change_record desktop_after change_desktop after makes table_of bytes_of book_next book_answer book_answers book_after
none_listed id = refl

figure_none : figure_in (table_of (book_next (deliver desktop_none_order) (new_book places))) ≡ nothing_shown_of
figure_none = none_shown (table_of (book_next (deliver desktop_none_order) (new_book places))) none_listed

-- ---- the table

pub cases_hold : CasesHold
unfolding CasesHold read_of body_of record_as record_of known widths nums_at num_at size_of allowed first_of len_of ok_of cut_of field_of step_of walk_of picture_fit flags_of order_of fields_fit judge_of slice drop cells_only count_below index.record_number index.not_there index.no_room index.no_picture index.no_place index.number_in index.pictured index.change_record index.change_desktop index.empty_index empty_fields empty_body emptied number record_fields fields_after shown_after change_record desktop_after change_desktop after makes table_of bytes_of book_next book_answer book_answers book_after
cases_hold = rw (← window_a_lem, ← figure_none)
