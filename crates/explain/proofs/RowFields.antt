-- The walk over the rows is the walk over their fields. Assumes nothing.
use mathlib.Core.Path.{◌≡◌, refl, sym, ap, ◌∙◌}
use mathlib.Core.Bool.{Bool, true, false}
use mathlib.Core.List.{List, [], ◌∷◌, ◌++◌}
use Prim.Native.Nat.{ℕ, zero, suc, ◌+◌, ◌*◌, ◌/◌, ◌-◌, ◌≤◌, ◌<◌}
use native.Mathlib.Omega.{arith}
use native.Mathlib.Nat.{mul-zero, mul-suc}
use lib.Dec.{eqb, leb, ltb}
use lib.ListN.{length, replicate}
use borrow.Author.Tests.{le-leb, lt-leb, leb-true, leb-false, lt-ltb, le-ltb}
use Rattle.wire.specs.Tests.{pick, has_all}
use Rattle.rows.specs.declared.Row.{Row}
use Rattle.rows.specs.declared.Fit.{Fit}
use Rattle.rows.specs.declared.Fit.TheVariants.{Ends, Short}
use Rattle.rows.specs.Rows.{numbers_row, show_row, switch_row, text_row, rectangles_row, ids_row, edge_row, window_rows, notification_rows, desktop_rows, first_of, len_of, ok_of, cut_of, first_bad, field_of, step_of, on_fit, walk_of}
use Rattle.rows.proofs.Fields.{bad_zero}
use Rattle.order.specs.Flags.{is_window, is_notification}
use Rattle.order.specs.Judge.{kind_rows}
use Rattle.explain.specs.Fields.{any_number, later_fields, row_fields, rows_fields}
use Rattle.explain.proofs.Walks.{leb_same, fit_of_lem, fit_append}

-- ---- numbers of one width

-- how often a width goes into a number
pub record Divides (p : ℕ) : Type 0 where
  pub step : (x : ℕ) → p ≤ x → p + (x - p) / p * p ≡ x / p * p
  pub low : (x : ℕ) → x < p → x / p * p ≡ 0

by1 : Divides 1
by1 = record { step = λ x h. omega arith; low = λ x h. omega arith }

by2 : Divides 2
by2 = record { step = λ x h. omega arith; low = λ x h. omega arith }

by4 : Divides 4
by4 = record { step = λ x h. omega arith; low = λ x h. omega arith }

pieces_fit : (n p k at bad : ℕ) → Divides p → at ≤ n
    → fit_of_lem n at bad (replicate k (any_number p)) ≡ pick (leb (p * k) (n - at)) (Ends (at + p * k) bad) (Short (at + (n - at) / p * p))
unfolding fit_of_lem
pieces_fit n p zero at bad d l =
    let e : p * 0 ≡ 0 = mul-zero p in
    rw (e, le-leb 0 (n - at) (omega arith)) (ap (λ (q : ℕ). Ends q bad) (omega arith))
pieces_fit n p (suc k) at bad d l = go (leb (at + p) n) refl (pieces_fit n p k (at + p) bad d)
  where
    more : p * suc k ≡ p * k + p
    more = mul-suc p k

    go : (t : Bool) → leb (at + p) n ≡ t
        → (at + p ≤ n → fit_of_lem n (at + p) bad (replicate k (any_number p)) ≡ pick (leb (p * k) (n - (at + p))) (Ends (at + p + p * k) bad) (Short (at + p + (n - (at + p)) / p * p)))
        → pick t (fit_of_lem n (at + p) (first_bad bad 0) (replicate k (any_number p))) (Short at)
        ≡ pick (leb (p * suc k) (n - at)) (Ends (at + p * suc k) bad) (Short (at + (n - at) / p * p))
    go true e ih =
        let h : at + p ≤ n = leb-true (at + p) n e in
        let same : leb (p * k) (n - (at + p)) ≡ leb (p * suc k) (n - at) =
        leb_same (p * k) (n - (at + p)) (p * suc k) (n - at) (λ x. omega (arith, more)) (λ x. omega (arith, more)) in
        let end : at + p + p * k ≡ at + p * suc k = omega (arith, more) in
        let less : n - (at + p) ≡ n - at - p = omega arith in
        let cut : at + p + (n - (at + p)) / p * p ≡ at + (n - at) / p * p =
        ap (λ (y : ℕ). at + p + y / p * p) less ∙ omega (arith, d.step (n - at) (omega arith)) in
        ap (λ (b : ℕ). fit_of_lem n (at + p) b (replicate k (any_number p))) (sym (bad_zero bad)) ∙ ih h ∙ rw (same, end, cut)
    go false e ih =
        let h : n < at + p = leb-false (at + p) n e in
        let low : leb (p * suc k) (n - at) ≡ false = lt-leb (p * suc k) (n - at) (omega (arith, more)) in
        rw low (ap (λ (q : ℕ). Short q) (omega (arith, d.low (n - at) (omega arith))))

-- ---- a row

-- after its first number come a run, or whole numbers of one width
pub data Later (r : Row) : Type 0 where
  runs : r.head ≤ r.size → r.piece ≡ 65536 → Later r
  numbers : r.head ≤ r.size → eqb r.piece 65536 ≡ false → Divides r.piece
      → ((v : ℕ) → r.piece * ((r.size + r.unit * v - r.head) / r.piece) ≡ r.size + r.unit * v - r.head) → Later r

module _ (r : Row) (s : List ℕ) (at : ℕ) where
  head_in : Later r → r.head ≤ len_of r s at
  unfolding len_of
  head_in (runs h p) = omega (arith, h)
  head_in (numbers h p d w) = omega (arith, h)

  later_fit : (q bad : ℕ) → Later r → q ≤ length s → length s ≤ 65535
      → fit_of_lem (length s) q bad (later_fields r (len_of r s at - r.head))
      ≡ pick (leb (len_of r s at - r.head) (length s - q)) (Ends (q + (len_of r s at - r.head)) bad) (Short (q + (length s - q) / r.piece * r.piece))
  unfolding later_fields fit_of_lem len_of first_of
  later_fit q bad (runs h p) l short =
      let b = len_of r s at - r.head in
      let same : leb (q + b) (length s) ≡ leb b (length s - q) = leb_same (q + b) (length s) b (length s - q) (λ x. omega arith) (λ x. omega arith) in
      let none : q + (length s - q) / 65536 * 65536 ≡ q = omega arith in
      rw (p, same, none, ← (bad_zero bad))
  later_fit q bad (numbers h p d w) l short =
      let v = first_of r s at in
      rw p (pieces_fit (length s) r.piece ((r.size + r.unit * v - r.head) / r.piece) q bad d l ∙ rw (w v))

  pub row_fit : (bad : ℕ) → Later r → at ≤ length s → length s ≤ 65535 → fit_of_lem (length s) at bad (row_fields r s at) ≡ field_of r s at bad
  unfolding row_fields fit_of_lem field_of cut_of
  row_fit bad k l short = go (leb (at + r.head) (length s)) refl (head_in k)
    where
      b : ℕ
      b = first_bad bad (pick (ok_of r s at) 0 at)

      go : (t : Bool) → leb (at + r.head) (length s) ≡ t → r.head ≤ len_of r s at
          → pick t (fit_of_lem (length s) (at + r.head) b (later_fields r (len_of r s at - r.head))) (Short at)
          ≡ pick (leb (len_of r s at) (length s - at)) (Ends (at + len_of r s at) b)
          (Short (pick (ltb (length s - at) r.head) at (at + r.head + (length s - at - r.head) / r.piece * r.piece)))
      go true e i =
          let h : at + r.head ≤ length s = leb-true (at + r.head) (length s) e in
          let q = at + r.head in
          let n = len_of r s at in
          let same : leb (n - r.head) (length s - q) ≡ leb n (length s - at) =
          leb_same (n - r.head) (length s - q) n (length s - at) (λ x. omega arith) (λ x. omega arith) in
          let end : q + (n - r.head) ≡ at + n = omega arith in
          let less : length s - q ≡ length s - at - r.head = omega arith in
          let whole : ltb (length s - at) r.head ≡ false = le-ltb (length s - at) r.head (omega arith) in
          later_fit q b k h short ∙ rw (same, end, less, whole)
      go false e i =
          let h : length s < at + r.head = leb-false (at + r.head) (length s) e in
          let long : leb (len_of r s at) (length s - at) ≡ false = lt-leb (len_of r s at) (length s - at) (omega arith) in
          let cut : ltb (length s - at) r.head ≡ true = lt-ltb (length s - at) r.head (omega arith) in
          rw (long, cut)

-- ---- the rows

abbrev pub AllLater : List Row → Type 0
AllLater [] = Unit {0}
AllLater (r ∷ rs) = Later r × AllLater rs

pub walk_fit : (rs : List Row) → AllLater rs → (flags : ℕ) (s : List ℕ) (at bad : ℕ) → at ≤ length s → length s ≤ 65535
    → walk_of rs flags s at bad ≡ fit_of_lem (length s) at bad (rows_fields rs flags s at)
unfolding walk_of rows_fields step_of fit_of_lem
walk_fit [] ks flags s at bad l short = refl
walk_fit (r ∷ rs) ks flags s at bad l short = go (has_all flags r.flag) (λ q b h. walk_fit rs ks.1 flags s q b h short)
  where
    next_in : Fit → Fit
    next_in f = on_fit f (λ c. Short c) (λ q b. fit_of_lem (length s) q b (rows_fields rs flags s (at + len_of r s at)))

    on : ((q b : ℕ) → q ≤ length s → walk_of rs flags s q b ≡ fit_of_lem (length s) q b (rows_fields rs flags s q))
        → on_fit (field_of r s at bad) (λ c. Short c) (λ q b. walk_of rs flags s q b)
        ≡ on_fit (field_of r s at bad) (λ c. Short c) (λ q b. fit_of_lem (length s) q b (rows_fields rs flags s (at + len_of r s at)))
    on ih = unfold field_of in then (leb (len_of r s at) (length s - at)) refl ih
      where
        then : (t : Bool) → leb (len_of r s at) (length s - at) ≡ t
            → ((q b : ℕ) → q ≤ length s → walk_of rs flags s q b ≡ fit_of_lem (length s) q b (rows_fields rs flags s q))
            → on_fit (pick t (Ends (at + len_of r s at) (first_bad bad (pick (ok_of r s at) 0 at))) (Short (cut_of r s at))) (λ c. Short c) (λ q b. walk_of rs flags s q b)
            ≡ on_fit (pick t (Ends (at + len_of r s at) (first_bad bad (pick (ok_of r s at) 0 at))) (Short (cut_of r s at))) (λ c. Short c)
            (λ q b. fit_of_lem (length s) q b (rows_fields rs flags s (at + len_of r s at)))
        then true e ih =
            let h = leb-true (len_of r s at) (length s - at) e in
            ih (at + len_of r s at) (first_bad bad (pick (ok_of r s at) 0 at)) (omega arith)
        then false e ih = refl

    go : (t : Bool) → ((q b : ℕ) → q ≤ length s → walk_of rs flags s q b ≡ fit_of_lem (length s) q b (rows_fields rs flags s q))
        → on_fit (pick t (field_of r s at bad) (Ends at bad)) (λ c. Short c) (λ q b. walk_of rs flags s q b)
        ≡ fit_of_lem (length s) at bad (pick t (row_fields r s at ++ rows_fields rs flags s (at + len_of r s at)) (rows_fields rs flags s at))
    go true ih =
        on ih ∙ sym (ap next_in (row_fit r s at bad ks.0 l short)) ∙ sym (fit_append (length s) at bad (row_fields r s at) (rows_fields rs flags s (at + len_of r s at)))
    go false ih = ih at bad l

-- ---- every row

four : (f : ℕ) → Later (numbers_row f 4)
four f = numbers (omega arith) refl by4 (λ v. omega arith)

eight : (f : ℕ) → Later (numbers_row f 8)
eight f = numbers (omega arith) refl by4 (λ v. omega arith)

show : (f : ℕ) → Later (show_row f)
show f = numbers (omega arith) refl by1 (λ v. omega arith)

switch : (f : ℕ) → Later (switch_row f)
switch f = numbers (omega arith) refl by1 (λ v. omega arith)

text : (f most : ℕ) → Later (text_row f most)
text f most = runs (omega arith) refl

rectangles : (f : ℕ) → Later (rectangles_row f)
rectangles f = numbers (omega arith) refl by2 (λ v. omega arith)

ids : (f : ℕ) → Later (ids_row f)
ids f = numbers (omega arith) refl by4 (λ v. omega arith)

edge : (f : ℕ) → Later (edge_row f)
edge f = numbers (omega arith) refl by1 (λ v. omega arith)

windows : AllLater window_rows
windows = (four 0, (four 0x00000002, (eight 0x00000008, (show 0x00000010, (text 0x00000004 520, (eight 0x00004000, (eight 0x00010000, (eight 0x00000080, (eight 0x08000000, (switch 0x00020000, (four 0x00040000, (eight 0x00000800, (eight 0x00008000, (eight 0x00000400, (rectangles 0x00000100, (eight 0x00001000, (rectangles 0x00000200, (text 0x00400000 520, (switch 0x00800000, (switch 0x00080000, (switch 0x00000040, (edge 0x00000001, tt))))))))))))))))))))))

notifications : AllLater notification_rows
notifications = (eight 0, (four 0x00000008, (text 0x00000001 256, (eight 0x00000002, (text 0x00000002 510, (text 0x00000002 126, (four 0x00000004, tt)))))))

desktops : AllLater desktop_rows
desktops = (four 0x00000020, (ids 0x00000010, tt))

pub kinds_later : (flags : ℕ) → AllLater (kind_rows flags)
kinds_later flags = go (is_window flags) (is_notification flags)
  where
    go : (w n : Bool) → AllLater (pick w window_rows (pick n notification_rows desktop_rows))
    go true n = windows
    go false true = notifications
    go false false = desktops
