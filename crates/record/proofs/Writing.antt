-- Laws of writing the orders of a journal as a record. Assumes nothing.
use mathlib.Core.Path.{◌≡◌, refl, sym, ap, ◌∙◌}
use mathlib.Core.Bool.{true, false}
use mathlib.Core.List.{List, [], ◌∷◌, ◌++◌, append_assoc, append-nil}
use Prim.Native.Nat.{ℕ, zero, suc, ◌+◌, ◌*◌, ◌-◌, ◌≤◌, ◌<◌}
use native.Mathlib.Omega.{arith}
use lib.Dec.{leb}
use lib.ListN.{length, drop, length-append}
use lib.Seq.{drop-drop, take-add}
use borrow.Author.Tests.{le-leb, lt-leb}
use Rattle.wire.specs.Numbers.{bytes_of, put_all}
use Rattle.wire.specs.Parts.{slice, splice}
use Rattle.wire.proofs.Numbers.{length_bytes}
use Rattle.wire.proofs.Parts.{length_slice, length_splice, splice_nil, splice_after}
use Rattle.journal.specs.Limits.{journal_length}
use Rattle.journal.specs.Journal.{size_at, order_at, orders_from, end_from, within_from}
use Rattle.record.proofs.Orders.{within_first, within_rest, end_past, bytes_orders}
use Rattle.record.specs.declared.Entry.{Entry}
use Rattle.record.specs.Layout.{entry, head_of, layout_from, table_of, joined, record_of}
use Rattle.record.specs.Writing.{Within, fits_in, out_after_of}
use Rattle.record.proofs.Entries.{length_table}
use Rattle.record.proofs.RoundTrip.{length_layout, length_record}
use Rattle.journal.proofs.Logged.{length_orders}

-- ---- the table of contents, entry by entry

-- i of n entries are written: what is left completes the table
pub record Tabled (j : List ℕ) (n : ℕ) (d out : List ℕ) (p offset i : ℕ) : Type 0 where
  pub within : within_from (n - i) p j ≡ true
  pub first : 2 ≤ p
  pub last : p ≤ journal_length
  pub place : offset + 2 ≡ head_of n + p
  pub size : length out ≡ length d
  pub table : splice out (2 + 8 * i) (table_of (layout_from offset (orders_from (n - i) p j))) ≡ splice d 2 (table_of (layout_from (head_of n) (orders_from n 2 j)))

-- an entry is two numbers of 4 bytes
entry_put : (e : Entry) (es : List Entry) → table_of (e ∷ es) ≡ (bytes_of 4 e.offset ++ bytes_of 4 e.size) ++ table_of es
unfolding table_of put_all
entry_put e es = ap (λ (b : List ℕ). (bytes_of 4 e.offset ++ b) ++ table_of es) (append-nil (bytes_of 4 e.size))

none_left : (j : List ℕ) (k p offset : ℕ) → k ≡ 0 → table_of (layout_from offset (orders_from k p j)) ≡ []
unfolding table_of layout_from orders_from
none_left j k p offset e = rw e

module _ (j : List ℕ) (n : ℕ) (d : List ℕ) where
  pub table_start : within_from n 2 j ≡ true → Tabled j n d d 2 (2 + 8 * n) 0
  table_start w =
      let z : n - 0 ≡ n = omega arith in
      record { within = rw z w; first = omega arith; last = omega arith; place = omega arith; size = refl; table = rw z }

  module _ (room : journal_length ≤ length j) (fits : head_of n ≤ length d) (out : List ℕ) (p offset i : ℕ) (h : i < n) (g : Tabled j n d out p offset i) where
    more : n - i ≡ suc (n - (i + 1))
    more = omega arith

    pub size_fits : size_at j p ≤ journal_length - p
    size_fits = within_first (n - (i + 1)) p j (rw more at g.within)

    abbrev left : List ℕ
    left = table_of (layout_from (offset + size_at j p) (orders_from (n - (i + 1)) (p + size_at j p) j))

    order-size : length (order_at j p) ≡ size_at j p
    order-size =
        let s = size_fits in
        let l = g.last in
        length_slice j p (size_at j p) (omega arith)

    first_entry : table_of (layout_from offset (orders_from (n - i) p j)) ≡ (bytes_of 4 offset ++ bytes_of 4 (size_at j p)) ++ left
    unfolding orders_from layout_from
    first_entry = rw (more, order-size) (entry_put (entry offset (size_at j p)) (layout_from (offset + size_at j p) (orders_from (n - (i + 1)) (p + size_at j p) j)))

    -- the two numbers are written, and then what is left
    abbrev out' : List ℕ
    out' = splice (splice out (2 + 8 * i) (bytes_of 4 offset)) (2 + 8 * i + 4) (bytes_of 4 (size_at j p))

    left-length : length left ≡ 8 * (n - (i + 1))
    left-length =
        length_table (layout_from (offset + size_at j p) (orders_from (n - (i + 1)) (p + size_at j p) j))
        ∙ ap (λ (k : ℕ). 8 * k) (length_layout (offset + size_at j p) (orders_from (n - (i + 1)) (p + size_at j p) j) ∙ length_orders (n - (i + 1)) (p + size_at j p) j)

    table-turn : Tabled j n d out' (p + size_at j p) (offset + size_at j p) (i + 1)
    table-turn =
        let a = length_bytes 4 offset in
        let b = length_bytes 4 (size_at j p) in
        let ab = length-append (bytes_of 4 offset) (bytes_of 4 (size_at j p)) in
        let l = left-length in
        let s = size_fits in
        let size = g.size in
        let two : out' ≡ splice out (2 + 8 * i) (bytes_of 4 offset ++ bytes_of 4 (size_at j p)) =
        splice_after out (2 + 8 * i) (bytes_of 4 offset) (bytes_of 4 (size_at j p)) (2 + 8 * i + 4) (omega arith) (omega arith) in
        let e : 2 + 8 * (i + 1) ≡ 2 + 8 * i + 8 = omega arith in
        record {
          within = within_rest (n - (i + 1)) p j (rw more at g.within);
          first = omega (arith, g.first);
          last = omega (arith, g.last);
          place = omega (arith, g.place);
          size = ap length two ∙ length_splice out (2 + 8 * i) (bytes_of 4 offset ++ bytes_of 4 (size_at j p)) (omega arith) ∙ size;
          table =
              ap (λ (x : List ℕ). splice x (2 + 8 * (i + 1)) left) two
              ∙ splice_after out (2 + 8 * i) (bytes_of 4 offset ++ bytes_of 4 (size_at j p)) left (2 + 8 * (i + 1)) (omega arith) (omega arith)
              ∙ ap (splice out (2 + 8 * i)) (sym first_entry) ∙ g.table;
        }

    pub table_next : (s : ℕ) (x y : List ℕ) → s ≡ size_at j p → x ≡ splice out (2 + 8 * i) (bytes_of 4 offset) → y ≡ splice x (2 + 8 * i + 4) (bytes_of 4 s)
        → Tabled j n d y (p + s) (offset + s) (i + 1)
    table_next s x y es ex ey = rw (ey, ex, es) table-turn

  pub table_end : (out : List ℕ) (p offset i : ℕ) → n ≤ i → Tabled j n d out p offset i → out ≡ splice d 2 (table_of (layout_from (head_of n) (orders_from n 2 j)))
  table_end out p offset i h g =
      sym (splice_nil out (2 + 8 * i)) ∙ ap (splice out (2 + 8 * i)) (sym (none_left j (n - i) p offset (omega arith))) ∙ g.table

-- ---- the record whole

-- the bodies of a journal's orders lie there as in a record, touching
joined_orders : (n p : ℕ) (j : List ℕ) → within_from n p j ≡ true → p ≤ journal_length → journal_length ≤ length j → joined (orders_from n p j) ≡ slice j p (end_from n p j - p)
unfolding orders_from joined end_from slice
joined_orders zero p j w h l = let z : p - p ≡ 0 = omega arith in rw z
joined_orders (suc n) p j w h l =
    let s = size_at j p in
    let f = within_first n p j w in
    let e = end_past n (p + s) j in
    let r = joined_orders n (p + s) j (within_rest n p j w) (omega arith) l in
    let m : end_from n (p + s) j - p ≡ s + (end_from n (p + s) j - (p + s)) = omega arith in
    rw (r, m, take-add s (end_from n (p + s) j - (p + s)) (drop p j), drop-drop s p j)

module _ (j : List ℕ) (n end : ℕ) (w : Within j n end) where
  abbrev os : List (List ℕ)
  os = orders_from n 2 j

  abbrev table : List ℕ
  table = table_of (layout_from (head_of n) (orders_from n 2 j))

  record_size : head_of n + (end - 2) ≡ length (record_of (orders_from n 2 j))
  record_size =
      let l = length_record os in
      let m = length_orders n 2 j in
      let b = bytes_orders n 2 j w.orders (omega arith) w.room in
      let e = w.ends in
      let low = w.low in
      omega arith

  record_is : record_of (orders_from n 2 j) ≡ (bytes_of 2 n ++ table) ++ slice j 2 (end - 2)
  unfolding record_of
  record_is =
      rw (length_orders n 2 j, joined_orders n 2 j w.orders (omega arith) w.room, ← w.ends)
      (sym (append_assoc (bytes_of 2 n) table (slice j 2 (end - 2))))

  pub too_small : (out : List ℕ) → length out < head_of n + (end - 2)
      → (false ≡ fits_in (record_of (orders_from n 2 j)) out) × (out ≡ out_after_of (record_of (orders_from n 2 j)) out)
  unfolding out_after_of
  too_small out h =
      let s = record_size in
      let t : leb (length (record_of os)) (length out) ≡ false = lt-leb (length (record_of os)) (length out) (omega arith) in
      (sym t, rw t)

  pub all_written : (out o1 o2 o3 : List ℕ) → head_of n + (end - 2) ≤ length out
      → o1 ≡ splice out 0 (bytes_of 2 n) → o2 ≡ splice o1 2 table → o3 ≡ splice o2 (2 + 8 * n) (slice j 2 (end - 2))
      → (true ≡ fits_in (record_of (orders_from n 2 j)) out) × (o3 ≡ out_after_of (record_of (orders_from n 2 j)) out)
  unfolding out_after_of
  all_written out o1 o2 o3 h e1 e2 e3 =
      let s = record_size in
      let t : leb (length (record_of os)) (length out) ≡ true = le-leb (length (record_of os)) (length out) (omega arith) in
      let b = length_bytes 2 n in
      let low = w.low in
      let high = w.high in
      let room = w.room in
      let lt : length table ≡ 8 * n = length_table (layout_from (head_of n) os) ∙ ap (λ (k : ℕ). 8 * k) (length_layout (head_of n) os ∙ length_orders n 2 j) in
      let ls = length_slice j 2 (end - 2) (omega arith) in
      let lb = length-append (bytes_of 2 n) table in
      let two : o2 ≡ splice out 0 (bytes_of 2 n ++ table) =
      e2 ∙ ap (λ (x : List ℕ). splice x 2 table) e1 ∙ splice_after out 0 (bytes_of 2 n) table 2 (omega arith) (omega arith) in
      let three : o3 ≡ splice out 0 ((bytes_of 2 n ++ table) ++ slice j 2 (end - 2)) =
      e3 ∙ ap (λ (x : List ℕ). splice x (2 + 8 * n) (slice j 2 (end - 2))) two
      ∙ splice_after out 0 (bytes_of 2 n ++ table) (slice j 2 (end - 2)) (2 + 8 * n) (omega arith) (omega arith) in
      (sym t, rw t (three ∙ ap (splice out 0) (sym record_is)))
