-- The rule of a table's memory as facts. Assumes nothing.
use mathlib.Core.Path.{◌≡◌, refl}
use mathlib.Core.Bool.{Bool, true, false, not}
use mathlib.Core.List.{List}
use Prim.Native.Nat.{ℕ, ◌-◌, ◌≤◌}
use lib.Dec.{eqb, ltb}
use lib.ListN.{length}
use borrow.Author.Tests.{eqb-false, ne_eqb, ltb-true, ltb-false, le-ltb}
use Rattle.wire.specs.Tests.{pick}
use Rattle.places.specs.declared.Family.{Family}
use Rattle.places.specs.declared.Family.TheVariants.{Windows, Notifications}
use Rattle.places.specs.Counts.{each_below}
use Rattle.places.specs.Memory.{places_of, pointer_at}
use Rattle.places.proofs.Bytes.{outside}
use Rattle.places.proofs.Counting.{each_has, each_is}
use Rattle.slots.specs.Families.{start, capacity}
use Rattle.slots.specs.Slots.{is_used}
use Rattle.slots.specs.Sound.{sound_index}
use Rattle.slots.proofs.Searching.{each_ok, all_ok}
use Rattle.slots.proofs.Soundness.{Within}
use Rattle.body.specs.Bodies.{desktop_fields, slot_of, body_ok}
use Rattle.picture.specs.Pictures.{head_ok}
use Rattle.table.specs.Table.{field_rows}
use Rattle.table.specs.Memory.{heads_of, record_ok, records_ok, holder_ok, sound_table}
use Rattle.wire.proofs.Tests.{never}

pub record TableSound (x b : List ℕ) (lent : ℕ) : Type 0 where
  pub big : 61012 ≤ length b
  pub index : sound_index x ≡ true
  pub lends : places_of x ≤ lent
  pub records : (f : Family) (i : ℕ) → Within f i → is_used x i ≡ true → body_ok (field_rows f) 0 0 (slot_of b i) ≡ true
  pub desktop : body_ok desktop_fields 1 1 (slot_of b 48) ≡ true
  pub heads : (h : ℕ) → (pointer_at x h ≡ 0 → ⊥) → head_ok (heads_of b) (pointer_at x h - 1) ≡ true

-- a test that asks nothing of what is absent
unless : (t b : Bool) → pick (not t) true b ≡ true → t ≡ true → b ≡ true
unless true b e h = e
unless false b e h = never h

unless_is : (t b : Bool) → (t ≡ true → b ≡ true) → pick (not t) true b ≡ true
unless_is true b h = h refl
unless_is false b h = refl

module _ (x b : List ℕ) (lent : ℕ) where
  records_have : records_ok Windows x b ≡ true → records_ok Notifications x b ≡ true
      → (f : Family) (i : ℕ) → Within f i → is_used x i ≡ true → body_ok (field_rows f) 0 0 (slot_of b i) ≡ true
  unfolding record_ok
  records_have d e Windows i w u =
      unless (is_used x i) (body_ok (field_rows Windows) 0 0 (slot_of b i)) (each_ok 32 0 (record_ok (field_rows Windows) x b) d i w.low w.high) u
  records_have d e Notifications i w u =
      unless (is_used x i) (body_ok (field_rows Notifications) 0 0 (slot_of b i)) (each_ok 16 32 (record_ok (field_rows Notifications) x b) e i w.low w.high) u

  heads_have : each_below 156 (holder_ok x b) ≡ true → (h : ℕ) → (pointer_at x h ≡ 0 → ⊥) → head_ok (heads_of b) (pointer_at x h - 1) ≡ true
  unfolding holder_ok
  heads_have e h ne = go (ltb h 156) refl
    where
      go : (t : Bool) → ltb h 156 ≡ t → head_ok (heads_of b) (pointer_at x h - 1) ≡ true
      go true t = rw (ne_eqb (pointer_at x h) 0 ne) at (each_has 156 (holder_ok x b) e h (ltb-true h 156 t))
      go false t = absurd (ne (outside x h (ltb-false h 156 t)))

  pub table_has : sound_table x b lent ≡ true → TableSound x b lent
  unfolding sound_table
  table_has e =
      go (ltb (length b) 61012) (sound_index x) (ltb lent (places_of x)) (records_ok Windows x b) (records_ok Notifications x b)
      (body_ok desktop_fields 1 1 (slot_of b 48)) refl refl refl refl refl refl e
    where
      go : (l i p w n d : Bool) → ltb (length b) 61012 ≡ l → sound_index x ≡ i → ltb lent (places_of x) ≡ p → records_ok Windows x b ≡ w
          → records_ok Notifications x b ≡ n → body_ok desktop_fields 1 1 (slot_of b 48) ≡ d
          → pick l false (pick (not i) false (pick p false (pick (not w) false (pick (not n) false (pick (not d) false (each_below 156 (holder_ok x b))))))) ≡ true
          → TableSound x b lent
      go true i p w n d x1 x2 x3 x4 x5 x6 e = never e
      go false false p w n d x1 x2 x3 x4 x5 x6 e = never e
      go false true true w n d x1 x2 x3 x4 x5 x6 e = never e
      go false true false false n d x1 x2 x3 x4 x5 x6 e = never e
      go false true false true false d x1 x2 x3 x4 x5 x6 e = never e
      go false true false true true false x1 x2 x3 x4 x5 x6 e = never e
      go false true false true true true x1 x2 x3 x4 x5 x6 e =
          record {
            big = ltb-false (length b) 61012 x1;
            index = x2;
            lends = ltb-false lent (places_of x) x3;
            records = records_have x4 x5;
            desktop = x6;
            heads = heads_have e;
          }

  pub table_is : TableSound x b lent → sound_table x b lent ≡ true
  unfolding sound_table record_ok holder_ok
  table_is s =
      rw (le-ltb (length b) 61012 s.big, s.index, le-ltb lent (places_of x) s.lends, records-are Windows, records-are Notifications, s.desktop)
      (each_is 156 (holder_ok x b) (λ h l. holder (eqb (pointer_at x h) 0) h refl))
    where
      records-are : (f : Family) → records_ok f x b ≡ true
      records-are f =
          all_ok (capacity f) (start f) (record_ok (field_rows f) x b)
          (λ i l u. unless_is (is_used x i) (body_ok (field_rows f) 0 0 (slot_of b i)) (s.records f i (record { low = l; high = u })))

      holder : (t : Bool) (h : ℕ) → eqb (pointer_at x h) 0 ≡ t → pick t true (head_ok (heads_of b) (pointer_at x h - 1)) ≡ true
      holder true h e = refl
      holder false h e = s.heads h (eqb-false (pointer_at x h) 0 e)
