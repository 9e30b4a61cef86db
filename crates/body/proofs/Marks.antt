-- A slot's body after a store: its fields after the flagged ones were stored, and each mark that was set. Assumes nothing.
use mathlib.Core.Path.{◌≡◌, refl, ◌∙◌}
use mathlib.Core.Bool.{Bool, true, false}
use mathlib.Core.List.{List}
use Prim.Native.Nat.{ℕ, ◌+◌, ◌≤◌, ◌<◌}
use native.Mathlib.Nat.{zero-add}
use native.Mathlib.Omega.{arith}
use lib.Dec.{leb}
use lib.ListN.{length, take, drop}
use borrow.Author.Tests.{leb-true, le-leb}
use Rattle.wire.specs.Tests.{pick, both, has}
use Rattle.wire.specs.Numbers.{num_at, bytes_of}
use Rattle.wire.specs.Parts.{splice}
use Rattle.wire.proofs.Tests.{both_left, both_right}
use Rattle.wire.proofs.Parts.{slice_cong, length_splice, drop_splice}
use Rattle.wire.proofs.Numbers.{num_cong, num_before, num_after, num_put, length_bytes, fits1}
use Rattle.rows.specs.declared.Row.{Row}
use Rattle.body.specs.Bodies.{fields_of, fields_ok, body_of, body_ok, set_flagged}
use Rattle.body.specs.Stores.{store_of, hooked_of, synced_of, room_all, EndsWell}
use Rattle.body.proofs.Placed.{Placed, All, fields_cong, fields_ok_cong}
use Rattle.body.proofs.Stored.{stored, both_true}
use Rattle.protocol.specs.Flags.{desktop_arc_began, desktop_arc_completed, desktop_hooked}

-- ---- a body by its parts

pub body_is : (rows : List Row) (x : List ℕ) {a b : ℕ} {fs : List (List ℕ)} → num_at 1 x 0 ≡ a → num_at 1 x 1 ≡ b → fields_of rows 2 x ≡ fs
    → body_of rows x ≡ record { first = a; second = b; fields = fs }
unfolding body_of
body_is rows x e f g = rw (e, f, g)

-- what a sound body is
pub record Fine (rows : List Row) (m n : ℕ) (slot : List ℕ) : Type 0 where
  pub first : num_at 1 slot 0 ≤ m
  pub second : num_at 1 slot 1 ≤ n
  pub fields : fields_ok rows 2 slot ≡ true

module _ (rows : List Row) (m n : ℕ) (slot : List ℕ) where
  pub fine : body_ok rows m n slot ≡ true → Fine rows m n slot
  unfolding body_ok
  fine h =
      let a = leb (num_at 1 slot 0) m in
      let b = leb (num_at 1 slot 1) n in
      let c = fields_ok rows 2 slot in
      let t = both_right a (both b c) h in
      record {
        first = leb-true (num_at 1 slot 0) m (both_left a (both b c) h);
        second = leb-true (num_at 1 slot 1) n (both_left b c t);
        fields = both_right b c t;
      }

  pub fine_ok : Fine rows m n slot → body_ok rows m n slot ≡ true
  unfolding body_ok
  fine_ok f = both_true (le-leb (num_at 1 slot 0) m f.first) (both_true (le-leb (num_at 1 slot 1) n f.second) f.fields)

-- ---- the flagged fields stored

mark_cong : (x y : List ℕ) (i : ℕ) → i < 2 → take 2 x ≡ take 2 y → num_at 1 x i ≡ num_at 1 y i
mark_cong x y i h e = rw (zero-add i) at (num_cong 1 x y 0 0 2 i (omega arith) (slice_cong x y 0 2 2 (omega arith) e))

module _ (rows : List Row) (flags : ℕ) (s : List ℕ) (at : ℕ) (slot : List ℕ) (a : All Placed rows) (e : EndsWell rows flags s at) (low : 1 ≤ at)
    (inside : at ≤ length s) (room : 2 + room_all rows ≤ length slot) where
  pub stored_body : body_of rows (store_of rows 2 flags s at slot)
      ≡ record { first = num_at 1 slot 0; second = num_at 1 slot 1; fields = set_flagged rows flags s at (fields_of rows 2 slot) }
  stored_body =
      let x = store_of rows 2 flags s at slot in
      let t = stored rows 2 flags s at slot a e low inside room in
      body_is rows x (mark_cong x slot 0 (omega arith) t.before) (mark_cong x slot 1 (omega arith) t.before) t.fields

  pub stored_ok : (m n : ℕ) → body_ok rows m n slot ≡ true → body_ok rows m n (store_of rows 2 flags s at slot) ≡ true
  stored_ok m n h =
      let x = store_of rows 2 flags s at slot in
      let t = stored rows 2 flags s at slot a e low inside room in
      let f = fine rows m n slot h in
      fine_ok rows m n x
      (record {
        first = rw (mark_cong x slot 0 (omega arith) t.before) f.first;
        second = rw (mark_cong x slot 1 (omega arith) t.before) f.second;
        fields = t.ok f.fields;
      })

-- ---- a mark set

-- x is the slot with the marks a and b
pub record Marked (slot x : List ℕ) (a b : ℕ) : Type 0 where
  pub first : num_at 1 x 0 ≡ a
  pub second : num_at 1 x 1 ≡ b
  pub rest : drop 2 x ≡ drop 2 slot
  pub same : length x ≡ length slot

module _ (rows : List Row) (slot x : List ℕ) (a b : ℕ) (k : Marked slot x a b) where
  pub marked_body : body_of rows x ≡ record { first = a; second = b; fields = fields_of rows 2 slot }
  marked_body = body_is rows x k.first k.second (fields_cong rows 2 x slot k.rest)

  pub marked_ok_lem : (m n : ℕ) → a ≤ m → b ≤ n → fields_ok rows 2 slot ≡ true → body_ok rows m n x ≡ true
  marked_ok_lem m n g h o =
      fine_ok rows m n x (record { first = rw k.first g; second = rw k.second h; fields = fields_ok_cong rows 2 x slot k.rest ∙ o })

module _ (slot : List ℕ) (long : 2 ≤ length slot) where
  mark_none : Marked slot slot (num_at 1 slot 0) (num_at 1 slot 1)
  mark_none = record { first = refl; second = refl; rest = refl; same = refl }

  module _ (v : ℕ) (small : v < 256) where
    mark-first : Marked slot (splice slot 0 (bytes_of 1 v)) v (num_at 1 slot 1)
    mark-first =
        let l = length_bytes 1 v in
        let f : 0 + length (bytes_of 1 v) ≤ length slot = omega arith in
        record {
          first = num_put 1 slot 0 v (omega arith) (fits1 v small);
          second = num_after 1 slot 0 (bytes_of 1 v) f 1 (omega arith);
          rest = drop_splice slot 0 (bytes_of 1 v) f 2 (omega arith);
          same = length_splice slot 0 (bytes_of 1 v) f;
        }

    mark-second : Marked slot (splice slot 1 (bytes_of 1 v)) (num_at 1 slot 0) v
    mark-second =
        let l = length_bytes 1 v in
        let f : 1 + length (bytes_of 1 v) ≤ length slot = omega arith in
        record {
          first = num_before 1 slot 1 (bytes_of 1 v) f 0 (omega arith);
          second = num_put 1 slot 1 v (omega arith) (fits1 v small);
          rest = drop_splice slot 1 (bytes_of 1 v) f 2 (omega arith);
          same = length_splice slot 1 (bytes_of 1 v) f;
        }

  pub hooked : (flags : ℕ) → Marked slot (hooked_of flags slot) (pick (has flags desktop_hooked) 1 (num_at 1 slot 0)) (num_at 1 slot 1)
  unfolding hooked_of
  hooked flags = go (has flags desktop_hooked)
    where
      go : (b : Bool) → Marked slot (pick b (splice slot 0 (bytes_of 1 1)) slot) (pick b 1 (num_at 1 slot 0)) (num_at 1 slot 1)
      go true = mark-first 1 (omega arith)
      go false = mark_none

  pub synced : (flags : ℕ)
      → Marked slot (synced_of flags slot) (num_at 1 slot 0) (pick (has flags desktop_arc_began) 1 (pick (has flags desktop_arc_completed) 0 (num_at 1 slot 1)))
  unfolding synced_of
  synced flags = go (has flags desktop_arc_began) (has flags desktop_arc_completed)
    where
      go : (b c : Bool)
          → Marked slot (pick b (splice slot 1 (bytes_of 1 1)) (pick c (splice slot 1 (bytes_of 1 0)) slot)) (num_at 1 slot 0) (pick b 1 (pick c 0 (num_at 1 slot 1)))
      go true c = mark-second 1 (omega arith)
      go false true = mark-second 0 (omega arith)
      go false false = mark_none

-- ---- the bodies after each mark

pick_le : (b : Bool) (x y n : ℕ) → x ≤ n → y ≤ n → pick b x y ≤ n
pick_le true x y n h g = h
pick_le false x y n h g = g

module _ (rows : List Row) (flags : ℕ) (slot : List ℕ) (long : 2 ≤ length slot) where
  module _ (m n : ℕ) (ok : body_ok rows m n slot ≡ true) where
    pub hooked_ok : 1 ≤ m → body_ok rows m n (hooked_of flags slot) ≡ true
    hooked_ok h =
        let f = fine rows m n slot ok in
        marked_ok_lem rows slot (hooked_of flags slot) (pick (has flags desktop_hooked) 1 (num_at 1 slot 0)) (num_at 1 slot 1) (hooked slot long flags)
        m n (pick_le (has flags desktop_hooked) 1 (num_at 1 slot 0) m h f.first) f.second f.fields

    pub synced_ok : 1 ≤ n → body_ok rows m n (synced_of flags slot) ≡ true
    synced_ok h =
        let f = fine rows m n slot ok in
        let c = pick_le (has flags desktop_arc_completed) 0 (num_at 1 slot 1) n (omega arith) f.second in
        marked_ok_lem rows slot (synced_of flags slot) (num_at 1 slot 0) (pick (has flags desktop_arc_began) 1 (pick (has flags desktop_arc_completed) 0 (num_at 1 slot 1))) (synced slot long flags)
        m n f.first (pick_le (has flags desktop_arc_began) 1 (pick (has flags desktop_arc_completed) 0 (num_at 1 slot 1)) n h c) f.fields
