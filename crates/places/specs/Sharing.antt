-- Which holders of pictures share a place, without place numbers: two tables that show the same and share the same are
-- equal. Over any type of holders with a test of sameness; here they are numbers, in a table they go by ids. Assumes nothing.
use Rattle.std.specs.Prelude.{ℕ, ◌+◌, ◌-◌, Bool, false, List, [], ◌∷◌, eqb, leb, length}
use Rattle.wire.specs.Tests.{pick, both, either}
use Rattle.places.specs.Counts.{one, count_below}
use Rattle.places.specs.Sizes.{cell_count}

pub record Sharing (H : Type 0) : Type 0 where
  -- both point at one place; shares h h: h points at one
  pub shares : H → H → Bool
  -- how many holders are at h's place, 0 for none
  pub users : H → ℕ
  -- how many places are pointed at, and how many there are
  pub used : ℕ
  pub places : ℕ

module _ {H : Type 0} (same : H → H → Bool) where
  abbrev pub is_one : List H → H → Bool
  is_one [] g = false
  is_one (h ∷ hs) g = either (same g h) (is_one hs g)

  -- holder h lets its place go
  unfoldable pub drop : H → Sharing H → Sharing H
  drop h t =
      record {
        shares = λ g k. pick (either (same g h) (same k h)) false (t.shares g k);
        users = λ g. pick (same g h) 0 (t.users g - one (t.shares g h));
        used = t.used - one (eqb (t.users h) 1);
        places = t.places;
      }

  abbrev pub drop_all : List H → Sharing H → Sharing H
  drop_all [] t = t
  drop_all (h ∷ hs) t = drop_all hs (drop h t)

  -- holder h, which points at none, joins c: it shares what c shares
  abbrev pub via : H → H → H → H
  via h c g = pick (same g h) c g

  unfoldable pub join : H → H → Sharing H → Sharing H
  join h c t =
      record {
        shares = λ g k. t.shares (via h c g) (via h c k);
        users = λ g. t.users (via h c g) + one (t.shares (via h c g) c);
        used = t.used;
        places = t.places;
      }

  -- holders that point at none take a place that nobody points at
  unfoldable pub fresh : List H → Sharing H → Sharing H
  fresh hs t =
      record {
        shares = λ g k. pick (either (is_one hs g) (is_one hs k)) (both (is_one hs g) (is_one hs k)) (t.shares g k);
        users = λ g. pick (is_one hs g) (length hs) (t.users g);
        used = t.used + 1;
        places = t.places;
      }

  -- refusal 17 of an icon: every place is still pointed at once its holders have let go
  unfoldable pub full : List H → Sharing H → Bool
  full hs t = leb t.places (drop_all hs t).used

  -- an icon: its holders let go and take a place, unless 17
  unfoldable pub taken : List H → Sharing H → Sharing H
  taken hs t = pick (full hs t) t (fresh hs (drop_all hs t))

-- desktop none: only the cells keep theirs, and no two of them share
unfoldable pub cells_only : {H : Type 0} → (H → Bool) → (ℕ → H) → Sharing H → Sharing H
cells_only is_cell cell t =
    record {
      shares = λ g k. both (both (is_cell g) (is_cell k)) (t.shares g k);
      users = λ g. one (both (is_cell g) (t.shares g g));
      used = count_below cell_count (λ c. t.shares (cell c) (cell c));
      places = t.places;
    }
