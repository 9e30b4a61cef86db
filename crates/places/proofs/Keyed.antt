-- The changes among holders that are numbers, seen by holders that go by ids. Assumes nothing.
use mathlib.Core.Path.{◌≡◌, refl, sym, ap, ◌∙◌}
use mathlib.Core.Bool.{Bool, true, false}
use mathlib.Core.List.{List, [], ◌∷◌, map}
use Prim.Native.Nat.{ℕ, ◌+◌, ◌<◌}
use lib.Dec.{eqb, leb}
use lib.ListN.{length-map}
use Rattle.wire.specs.Tests.{pick, both}
use Rattle.places.specs.Counts.{one}
use Rattle.places.specs.Sharing.{Sharing, is_one, drop, drop_all, via, join, fresh, full, taken, cells_only}
use Rattle.places.specs.Memory.{is_cell, sharing_of}
use Rattle.places.specs.Keyed.{keyed}
use Rattle.places.proofs.Counting.{count_cong}
use Rattle.places.proofs.Steps.{equal_sharing}

-- a record listed in a slot, or taken off it, whose icons point at none
pub keyed_listed : {H : Type 0} (num new : H → ℕ) (m n : ℕ) (ptr : ℕ → ℕ) → ((g : H) → ptr (num g) ≡ ptr (new g))
    → keyed num (sharing_of m ptr n) ≡ keyed new (sharing_of m ptr n)
unfolding keyed sharing_of
keyed_listed num new m n ptr e =
    equal_sharing (keyed num (sharing_of m ptr n)) (keyed new (sharing_of m ptr n)) (λ g k. rw (e g, e k)) (λ g. rw (e g)) refl refl

module _ {H : Type 0} (same : H → H → Bool) (num : H → ℕ) where
  -- no other holder has the number of h
  abbrev pub Own : H → Type 0
  Own h = (g : H) → eqb (num g) (num h) ≡ same g h

  abbrev pub Owns : List H → Type 0
  Owns [] = Unit {0}
  Owns (h ∷ hs) = Own h × Owns hs

  pub keyed_drop : (h : H) → Own h → (t : Sharing ℕ) → keyed num (drop eqb (num h) t) ≡ drop same h (keyed num t)
  unfolding keyed drop
  keyed_drop h own t =
      equal_sharing (keyed num (drop eqb (num h) t)) (drop same h (keyed num t)) (λ g k. rw (own g, own k)) (λ g. rw (own g)) refl refl

  pub keyed_join : (h c : H) → Own h → (t : Sharing ℕ) → keyed num (join eqb (num h) (num c) t) ≡ join same h c (keyed num t)
  unfolding keyed join
  keyed_join h c own t =
      equal_sharing (keyed num (join eqb (num h) (num c) t)) (join same h c (keyed num t))
      (λ g k. ap (λ (x : ℕ). t.shares x (via eqb (num h) (num c) (num k))) (go g) ∙ ap (t.shares (num (via same h c g))) (go k))
      (λ g. ap (λ (x : ℕ). t.users x + one (t.shares x (num c))) (go g)) refl refl
    where
      pick-num : (u : Bool) (g : H) → pick u (num c) (num g) ≡ num (pick u c g)
      pick-num true g = refl
      pick-num false g = refl

      go : (g : H) → via eqb (num h) (num c) (num g) ≡ num (via same h c g)
      go g = ap (λ (u : Bool). pick u (num c) (num g)) (own g) ∙ pick-num (same g h) g

  pub keyed_drops : (hs : List H) → Owns hs → (t : Sharing ℕ) → keyed num (drop_all eqb (map num hs) t) ≡ drop_all same hs (keyed num t)
  keyed_drops [] owns t = refl
  keyed_drops (h ∷ hs) owns t = keyed_drops hs owns.1 (drop eqb (num h) t) ∙ ap (drop_all same hs) (keyed_drop h owns.0 t)

  pub keyed_one : (hs : List H) → Owns hs → (g : H) → is_one eqb (map num hs) (num g) ≡ is_one same hs g
  keyed_one [] owns g = refl
  keyed_one (h ∷ hs) owns g = rw (owns.0 g, keyed_one hs owns.1 g)

  pub keyed_fresh : (hs : List H) → Owns hs → (t : Sharing ℕ) → keyed num (fresh eqb (map num hs) t) ≡ fresh same hs (keyed num t)
  unfolding keyed fresh
  keyed_fresh hs owns t =
      equal_sharing (keyed num (fresh eqb (map num hs) t)) (fresh same hs (keyed num t)) (λ g k. rw (keyed_one hs owns g, keyed_one hs owns k))
      (λ g. rw (keyed_one hs owns g, length-map hs num)) refl refl

  keyed_used : (t : Sharing ℕ) → (keyed num t).used ≡ t.used
  unfolding keyed
  keyed_used t = refl

  keyed_places : (t : Sharing ℕ) → (keyed num t).places ≡ t.places
  unfolding keyed
  keyed_places t = refl

  pub keyed_full : (hs : List H) → Owns hs → (t : Sharing ℕ) → full eqb (map num hs) t ≡ full same hs (keyed num t)
  unfolding full
  keyed_full hs owns t =
      ap (leb t.places) (sym (keyed_used (drop_all eqb (map num hs) t)) ∙ ap (λ (i : Sharing H). i.used) (keyed_drops hs owns t))
      ∙ ap (λ (n : ℕ). leb n (drop_all same hs (keyed num t)).used) (sym (keyed_places t))

  pub keyed_taken : (hs : List H) → Owns hs → (t : Sharing ℕ) → keyed num (taken eqb (map num hs) t) ≡ taken same hs (keyed num t)
  unfolding taken
  keyed_taken hs owns t = rw (← keyed_full hs owns t) (go (full eqb (map num hs) t))
    where
      go : (u : Bool) → keyed num (pick u t (fresh eqb (map num hs) (drop_all eqb (map num hs) t)))
          ≡ pick u (keyed num t) (fresh same hs (drop_all same hs (keyed num t)))
      go true = refl
      go false = keyed_fresh hs owns (drop_all eqb (map num hs) t) ∙ ap (fresh same hs) (keyed_drops hs owns t)

  -- after desktop none no record is listed: `new` numbers the cells only
  pub keyed_cells : (cells : H → Bool) (cell : ℕ → H) (new : H → ℕ) → ((g : H) → is_cell (new g) ≡ cells g) → ((g : H) → cells g ≡ true → new g ≡ num g)
      → ((c : ℕ) → c < 12 → num (cell c) ≡ c) → (t : Sharing ℕ) → keyed new (cells_only is_cell (λ c. c) t) ≡ cells_only cells cell (keyed num t)
  unfolding keyed cells_only
  keyed_cells cells cell new is keeps at t =
      equal_sharing (keyed new (cells_only is_cell (λ c. c) t)) (cells_only cells cell (keyed num t))
      (λ g k. rw (is g, is k) (two g k (cells g) (cells k) refl refl))
      (λ g. rw (is g) (one-by g (cells g) refl))
      (count_cong 12 (λ c. t.shares (num (cell c)) (num (cell c))) (λ c. t.shares c c) (λ c l. rw (at c l)))
      refl
    where
      two : (g k : H) (u v : Bool) → cells g ≡ u → cells k ≡ v → both (both u v) (t.shares (new g) (new k)) ≡ both (both u v) (t.shares (num g) (num k))
      two g k true true x y = rw (keeps g x, keeps k y)
      two g k true false x y = refl
      two g k false v x y = refl

      one-by : (g : H) (u : Bool) → cells g ≡ u → one (both u (t.shares (new g) (new g))) ≡ one (both u (t.shares (num g) (num g)))
      one-by g true x = rw (keeps g x)
      one-by g false x = refl
