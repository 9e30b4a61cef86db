-- What the tests on a point and on boxes say, and how a box is cut in two. Assumes nothing.
use mathlib.Core.Path.{◌≡◌, refl, sym, ap, ◌∙◌}
use mathlib.Core.Bool.{Bool, true, false, not}
use Prim.Native.Nat.{ℕ, ◌+◌, ◌≤◌, ◌<◌}
use native.Mathlib.Omega.{arith}
use lib.Dec.{leb, ltb}
use borrow.Author.Tests.{leb-true, leb-false, ltb-true, le-leb, lt-leb, lt-ltb, le-ltb}
use Rattle.wire.specs.Tests.{both, either}
use Rattle.wire.proofs.Tests.{both_left, both_right}
use Rattle.area.specs.declared.Rect.{Rect}
use Rattle.area.specs.Area.{one, within, inside}
use Rattle.area.specs.Cutting.{meets}

-- ---- a point in a box

pub record In (q : Rect) (x y : ℕ) : Type 0 where
  pub right_of : q.left ≤ x
  pub left_of_lem : x < q.right
  pub under : q.top ≤ y
  pub over : y < q.bottom

pub is_in_lem : (q : Rect) (x y : ℕ) → inside q x y ≡ true → In q x y
unfolding inside
is_in_lem q x y e =
    let row = both_left (within q.top q.bottom y) (within q.left q.right x) e in
    let col = both_right (within q.top q.bottom y) (within q.left q.right x) e in record {
      right_of = leb-true q.left x (both_left (leb q.left x) (ltb x q.right) col);
      left_of_lem = ltb-true x q.right (both_right (leb q.left x) (ltb x q.right) col);
      under = leb-true q.top y (both_left (leb q.top y) (ltb y q.bottom) row);
      over = ltb-true y q.bottom (both_right (leb q.top y) (ltb y q.bottom) row);
    }

pub in_is : (q : Rect) (x y : ℕ) → In q x y → inside q x y ≡ true
unfolding inside
in_is q x y i =
    rw (le-leb q.top y i.under, lt-ltb y q.bottom i.over, le-leb q.left x i.right_of, lt-ltb x q.right i.left_of_lem)

-- ---- two boxes

-- no point lies in both
abbrev pub Apart : Rect → Rect → Type 0
Apart q p = (x y : ℕ) → In q x y → In p x y → ⊥

pub record Crossing (q p : Rect) : Type 0 where
  pub wide : p.left < p.right
  pub high : p.top < p.bottom
  pub top_in : p.top < q.bottom
  pub bottom_in : q.top < p.bottom
  pub left_in : p.left < q.right
  pub right_in : q.left < p.right

pub crossing : (q p : Rect) → meets q p ≡ true → Crossing q p
crossing q p e =
    let p1 = ltb p.left p.right in
    let p2 = both p1 (ltb p.top p.bottom) in
    let p3 = both p2 (ltb p.top q.bottom) in
    let p4 = both p3 (ltb q.top p.bottom) in
    let p5 = both p4 (ltb p.left q.right) in
    let e5 = both_left p5 (ltb q.left p.right) e in
    let e4 = both_left p4 (ltb p.left q.right) e5 in
    let e3 = both_left p3 (ltb q.top p.bottom) e4 in
    let e2 = both_left p2 (ltb p.top q.bottom) e3 in record {
      wide = ltb-true p.left p.right (both_left p1 (ltb p.top p.bottom) e2);
      high = ltb-true p.top p.bottom (both_right p1 (ltb p.top p.bottom) e2);
      top_in = ltb-true p.top q.bottom (both_right p2 (ltb p.top q.bottom) e3);
      bottom_in = ltb-true q.top p.bottom (both_right p3 (ltb q.top p.bottom) e4);
      left_in = ltb-true p.left q.right (both_right p4 (ltb p.left q.right) e5);
      right_in = ltb-true q.left p.right (both_right p5 (ltb q.left p.right) e);
    }

pub apart : (q p : Rect) → meets q p ≡ false → Apart q p
apart q p e x y i j =
    let m : meets q p ≡ true =
    rw (
      lt-ltb p.left p.right (omega arith),
      lt-ltb p.top p.bottom (omega arith),
      lt-ltb p.top q.bottom (omega arith),
      lt-ltb q.top p.bottom (omega arith),
      lt-ltb p.left q.right (omega arith),
      lt-ltb q.left p.right (omega arith),
    ) in
    let z : true ≡ false = sym m ∙ e in
    let o : ◌≡◌ {A = ℕ} 0 1 = cc in
    omega arith

-- ---- a cut in two

within_in : (a b x : ℕ) → a ≤ x → x < b → within a b x ≡ true
within_in a b x h k = rw (le-leb a x h, lt-ltb x b k)

within_before : (a b x : ℕ) → x < a → within a b x ≡ false
within_before a b x h = rw (lt-leb a x h)

within_after : (a b x : ℕ) → b ≤ x → within a b x ≡ false
within_after a b x h = go (leb a x)
  where
    go : (u : Bool) → both u (ltb x b) ≡ false
    go true = le-ltb x b h
    go false = refl

pub within_cut : (a m b x : ℕ) → a ≤ m → m ≤ b → one (within a b x) ≡ one (within a m x) + one (within m b x)
within_cut a m b x h k = go (leb a x) refl (leb m x) refl (leb b x) refl
  where
    go : (u : Bool) → leb a x ≡ u → (v : Bool) → leb m x ≡ v → (w : Bool) → leb b x ≡ w
        → one (within a b x) ≡ one (within a m x) + one (within m b x)
    go true e true f true g =
        let p = leb-true b x g in
        rw (within_after a b x p, within_after a m x (leb-true m x f), within_after m b x p)
    go true e true f false g =
        let p = leb-false b x g in
        rw (within_in a b x (leb-true a x e) p, within_after a m x (leb-true m x f), within_in m b x (leb-true m x f) p)
    go true e false f true g = absurd (omega (arith, leb-false m x f, leb-true b x g))
    go true e false f false g =
        let p = leb-false m x f in
        rw (within_in a b x (leb-true a x e) (leb-false b x g), within_in a m x (leb-true a x e) p, within_before m b x p)
    go false e v f w g =
        let p = leb-false a x e in
        let q : x < m = omega arith in
        rw (within_before a b x p, within_before a m x p, within_before m b x q)

-- a test that is one of two tests stays so beside another
beside : (a b c f : Bool) → one a ≡ one b + one c → one (both a f) ≡ one (both b f) + one (both c f)
beside true true true f e = absurd (omega arith)
beside true true false f e = omega arith
beside true false true f e = omega arith
beside true false false f e = absurd (omega arith)
beside false true c f e = absurd (omega arith)
beside false false true f e = absurd (omega arith)
beside false false false f e = refl

pub rows_apart : (a b c w f : Bool) → one a ≡ one b + one c → one (both (both a w) f) ≡ one (both (both b w) f) + one (both (both c w) f)
rows_apart a b c w f e = beside (both a w) (both b w) (both c w) f (beside a b c w e)

pub columns_apart : (a b c w f : Bool) → one a ≡ one b + one c → one (both (both w a) f) ≡ one (both (both w b) f) + one (both (both w c) f)
columns_apart a b c true f e = beside a b c f e
columns_apart a b c false f e = refl

-- ---- one rectangle more

pub more_points : (c k : Bool) → one (either c k) ≡ one c + one (both k (not c))
more_points true true = refl
more_points true false = refl
more_points false true = refl
more_points false false = refl

-- a rectangle that does not contain a point of the box changes nothing there; one that contains it leaves nothing
pub skip_point : (a c k : Bool) → (a ≡ true → k ≡ true → ⊥) → both a (not (either c k)) ≡ both a (not c)
skip_point false c k h = refl
skip_point true true k h = refl
skip_point true false false h = refl
skip_point true false true h = absurd (h refl refl)

pub full_point : (a c k : Bool) → (a ≡ true → k ≡ true) → both a (not (either c k)) ≡ false
full_point false c k h = refl
full_point true true k h = refl
full_point true false k h = ap not (h refl)

pub no_point : (a c : Bool) → (a ≡ true → ⊥) → both a (not c) ≡ false
no_point false c h = refl
no_point true c h = absurd (h refl)
