-- The laws that the functions' proofs cite, one for each way through them. Assumes nothing.
use mathlib.Core.Path.{◌≡◌, refl, sym, ap, ◌∙◌}
use mathlib.Core.Bool.{Bool, true, false, not}
use mathlib.Core.List.{List, [], ◌∷◌}
use Prim.Native.Nat.{ℕ, ◌+◌, ◌*◌, ◌≤◌, ◌<◌}
use native.Mathlib.Omega.{arith}
use lib.Dec.{eqb}
use lib.Bits.{bit_and}
use lib.ListN.{length, get_or, replicate}
use borrow.Author.Tests.{eq-eqb, ne_eqb, le-leb, lt-leb}
use Rattle.wire.specs.Tests.{pick, both, has}
use Rattle.wire.specs.Numbers.{num_at, bytes_of}
use Rattle.wire.specs.Parts.{splice}
use Rattle.wire.proofs.Numbers.{num_past}
use Rattle.protocol.specs.Flags.{desktop_none, flag_big_icon, flag_cached_icon, flag_icon, flag_new, flag_overlay_none, flags_icon, flags_overlay}
use Rattle.places.specs.declared.Family.{Family}
use Rattle.places.specs.declared.Family.TheVariants.{Windows, Notifications}
use Rattle.places.specs.Changes.{point_all, share_of, release_of, release_records_of}
use Rattle.places.proofs.Bytes.{inside}
use Rattle.index.specs.declared.Change.{Change}
use Rattle.index.specs.declared.Plan.{Plan}
use Rattle.index.specs.declared.Plan.TheVariants.{ChangeRecord, ChangeDesktop, Refuse}
use Rattle.index.specs.Orders.{is_new, cell_at, which_of}
use Rattle.index.specs.Plans.{lacks_picture, beside_of}
use Rattle.index.specs.Changes.{listed_of, freed_of, removed_of, pictured_of, changed_of, cleared_of, emptied_of, applied_of, Fits, FitsPlan}
use Rattle.wire.proofs.Tests.{never}

-- ---- 11

pub cell_past : (s : List ℕ) (icon : ℕ) → length s ≤ icon → (0 ≡ cell_at s icon) × (0 < 67073)
unfolding cell_at
cell_past s icon h = (rw (num_past 1 s (icon + 2) (omega arith), num_past 2 s icon h), omega arith)

pub cell_of : (s : List ℕ) (icon : ℕ) {c n : ℕ} → c ≡ num_at 1 s (icon + 2) → n ≡ num_at 2 s icon → 6 * c + n ≡ cell_at s icon
unfolding cell_at
cell_of s icon e f = rw (e, f)

pub is_big : (flags : ℕ) → (bit_and flags flag_big_icon ≡ 0 → ⊥) → (1 ≡ which_of flags) × (1 < 3)
is_big flags h = (rw (ne_eqb (bit_and flags flag_big_icon) 0 h), omega arith)

pub is_overlay : (flags : ℕ) → bit_and flags flag_big_icon ≡ 0 → (bit_and flags flags_overlay ≡ 0 → ⊥) → (2 ≡ which_of flags) × (2 < 3)
is_overlay flags h g = (rw (eq-eqb (bit_and flags flag_big_icon) 0 h, ne_eqb (bit_and flags flags_overlay) 0 g), omega arith)

pub is_small_lem : (flags : ℕ) → bit_and flags flag_big_icon ≡ 0 → bit_and flags flags_overlay ≡ 0 → (0 ≡ which_of flags) × (0 < 3)
is_small_lem flags h g = (rw (eq-eqb (bit_and flags flag_big_icon) 0 h, eq-eqb (bit_and flags flags_overlay) 0 g), omega arith)

pub new_window_lem : (f : Family) (flags : ℕ) → f ≡ Windows → both (has flags flag_new) (not (has flags flags_icon)) ≡ is_new f flags
new_window_lem f flags e = rw e

pub new_notification : (f : Family) (flags : ℕ) → f ≡ Notifications → has flags flag_new ≡ is_new f flags
new_notification f flags e = rw e

-- the holder beside a pointer
module _ (c pointer : ℕ) (l : pointer < 156) where
  pub beside_itself : 12 ≤ c → (pointer ≡ beside_of c pointer) × (pointer < 156)
  unfolding beside_of
  beside_itself h = (rw (le-leb 12 c h), l)

  pub beside_named : c < 12 → (c ≡ beside_of c pointer) × (c < 156)
  unfolding beside_of
  beside_named h = (rw (lt-leb 12 c h), omega arith)

module _ (x : List ℕ) (flags c : ℕ) where
  pub lacks_none : bit_and flags flag_cached_icon ≡ 0 → false ≡ lacks_picture x flags c
  unfolding lacks_picture
  lacks_none g = rw (eq-eqb (bit_and flags flag_cached_icon) 0 g)

  module _ (g : bit_and flags flag_cached_icon ≡ 0 → ⊥) where
    pub cached_past : 12 ≤ c → true ≡ lacks_picture x flags c
    unfolding lacks_picture
    cached_past l = rw (ne_eqb (bit_and flags flag_cached_icon) 0 g, le-leb 12 c l)

    pub cached_empty : c < 12 → eqb (get_or x (c + 1) 0) 0 ≡ lacks_picture x flags c
    unfolding lacks_picture
    cached_empty l = rw (ne_eqb (bit_and flags flag_cached_icon) 0 g, lt-leb 12 c l, inside x c (omega arith))

-- ---- the changes

pub listed_bytes_lem : (x : List ℕ) (i a b : ℕ) {y z w : List ℕ} → y ≡ splice x (157 + 9 * i) (bytes_of 1 1) → z ≡ splice y (157 + 9 * i + 1) (bytes_of 4 a)
    → w ≡ splice z (157 + 9 * i + 5) (bytes_of 4 b) → w ≡ listed_of x i a b
unfolding listed_of
listed_bytes_lem x i a b e f g = rw (← e, ← f) g

pub removed_bytes : (x : List ℕ) (i : ℕ) {y z w v : List ℕ} → y ≡ release_of x (12 + 3 * i) → z ≡ release_of y (12 + 3 * i + 1) → w ≡ release_of z (12 + 3 * i + 2)
    → v ≡ splice w (157 + 9 * i) (bytes_of 1 0) → v ≡ removed_of x i
unfolding removed_of freed_of
removed_bytes x i e f g h =
    let n : 12 + 3 * i + 0 ≡ 12 + 3 * i = omega arith in
    rw (n, ← e, ← f, ← g) h

choose_true : {A : Type 0} (t : Bool) (a b : A) → t ≡ true → pick t a b ≡ a
choose_true true a b e = refl
choose_true false a b e = never e

choose_false : {A : Type 0} (t : Bool) (a b : A) → t ≡ false → pick t a b ≡ b
choose_false true a b e = never (sym e)
choose_false false a b e = refl

module _ (x : List ℕ) (c : Change) where
  pub picture_taken : {y : List ℕ} → (bit_and c.flags flag_icon ≡ 0 → ⊥) → y ≡ point_all x (c.cell ∷ c.pointer ∷ []) (c.place + 1) → y ≡ pictured_of x c
  unfolding pictured_of
  picture_taken h e = rw (ne_eqb (bit_and c.flags flag_icon) 0 h) e

  module _ (h : bit_and c.flags flag_icon ≡ 0) where
    pub picture_shared : {y : List ℕ} → (bit_and c.flags flag_cached_icon ≡ 0 → ⊥) → y ≡ share_of x c.pointer c.cell → y ≡ pictured_of x c
    unfolding pictured_of
    picture_shared g e = rw (eq-eqb (bit_and c.flags flag_icon) 0 h, ne_eqb (bit_and c.flags flag_cached_icon) 0 g) e

    module _ (g : bit_and c.flags flag_cached_icon ≡ 0) where
      pub picture_cleared : {y : List ℕ} → (bit_and c.flags flag_overlay_none ≡ 0 → ⊥) → y ≡ release_of x c.pointer → y ≡ pictured_of x c
      unfolding pictured_of
      picture_cleared k e = rw (eq-eqb (bit_and c.flags flag_icon) 0 h, eq-eqb (bit_and c.flags flag_cached_icon) 0 g, ne_eqb (bit_and c.flags flag_overlay_none) 0 k) e

      pub picture_none : bit_and c.flags flag_overlay_none ≡ 0 → x ≡ pictured_of x c
      unfolding pictured_of
      picture_none k = rw (eq-eqb (bit_and c.flags flag_icon) 0 h, eq-eqb (bit_and c.flags flag_cached_icon) 0 g, eq-eqb (bit_and c.flags flag_overlay_none) 0 k)

  pub changed_deleted : {y : List ℕ} → c.deleted ≡ true → y ≡ removed_of x c.slot → y ≡ changed_of x c
  unfolding changed_of
  changed_deleted t e = rw t e

  module _ (t : c.deleted ≡ false) where
    pub changed_new : {y z : List ℕ} → c.fresh ≡ true → z ≡ listed_of x c.slot c.window.id c.notify.id → y ≡ pictured_of z c → y ≡ changed_of x c
    unfolding changed_of
    changed_new u e f =
        let l = listed_of x c.slot c.window.id c.notify.id in
        f ∙ ap (λ (m : List ℕ). pictured_of m c) (e ∙ sym (choose_true c.fresh l x u))
        ∙ sym (choose_false c.deleted (removed_of x c.slot) (pictured_of (pick c.fresh l x) c) t)

    pub changed_old : {y : List ℕ} → c.fresh ≡ false → y ≡ pictured_of x c → y ≡ changed_of x c
    unfolding changed_of
    changed_old u f =
        let l = listed_of x c.slot c.window.id c.notify.id in
        f ∙ ap (λ (m : List ℕ). pictured_of m c) (sym (choose_false c.fresh l x u))
        ∙ sym (choose_false c.deleted (removed_of x c.slot) (pictured_of (pick c.fresh l x) c) t)

pub icon_fits : (c : Change) → Fits c → (bit_and c.flags flag_icon ≡ 0 → ⊥) → c.cell < 156
icon_fits c f h = f.icon (ap not (ne_eqb (bit_and c.flags flag_icon) 0 h))

pub cached_fits : (c : Change) → Fits c → (bit_and c.flags flag_cached_icon ≡ 0 → ⊥) → c.cell < 156
cached_fits c f h = f.cached (ap not (ne_eqb (bit_and c.flags flag_cached_icon) 0 h))

pub cleared : (x : List ℕ) {y z : List ℕ} → y ≡ release_records_of x → z ≡ splice y 157 (replicate 432 0) → z ≡ cleared_of x
unfolding cleared_of
cleared x e f = rw (← e) f

pub emptied : (x : List ℕ) (n : ℕ) {y z : List ℕ} → y ≡ splice x 0 (replicate 589 0) → z ≡ splice y 0 (bytes_of 1 n) → z ≡ emptied_of x n
unfolding emptied_of
emptied x n e f = rw (← e) f

module _ (x : List ℕ) {p : Plan} where
  pub plan_fits : {c : Change} → p ≡ ChangeRecord c → FitsPlan p → Fits c
  plan_fits e f = rw e at f

  pub applied_record : {c : Change} {y : List ℕ} → p ≡ ChangeRecord c → y ≡ changed_of x c → y ≡ applied_of x p
  unfolding applied_of
  applied_record e f = rw e f

  pub applied_none : {flags : ℕ} {y : List ℕ} → p ≡ ChangeDesktop flags → (bit_and flags desktop_none ≡ 0 → ⊥) → y ≡ cleared_of x → y ≡ applied_of x p
  unfolding applied_of
  applied_none {flags} e h f = rw (e, ne_eqb (bit_and flags desktop_none) 0 h) f

  pub applied_desktop : {flags : ℕ} → p ≡ ChangeDesktop flags → bit_and flags desktop_none ≡ 0 → x ≡ applied_of x p
  unfolding applied_of
  applied_desktop {flags} e h = rw (e, eq-eqb (bit_and flags desktop_none) 0 h)

  pub applied_refused : {n : ℕ} → p ≡ Refuse n → x ≡ applied_of x p
  unfolding applied_of
  applied_refused e = rw e
