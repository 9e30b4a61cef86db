-- No change of a table's memory reaches past the needed lengths, and none of its store past the places that were fixed. Assumes
-- nothing.
use mathlib.Core.Path.{◌≡◌, refl, ◌∙◌}
use mathlib.Core.Bool.{Bool, true, false}
use mathlib.Core.List.{List, [], ◌∷◌}
use Prim.Native.Nat.{ℕ, ◌+◌, ◌*◌, ◌≤◌, ◌<◌}
use native.Mathlib.Omega.{arith}
use lib.ListN.{length, drop, replicate, set, length-replicate}
use Rattle.wire.specs.Tests.{pick, has}
use Rattle.wire.specs.Numbers.{bytes_of}
use Rattle.wire.specs.Parts.{splice}
use Rattle.wire.proofs.Numbers.{Bytes, length_bytes}
use Rattle.wire.proofs.Parts.{length_splice, drop_splice, set_splice}
use Rattle.protocol.specs.Flags.{desktop_none}
use Rattle.places.specs.Memory.{pointer_at}
use Rattle.places.specs.Changes.{point_to, point_all, share_of, release_of, release_all_of, release_records_of}
use Rattle.places.proofs.Bytes.{Holders, holders_first, holders_later, length_point, length_records}
use Rattle.slots.specs.Sound.{sound_index}
use Rattle.slots.proofs.Soundness.{sound_has}
use Rattle.index.specs.declared.Change.{Change}
use Rattle.index.specs.declared.Plan.{Plan}
use Rattle.index.specs.declared.Plan.TheVariants.{ChangeRecord, ChangeDesktop, Refuse}
use Rattle.index.specs.Orders.{brings_icon, brings_cached, clears_overlay}
use Rattle.index.specs.Plans.{plan_of}
use Rattle.index.specs.Changes.{listed_of, freed_of, icons_at, removed_of, pictured_of, changed_of, cleared_of, emptied_of, applied_of, Fits, FitsPlan}
use Rattle.index.proofs.Memory.{releases_slotted}
use Rattle.index.proofs.Shared.{icons_holders}
use Rattle.index.proofs.After.{plan_fits}
use Rattle.table.specs.Outcome.{StoreKept, PastKept}
use Rattle.places.proofs.Meaning.{holders}

pub same_past : (x b : List ℕ) → PastKept x b x b
same_past x b = record { index = refl; bodies = refl }

-- of one change after another
pub past_past : {x b x' b' x'' b'' : List ℕ} → PastKept x b x' b' → PastKept x' b' x'' b'' → PastKept x b x'' b''
past_past h k = record { index = k.index ∙ h.index; bodies = k.bodies ∙ h.bodies }

pub same_store : (n : ℕ) (p : List (List ℕ)) → StoreKept n p p
same_store n p = record { lengths = refl; past = refl; others = λ q h. refl }

pub store_store : {n : ℕ} {p p' p'' : List (List ℕ)} → StoreKept n p p' → StoreKept n p' p'' → StoreKept n p p''
store_store h k = record { lengths = k.lengths ∙ h.lengths; past = k.past ∙ h.past; others = λ q l. k.others q l ∙ h.others q l }

-- ---- the index

point_past : (x : List ℕ) (h v : ℕ) → h < 156 → 589 ≤ length x → drop 589 (point_to x h v) ≡ drop 589 x
unfolding point_to
point_past x h v below long =
    let e : set x (h + 1) v ≡ splice x (h + 1) (v ∷ []) = set_splice x (h + 1) v (omega arith) in
    rw e (drop_splice x (h + 1) (v ∷ []) (omega arith) 589 (omega arith))

points_past : (hs x : List ℕ) (v : ℕ) → Holders hs → 589 ≤ length x → drop 589 (point_all x hs v) ≡ drop 589 x
points_past [] x v all long = refl
points_past (h ∷ hs) x v all long =
    let l = length_point x h v in
    points_past hs (point_to x h v) v (holders_later h hs all) (omega arith) ∙ point_past x h v (holders_first h hs all) long

listed_past : (x : List ℕ) (i a b : ℕ) → 589 ≤ length x → i < 48 → (length (listed_of x i a b) ≡ length x) × (drop 589 (listed_of x i a b) ≡ drop 589 x)
unfolding listed_of
listed_past x i a b long below =
    let at = 157 + 9 * i in
    let l1 = length_bytes 1 1 in
    let l4 = length_bytes 4 a in
    let l5 = length_bytes 4 b in
    let y = splice x at (bytes_of 1 1) in
    let z = splice y (at + 1) (bytes_of 4 a) in
    let ly : length y ≡ length x = length_splice x at (bytes_of 1 1) (omega arith) in
    let lz : length z ≡ length y = length_splice y (at + 1) (bytes_of 4 a) (omega arith) in
    let size : length (splice z (at + 5) (bytes_of 4 b)) ≡ length x = length_splice z (at + 5) (bytes_of 4 b) (omega arith) ∙ lz ∙ ly in
    let past : drop 589 (splice z (at + 5) (bytes_of 4 b)) ≡ drop 589 x =
    drop_splice z (at + 5) (bytes_of 4 b) (omega arith) 589 (omega arith)
    ∙ drop_splice y (at + 1) (bytes_of 4 a) (omega arith) 589 (omega arith)
    ∙ drop_splice x at (bytes_of 1 1) (omega arith) 589 (omega arith) in
    (size, past)

removed_past : (x : List ℕ) (i : ℕ) → 589 ≤ length x → i < 48 → drop 589 (removed_of x i) ≡ drop 589 x
unfolding removed_of freed_of release_of
removed_past x i long below =
    let z = release_all_of x (icons_at i) in
    let e = (releases_slotted (icons_at i) x (icons_holders i below) long).long in
    let l = length_bytes 1 0 in
    drop_splice z (157 + 9 * i) (bytes_of 1 0) (omega arith) 589 (omega arith) ∙ points_past (icons_at i) x 0 (icons_holders i below) long

pictured_past : (x : List ℕ) (c : Change) → Fits c → 589 ≤ length x → drop 589 (pictured_of x c) ≡ drop 589 x
unfolding pictured_of share_of release_of
pictured_past x c fits long = go (brings_icon c.flags) (brings_cached c.flags) (clears_overlay c.flags) refl
  where
    go : (t u n : Bool) → brings_icon c.flags ≡ t
        → drop 589 (pick t (point_all x (c.cell ∷ c.pointer ∷ []) (c.place + 1)) (pick u (point_to x c.pointer (pointer_at x c.cell)) (pick n (point_to x c.pointer 0) x)))
        ≡ drop 589 x
    go true u n e = points_past (c.cell ∷ c.pointer ∷ []) x (c.place + 1) (holders c.cell c.pointer (fits.icon e) fits.pointer) long
    go false true n e = point_past x c.pointer (pointer_at x c.cell) fits.pointer long
    go false false true e = point_past x c.pointer 0 fits.pointer long
    go false false false e = refl

changed_past : (x : List ℕ) (c : Change) → Fits c → 589 ≤ length x → drop 589 (changed_of x c) ≡ drop 589 x
unfolding changed_of
changed_past x c fits long = go c.deleted c.fresh
  where
    go : (d t : Bool) → drop 589 (pick d (removed_of x c.slot) (pictured_of (pick t (listed_of x c.slot c.window.id c.notify.id) x) c)) ≡ drop 589 x
    go true t = removed_past x c.slot long fits.slot
    go false true =
        let l = listed_past x c.slot c.window.id c.notify.id long fits.slot in
        pictured_past (listed_of x c.slot c.window.id c.notify.id) c fits (omega (arith, l.0)) ∙ l.1
    go false false = pictured_past x c fits long

cleared_past : (x : List ℕ) → 589 ≤ length x → drop 589 (cleared_of x) ≡ drop 589 x
unfolding cleared_of release_records_of
cleared_past x long =
    let l = length_records x (omega arith) in
    let e = length-replicate {A = ℕ} 432 0 in
    let f = length-replicate {A = ℕ} 144 0 in
    drop_splice (release_records_of x) 157 (replicate 432 0) (omega arith) 589 (omega arith) ∙ drop_splice x 13 (replicate 144 0) (omega arith) 589 (omega arith)

pub emptied_past : (x : List ℕ) (n : ℕ) → 589 ≤ length x → drop 589 (emptied_of x n) ≡ drop 589 x
unfolding emptied_of
emptied_past x n long =
    let e = length-replicate {A = ℕ} 589 0 in
    let l = length_bytes 1 n in
    let m = length_splice x 0 (replicate 589 0) (omega arith) in
    drop_splice (splice x 0 (replicate 589 0)) 0 (bytes_of 1 n) (omega arith) 589 (omega arith) ∙ drop_splice x 0 (replicate 589 0) (omega arith) 589 (omega arith)

pub index_past : (x s : List ℕ) → sound_index x ≡ true → Bytes s → drop 589 (applied_of x (plan_of x s)) ≡ drop 589 x
unfolding applied_of
index_past x s ok bytes = go (plan_of x s) (plan_fits x s ok bytes)
  where
    long : 589 ≤ length x
    long = (sound_has x ok).long

    cleared : (t : Bool) → drop 589 (pick t (cleared_of x) x) ≡ drop 589 x
    cleared true = cleared_past x long
    cleared false = refl

    go : (p : Plan) → FitsPlan p → drop 589 (applied_of x p) ≡ drop 589 x
    go (ChangeRecord c) fits = changed_past x c fits long
    go (ChangeDesktop flags) fits = cleared (has flags desktop_none)
    go (Refuse n) fits = refl
