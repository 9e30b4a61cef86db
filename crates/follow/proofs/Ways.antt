-- What each function that follows does, by its tests: one law for each way out. Assumes nothing.
use mathlib.Core.Path.{◌≡◌, refl, sym, ap, subst, ◌∙◌}
use mathlib.Core.Bool.{Bool, true, false, not, ◌&&◌}
use mathlib.Core.List.{List, [], ◌∷◌, ◌++◌}
use mathlib.Core.Logic.{inl, inr}
use Prim.Native.Nat.{ℕ, ◌+◌, ◌*◌, ◌≤◌, ◌<◌}
use native.Mathlib.Omega.{arith}
use lib.Bits.{bit_and}
use lib.ListN.{length, drop}
use denote.Enum.Declared.{tag_of}
use types.Run.{OneOf}
use borrow.Author.Tests.{ne_eqb, eq-eqb, not-true, not-false}
use Rattle.std.specs.Prelude.{Some, None}
use Rattle.wire.specs.Tests.{pick, both}
use Rattle.wire.specs.Numbers.{bytes_of}
use Rattle.wire.specs.Parts.{slice, splice}
use Rattle.wire.proofs.Parts.{length_slice, part_back}
use Rattle.protocol.specs.Flags.{flag_icon}
use Rattle.places.specs.declared.Family.{Family}
use Rattle.places.specs.Holder.{same_family}
use Rattle.places.proofs.Named.{same_record_lem, family_same}
use Rattle.slots.specs.declared.Searched.{Searched}
use Rattle.slots.specs.Families.{start, capacity}
use Rattle.slots.specs.Slots.{is_at, slot_of, search_of}
use Rattle.slots.proofs.Soundness.{within_slots, found_within}
use Rattle.slots.proofs.Ways.{found_is}
use Rattle.index.specs.declared.Change.{Change}
use Rattle.index.specs.declared.Plan.{Plan}
use Rattle.index.specs.declared.Plan.TheVariants.{ChangeRecord, ChangeDesktop, Refuse}
use Rattle.index.specs.contracts.Plan.{the_type}
use Rattle.body.specs.Bodies.{slot_start}
use Rattle.body.specs.Stores.{room_all}
use Rattle.table.specs.Table.{field_rows}
use Rattle.table.specs.Changes.{slot_after, desktop_slot}
use Rattle.follow.specs.Follow.{slot_room, begin_slot, is_for, slot_followed, origins_followed, record_followed, pictures_followed, desktop_followed}
use Rattle.follow.proofs.Rooms.{room_within, family_fits}
use Rattle.wire.proofs.Tests.{never}

-- ---- the beginning

module _ (x : List ℕ) (f : Family) (a b : ℕ) {s : Searched} (h : s ≡ search_of x f a b) where
  slot_is : {w : _} → s.found ≡ w → slot_of x f a b ≡ w
  slot_is e = found_is (is_at x a b) (start f) (capacity f) h e

  pub slot_below : (i : ℕ) → s.found ≡ Some i → i < 48
  slot_below i e = within_slots f i (found_within f x a b i (slot_is e))

  module _ (records m : List ℕ) where
    pub begun_nothing : s.found ≡ None → m ≡ begin_slot f (slot_of x f a b) records m
    begun_nothing e = rw (slot_is e)

    pub begun_slot : (i : ℕ) {base n : ℕ} {y : List ℕ} → s.found ≡ Some i → base ≡ slot_start i → n ≡ slot_room f → y ≡ splice m 0 (slice records base n)
        → y ≡ begin_slot f (slot_of x f a b) records m
    begun_slot i {base} {n} e eb en k =
        rw (slot_is e) (k ∙ ap (λ (v : ℕ). splice m 0 (slice records v n)) eb ∙ ap (λ (v : ℕ). splice m 0 (slice records (slot_start i) v)) en)

    pub slot_found : (i : ℕ) {base n : ℕ} → s.found ≡ Some i → base ≡ slot_start i → n ≡ slot_room f → 61012 ≤ length records → base + n ≤ length records
    slot_found i e eb en big = omega (arith, eb, en, room_within f records i (found_within f x a b i (slot_is e)) big)

-- ---- whose change it is

pub for_family : (f g h : Family) (t u : Bool) → f ≡ h → g ≡ h → (t && u) ≡ both (same_family f g) (both t u)
for_family f g h t u e k = rw (e, k, family_same h) (go t)
  where
    go : (t : Bool) → (t && u) ≡ both t u
    go true = refl
    go false = refl

-- ---- where a picture comes

module _ (start q : ℕ) (c : Change) (m : List ℕ) where
  pub note_deleted : c.deleted ≡ true → m ≡ origins_followed start q c m
  unfolding origins_followed
  note_deleted e = rw e

  pub note_none : c.deleted ≡ false → bit_and c.flags flag_icon ≡ 0 → m ≡ origins_followed start q c m
  unfolding origins_followed
  note_none e h = rw (e, eq-eqb (bit_and c.flags flag_icon) 0 h)

  pub note_put : {x : List ℕ} → c.deleted ≡ false → (bit_and c.flags flag_icon ≡ 0 → ⊥) → x ≡ splice m (start + 2 * c.place) (bytes_of 2 q) → x ≡ origins_followed start q c m
  unfolding origins_followed
  note_put e h k = rw (e, ne_eqb (bit_and c.flags flag_icon) 0 h) k

-- ---- a record's slot

module _ (f : Family) (a b : ℕ) (s : List ℕ) (c : Change) (m : List ℕ) {r : Bool} (h : r ≡ is_for f a b c) where
  pub slot_other : not r ≡ true → m ≡ slot_followed f a b s c m
  unfolding slot_followed
  slot_other e = rw (sym h ∙ not-true r e)

  pub slot_deleted : c.deleted ≡ true → m ≡ slot_followed f a b s c m
  unfolding slot_followed
  slot_deleted e = go (is_for f a b c) c.deleted e
    where
      go : (t d : Bool) → d ≡ true → m ≡ pick (both t (not d)) (splice m 0 (slot_after s c (slice m 0 (slot_room f)))) m
      go true true e = refl
      go true false e = never e
      go false d e = refl

  -- a change for the record is of its family
  pub slot_fits : {n k : ℕ} → not r ≡ false → n ≡ slot_room f → k ≡ n → 2 + room_all (field_rows c.family) ≤ k
  slot_fits {n} {k} e en ek =
      subst (λ (g : Family). 2 + room_all (field_rows g) ≤ k) (same_record_lem f c.family a c.window.id b c.notify.id (sym h ∙ not-false r e)).0
      (omega (arith, family_fits f, en, ek))

  pub slot_changed : (x : List ℕ) {n : ℕ} → not r ≡ false → c.deleted ≡ false → n ≡ slot_room f → n ≤ length m → length x ≡ length (slice m 0 n) → x ≡ slot_after s c (slice m 0 n)
      → x ++ drop n m ≡ slot_followed f a b s c m
  unfolding slot_followed
  slot_changed x {n} e d en long l k =
      part_back m x 0 n (l ∙ length_slice m 0 n (omega (arith, long)))
      ∙ ap (splice m 0) k
      ∙ ap (λ (v : ℕ). splice m 0 (slot_after s c (slice m 0 v))) en
      ∙ go (is_for f a b c) c.deleted (sym h ∙ not-false r e) d
    where
      go : (t d : Bool) → t ≡ true → d ≡ false → splice m 0 (slot_after s c (slice m 0 (slot_room f))) ≡ pick (both t (not d)) (splice m 0 (slot_after s c (slice m 0 (slot_room f)))) m
      go true false e g = refl
      go true true e g = never (sym g)
      go false d e g = never e

-- ---- a plan of another kind, by its tag

module _ (s : List ℕ) (m : List ℕ) where
  pub no_record : (f : Family) (a b q : ℕ) (p : Plan) → OneOf (1 ∷ 2 ∷ []) (tag_of the_type p) → m ≡ record_followed f a b q s p m
  unfolding record_followed
  no_record f a b q (ChangeRecord c) (inl e) = absurd (omega (arith, e))
  no_record f a b q (ChangeRecord c) (inr e) = absurd (omega (arith, e))
  no_record f a b q (ChangeDesktop flags) k = refl
  no_record f a b q (Refuse n) k = refl

  pub no_picture_lem : (q : ℕ) (p : Plan) → OneOf (1 ∷ 2 ∷ []) (tag_of the_type p) → m ≡ pictures_followed q p m
  unfolding pictures_followed
  no_picture_lem q (ChangeRecord c) (inl e) = absurd (omega (arith, e))
  no_picture_lem q (ChangeRecord c) (inr e) = absurd (omega (arith, e))
  no_picture_lem q (ChangeDesktop flags) k = refl
  no_picture_lem q (Refuse n) k = refl

  pub no_desktop : (p : Plan) → OneOf (0 ∷ 2 ∷ []) (tag_of the_type p) → m ≡ desktop_followed s p m
  unfolding desktop_followed
  no_desktop (ChangeRecord c) k = refl
  no_desktop (ChangeDesktop flags) (inl e) = absurd (omega (arith, e))
  no_desktop (ChangeDesktop flags) (inr e) = absurd (omega (arith, e))
  no_desktop (Refuse n) k = refl

  -- and of its own

  pub record_changed : (f : Family) (a b q : ℕ) (c : Change) {p : Plan} {n : ℕ} {x y : List ℕ} → p ≡ ChangeRecord c → y ≡ slot_followed f a b s c m → n ≡ slot_room f → x ≡ origins_followed n q c y
      → x ≡ record_followed f a b q s p m
  unfolding record_followed
  record_changed f a b q c {p} {n} {x} {y} e h en k =
      k ∙ ap (λ (v : ℕ). origins_followed v q c y) en ∙ ap (origins_followed (slot_room f) q c) h ∙ ap (λ (p : Plan). record_followed f a b q s p m) (sym e)

  pub picture_changed : (q : ℕ) (c : Change) {p : Plan} {x : List ℕ} → p ≡ ChangeRecord c → x ≡ origins_followed 0 q c m → x ≡ pictures_followed q p m
  unfolding pictures_followed
  picture_changed q c e k = k ∙ ap (λ (p : Plan). pictures_followed q p m) (sym e)

  pub desktop_changed : (flags : ℕ) {p : Plan} {x : List ℕ} → p ≡ ChangeDesktop flags → x ≡ desktop_slot flags s m → x ≡ desktop_followed s p m
  unfolding desktop_followed
  desktop_changed flags e k = k ∙ ap (λ (p : Plan). desktop_followed s p m) (sym e)
