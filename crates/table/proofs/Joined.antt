-- The table that memories describe after the change of a plan. Assumes nothing.
use mathlib.Core.Path.{◌≡◌, refl, sym, ap, ◌∙◌}
use mathlib.Core.Bool.{Bool, true, false}
use mathlib.Core.List.{List, []}
use Prim.Native.Nat.{ℕ, ◌≤◌, ◌<◌}
use native.Mathlib.Omega.{arith}
use lib.Dec.{eqb}
use lib.ListN.{length}
use borrow.Author.Tests.{eq-eqb, ne_eqb}
use Rattle.std.specs.Prelude.{Option, Some, None}
use Rattle.wire.specs.Tests.{pick, has}
use Rattle.wire.proofs.Numbers.{Bytes}
use Rattle.protocol.specs.Flags.{desktop_none}
use Rattle.places.specs.declared.Family.{Family}
use Rattle.places.specs.Counts.{on_found}
use Rattle.places.specs.Holder.{Holder}
use Rattle.slots.specs.Families.{same_record}
use Rattle.slots.specs.Slots as slots
use Rattle.slots.specs.Sound.{sound_index}
use Rattle.slots.proofs.Soundness.{within_slots, found_within, Sound}
use Rattle.index.specs.declared.RecordOrder.{RecordOrder}
use Rattle.index.specs.declared.Change.{Change}
use Rattle.index.specs.declared.Plan.TheVariants.{ChangeRecord, ChangeDesktop}
use Rattle.index.specs.Orders.{is_new, is_delete}
use Rattle.index.specs.Plans.{change_of, plan_of}
use Rattle.index.specs.Changes.{changed_of, cleared_of, applied_of, Fits}
use Rattle.index.proofs.Memory.{cleared_is}
use Rattle.index.proofs.Listed.{none_find}
use Rattle.index.proofs.Numbered.{Planned}
use Rattle.index.proofs.After.{plan_after}
use Rattle.body.specs.Bodies.{desktop_fields, set_flagged, slot_of, fields_of, body_of, empty_fields}
use Rattle.picture.specs.Kept.{IconThere}
use Rattle.picture.specs.Pictures.{picture_at}
use Rattle.table.specs.Table.{Table, field_rows, fields_at, record_fields, fields_after, change_record, change_desktop, after}
use Rattle.table.specs.Memory.{heads_of, fields_in, shown_in, decode}
use Rattle.table.specs.Changes.{puts_picture, slot_after, bodies_by, pictures_by, Able}
use Rattle.table.specs.Promises.{IndexAlone}
use Rattle.table.proofs.OfKinds.{OfRecord, OfDesktop}
use Rattle.table.proofs.Decoded.{index_alone}
use Rattle.table.proofs.Shown.{shown_applied}
use Rattle.table.proofs.Bodied.{slot_fields, desktop_body}
use Rattle.table.proofs.Pointed.{same_ids, find_after, other_slot}
use Rattle.table.proofs.Heads.{desk_slot}
use Rattle.table.proofs.Changed.{slot_roomy, bodies_are, desk_is}

-- two tables are the same when index, fields, pictures and desktop state are
pub same_table : (t u : Table) → t.index ≡ u.index → ((f : Family) (a b : ℕ) → t.fields f a b ≡ u.fields f a b)
    → ((h : Holder) → t.shown h ≡ u.shown h) → t.desktop ≡ u.desktop → t ≡ u
same_table t u i f s d = λ k. record { index = i k; fields = λ g a b. f g a b k; shown = λ h. s h k; desktop = d k }

-- index and pictures, whatever the plan
pub joined : (x b s : List ℕ) (store : List (List ℕ)) → sound_index x ≡ true → Bytes s → (b' : List ℕ) (store' : List (List ℕ))
    → picture_at (heads_of b') store' ≡ pictures_by s (plan_of x s) (picture_at (heads_of b) store)
    → ((g : Family) (m n : ℕ) → fields_in (applied_of x (plan_of x s)) b' g m n ≡ (after (decode x b store) s).fields g m n)
    → body_of desktop_fields (slot_of b' 48) ≡ (after (decode x b store) s).desktop
    → decode (applied_of x (plan_of x s)) b' store' ≡ after (decode x b store) s
unfolding decode IndexAlone
joined x b s store ok bytes b' store' pictures fields desktop =
    let t = decode x b store in
    let y = applied_of x (plan_of x s) in
    same_table (decode y b' store') (after t s)
    (plan_after x s ok bytes ∙ sym (index_alone t s))
    fields
    (λ h. ap (λ (p : ℕ → List ℕ). shown_in y p h) pictures ∙ sym (shown_applied x s ok bytes (picture_at (heads_of b) store) t refl (λ g. refl) h))
    desktop

-- ---- the change of a record

module _ (x b s : List ℕ) (store : List (List ℕ)) (o : RecordOrder) (i place : ℕ) (sound : Sound x) (k : OfRecord s o) (p : Planned x s o i place)
    (fits : Fits (change_of s o i place)) (a : Able s (change_of s o i place)) (icon : puts_picture (change_of s o i place) ≡ true → IconThere s o.icon)
    (big : 61012 ≤ length b) where
  abbrev c : Change
  c = change_of s o i place

  abbrev f : Family
  f = o.family

  abbrev t : Table
  t = decode x b store

  abbrev all : List ℕ
  all = bodies_by s (ChangeRecord c) b

  below : i < 48
  below = a.slot

  -- what the record's fields become
  new_fields : is_delete o.flags ≡ false → fields_of (field_rows f) 2 (slot_of all i) ≡ record_fields t s o
  unfolding record_fields decode
  new_fields d =
      let l = below in
      let e = (bodies_are s c b big a icon).at i (omega arith) in
      ap (fields_of (field_rows f) 2) (e ∙ rw (d, eq-eqb i i refl))
      ∙ slot_fields s c (slot_of b i) (slot_roomy s c b big a icon) a
      ∙ rw d (ap (set_flagged (field_rows f) o.flags s (fields_at f)) (go (is_new f o.flags) refl))
    where
      go : (n : Bool) → is_new f o.flags ≡ n
          → pick n (empty_fields (field_rows f)) (fields_of (field_rows f) 2 (slot_of b i))
          ≡ pick n (empty_fields (field_rows f)) (on_found (slots.slot_of x f o.window.id o.notify.id) [] (λ j. fields_of (field_rows f) 2 (slot_of b j)))
      go true e = refl
      go false e = rw (p.placed.old e)

  gone_fields : is_delete o.flags ≡ true → record_fields t s o ≡ []
  unfolding record_fields
  gone_fields d = rw d

  kept_slot : (j : ℕ) → j < 49 → (is_delete o.flags ≡ false → i ≡ j → ⊥) → slot_of all j ≡ slot_of b j
  kept_slot j u ne = (bodies_are s c b big a icon).at j u ∙ go (is_delete o.flags) refl
    where
      go : (d : Bool) → is_delete o.flags ≡ d → pick d (slot_of b j) (pick (eqb i j) (slot_after s c (slot_of b i)) (slot_of b j)) ≡ slot_of b j
      go true d = refl
      go false d = rw (ne_eqb i j (ne d))

  pub fields_after_lem : (g : Family) (m n : ℕ) → fields_in (changed_of x c) all g m n ≡ (change_record t s o).fields g m n
  unfolding change_record fields_after decode
  fields_after_lem g m n =
      ap (λ (w : Option ℕ). on_found w [] (λ j. fields_of (field_rows g) 2 (slot_of all j))) (find_after x s o i place sound k.ordered p fits g m n)
      ∙ go (same_record f o.window.id o.notify.id g m n) (is_delete o.flags) (slots.slot_of x g m n) refl refl refl
    where
      go : (r d : Bool) (w : Option ℕ) → same_record f o.window.id o.notify.id g m n ≡ r → is_delete o.flags ≡ d → slots.slot_of x g m n ≡ w
          → on_found (pick r (pick d None (Some i)) w) [] (λ j. fields_of (field_rows g) 2 (slot_of all j))
          ≡ pick r (record_fields t s o) (on_found w [] (λ j. fields_of (field_rows g) 2 (slot_of b j)))
      go true true w r d e = sym (gone_fields d)
      go true false w r d e =
          let q = same_ids f g o.window.id o.notify.id m n r in
          ap (λ (h : Family). fields_of (field_rows h) 2 (slot_of all i)) (sym q.0) ∙ new_fields d
      go false d (Some j) r z e =
          let l = within_slots g j (found_within g x m n j e) in
          ap (fields_of (field_rows g) 2) (kept_slot j (omega arith) (λ y. other_slot x s o i place sound k.ordered p fits g m n j e r))
      go false d None r z e = refl

  pub desktop_kept : body_of desktop_fields (slot_of all 48) ≡ (change_record t s o).desktop
  unfolding change_record decode
  desktop_kept = ap (body_of desktop_fields) (kept_slot 48 (omega arith) (λ d e. omega (arith, below)))

-- ---- the change of the desktop state

module _ (x b s : List ℕ) (store : List (List ℕ)) (flags : ℕ) (sound : Sound x) (k : OfDesktop s flags) (big : 61012 ≤ length b) where
  abbrev now : List ℕ
  now = bodies_by s (ChangeDesktop flags) b

  -- a record's slot is another
  records_kept : (g : Family) (m n : ℕ) → fields_in x now g m n ≡ fields_in x b g m n
  records_kept g m n = go (slots.slot_of x g m n) refl
    where
      go : (w : Option ℕ) → slots.slot_of x g m n ≡ w
          → on_found w [] (λ j. fields_of (field_rows g) 2 (slot_of now j)) ≡ on_found w [] (λ j. fields_of (field_rows g) 2 (slot_of b j))
      go (Some j) e =
          let l = within_slots g j (found_within g x m n j e) in
          let h : eqb 48 j ≡ false = ne_eqb 48 j (λ q. omega arith) in
          ap (fields_of (field_rows g) 2) ((desk_is s flags b big k.within k.fields).at j ∙ rw h)
      go None e = refl

  pub desktop_fields_lem : (g : Family) (m n : ℕ) → fields_in (pick (has flags desktop_none) (cleared_of x) x) now g m n ≡ (change_desktop (decode x b store) s flags).fields g m n
  unfolding change_desktop decode
  desktop_fields_lem g m n = go (has flags desktop_none)
    where
      go : (d : Bool) → fields_in (pick d (cleared_of x) x) now g m n ≡ pick d [] (fields_in x b g m n)
      go true =
          ap (λ (w : Option ℕ). on_found w [] (λ j. fields_of (field_rows g) 2 (slot_of now j))) (none_find (cleared_of x) (cleared_is x sound.long).slots g m n)
      go false = records_kept g m n

  pub desktop_is : body_of desktop_fields (slot_of now 48) ≡ (change_desktop (decode x b store) s flags).desktop
  unfolding change_desktop decode
  desktop_is =
      ap (body_of desktop_fields) ((desk_is s flags b big k.within k.fields).at 48)
      ∙ desktop_body flags s (slot_of b 48) (desk_slot b (omega (arith, big))) k.within k.fields
