-- A delivery and an emptying, whole: the number, the table then described, and the rule kept. Assumes nothing.
use mathlib.Core.Path.{◌≡◌, refl, sym, ap, ◌∙◌}
use mathlib.Core.Bool.{Bool, true, false}
use mathlib.Core.List.{List, [], ◌∷◌, ◌++◌}
use Prim.Native.Nat.{ℕ, ◌+◌, ◌≤◌, ◌<◌}
use native.Mathlib.Omega.{arith}
use lib.Dec.{ltb}
use lib.ListN.{length, take, drop}
use borrow.Author.Tests.{ltb-true, ltb-false}
use Rattle.std.specs.Prelude.{Option}
use Rattle.wire.specs.Tests.{pick}
use Rattle.wire.specs.Parts.{splice}
use Rattle.wire.proofs.Numbers.{Bytes}
use Rattle.places.specs.declared.Family.{Family}
use Rattle.places.specs.Counts.{on_found}
use Rattle.places.specs.Memory.{places_of, shown_of, shown}
use Rattle.places.proofs.Meaning.{found_free}
use Rattle.slots.specs.Sound.{sound_index}
use Rattle.slots.proofs.Soundness.{within_slots, free_is, sound_has}
use Rattle.index.specs.declared.RecordOrder.{RecordOrder}
use Rattle.index.specs.declared.Plan.{Plan}
use Rattle.index.specs.declared.Plan.TheVariants.{ChangeRecord, ChangeDesktop, Refuse}
use Rattle.index.specs.Orders.{is_delete, brings_icon}
use Rattle.index.specs.Memory.{index_of}
use Rattle.index.specs.Plans.{pointer_for, cell_for, change_of, plan_of, plan_number}
use Rattle.index.specs.Changes.{emptied_of, applied_of, FitsPlan}
use Rattle.index.proofs.Listed.{none_find}
use Rattle.index.proofs.Kept.{places_emptied, pointer_emptied, slots_emptied, emptied_sound}
use Rattle.index.proofs.Numbered.{Planned}
use Rattle.index.proofs.After.{plan_sound, plan_fits, emptied_index}
use Rattle.body.specs.Bodies.{desktop_fields, slot_length, slot_start, slot_of, fields_of, body_of}
use Rattle.body.specs.Stores.{prepared_of}
use Rattle.body.proofs.Placed.{placed}
use Rattle.body.proofs.Fresh.{prepared_body, prepared_ok, length_prepared, desktop_room}
use Rattle.body.proofs.Slots.{length_slot, slot_lent, slot_splice, length_bodies, slots_back}
use Rattle.store.specs.Store.{places_in}
use Rattle.picture.specs.Kept.{IconThere}
use Rattle.picture.specs.Pictures.{picture_at}
use Rattle.table.specs.Table.{Table, emptied, field_rows, change_record, after}
use Rattle.table.specs.Memory.{heads_of, fixed_by, fields_in, decode, sound_table}
use Rattle.table.specs.Changes.{puts_picture, slots_by, heads_by, bodies_by, store_by, pictures_by, Follows}
use Rattle.table.specs.Outcome.{StoreKept, Emptied, Delivered}
use Rattle.table.proofs.OfKinds.{OfRecord, Planning, changes_record, changes_desktop, changes_none, planning}
use Rattle.table.proofs.Able.{ordered_icon, record_able, plan_follows}
use Rattle.table.proofs.Decoded.{decoded_number, places_kept}
use Rattle.table.proofs.Past.{same_store, index_past, emptied_past}
use Rattle.table.proofs.Heads.{desk_start, desk_length, desk_ends, desk_slot, slot_past}
use Rattle.table.proofs.Changed.{bodies_are, store_kept, pictures_are, as_many_places, desk_is}
use Rattle.table.proofs.Joined.{same_table, joined, fields_after_lem, desktop_kept, desktop_fields_lem, desktop_is}
use Rattle.table.proofs.Rule.{TableSound, table_has, table_is}
use Rattle.table.proofs.Sounded.{record_sounded, desktop_sounded}
use Rattle.wire.proofs.Tests.{never}

module _ (x b s : List ℕ) (store : List (List ℕ)) (bytes : Bytes s) (sound : sound_table x b (places_in store) ≡ true) where
  good : TableSound x b (places_in store)
  good = table_has x b (places_in store) sound

  abbrev t : Table
  t = decode x b store

  decoded_index : t.index ≡ index_of x
  unfolding decode
  decoded_index = refl

  none_fields : (g : Family) (m n : ℕ) → fields_in x b g m n ≡ t.fields g m n
  unfolding decode
  none_fields g m n = refl

  none_desktop : body_of desktop_fields (slot_of b 48) ≡ t.desktop
  unfolding decode
  none_desktop = refl

  -- what the change of a plan leaves
  record Changed (p : Plan) : Type 0 where
    pub pictures : picture_at (heads_of (bodies_by s p b)) (store_by s p store) ≡ pictures_by s p (picture_at (heads_of b) store)
    pub fields : (g : Family) (m n : ℕ) → fields_in (applied_of x p) (bodies_by s p b) g m n ≡ (after t s).fields g m n
    pub desktop : body_of desktop_fields (slot_of (bodies_by s p b) 48) ≡ (after t s).desktop
    pub sounded : sound_index (applied_of x p) ≡ true → places_of (applied_of x p) ≡ places_of x → TableSound (applied_of x p) (bodies_by s p b) (places_in store)
    pub past : drop 61012 (bodies_by s p b) ≡ drop 61012 b
    pub kept : StoreKept (places_of x) store (store_by s p store)
    pub same : (plan_number p ≡ 0 → ⊥) → (applied_of x p ≡ x) × (bodies_by s p b ≡ b) × (store_by s p store ≡ store)

  record_changed : (o : RecordOrder) (i place : ℕ) → OfRecord s o → Planned x s o i place → after t s ≡ change_record t s o → FitsPlan (ChangeRecord (change_of s o i place))
      → Changed (ChangeRecord (change_of s o i place))
  unfolding applied_of
  record_changed o i place k p h fits =
      let c = change_of s o i place in
      let a = record_able x s o i place k p in
      let big = good.big in
      let ok = sound_has x good.index in
      record {
        pictures = pictures_are s c b big a icon store (places_of x) low good.lends;
        fields = λ g m n. fields_after_lem x b s store o i place ok k p fits a icon big g m n ∙ ap (λ (u : Table). u.fields g m n) (sym h);
        desktop = desktop_kept x b s store o i place ok k p fits a icon big ∙ ap (λ (u : Table). u.desktop) (sym h);
        sounded = record_sounded x b s (places_in store) good o i place k p fits a icon;
        past = (bodies_are s c b big a icon).past;
        kept = store_kept s c b big a icon store (places_of x) low good.lends;
        same = λ z. absurd (z refl);
      }
    where
      brings : (d : Bool) → pick d false (brings_icon o.flags) ≡ true → brings_icon o.flags ≡ true
      brings true e = never e
      brings false e = e

      icon : puts_picture (change_of s o i place) ≡ true → IconThere s o.icon
      icon e = ordered_icon s o k.ordered (brings (is_delete o.flags) e)

      low : puts_picture (change_of s o i place) ≡ true → place < places_of x
      low e = (found_free x (cell_for s o i ∷ pointer_for i o.flags ∷ []) place (p.icon (brings (is_delete o.flags) e))).low

  changed : (p : Plan) → Planning x s p → FitsPlan p → Changed p
  unfolding applied_of store_by pictures_by slots_by heads_by
  changed (ChangeRecord c) (changes_record o i place k p h) fits = record_changed o i place k p (h t decoded_index) fits
  changed (ChangeDesktop m) (changes_desktop flags k) fits =
      let big = good.big in
      let ok = sound_has x good.index in
      let d = desk_is s flags b big k.within k.fields in
      record {
        pictures = ap (λ (y : List ℕ). picture_at y store) d.heads;
        fields = λ g m n. desktop_fields_lem x b s store flags ok k big g m n ∙ ap (λ (u : Table). u.fields g m n) (sym (k.changed t));
        desktop = desktop_is x b s store flags ok k big ∙ ap (λ (u : Table). u.desktop) (sym (k.changed t));
        sounded = desktop_sounded x b s (places_in store) good flags k;
        past = d.past;
        kept = same_store (places_of x) store;
        same = λ z. absurd (z refl);
      }
  changed (Refuse m) (changes_none n h) fits =
      record {
        pictures = refl;
        fields = λ g m n. none_fields g m n ∙ ap (λ (u : Table). u.fields g m n) (sym (h t decoded_index));
        desktop = none_desktop ∙ ap (λ (u : Table). u.desktop) (sym (h t decoded_index));
        sounded = λ ok q. good;
        past = refl;
        kept = same_store (places_of x) store;
        same = λ z. (refl, refl, refl);
      }

  pub delivered : Delivered x b store s (plan_number (plan_of x s)) (applied_of x (plan_of x s)) (bodies_by s (plan_of x s) b) (store_by s (plan_of x s) store)
  delivered =
      let ok = good.index in
      let p = plan_of x s in
      let c = changed p (planning x s ok bytes) (plan_fits x s ok bytes) in
      let n = places_kept x s ok bytes in
      record {
        says = decoded_number x b store s bytes ok;
        table = joined x b s store ok bytes (bodies_by s p b) (store_by s p store) c.pictures c.fields c.desktop;
        sound =
            ap (sound_table (applied_of x p) (bodies_by s p b)) (as_many_places c.kept)
            ∙ table_is (applied_of x p) (bodies_by s p b) (places_in store) (c.sounded (plan_sound x s ok bytes) n);
        places = n;
        kept = c.same;
        past = record { index = index_past x s ok bytes; bodies = c.past };
        store = c.kept;
      }

  -- for the function: what its calls ask, and what they leave
  module _ {p : Plan} (judged : p ≡ plan_of x s) where
    pub index_long : 589 ≤ length x
    index_long = (sound_has x good.index).long

    pub plan_ready : (61012 ≤ length b) × Follows s p
    plan_ready = (good.big, rw judged (plan_follows x s bytes good.index))

    pub delivered_done : {r : ℕ} {y u v : List ℕ} {q : List (List ℕ)} → u ≡ slots_by s p b → v ≡ heads_by s p u → q ≡ store_by s p store → y ≡ applied_of x p → r ≡ plan_number p
        → Delivered x b store s r y v q
    delivered_done eu ev eq ey er = rw (er, ey, ev, eu, eq, judged) delivered

-- ---- emptying

fixed_few : (lent : ℕ) → 12 ≤ lent → (12 ≤ fixed_by lent) × (fixed_by lent ≤ 64) × (fixed_by lent ≤ lent)
fixed_few lent l = go (ltb 64 lent) refl
  where
    go : (t : Bool) → ltb 64 lent ≡ t → (12 ≤ pick t 64 lent) × (pick t 64 lent ≤ 64) × (pick t 64 lent ≤ lent)
    go true t = let m = ltb-true 64 lent t in (omega arith, omega arith, omega arith)
    go false t = let m = ltb-false 64 lent t in (l, m, omega arith)

module _ (x b : List ℕ) (lent : ℕ) (long : 589 ≤ length x) (big : 61012 ≤ length b) (many : 12 ≤ lent) where
  abbrev n : ℕ
  n = fixed_by lent

  abbrev bare : List ℕ
  bare = prepared_of true (slot_of b 48)

  few : (12 ≤ n) × (n ≤ 64) × (n ≤ lent)
  few = fixed_few lent many

  small : n < 256
  small = let f = few.1 in omega arith

  desk_room : slot_start 48 + slot_length 48 ≤ length b
  desk_room = desk_ends b (omega (arith, big))

  slot_long : length (slot_of b 48) ≡ 916
  slot_long = desk_slot b (omega (arith, big))

  bare_long : length bare ≡ slot_length 48
  bare_long = length_prepared true (slot_of b 48) ∙ length_slot b 48 desk_room

  at_desk : slot_of (splice b (slot_start 48) bare) 48 ≡ bare
  at_desk = slot_splice b 48 bare bare_long desk_room 48

  emptied_table : (p : List (List ℕ)) → decode (emptied_of x n) (splice b (slot_start 48) bare) p ≡ emptied n
  unfolding decode emptied shown shown_of
  emptied_table p =
      let e = slot_long in
      let r = desktop_room in
      same_table (decode (emptied_of x n) (splice b (slot_start 48) bare) p) (emptied n)
      (emptied_index x n long small)
      (λ f m k. ap (λ (w : Option ℕ). on_found w [] (λ j. fields_of (field_rows f) 2 (slot_of (splice b (slot_start 48) bare) j))) (none_find (emptied_of x n) (slots_emptied x n long small) f m k))
      (λ h. rw (pointer_emptied x n long small))
      (ap (body_of desktop_fields) at_desk ∙ prepared_body desktop_fields (slot_of b 48) (omega (arith, e, r)))

  emptied_sounded : TableSound (emptied_of x n) (splice b (slot_start 48) bare) lent
  emptied_sounded =
      let f = few in
      let e = slot_long in
      let r = desktop_room in
      let l = length_bodies b 48 bare bare_long desk_room in
      let q = places_emptied x n long small in
      record {
        big = omega arith;
        index = emptied_sound x n long small f.0 f.1;
        lends = omega (arith, f.2);
        records = λ g i w u. never (sym (free_is (emptied_of x n) i (slots_emptied x n long small i (within_slots g i w))) ∙ u);
        desktop = rw at_desk (prepared_ok desktop_fields (slot_of b 48) (omega (arith, e, r)) 1 1 (placed 29 31));
        heads = λ h ne. absurd (ne (ap (λ (r : ℕ → ℕ). r h) (pointer_emptied x n long small)));
      }

  emptied_is : Emptied x b lent (emptied_of x n) (splice b (slot_start 48) bare)
  emptied_is =
      record {
        table = emptied_table;
        sound = table_is (emptied_of x n) (splice b (slot_start 48) bare) lent emptied_sounded;
        past = record { index = emptied_past x n long; bodies = slot_past b 48 bare big (omega arith) bare_long };
      }

  -- as the function leaves it, with the desktop's slot lent and come back
  pub emptied_done : {m : ℕ} {y z : List ℕ} → m ≡ fixed_by lent → y ≡ emptied_of x m → z ≡ prepared_of true (take 916 (drop 59200 b)) → length z ≡ length (take 916 (drop 59200 b))
      → Emptied x b lent y (take 59200 b ++ (z ++ drop 916 (drop 59200 b)))
  emptied_done {m} {y} {z} em ey ez l =
      let q : take 916 (drop 59200 b) ≡ slot_of b 48 = slot_lent b 59200 916 48 (sym desk_start) (sym desk_length) in
      let k : z ≡ bare = ez ∙ ap (prepared_of true) q in
      let w : take 59200 b ++ (z ++ drop 916 (drop 59200 b)) ≡ splice b (slot_start 48) bare =
      slots_back b 48 z (ap length k ∙ bare_long) desk_room 59200 916 (sym desk_start) (sym desk_length) ∙ ap (splice b (slot_start 48)) k in
      rw (ey, em, w) emptied_is
