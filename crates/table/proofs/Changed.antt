-- The slots, the heads, the store and the pictures after the change of a plan. Assumes nothing.
use mathlib.Core.Path.{◌≡◌, refl, sym, ap, fun_ext, ◌∙◌}
use mathlib.Core.Bool.{Bool, true, false}
use mathlib.Core.List.{List, [], ◌∷◌, map}
use Prim.Native.Nat.{ℕ, ◌+◌, ◌*◌, ◌-◌, ◌/◌, ◌≤◌, ◌<◌}
use native.Mathlib.Omega.{arith}
use lib.Dec.{eqb}
use lib.ListN.{length, drop, length-drop}
use borrow.Author.Tests.{eqb-true, eqb-false}
use Rattle.wire.specs.Tests.{pick}
use Rattle.wire.specs.Parts.{slice, splice}
use Rattle.wire.proofs.Parts.{length_slice, drop_splice}
use Rattle.order.specs.Icons.{parts_of}
use Rattle.order.proofs.Pictures.{laid}
use Rattle.places.specs.Memory.{with_picture}
use Rattle.index.specs.declared.Change.{Change}
use Rattle.index.specs.declared.Plan.TheVariants.{ChangeRecord, ChangeDesktop}
use Rattle.body.specs.Bodies.{desktop_fields, slot_length, slot_start, slot_of}
use Rattle.body.specs.Stores.{room_all, EndsWell}
use Rattle.body.proofs.Slots.{slot_within, length_slot, slot_splice, length_bodies}
use Rattle.cache.specs.Cells.{cell_ok, carried_picture}
use Rattle.store.specs.Store.{place_length, places_in}
use Rattle.store.specs.Kept.{PutsOne}
use Rattle.store.proofs.KeptHolds.{puts_one}
use Rattle.picture.specs.Pictures.{picture_at, head_ok, heads_after_of, store_after}
use Rattle.picture.specs.Kept.{IconThere, PutsPicture, PutsOnePicture}
use Rattle.picture.proofs.PicturesPut.{heads_long, head_ok_lem, other_head, puts_one_picture}
use Rattle.table.specs.Table.{field_rows}
use Rattle.table.specs.Memory.{heads_of}
use Rattle.table.specs.Changes.{puts_picture, slot_after, slots_after, heads_put, desktop_slot, slots_by, heads_by, bodies_by, store_by, pictures_by, Able}
use Rattle.table.specs.Outcome.{StoreKept}
use Rattle.table.proofs.Bodied.{slot_length_lem, desktop_length}
use Rattle.table.proofs.Heads as heads
use Rattle.table.proofs.Heads.{desk_length, desk_ends, desk_slot, slot_heads, slot_past, heads_slot, heads_heads, length_heads, heads_past}
use Rattle.table.proofs.Past.{same_store}

-- ---- an icon put at place p

module _ (b : List ℕ) (p : ℕ) (s : List ℕ) (icon : ℕ) (big : 61012 ≤ length b) (small : p < 64) (there : IconThere s icon) where
  pub room : 14 * p + 14 ≤ length (heads_of b)
  room = let e = heads.heads_long b in omega arith

  abbrev after : List ℕ
  after = heads_after_of (heads_of b) p s icon

  as_long : length after ≡ length (heads_of b)
  as_long = heads_long (heads_of b) p s icon room there

  -- its numbers are no more than a head
  few : length (slice s icon ((parts_of s icon).mask - icon)) ≤ 14
  few =
      let l = laid s icon in
      let m = l.low in
      let n = l.high in
      let q = l.first in
      let r = l.second in
      let t = l.third in
      let u = there.ends in
      let e = length_slice s icon ((parts_of s icon).mask - icon) (omega arith) in
      omega arith

  no_further : drop 896 after ≡ drop 896 (heads_of b)
  unfolding heads_after_of
  no_further = let r = room in let f = few in drop_splice (heads_of b) (14 * p) (slice s icon ((parts_of s icon).mask - icon)) (omega arith) 896 (omega arith)

-- ---- the change of a record

module _ (s : List ℕ) (c : Change) (b : List ℕ) (big : 61012 ≤ length b) (a : Able s c) (icon : puts_picture c ≡ true → IconThere s c.icon) where
  abbrev new : List ℕ
  new = slot_after s c (slot_of b c.slot)

  abbrev slots : List ℕ
  slots = slots_by s (ChangeRecord c) b

  abbrev all : List ℕ
  all = bodies_by s (ChangeRecord c) b

  slot_below : c.slot < 49
  slot_below = omega (arith, a.slot)

  slot_room_lem : slot_start c.slot + slot_length c.slot ≤ length b
  slot_room_lem = omega (arith, slot_within c.slot slot_below, big)

  pub slot_roomy : 2 + room_all (field_rows c.family) ≤ length (slot_of b c.slot)
  slot_roomy = omega (arith, a.room, length_slot b c.slot slot_room_lem)

  pub new_long : length new ≡ slot_length c.slot
  new_long = slot_length_lem s c (slot_of b c.slot) slot_roomy a ∙ length_slot b c.slot slot_room_lem

  -- the slots, before the heads are changed
  record Slots (y : List ℕ) : Type 0 where
    pub long : length y ≡ length b
    pub heads : heads_of y ≡ heads_of b
    pub past : drop 61012 y ≡ drop 61012 b
    pub at : (j : ℕ) → slot_of y j ≡ pick c.deleted (slot_of b j) (pick (eqb c.slot j) new (slot_of b j))

  slots_are : Slots slots
  unfolding slots_by slots_after
  slots_are = go c.deleted refl
    where
      go : (t : Bool) → c.deleted ≡ t → Slots (pick t b (splice b (slot_start c.slot) new))
      go true t = record { long = refl; heads = refl; past = refl; at = λ j. rw t }
      go false t =
          let l = a.slot in
          record {
            long = length_bodies b c.slot new new_long slot_room_lem;
            heads = slot_heads b c.slot new big slot_below new_long;
            past = slot_past b c.slot new big slot_below new_long;
            at = λ j. slot_splice b c.slot new new_long slot_room_lem j ∙ rw t;
          }

  slots_big : 61012 ≤ length slots
  slots_big = let e = slots_are.long in omega arith

  -- the bodies then
  pub record Bodies (y : List ℕ) : Type 0 where
    pub long : length y ≡ length b
    pub heads : heads_of y ≡ pick (puts_picture c) (heads_after_of (heads_of b) c.place s c.icon) (heads_of b)
    pub past : drop 61012 y ≡ drop 61012 b
    pub at : (j : ℕ) → j < 49 → slot_of y j ≡ pick c.deleted (slot_of b j) (pick (eqb c.slot j) new (slot_of b j))

  pub bodies_are : Bodies all
  unfolding heads_by heads_put
  bodies_are = go (puts_picture c) refl
    where
      go : (t : Bool) → puts_picture c ≡ t → Bodies (pick t (splice slots 60116 (heads_after_of (heads_of slots) c.place s c.icon)) slots)
      go true t =
          let k = slots_are in
          let g = slots_big in
          let l = as_long slots c.place s c.icon g a.place (icon t) in
          record {
            long = length_heads slots (after slots c.place s c.icon g a.place (icon t)) g l ∙ k.long;
            heads = heads_heads slots (after slots c.place s c.icon g a.place (icon t)) g l ∙ rw (k.heads, t);
            past =
                heads_past slots (after slots c.place s c.icon g a.place (icon t)) g l (no_further slots c.place s c.icon g a.place (icon t)) ∙ k.past;
            at = λ j u. heads_slot slots (after slots c.place s c.icon g a.place (icon t)) g l j u ∙ k.at j;
          }
      go false t =
          let k = slots_are in
          record { long = k.long; heads = k.heads ∙ rw t; past = k.past; at = λ j u. k.at j }

  -- a head that was in its sets is, and so is that of the place that an icon takes
  pub heads_ok : (q : ℕ) → head_ok (heads_of b) q ≡ true → head_ok (heads_of all) q ≡ true
  heads_ok q h = ap (λ (y : List ℕ). head_ok y q) bodies_are.heads ∙ go (puts_picture c) (eqb q c.place) refl refl
    where
      go : (t u : Bool) → puts_picture c ≡ t → eqb q c.place ≡ u → head_ok (pick t (heads_after_of (heads_of b) c.place s c.icon) (heads_of b)) q ≡ true
      go true true t u = rw (eqb-true q c.place u) (head_ok_lem (heads_of b) c.place s c.icon (room b c.place s c.icon big a.place (icon t)) (icon t))
      go true false t u =
          unfold head_ok in
          ap cell_ok (other_head (heads_of b) c.place s c.icon (room b c.place s c.icon big a.place (icon t)) (icon t) q (eqb-false q c.place u)) ∙ h
      go false u t v = h

  pub head_there : puts_picture c ≡ true → head_ok (heads_of all) c.place ≡ true
  head_there t =
      ap (λ (y : List ℕ). head_ok y c.place) bodies_are.heads
      ∙ rw t (head_ok_lem (heads_of b) c.place s c.icon (room b c.place s c.icon big a.place (icon t)) (icon t))

  -- ---- the store

  module _ (store : List (List ℕ)) (n : ℕ) (low : puts_picture c ≡ true → c.place < n) (lent : n ≤ places_in store) where
    abbrev stored : List (List ℕ)
    stored = store_by s (ChangeRecord c) store

    pub store_kept : StoreKept n store stored
    unfolding store_by store_after PutsOne
    store_kept = go (puts_picture c) refl
      where
        go : (t : Bool) → puts_picture c ≡ t → StoreKept n store (pick t (store_after store c.place s c.icon) store)
        go true t =
            let i = icon t in
            let m = low t in
            let e = length-drop (parts_of s c.icon).mask s in
            let k = puts_one store c.place (drop (parts_of s c.icon).mask s) (omega (arith, e, i.ends, i.bytes)) in
            record { lengths = k.lengths; past = k.past; others = λ q l. k.others q (λ z. omega arith) }
        go false t = same_store n store

    pub pictures_are : picture_at (heads_of all) stored ≡ pictures_by s (ChangeRecord c) (picture_at (heads_of b) store)
    unfolding store_by pictures_by with_picture PutsOnePicture
    pictures_are = ap (λ (y : List ℕ). picture_at y stored) bodies_are.heads ∙ go (puts_picture c) refl
      where
        go : (t : Bool) → puts_picture c ≡ t
            → picture_at (pick t (heads_after_of (heads_of b) c.place s c.icon) (heads_of b)) (pick t (store_after store c.place s c.icon) store)
            ≡ pick t (with_picture (picture_at (heads_of b) store) c.place (carried_picture s c.icon)) (picture_at (heads_of b) store)
        go true t = fun_ext (λ q. each q (eqb q c.place) refl)
          where
            m : c.place < n
            m = low t

            k : PutsPicture (heads_of b) store c.place s c.icon
            k = puts_one_picture (heads_of b) store c.place s c.icon (room b c.place s c.icon big a.place (icon t)) (omega (arith, m)) (icon t)

            each : (q : ℕ) (u : Bool) → eqb q c.place ≡ u
                → picture_at (heads_after_of (heads_of b) c.place s c.icon) (store_after store c.place s c.icon) q
                ≡ pick u (carried_picture s c.icon) (picture_at (heads_of b) store q)
            each q true u = rw (eqb-true q c.place u) k.there
            each q false u = k.others q (eqb-false q c.place u)
        go false t = refl

-- so many places as before
abbrev places_from : List ℕ → ℕ
places_from [] = 0
places_from (n ∷ ns) = n / place_length + places_from ns

places_lengths : (p : List (List ℕ)) → places_in p ≡ places_from (map length p)
unfolding places_in
places_lengths [] = refl
places_lengths (x ∷ p) = ap (λ (n : ℕ). length x / place_length + n) (places_lengths p)

pub as_many_places : {n : ℕ} {p p' : List (List ℕ)} → StoreKept n p p' → places_in p' ≡ places_in p
as_many_places {p = p} {p' = p'} k = places_lengths p' ∙ ap places_from k.lengths ∙ sym (places_lengths p)

-- ---- the change of the desktop state

module _ (s : List ℕ) (flags : ℕ) (b : List ℕ) (big : 61012 ≤ length b) (inside : 7 ≤ length s) (e : EndsWell desktop_fields flags s 7) where
  abbrev desk : List ℕ
  desk = desktop_slot flags s (slot_of b 48)

  desk_room : slot_start 48 + slot_length 48 ≤ length b
  desk_room = desk_ends b (omega (arith, big))

  desk_long : length desk ≡ slot_length 48
  desk_long = desktop_length flags s (slot_of b 48) (desk_slot b (omega (arith, big))) inside e ∙ sym desk_length

  pub record Desk (y : List ℕ) : Type 0 where
    pub long : length y ≡ length b
    pub heads : heads_of y ≡ heads_of b
    pub past : drop 61012 y ≡ drop 61012 b
    pub at : (j : ℕ) → slot_of y j ≡ pick (eqb 48 j) desk (slot_of b j)

  pub desk_is : Desk (bodies_by s (ChangeDesktop flags) b)
  unfolding slots_by heads_by
  desk_is =
      record {
        long = length_bodies b 48 desk desk_long desk_room;
        heads = slot_heads b 48 desk big (omega arith) desk_long;
        past = slot_past b 48 desk big (omega arith) desk_long;
        at = slot_splice b 48 desk desk_long desk_room;
      }
