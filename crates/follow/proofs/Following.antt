-- What is wanted, followed from the table at the mark through the orders that are judged on its index: the memory holds what the
-- table has. Assumes nothing.
use mathlib.Core.Path.{◌≡◌, refl, sym, ap, subst, ◌∙◌}
use mathlib.Core.Bool.{Bool, true}
use mathlib.Core.List.{List}
use Prim.Native.Nat.{ℕ, ◌<◌}
use native.Mathlib.Omega.{arith}
use lib.ListN.{length, replicate}
use Rattle.wire.specs.Tests.{pick}
use Rattle.wire.specs.Parts.{slice}
use Rattle.wire.proofs.Numbers.{Bytes}
use Rattle.wire.proofs.Parts.{length_splice, length_zeros}
use Rattle.places.specs.declared.Family.{Family}
use Rattle.places.specs.declared.Family.TheVariants.{Windows, Notifications}
use Rattle.slots.specs.Slots as slots
use Rattle.slots.specs.Sound.{sound_index}
use Rattle.index.specs.declared.RecordOrder.{RecordOrder}
use Rattle.index.specs.declared.Plan.{Plan}
use Rattle.index.specs.declared.Plan.TheVariants.{ChangeRecord, ChangeDesktop, Refuse}
use Rattle.index.specs.Memory.{index_of}
use Rattle.index.specs.Plans.{change_of, plan_of}
use Rattle.index.specs.Changes.{applied_of}
use Rattle.body.specs.Bodies.{desktop_fields, body_of, body_ok}
use Rattle.picture.specs.Pictures.{picture_at, head_ok}
use Rattle.table.specs.Table.{Table, change_record, after}
use Rattle.table.specs.Memory.{heads_of, decode, sound_table}
use Rattle.table.specs.Changes.{Follows}
use Rattle.table.proofs.OfKinds.{Planning, changes_record, changes_desktop, changes_none, planning}
use Rattle.table.proofs.Able.{record_able, plan_follows}
use Rattle.table.proofs.Bodied.{desktop_length}
use Rattle.table.proofs.Rule.{table_has}
use Rattle.follow.specs.declared.Want.{Want}
use Rattle.std.specs.Prelude.{Option, Some, None}
use Rattle.follow.specs.declared.Want.TheVariants.{Window, Notification, Pictures, Desktop}
use Rattle.follow.specs.Follow.{slot_room, record_room, room_for, held_origins, origin_at, carried_by, begin_of, slot_followed, origins_followed, record_followed, pictures_followed, desktop_followed, followed_of, PicturesHeld, RecordHeld, Holds}
use Rattle.follow.proofs.Origins.{no_origins_lem, origin_cleared, puts_at, length_followed, followed_before, origin_followed}
use Rattle.follow.proofs.Pictured.{pictures_then}
use Rattle.follow.proofs.Recorded.{slot_followed_length, slot_followed_origins, record_then, record_stays, desktop_then}
use Rattle.follow.proofs.Begun.{pictures_begun, record_length, record_origins, record_begun, desktop_copied}
use Rattle.follow.proofs.Begun as begun
use Rattle.table.proofs.Pointed.{picked}

-- ---- the beginning

pub begin_origins : (want : Option Want) (x b m : List ℕ) → length m ≡ room_for want → (k : ℕ) → origin_at (held_origins want (begin_of want x b m)) k ≡ 0
unfolding begin_of
begin_origins None x b m long k = no_origins_lem k
begin_origins (Some (Window w)) x b m long k = record_origins Windows b m long (slots.slot_of x Windows w.id 0) k
begin_origins (Some (Notification w n)) x b m long k = record_origins Notifications b m long (slots.slot_of x Notifications w.id n.id) k
begin_origins (Some Pictures) x b m long k = origin_cleared m 0 (omega arith) k
begin_origins (Some Desktop) x b m long k = no_origins_lem k

pub begin_length : (want : Option Want) (x b : List ℕ) (lent : ℕ) (m : List ℕ) → sound_table x b lent ≡ true → length m ≡ room_for want → length (begin_of want x b m) ≡ room_for want
unfolding begin_of
begin_length None x b lent m sound long = long
begin_length (Some (Window w)) x b lent m sound long = record_length Windows b m long (slots.slot_of x Windows w.id 0)
begin_length (Some (Notification w n)) x b lent m sound long = record_length Notifications b m long (slots.slot_of x Notifications w.id n.id)
begin_length (Some Pictures) x b lent m sound long = let e = length_zeros 128 in length_splice m 0 (replicate 128 0) (omega arith) ∙ long
begin_length (Some Desktop) x b lent m sound long = begun.desktop_length b m (table_has x b lent sound).big long

pub begin_holds : (want : Option Want) (x b : List ℕ) (p : List (List ℕ)) (lent : ℕ) (m : List ℕ) (since : ℕ → List ℕ) → sound_table x b lent ≡ true → length m ≡ room_for want
    → Holds want (decode x b p) x (begin_of want x b m) (picture_at (heads_of b) p) since (head_ok (heads_of b))
unfolding Holds begin_of decode
begin_holds want x b p lent m since sound long = go want long
  where
    pictured : (want : Option Want) → length m ≡ room_for want
        → PicturesHeld (decode x b p) x (held_origins want (begin_of want x b m)) (picture_at (heads_of b) p) since (head_ok (heads_of b))
    pictured want long = pictures_begun x b p lent (held_origins want (begin_of want x b m)) since (table_has x b lent sound) (begin_origins want x b m long)

    go : (want : Option Want) → length m ≡ room_for want → Holds want (decode x b p) x (begin_of want x b m) (picture_at (heads_of b) p) since (head_ok (heads_of b))
    go None long = tt
    go (Some (Window w)) long = (record_begun x b p lent m (table_has x b lent sound) Windows long w.id 0, pictured (Some (Window w)) long)
    go (Some (Notification w n)) long = (record_begun x b p lent m (table_has x b lent sound) Notifications long w.id n.id, pictured (Some (Notification w n)) long)
    go (Some Pictures) long = pictured (Some Pictures) long
    go (Some Desktop) long =
        let g = table_has x b lent sound in
        let e = desktop_copied b m g.big long in
        (ap (body_of desktop_fields) e, ap (body_ok desktop_fields 1 1) e ∙ g.desktop)

-- ---- one order: the memory's length and the origins in it, by the plan

module _ (s : List ℕ) (q : ℕ) (p : Plan) (a : Follows s p) where
  module _ (f : Family) (x y : ℕ) (m : List ℕ) (long : length m ≡ record_room f) where
    record-long : length (record_followed f x y q s p m) ≡ record_room f
    unfolding Follows record_followed
    record-long = go p a
      where
        go : (p : Plan) → Follows s p → length (record_followed f x y q s p m) ≡ record_room f
        go (ChangeRecord c) a =
            let e = slot_followed_length f x y s c m long a in
            length_followed (slot_room f) q c (slot_followed f x y s c m) (omega arith) a.place ∙ e
        go (ChangeDesktop flags) a = long
        go (Refuse n) a = long

    record-puts : q < 65536 → (k : ℕ) → origin_at (slice (record_followed f x y q s p m) (slot_room f) 128) k ≡ pick (puts_at p k) q (origin_at (slice m (slot_room f) 128) k)
    unfolding Follows record_followed
    record-puts small k = go p a
      where
        go : (p : Plan) → Follows s p → origin_at (slice (record_followed f x y q s p m) (slot_room f) 128) k ≡ pick (puts_at p k) q (origin_at (slice m (slot_room f) 128) k)
        go (ChangeRecord c) a =
            let e = slot_followed_length f x y s c m long a in
            origin_followed (slot_room f) q c (slot_followed f x y s c m) (omega arith) a.place small k
            ∙ ap (λ (r : List ℕ). pick (puts_at (ChangeRecord c) k) q (origin_at r k)) (slot_followed_origins f x y s c m long a)
        go (ChangeDesktop flags) a = refl
        go (Refuse n) a = refl

  module _ (m : List ℕ) (long : length m ≡ 128) where
    pictures_long : length (pictures_followed q p m) ≡ 128
    unfolding Follows pictures_followed
    pictures_long = go p a
      where
        go : (p : Plan) → Follows s p → length (pictures_followed q p m) ≡ 128
        go (ChangeRecord c) a = length_followed 0 q c m (omega arith) a.place ∙ long
        go (ChangeDesktop flags) a = long
        go (Refuse n) a = long

    pictures-puts : q < 65536 → (k : ℕ) → origin_at (slice (pictures_followed q p m) 0 128) k ≡ pick (puts_at p k) q (origin_at (slice m 0 128) k)
    unfolding Follows pictures_followed
    pictures-puts small k = go p a
      where
        go : (p : Plan) → Follows s p → origin_at (slice (pictures_followed q p m) 0 128) k ≡ pick (puts_at p k) q (origin_at (slice m 0 128) k)
        go (ChangeRecord c) a = origin_followed 0 q c m (omega arith) a.place small k
        go (ChangeDesktop flags) a = refl
        go (Refuse n) a = refl

  desktop_long : (m : List ℕ) → length m ≡ 916 → length (desktop_followed s p m) ≡ 916
  unfolding Follows desktop_followed
  desktop_long m long = go p a
    where
      go : (p : Plan) → Follows s p → length (desktop_followed s p m) ≡ 916
      go (ChangeRecord c) a = long
      go (ChangeDesktop flags) a = desktop_length flags s m long a.0 a.1
      go (Refuse n) a = long

pub follow_length : (want : Option Want) (d s m : List ℕ) (q : ℕ) → Bytes s → sound_index d ≡ true → length m ≡ room_for want → length (followed_of want q s (plan_of d s) m) ≡ room_for want
unfolding followed_of
follow_length want d s m q bytes sound long = go want long
  where
    a : Follows s (plan_of d s)
    a = plan_follows d s bytes sound

    go : (want : Option Want) → length m ≡ room_for want → length (followed_of want q s (plan_of d s) m) ≡ room_for want
    go None long = long
    go (Some (Window w)) long = record-long s q (plan_of d s) a Windows w.id 0 m long
    go (Some (Notification w n)) long = record-long s q (plan_of d s) a Notifications w.id n.id m long
    go (Some Pictures) long = pictures_long s q (plan_of d s) a m long
    go (Some Desktop) long = desktop_long s q (plan_of d s) a m long

pub follow_origins : (want : Option Want) (d s m : List ℕ) (q : ℕ) → Bytes s → sound_index d ≡ true → length m ≡ room_for want → q < 65536 → (P : ℕ → Type 0)
    → ((k : ℕ) → P (origin_at (held_origins want m) k)) → P q → (k : ℕ) → P (origin_at (held_origins want (followed_of want q s (plan_of d s) m)) k)
unfolding followed_of
follow_origins want d s m q bytes sound long small P were new k = go want long were
  where
    a : Follows s (plan_of d s)
    a = plan_follows d s bytes sound

    by : (now old : List ℕ) → origin_at now k ≡ pick (puts_at (plan_of d s) k) q (origin_at old k) → P (origin_at old k) → P (origin_at now k)
    by now old e h = subst P (sym e) (picked P (puts_at (plan_of d s) k) q (origin_at old k) new h)

    go : (want : Option Want) → length m ≡ room_for want → ((k : ℕ) → P (origin_at (held_origins want m) k)) → P (origin_at (held_origins want (followed_of want q s (plan_of d s) m)) k)
    go None long were = were k
    go (Some (Window w)) long were =
        by (slice (record_followed Windows w.id 0 q s (plan_of d s) m) (slot_room Windows) 128) (slice m (slot_room Windows) 128) (record-puts s q (plan_of d s) a Windows w.id 0 m long small k) (were k)
    go (Some (Notification w n)) long were =
        by (slice (record_followed Notifications w.id n.id q s (plan_of d s) m) (slot_room Notifications) 128) (slice m (slot_room Notifications) 128) (record-puts s q (plan_of d s) a Notifications w.id n.id m long small k) (were k)
    go (Some Pictures) long were = by (slice (pictures_followed q (plan_of d s) m) 0 128) (slice m 0 128) (pictures-puts s q (plan_of d s) a m long small k) (were k)
    go (Some Desktop) long were = were k

-- ---- what it then holds

module _ (t : Table) (d s : List ℕ) (q : ℕ) (bytes : Bytes s) (sound : sound_index d ≡ true) (same : t.index ≡ index_of d) where
  record_holds : (f : Family) (x y : ℕ) (m : List ℕ) → length m ≡ record_room f → RecordHeld t f x y m → RecordHeld (after t s) f x y (record_followed f x y q s (plan_of d s) m)
  unfolding record_followed
  record_holds f x y m long h = go (plan_of d s) (planning d s sound bytes)
    where
      go : (p : Plan) → Planning d s p → RecordHeld (after t s) f x y (record_followed f x y q s p m)
      go (ChangeRecord c) (changes_record o i place k p e) =
          let a = record_able d s o i place k p in
          let z = change_of s o i place in
          let n = slot_followed f x y s z m in
          let l = slot_followed_length f x y s z m long a in
          subst (λ (u : Table). RecordHeld u f x y (origins_followed (slot_room f) q z n)) (sym (e t same))
          (record_then t d s o i place same p a f x y m (origins_followed (slot_room f) q z n) long (followed_before (slot_room f) q z n (omega arith) a.place (slot_room f) (omega arith)) h)
      go (ChangeDesktop flags) (changes_desktop n k) = subst (λ (u : Table). RecordHeld u f x y m) (sym (k.changed t)) (record_stays t s flags f x y m h)
      go (Refuse n) (changes_none k e) = subst (λ (u : Table). RecordHeld u f x y m) (sym (e t same)) h

  record_desktop : (o : RecordOrder) → (change_record t s o).desktop ≡ t.desktop
  unfolding change_record
  record_desktop o = refl

  desktop_holds : (m : List ℕ) → length m ≡ 916 → body_of desktop_fields m ≡ t.desktop → body_ok desktop_fields 1 1 m ≡ true
      → (body_of desktop_fields (desktop_followed s (plan_of d s) m) ≡ (after t s).desktop) × (body_ok desktop_fields 1 1 (desktop_followed s (plan_of d s) m) ≡ true)
  unfolding desktop_followed
  desktop_holds m long is fine = go (plan_of d s) (planning d s sound bytes)
    where
      go : (p : Plan) → Planning d s p
          → (body_of desktop_fields (desktop_followed s p m) ≡ (after t s).desktop) × (body_ok desktop_fields 1 1 (desktop_followed s p m) ≡ true)
      go (ChangeRecord c) (changes_record o i place k p e) = (is ∙ sym (ap (λ (u : Table). u.desktop) (e t same) ∙ record_desktop o), fine)
      go (ChangeDesktop flags) (changes_desktop n k) =
          let r = desktop_then t s flags m long k.within k.fields is fine in
          (r.0 ∙ sym (ap (λ (u : Table). u.desktop) (k.changed t)), r.1)
      go (Refuse n) (changes_none k e) = (is ∙ sym (ap (λ (u : Table). u.desktop) (e t same)), fine)

pub follow_holds : (want : Option Want) (t : Table) (d s m : List ℕ) (q : ℕ) (marked since : ℕ → List ℕ) (ok : ℕ → Bool) → Bytes s → sound_index d ≡ true → t.index ≡ index_of d
    → length m ≡ room_for want → (q ≡ 0 → ⊥) → q < 65536 → since q ≡ carried_by s → Holds want t d m marked since ok
    → Holds want (after t s) (applied_of d (plan_of d s)) (followed_of want q s (plan_of d s) m) marked since ok
unfolding Holds followed_of
follow_holds want t d s m q marked since ok bytes sound same long ne small carried h = go want long h
  where
    a : Follows s (plan_of d s)
    a = plan_follows d s bytes sound

    of_record : (f : Family) (x y : ℕ) → length m ≡ record_room f → PicturesHeld t d (slice m (slot_room f) 128) marked since ok
        → PicturesHeld (after t s) (applied_of d (plan_of d s)) (slice (record_followed f x y q s (plan_of d s) m) (slot_room f) 128) marked since ok
    of_record f x y long h =
        pictures_then t d s q marked since ok bytes sound same ne carried (slice m (slot_room f) 128) (slice (record_followed f x y q s (plan_of d s) m) (slot_room f) 128)
        (record-puts s q (plan_of d s) a f x y m long small) h

    go : (want : Option Want) → length m ≡ room_for want → Holds want t d m marked since ok
        → Holds want (after t s) (applied_of d (plan_of d s)) (followed_of want q s (plan_of d s) m) marked since ok
    go None long h = tt
    go (Some (Window w)) long h = (record_holds t d s q bytes sound same Windows w.id 0 m long h.0, of_record Windows w.id 0 long h.1)
    go (Some (Notification w n)) long h =
        (record_holds t d s q bytes sound same Notifications w.id n.id m long h.0, of_record Notifications w.id n.id long h.1)
    go (Some Pictures) long h =
        pictures_then t d s q marked since ok bytes sound same ne carried (slice m 0 128) (slice (pictures_followed q (plan_of d s) m) 0 128)
        (pictures-puts s q (plan_of d s) a m long small) h
    go (Some Desktop) long h = desktop_holds t d s q bytes sound same m long h.0 h.1
