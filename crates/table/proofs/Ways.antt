-- What each function over a table's memory does, by its tests: one law for each way out. Assumes nothing.
use mathlib.Core.Path.{◌≡◌, refl, sym, ap, ◌∙◌}
use mathlib.Core.Bool.{Bool, true, false, not}
use mathlib.Core.List.{List, [], ◌∷◌, ◌++◌}
use mathlib.Core.Logic.{inl, inr}
use Prim.Native.Nat.{ℕ, ◌+◌, ◌*◌, ◌-◌, ◌≤◌, ◌<◌}
use native.Mathlib.Omega.{arith}
use lib.Dec.{eqb, ltb}
use lib.Bits.{bit_and}
use lib.ListN.{length, get_or, take, drop, length-append, length-take, length-drop}
use lib.Seq.{take_all}
use borrow.Author.Tests.{eqb-true, eqb-false, eq-eqb, ne_eqb, lt-ltb, le-ltb, ltb-true, ltb-false}
use denote.Enum.Declared.{tag_of}
use types.Run.{OneOf}
use Rattle.wire.specs.Tests.{pick, both, has}
use Rattle.wire.specs.Parts.{splice}
use Rattle.wire.proofs.Numbers.{num1_is}
use Rattle.wire.proofs.Parts.{part_back}
use Rattle.rows.specs.declared.Row.{Row}
use Rattle.order.specs.Icons.{parts_of}
use Rattle.protocol.specs.Flags.{flag_icon}
use Rattle.places.specs.declared.Family.TheVariants.{Windows, Notifications}
use Rattle.places.specs.Counts.{each_below}
use Rattle.places.specs.Memory.{places_of}
use Rattle.places.proofs.Counting.{each_has, each_is}
use Rattle.slots.specs.Slots.{used_at, is_used}
use Rattle.slots.specs.Sound.{each_from, sound_index}
use Rattle.index.specs.declared.Change.{Change}
use Rattle.index.specs.declared.Plan.{Plan}
use Rattle.index.specs.declared.Plan.TheVariants.{ChangeRecord, ChangeDesktop, Refuse}
use Rattle.index.specs.contracts.Plan.{the_type}
use Rattle.body.specs.Bodies.{window_fields, notification_fields, desktop_fields, slot_length, slot_start, slot_of, body_ok}
use Rattle.body.specs.Stores.{store_of, prepared_of, hooked_of, synced_of, room_all, EndsWell}
use Rattle.body.proofs.Slots.{window_start, window_length_lem, slot_within, slot_after_lem, length_slot, slot_lent, slots_back}
use Rattle.store.specs.Store.{place_length}
use Rattle.picture.specs.Pictures.{head_length, heads_after_of, store_after}
use Rattle.table.specs.declared.Brought.{Brought}
use Rattle.table.specs.Table.{field_rows}
use Rattle.table.specs.Memory.{heads_start, heads_of, fixed_by, record_ok, holder_ok, sound_table}
use Rattle.table.specs.Changes.{slot_after, puts_picture, slots_after, heads_put, desktop_slot, slots_by, brought_by, heads_by, store_by, Able, Follows}
use Rattle.table.proofs.Heads.{desk_start, desk_length, desk_ends}
use Rattle.table.proofs.HeadsOnce.{place_room}
use Rattle.wire.proofs.Tests.{never}
use Rattle.order.proofs.FlagsClash.{lacks, meets}

stays : (t : Bool) (x y : List ℕ) → t ≡ false → y ≡ pick t x y
stays t x y e = rw e

-- ---- a slot

pub slot_stored : (rows : List Row) (flags : ℕ) (s : List ℕ) (at : ℕ) (fresh : Bool) (slot : List ℕ) {x y : List ℕ} → x ≡ prepared_of fresh slot
    → y ≡ store_of rows 2 flags s at x → y ≡ store_of rows 2 flags s at (prepared_of fresh slot)
slot_stored rows flags s at fresh slot e f = f ∙ ap (store_of rows 2 flags s at) e

module _ (s : List ℕ) (c : Change) (slot : List ℕ) where
  pub window_asks : c.family ≡ Windows → 2 + room_all (field_rows c.family) ≤ length slot → Able s c → (11 ≤ length s) × (2 + room_all window_fields ≤ length slot) × EndsWell window_fields c.flags s 11
  window_asks e l a = let w : 11 ≤ length s = rw e at a.within in (w, rw e at l, rw e at a.fields)

  pub notification_asks : c.family ≡ Notifications → 2 + room_all (field_rows c.family) ≤ length slot → Able s c → (15 ≤ length s) × (2 + room_all notification_fields ≤ length slot) × EndsWell notification_fields c.flags s 15
  notification_asks e l a = let w : 15 ≤ length s = rw e at a.within in (w, rw e at l, rw e at a.fields)

  pub window_slot : {x : List ℕ} → c.family ≡ Windows → x ≡ store_of window_fields 2 c.flags s 11 (prepared_of c.fresh slot) → x ≡ slot_after s c slot
  unfolding slot_after
  window_slot e f = rw e f

  pub notification_slot : {x : List ℕ} → c.family ≡ Notifications → x ≡ store_of notification_fields 2 c.flags s 15 (prepared_of c.fresh slot) → x ≡ slot_after s c slot
  unfolding slot_after
  notification_slot e f = rw e f

-- ---- the desktop's slot

module _ (flags : ℕ) (s slot : List ℕ) where
  pub desktop_none_lem : {x : List ℕ} → (bit_and flags 0x00000001 ≡ 0 → ⊥) → x ≡ prepared_of true slot → x ≡ desktop_slot flags s slot
  unfolding desktop_slot
  desktop_none_lem h e = rw (meets flags 0x00000001 h) e

  pub desktop_changed : {x y z : List ℕ} → bit_and flags 0x00000001 ≡ 0 → x ≡ hooked_of flags slot → y ≡ synced_of flags x → z ≡ store_of desktop_fields 2 flags s 7 y
      → z ≡ desktop_slot flags s slot
  unfolding desktop_slot
  desktop_changed h e f g = rw (lacks flags 0x00000001 h, ← e, ← f) g

-- ---- the slots of the bodies

-- a slot that was lent and came back changed
slot_back : (b : List ℕ) (k base n : ℕ) (change : List ℕ → List ℕ) {x : List ℕ} → slot_start k + slot_length k ≤ length b → base ≡ slot_start k → n ≡ slot_length k
    → length x ≡ length (take n (drop base b)) → x ≡ change (take n (drop base b))
    → take base b ++ (x ++ drop n (drop base b)) ≡ splice b (slot_start k) (change (slot_of b k))
slot_back b k base n change {x} room at all size e =
    let l = slot_lent b base n k at all in
    slots_back b k x (size ∙ ap length l ∙ length_slot b k room) room base n at all ∙ ap (splice b (slot_start k)) (e ∙ ap change l)

-- the part that is lent for slot k, from where it begins to where the next one does
module _ (b : List ℕ) (k : ℕ) {base end : ℕ} (eb : base ≡ slot_start k) (ee : end ≡ slot_start (k + 1)) where
  pub part_in_order : base ≤ end
  part_in_order = omega (arith, eb, ee, slot_after_lem k)

  pub part_is : end - base ≡ slot_length k
  part_is = omega (arith, eb, ee, slot_after_lem k)

  pub part_roomy : (n : ℕ) → k < 49 → 61012 ≤ length b → n ≤ slot_length k → n ≤ length (take (end - base) (drop base b))
  part_roomy n l big h =
      let e : length (take (end - base) (drop base b)) ≡ slot_length k = ap length (slot_lent b base (end - base) k eb part_is) ∙ length_slot b k (omega (arith, slot_within k l, big)) in
      omega (arith, e, h)

-- a part that was lent and came back is as long
pub part_same : (b x : List ℕ) (base end : ℕ) → base ≤ end → end ≤ length b → length x ≡ length (take (end - base) (drop base b))
    → length (take base b ++ (x ++ drop (end - base) (drop base b))) ≡ length b
part_same b x base end order within size =
    let k : length (take (end - base) (drop base b)) ≡ end - base = simp (length-take, length-drop) (omega arith) in
    let l : length x ≡ end - base = size ∙ k in
    simp (length-append, length-take, length-drop) (omega (arith, l))

module _ (s b : List ℕ) (c : Change) where
  pub slots_deleted : c.deleted ≡ true → b ≡ slots_after s c b
  unfolding slots_after
  slots_deleted t = rw t

  pub slots_changed : {base end : ℕ} {x : List ℕ} → c.deleted ≡ false → 61012 ≤ length b → Able s c → base ≡ slot_start c.slot → end ≡ slot_start (c.slot + 1)
      → length x ≡ length (take (end - base) (drop base b)) → x ≡ slot_after s c (take (end - base) (drop base b))
      → take base b ++ (x ++ drop (end - base) (drop base b)) ≡ slots_after s c b
  unfolding slots_after
  slots_changed {base} {end} t big a eb ee size h =
      let l : c.slot < 49 = omega (arith, a.slot) in
      let ends = slot_within c.slot l in
      slot_back b c.slot base (end - base) (slot_after s c) (omega (arith, ends, big)) eb (part_is b c.slot eb ee) size h
      ∙ stays c.deleted b (splice b (slot_start c.slot) (slot_after s c (slot_of b c.slot))) t

module _ (s b : List ℕ) (p : Plan) where
  pub plan_able : {c : Change} → p ≡ ChangeRecord c → Follows s p → Able s c
  unfolding Follows
  plan_able e f = rw e at f

  pub plan_desktop : {flags : ℕ} → p ≡ ChangeDesktop flags → Follows s p → (7 ≤ length s) × EndsWell desktop_fields flags s 7
  unfolding Follows
  plan_desktop e f = rw e at f

  pub slots_record : {c : Change} {x : List ℕ} → p ≡ ChangeRecord c → x ≡ slots_after s c b → x ≡ slots_by s p b
  unfolding slots_by
  slots_record e f = rw e f

  pub slots_desktop : (flags : ℕ) {x : List ℕ} → p ≡ ChangeDesktop flags → 61012 ≤ length b
      → length x ≡ length (take 916 (drop 59200 b)) → x ≡ desktop_slot flags s (take 916 (drop 59200 b)) → take 59200 b ++ (x ++ drop 916 (drop 59200 b)) ≡ slots_by s p b
  unfolding slots_by
  slots_desktop flags e big size h = rw e (slot_back b 48 59200 916 (desktop_slot flags s) (desk_ends b (omega (arith, big))) (sym desk_start) (sym desk_length) size h)

  pub slots_refused : {n : ℕ} → p ≡ Refuse n → b ≡ slots_by s p b
  unfolding slots_by
  slots_refused e = rw e

-- ---- the picture of an order

-- as the code tells whether there is one
pub puts_is : (c : Change) → both (not c.deleted) (has c.flags flag_icon) ≡ puts_picture c
puts_is c = go c.deleted
  where
    go : (d : Bool) → both (not d) (has c.flags flag_icon) ≡ pick d false (has c.flags flag_icon)
    go true = refl
    go false = refl

-- a plan of another kind brings none, by its tag
pub brings_none : (p : Plan) → OneOf (1 ∷ 2 ∷ []) (tag_of the_type p) → ◌≡◌ {A = Brought} (record { there = false; place = 0; icon = 0 }) (brought_by p)
unfolding brought_by
brings_none (ChangeRecord c) (inl e) = absurd (omega (arith, e))
brings_none (ChangeRecord c) (inr e) = absurd (omega (arith, e))
brings_none (ChangeDesktop flags) k = refl
brings_none (Refuse n) k = refl

pub brings_one : {p : Plan} (c : Change) → p ≡ ChangeRecord c → {t : Bool} → t ≡ puts_picture c → ◌≡◌ {A = Brought} (record { there = t; place = c.place; icon = c.icon }) (brought_by p)
unfolding brought_by
brings_one c e f = rw (e, f)

brings_icon_lem : (c : Change) → puts_picture c ≡ true → bit_and c.flags flag_icon ≡ 0 → ⊥
brings_icon_lem c t z = go c.deleted t
  where
    go : (d : Bool) → pick d false (has c.flags flag_icon) ≡ true → ⊥
    go true e = never e
    go false e = never (sym (lacks c.flags flag_icon z) ∙ e)

icon_asks : (s : List ℕ) (c : Change) → Able s c → (bit_and c.flags flag_icon ≡ 0 → ⊥)
    → (c.icon ≤ length s) × ((parts_of s c.icon).end ≡ length s) × ((parts_of s c.icon).end - (parts_of s c.icon).mask ≤ place_length)
icon_asks s c a h = let t = meets c.flags flag_icon h in (a.icon.low t, a.icon.end t, a.icon.bytes t)

abbrev there : Brought → Bool
there g = g.there

module _ (s b : List ℕ) where
  -- what putting it asks
  asks_put : (p : Plan) {g : Brought} → g ≡ brought_by p → g.there ≡ true → Follows s p → 61012 ≤ length b
      → (head_length * g.place + head_length ≤ length (take (length b - 60116) (drop 60116 b))) × (g.icon ≤ length s) × ((parts_of s g.icon).end ≡ length s)
      × ((parts_of s g.icon).end - (parts_of s g.icon).mask ≤ place_length)
  unfolding Follows brought_by
  asks_put (ChangeRecord c) is t w big = rw is (asks (sym (ap there is) ∙ t))
    where
      asks : puts_picture c ≡ true
          → (head_length * c.place + head_length ≤ length (take (length b - 60116) (drop 60116 b))) × (c.icon ≤ length s) × ((parts_of s c.icon).end ≡ length s)
          × ((parts_of s c.icon).end - (parts_of s c.icon).mask ≤ place_length)
      asks n =
          let q = icon_asks s c w (brings_icon_lem c n) in
          (place_room [] b c.place w.place big, q.0, q.1, q.2)
  asks_put (ChangeDesktop flags) is t w big = never (sym (ap there is) ∙ t)
  asks_put (Refuse n) is t w big = never (sym (ap there is) ∙ t)

  module _ (store : List (List ℕ)) where
    abbrev Put : Plan → List ℕ → List (List ℕ) → Type 0
    Put p y store' = (y ≡ heads_by s p b) × (store' ≡ store_by s p store)

    pub put_none : (p : Plan) {g : Brought} → g ≡ brought_by p → g.there ≡ false → Put p b store
    unfolding heads_by heads_put store_by brought_by
    put_none (ChangeRecord c) is t = let n : puts_picture c ≡ false = sym (ap there is) ∙ t in (rw n, rw n)
    put_none (ChangeDesktop flags) is t = (refl, refl)
    put_none (Refuse n) is t = (refl, refl)

    there-put : (p : Plan) {g : Brought} {x : List ℕ} {q : List (List ℕ)} → g ≡ brought_by p → g.there ≡ true → 61012 ≤ length b
        → length x ≡ length (take (length b - 60116) (drop 60116 b)) → x ≡ heads_after_of (take (length b - 60116) (drop 60116 b)) g.place s g.icon
        → q ≡ store_after store g.place s g.icon → Put p (take 60116 b ++ (x ++ drop (length b - 60116) (drop 60116 b))) q
    unfolding heads_by heads_put store_by heads_of brought_by
    there-put (ChangeRecord c) {g} {x} is t big size f h =
        let n : puts_picture c ≡ true = sym (ap there is) ∙ t in
        let w : take (length b - 60116) (drop 60116 b) ≡ drop 60116 b = take_all (length b - 60116) (drop 60116 b) (simp length-drop (omega arith)) in
        let l : length x ≡ length b - 60116 = size ∙ ap length w ∙ length-drop 60116 b in
        let k : x ≡ heads_after_of (drop 60116 b) c.place s c.icon =
        f ∙ ap (λ (y : List ℕ). heads_after_of y g.place s g.icon) w ∙ ap (λ (g : Brought). heads_after_of (drop 60116 b) g.place s g.icon) is in
        (rw n (part_back b x 60116 (length b - 60116) l ∙ ap (splice b 60116) k), rw n (h ∙ ap (λ (g : Brought). store_after store g.place s g.icon) is))
    there-put (ChangeDesktop flags) is t big size f h = never (sym (ap there is) ∙ t)
    there-put (Refuse n) is t big size f h = never (sym (ap there is) ∙ t)

  -- the heads, from where the code lends them
  module _ {at : ℕ} (start : at ≡ heads_start) where
    pub put_asks : (p : Plan) {g : Brought} → g ≡ brought_by p → g.there ≡ true → Follows s p → 61012 ≤ length b
        → (head_length * g.place + head_length ≤ length (take (length b - at) (drop at b))) × (g.icon ≤ length s) × ((parts_of s g.icon).end ≡ length s)
        × ((parts_of s g.icon).end - (parts_of s g.icon).mask ≤ place_length)
    put_asks p is t w big = rw start (asks_put p is t w big)

    pub put_there : (store : List (List ℕ)) (p : Plan) {g : Brought} {x : List ℕ} {q : List (List ℕ)} → g ≡ brought_by p → g.there ≡ true → 61012 ≤ length b
        → length x ≡ length (take (length b - at) (drop at b)) → x ≡ heads_after_of (take (length b - at) (drop at b)) g.place s g.icon
        → q ≡ store_after store g.place s g.icon → (take at b ++ (x ++ drop (length b - at) (drop at b)) ≡ heads_by s p b) × (q ≡ store_by s p store)
    put_there store p {g} {x} {q} is t big size f h = rw start (there-put store p {g = g} {x = x} {q = q} is t big (rw start at size) (rw start at f) h)

-- ---- soundness

pub body_lent : (rows : List Row) (m : ℕ) (b : List ℕ) (i base k : ℕ) {r : Bool} → base ≡ slot_start i → k ≡ slot_length i → r ≡ body_ok rows m m (take k (drop base b))
    → r ≡ body_ok rows m m (slot_of b i)
body_lent rows m b i base k at all e = e ∙ ap (body_ok rows m m) (slot_lent b base k i at all)

-- the slot of a window
pub window_lent : (b : List ℕ) (i base k : ℕ) {r : Bool} → i < 32 → base ≡ 1392 * i → k ≡ 1392 → r ≡ body_ok window_fields 0 0 (take k (drop base b))
    → r ≡ body_ok window_fields 0 0 (slot_of b i)
window_lent b i base k h at all e = body_lent window_fields 0 b i base k (at ∙ sym (window_start i h)) (all ∙ sym (window_length_lem i h)) e

module _ (rows : List Row) (x b : List ℕ) (i : ℕ) {n : ℕ} (e : n ≡ get_or x (157 + 9 * i) 0) where
  used_is : (t : Bool) → eqb n 1 ≡ t → is_used x i ≡ t
  unfolding is_used used_at
  used_is t h = ap (λ (k : ℕ). eqb k 1) (sym (num1_is x (157 + 9 * i)) ∙ sym e) ∙ h

  pub record_free : (n ≡ 1 → ⊥) → true ≡ record_ok rows x b i
  unfolding record_ok
  record_free h = rw (used_is false (ne_eqb n 1 h))

  pub record_held : {r : Bool} → n ≡ 1 → r ≡ body_ok rows 0 0 (slot_of b i) → r ≡ record_ok rows x b i
  unfolding record_ok
  record_held h f = rw (used_is true (eq-eqb n 1 h)) f

-- every number below h passed
module _ (test : ℕ → Bool) where
  pub each_none : each_below 0 test ≡ true
  each_none = each_is 0 test (λ j l. absurd (omega arith))

  pub each_next : (h : ℕ) {r : Bool} → each_below h test ≡ true → r ≡ test h → r ≡ true → each_below (h + 1) test ≡ true
  each_next h e f t = each_is (h + 1) test (λ j l. go j l (eqb j h) refl)
    where
      go : (j : ℕ) → j < h + 1 → (u : Bool) → eqb j h ≡ u → test j ≡ true
      go j l true u = rw (eqb-true j h u) (sym f ∙ t)
      go j l false u = let ne = eqb-false j h u in each_has h test e j (omega (arith, ne))

  pub each_fails : (n h : ℕ) {r : Bool} → h < n → r ≡ test h → r ≡ false → false ≡ each_below n test
  each_fails n h {r} l f t = go (each_below n test) refl
    where
      go : (u : Bool) → each_below n test ≡ u → false ≡ u
      go true u = sym t ∙ f ∙ each_has n test u h l
      go false u = refl

  pub each_more : (n h : ℕ) → ((j : ℕ) → h ≤ j → j < n → test j ≡ true) → each_below h test ≡ true → each_below n test ≡ true
  each_more n h f e = each_is n test (λ j l. go j l (ltb j h) refl)
    where
      go : (j : ℕ) → j < n → (u : Bool) → ltb j h ≡ u → test j ≡ true
      go j l true u = each_has h test e j (ltb-true j h u)
      go j l false u = f j (ltb-false j h u) l

  pub each_fewer : (n h : ℕ) {r : Bool} → h ≤ n → r ≡ each_below h test → r ≡ false → false ≡ each_below n test
  each_fewer n h l f t = go (each_below n test) refl
    where
      go : (u : Bool) → each_below n test ≡ u → false ≡ u
      go true u = sym t ∙ f ∙ each_is h test (λ j m. each_has n test u j (omega arith))
      go false u = refl

  pub each_all : (n h : ℕ) → h ≤ n → n ≤ h → each_below h test ≡ true → true ≡ each_below n test
  each_all n h l m e = let q : h ≡ n = omega arith in sym (rw q at e)

-- ---- the whole rule

module _ (x b : List ℕ) (lent : ℕ) where
  pub sound_bodies : length b < 61012 → false ≡ sound_table x b lent
  unfolding sound_table
  sound_bodies h = rw (lt-ltb (length b) 61012 h)

  module _ (h : 61012 ≤ length b) {t : Bool} (e : t ≡ sound_index x) where
    pub sound_index_lem : t ≡ false → false ≡ sound_table x b lent
    unfolding sound_table
    sound_index_lem d = rw (le-ltb (length b) 61012 h, ← e, d)

    module _ (d : t ≡ true) where
      pub sound_lent : lent < get_or x 0 0 → false ≡ sound_table x b lent
      unfolding sound_table places_of
      sound_lent l = rw (le-ltb (length b) 61012 h, ← e, d, lt-ltb lent (get_or x 0 0) l)

      module _ (l : get_or x 0 0 ≤ lent) {w : Bool} (f : w ≡ each_from 32 0 (record_ok window_fields x b)) where
        pub sound_windows : w ≡ false → false ≡ sound_table x b lent
        unfolding sound_table places_of
        sound_windows y = rw (le-ltb (length b) 61012 h, ← e, d, le-ltb lent (get_or x 0 0) l, ← f, y)

        module _ (y : w ≡ true) {n : Bool} (k : n ≡ each_from 16 32 (record_ok notification_fields x b)) where
          pub sound_notifications : n ≡ false → false ≡ sound_table x b lent
          unfolding sound_table places_of
          sound_notifications z = rw (le-ltb (length b) 61012 h, ← e, d, le-ltb lent (get_or x 0 0) l, ← f, y, ← k, z)

          module _ (z : n ≡ true) {q : Bool} (m : q ≡ body_ok desktop_fields 1 1 (slot_of b 48)) where
            pub sound_desktop : q ≡ false → false ≡ sound_table x b lent
            unfolding sound_table places_of
            sound_desktop u = rw (le-ltb (length b) 61012 h, ← e, d, le-ltb lent (get_or x 0 0) l, ← f, y, ← k, z, ← m, u)

            pub sound_holders : {r : Bool} → q ≡ true → r ≡ each_below 156 (holder_ok x b) → r ≡ sound_table x b lent
            unfolding sound_table places_of
            sound_holders u r = rw (le-ltb (length b) 61012 h, ← e, d, le-ltb lent (get_or x 0 0) l, ← f, y, ← k, z, ← m, u) r

-- ---- emptying

pub fixed_most : (lent : ℕ) → 64 < lent → 64 ≡ fixed_by lent
fixed_most lent h = rw (lt-ltb 64 lent h)

pub fixed_lent : (lent : ℕ) → lent ≤ 64 → lent ≡ fixed_by lent
fixed_lent lent h = rw (le-ltb 64 lent h)
