-- The lookup: what is listed is held and handed out, else 9; 14 after that. Assumes nothing.
use mathlib.Core.Path.{◌≡◌, refl, sym, ap, ◌∙◌}
use mathlib.Core.Bool.{Bool, true, false, not}
use mathlib.Core.List.{List}
use mathlib.Core.Option.{none, some}
use Prim.Native.Nat.{ℕ, ◌+◌, ◌-◌, ◌≤◌}
use native.Mathlib.Omega.{arith}
use lib.Dec.{eqb, ltb, leb}
use lib.ListN.{length}
use borrow.Author.Tests.{ltb-false, eq-eqb}
use Rattle.wire.specs.Tests.{pick, both}
use Rattle.wire.specs.Numbers.{num_at, Bytes}
use Rattle.wire.specs.Parts.{splice}
use Rattle.wire.proofs.Tests.{both_right, clash}
use Rattle.wire.proofs.Parts.{length_slice}
use Rattle.rows.specs.declared.Row.{Row}
use Rattle.places.specs.declared.Family.TheVariants as family
use Rattle.places.specs.Memory.{pointer_at, shown_of, shown}
use Rattle.places.specs.Holder.{cell, icon, number_of}
use Rattle.slots.specs.Slots.{slot_of}
use Rattle.slots.proofs.Ways.{sound_long}
use Rattle.index.specs.Index.{Index}
use Rattle.index.specs.Memory.{index_of}
use Rattle.store.specs.Store.{places_in}
use Rattle.ids.specs.Ids.{ids_in}
use Rattle.figure.specs.declared.Figure.{Figure}
use Rattle.body.specs.Bodies.{window_fields, notification_fields, desktop_fields, fields_ok, body_ok}
use Rattle.table.specs.Table.{Table}
use Rattle.table.specs.Memory.{shown_in}
use Rattle.table.proofs.Rule.{table_has}
use Rattle.std.specs.Prelude.{Option, Some}
use Rattle.follow.specs.declared.Want.{Want}
use Rattle.follow.specs.declared.Want.TheVariants as want
use Rattle.follow.specs.Follow.{origins_length, room_for, held_slot, held_origins, origin_at, present_pictures, PicturesHeld, Holds}
use Rattle.shown.specs.Shown.{Ready}
use Rattle.journal.specs.declared.JournalExtent.{JournalExtent}
use Rattle.journal.specs.Limits.{log_start, journal_length}
use Rattle.journal.specs.Journal.{count_of, size_at, log_of}
use Rattle.journal.specs.State.{run}
use Rattle.journal.specs.View.{Memory, meets_rule, state_of, view_of}
use Rattle.journal.specs.Replay.{marked_pictures, since_pictures, head_is_ok, Validation}
use Rattle.journal.proofs.Logged.{extent_met, marked_in, logged_view}
use Rattle.journal.proofs.Indexed.{Indexed, Followed, indexed}
use Rattle.present.specs.TableFigure.{figure_in}
use Rattle.present.specs.PresentFigure.{Followable, figure_held, no_figure, PresentHasFigure}
use Rattle.present.proofs.PresentFigure.{present_has_figure}
use Rattle.session.specs.declared.Reply.{Reply}
use Rattle.session.specs.declared.LookupTarget.{LookupTarget}
use Rattle.session.specs.declared.LookupTarget.TheVariants.{Window, Notification, Cell, Desktop, Windows, Notifications, Shares}
use Rattle.session.specs.Calls.{look, nothing, ids, shared, refuse, grant, a_picture, cell_number, holder_of, payload_in, found, answer, next, answer_view, next_view}
use Rattle.session.specs.Outcome.{lookup, handed, layout_size, reply_of, answer_within, out_after_of, response_of, CallOutcome}
use Rattle.session.specs.Targets.{want_of, listed_in, figure_for, payload_held}
use Rattle.session.specs.Handing.{refusal_of, pictures_for, bytes_held, valid_held, ReadyFor, HandsOut}
use Rattle.session.proofs.Targets.{shares_by}
use Rattle.session.proofs.Handed.{cell_some}
use Rattle.session.proofs.Outcomes.{answer_in, next_in, refused_in, reply_in, stays}

abbrev pointer : List ℕ → ℕ → ℕ
pointer x c = pointer_at x (number_of (slot_of x) (cell c))

-- a cell that points at none shows nothing
cell_none : (x : List ℕ) (c : ℕ) → (index_of x).sharing.shares (cell c) (cell c) ≡ false → (pictures : ℕ → List ℕ) → shown_in x pictures (cell c) ≡ none
unfolding shown shown_of
cell_none x c e pictures = go (eqb (pointer x c) 0) refl
  where
    go : (b : Bool) → eqb (pointer x c) 0 ≡ b → pick b none (some (pictures (pointer x c - 1))) ≡ none
    go true z = refl
    go false z =
        let s : both (not (eqb (pointer x c) 0)) (eqb (pointer x c) (pointer x c)) ≡ false = shares_by x (cell c) (cell c) ∙ e in
        clash (sym (rw (z, eq-eqb (pointer x c) (pointer x c) refl)) ∙ s)

fields_of_lem : (rows : List Row) (slot : List ℕ) (x y : ℕ) → body_ok rows x y slot ≡ true → fields_ok rows 2 slot ≡ true
unfolding body_ok
fields_of_lem rows slot x y e =
    both_right (leb (num_at 1 slot 1) y) (fields_ok rows 2 slot) (both_right (leb (num_at 1 slot 0) x) (both (leb (num_at 1 slot 1) y) (fields_ok rows 2 slot)) e)

-- ---- on a table

-- a figure is that of the table, where the target is the desktop state
unfoldable pub FigureGoes : LookupTarget → Figure → Table → Type 0
FigureGoes (Window w) f t = Unit {0}
FigureGoes (Notification w n) f t = Unit {0}
FigureGoes (Cell cache entry) f t = Unit {0}
FigureGoes Desktop f t = f ≡ figure_in t
FigureGoes Windows f t = Unit {0}
FigureGoes Notifications f t = Unit {0}
FigureGoes (Shares g k) f t = Unit {0}

module _ (t : Table) (x m : List ℕ) (f : Figure) (marked since : ℕ → List ℕ) (ok : ℕ → Bool) (same : index_of x ≡ t.index) where
  -- 9
  absent : (target : LookupTarget) → listed_in target t.index ≡ false → Holds (want_of target) t x m marked since ok → payload_in target t ≡ nothing
  unfolding payload_in listed_in want_of Holds
  absent (Window w) e h = rw e
  absent (Notification w n) e h = rw e
  absent (Cell cache entry) e h =
      let c = cell_number cache entry in
      ap a_picture
      (h.shows (cell c)
      ∙ cell_none x c (ap (λ (i : Index). i.sharing.shares (cell c) (cell c)) same ∙ e) (present_pictures marked since (held_origins (Some want.Pictures) m)))
  absent Desktop e h = clash e
  absent Windows e h = clash e
  absent Notifications e h = clash e
  absent (Shares g k) e h = rw e

  -- what is listed is held, with the figure of the table where that is handed out
  record Held (target : LookupTarget) : Type 0 where
    payload : payload_in target t ≡ payload_held target x m f (present_pictures marked since (held_origins (want_of target) m))
    valid : valid_held target m ≡ true

  held_in : (target : LookupTarget) → listed_in target t.index ≡ true → FigureGoes target f t → Holds (want_of target) t x m marked since ok → Held target
  unfolding FigureGoes payload_in listed_in want_of payload_held valid_held Holds
  held_in (Window w) e own h =
      record {
        payload = rw (e, h.0.fields e, h.1.shows (icon family.Windows w.id 0 0), h.1.shows (icon family.Windows w.id 0 1), h.1.shows (icon family.Windows w.id 0 2));
        valid = fields_of_lem window_fields (held_slot family.Windows m) 0 0 (h.0.ok e);
      }
  held_in (Notification w n) e own h =
      record {
        payload = rw (e, h.0.fields e, h.1.shows (icon family.Notifications w.id n.id 0));
        valid = fields_of_lem notification_fields (held_slot family.Notifications m) 0 0 (h.0.ok e);
      }
  held_in (Cell cache entry) e own h = record { payload = ap a_picture (h.shows (cell (cell_number cache entry))); valid = refl }
  held_in Desktop e own h = record { payload = rw (h.0, own); valid = fields_of_lem desktop_fields m 1 1 h.1 }
  held_in Windows e own h = record { payload = ap (λ (i : Index). ids family.Windows (ids_in i family.Windows)) (sym same); valid = refl }
  held_in Notifications e own h = record { payload = ap (λ (i : Index). ids family.Notifications (ids_in i family.Notifications)) (sym same); valid = refl }
  held_in (Shares g k) e own h = record { payload = rw e (ap (λ (i : Index). shared (i.sharing.shares (holder_of g) (holder_of k))) (sym same)); valid = refl }

payload_found : (log : List (List ℕ)) (target : LookupTarget) (x m : List ℕ) (f : Figure) (pictures : ℕ → List ℕ) → listed_in target (index_of x) ≡ true
    → found log (payload_held target x m f pictures) ≡ grant log (payload_held target x m f pictures)
unfolding payload_held listed_in
payload_found log (Window w) x m f pictures e = refl
payload_found log (Notification w n) x m f pictures e = refl
payload_found log (Cell cache entry) x m f pictures e = rw (cell_some x (cell_number cache entry) e pictures)
payload_found log Desktop x m f pictures e = refl
payload_found log Windows x m f pictures e = refl
payload_found log Notifications x m f pictures e = refl
payload_found log (Shares g k) x m f pictures e = refl

-- ---- on a memory that meets the rule

-- the table's own figure goes with any target
own_goes : (t : Table) (target : LookupTarget) → FigureGoes target (figure_in t) t
unfolding FigureGoes
own_goes t (Window w) = tt
own_goes t (Notification w n) = tt
own_goes t (Cell cache entry) = tt
own_goes t Desktop = refl
own_goes t Windows = tt
own_goes t Notifications = tt
own_goes t (Shares g k) = tt

-- and so does the one that is counted
module _ {want : Option Want} {m : Memory} {d g : List ℕ} {w : JournalExtent} {x held : List ℕ} (v : Validation want m d g (Some w) x held) where
  met : meets_rule m ≡ true
  met = (extent_met m v.extent).0

  counted : w.count ≡ count_of m.journal
  counted = ap (λ (x : JournalExtent). x.count) (extent_met m v.extent).1

  pub figure_goes : (target : LookupTarget) → Bytes m.journal → Bytes x → {f : Figure} → f ≡ figure_for target x m.index m.bodies m.journal w.count
      → FigureGoes target f (run (marked_in m) (log_of m.journal))
  unfolding FigureGoes figure_for PresentHasFigure state_of
  figure_goes (Window w) a b e = tt
  figure_goes (Notification w n) a b e = tt
  figure_goes (Cell cache entry) a b e = tt
  figure_goes Desktop a b e =
      let i = v.means met in
      e ∙ ap (figure_held x m.index m.bodies m.journal) counted ∙ present_has_figure m x a b met i.sound i.index
  figure_goes Windows a b e = tt
  figure_goes Notifications a b e = tt
  figure_goes (Shares g k) a b e = tt

  -- what counting it asks
  pub followable : Followable m.index m.bodies m.journal
  followable =
      let l = (indexed v).logged in
      record { sound = (table_has m.index m.bodies (places_in m.store) l.sound).index; room = l.long.bodies; long = l.long.journal }

module _ {m : Memory} {w : JournalExtent} {x : List ℕ} {os : List (List ℕ)} (i : Indexed m w x os) where
  -- pictures that are held can be handed out
  pictures_ready : (origins : List ℕ) → length origins ≡ origins_length
      → PicturesHeld (run (marked_in m) os) x origins (marked_pictures m) (since_pictures m) (head_is_ok m)
      → ((p : ℕ) → (origin_at origins p ≡ 0 → ⊥) → origin_at origins p + size_at m.journal (origin_at origins p) ≤ journal_length)
      → Ready x m.bodies m.store m.journal origins
  pictures_ready origins many h within =
      record {
        sound = i.sound;
        room = i.logged.long.bodies;
        places = omega (arith, i.places, (table_has m.index m.bodies (places_in m.store) i.logged.sound).lends);
        long = i.logged.long.journal;
        many = many;
        heads = h.heads;
        within = within;
      }

  ready_for : (target : LookupTarget) {held : List ℕ} → length held ≡ room_for (want_of target) → Followed (want_of target) m x os held
      → ReadyFor target x m.bodies m.store m.journal held
  unfolding want_of ReadyFor Holds
  ready_for (Window w) {held = held} n f = pictures_ready (held_origins (Some (want.Window w)) held) (length_slice held 1392 origins_length (omega (arith, n))) f.holds.1 f.origins
  ready_for (Notification w k) {held = held} n f =
      pictures_ready (held_origins (Some (want.Notification w k)) held) (length_slice held 916 origins_length (omega (arith, n))) f.holds.1 f.origins
  ready_for (Cell cache entry) {held = held} n f = pictures_ready (held_origins (Some want.Pictures) held) (length_slice held 0 origins_length (omega (arith, n))) f.holds f.origins
  ready_for Desktop n f = tt
  ready_for Windows n f = tt
  ready_for Notifications n f = tt
  ready_for (Shares g k) n f = tt

module _ {m : Memory} {w : JournalExtent} {x : List ℕ} {os : List (List ℕ)} (i : Indexed m w x os) (target : LookupTarget) (out : List ℕ) {held : List ℕ}
    (holds : Followed (want_of target) m x os held) where
  abbrev table : Table
  table = run (marked_in m) os

  listed_is : {b : Bool} → listed_in target (index_of x) ≡ b → listed_in target table.index ≡ b
  listed_is e = ap (listed_in target) (sym i.index) ∙ e

  -- 9
  look_absent : {r : Reply} → listed_in target (index_of x) ≡ false → r ≡ reply_of (refuse 9) → CallOutcome (lookup target out) m (handed r out) m
  unfolding answer next
  look_absent e f =
      refused_in i.logged (lookup target out) 9 (λ z. omega (arith, z))
      (rw (absent table x held no_figure (marked_pictures m) (since_pictures m) (head_is_ok m) i.index target (listed_is e) holds.holds)) refl f

  module _ (there : listed_in target (index_of x) ≡ true) (f : Figure) (figured : FigureGoes target f table) where
    abbrev pictures : ℕ → List ℕ
    pictures = pictures_for target m.bodies m.store m.journal held

    has : Held table x held f (marked_pictures m) (since_pictures m) (head_is_ok m) i.index target
    has = held_in table x held f (marked_pictures m) (since_pictures m) (head_is_ok m) i.index target (listed_is there) figured holds.holds

    found_is : answer_view (look target) (view_of m) ≡ grant os (payload_held target x held f pictures)
    unfolding answer
    found_is = answer_in i.logged (look target) ∙ rw has.payload (payload_found os target x held f pictures there)

    same_view : next_view (look target) (view_of m) ≡ view_of m
    unfolding next
    same_view = next_in i.logged (look target) ∙ sym (logged_view i.logged)

    -- 14
    look-small : {r : Reply} → ltb (length out) (layout_size target) ≡ true → r ≡ reply_of (refuse 14) → CallOutcome (lookup target out) m (handed r out) m
    unfolding response_of answer_within out_after_of
    look-small l e = stays (lookup target out) m found_is same_view (rw (e, l))

    look-large : ltb (length out) (layout_size target) ≡ false → {r : Reply} {out' : List ℕ}
        → out' ≡ splice out 0 (bytes_held target x m.bodies m.store m.journal held f)
        → r ≡ record { number = 0; count = w.count; bytes = w.end - log_start } → CallOutcome (lookup target out) m (handed r out') m
    unfolding response_of answer_within out_after_of bytes_held
    look-large l put e =
        let g = e ∙ reply_in i.logged (payload_held target x held f pictures) in
        stays (lookup target out) m found_is same_view (rw (g, put, l))

  module _ {n : ℕ} (is : n ≡ refusal_of target (index_of x) (length out)) where
    -- 9, 14
    pub look_refused : {r : Reply} → (n ≡ 0 → ⊥) → r ≡ reply_of (refuse n) → CallOutcome (lookup target out) m (handed r out) m
    unfolding refusal_of
    look_refused {r = r} refuses e = go (listed_in target (index_of x)) (ltb (length out) (layout_size target)) refl refl
      where
        go : (a b : Bool) → listed_in target (index_of x) ≡ a → ltb (length out) (layout_size target) ≡ b → CallOutcome (lookup target out) m (handed r out) m
        go false b l s =
            let k : refusal_of target (index_of x) (length out) ≡ 9 = rw l in
            look_absent l (e ∙ ap (λ (n : ℕ). reply_of (refuse n)) (is ∙ k))
        go true true l s =
            let k : refusal_of target (index_of x) (length out) ≡ 14 = rw (l, s) in
            look-small l (figure_in table) (own_goes table target) s (e ∙ ap (λ (n : ℕ). reply_of (refuse n)) (is ∙ k))
        go true false l s =
            let k : refusal_of target (index_of x) (length out) ≡ 0 = rw (l, s) in
            absurd (refuses (is ∙ k))

    module _ (grants : n ≡ 0) where
      fits : (listed_in target (index_of x) ≡ true) × (ltb (length out) (layout_size target) ≡ false)
      unfolding refusal_of
      fits = go (listed_in target (index_of x)) (ltb (length out) (layout_size target)) refl refl
        where
          go : (a b : Bool) → listed_in target (index_of x) ≡ a → ltb (length out) (layout_size target) ≡ b
              → (listed_in target (index_of x) ≡ true) × (ltb (length out) (layout_size target) ≡ false)
          go false b l s =
              let k : refusal_of target (index_of x) (length out) ≡ 9 = rw l in
              absurd (omega (arith, is, grants, k))
          go true true l s =
              let k : refusal_of target (index_of x) (length out) ≡ 14 = rw (l, s) in
              absurd (omega (arith, is, grants, k))
          go true false l s = (l, s)

      pub look_found : (f : Figure) → FigureGoes target f table → {r : Reply} {out' : List ℕ}
          → out' ≡ splice out 0 (bytes_held target x m.bodies m.store m.journal held f)
          → r ≡ record { number = 0; count = w.count; bytes = w.end - log_start } → CallOutcome (lookup target out) m (handed r out') m
      look_found f figured put e = look-large fits.0 f figured fits.1 put e

      -- what handing out asks
      pub look_hands : length held ≡ room_for (want_of target) → HandsOut target x m.bodies m.store m.journal held out
      look_hands room =
          record {
            room = ltb-false (length out) (layout_size target) fits.1;
            long = sound_long x i.sound;
            size = room;
            listed = fits.0;
            valid = (has fits.0 (figure_in table) (own_goes table target)).valid;
            ready = ready_for i target room holds;
          }
