-- Handing out a lookup's target: the bytes that the memory that holds it gives, and what doing so asks. Assumes nothing.
use Rattle.std.specs.Prelude.{Some, ℕ, ◌≤◌, ◌≡◌, Bool, true, List, [], ◌∷◌, ltb, length}
use Rattle.std.proofs.Math.Option.{Option}
use Rattle.wire.specs.Tests.{pick}
use Rattle.wire.specs.Parts.{splice}
use Rattle.protocol.specs.declared.WindowId.{WindowId}
use Rattle.places.specs.declared.Family.TheVariants as family
use Rattle.slots.specs.Families.{index_length}
use Rattle.index.specs.Index.{Index}
use Rattle.index.specs.Memory.{index_of}
use Rattle.body.specs.Bodies.{desktop_fields, fields_of, fields_ok}
use Rattle.table.specs.Table.{field_rows}
use Rattle.follow.specs.declared.Want.TheVariants as want
use Rattle.follow.specs.Follow.{room_for, held_slot, held_origins}
use Rattle.shown.specs.Shown.{is_there, shown_bytes, held_pictures, Ready}
use Rattle.figure.specs.declared.Figure.{Figure}
use Rattle.session.specs.declared.LookupTarget.{LookupTarget}
use Rattle.session.specs.declared.LookupTarget.TheVariants.{Window, Notification, Cell, Desktop, Windows, Notifications, Shares}
use Rattle.session.specs.Outcome.{layout_size, window_bytes, payload_bytes}
use Rattle.session.specs.Targets.{want_of, listed_in, icons_held, payload_held}

-- 9 where an index does not list the target, 14 where so many bytes do not hold it, else 0
unfoldable pub refusal_of : LookupTarget → Index → ℕ → ℕ
refusal_of target d room = pick (listed_in target d) (pick (ltb room (layout_size target)) 14 0) 9

-- the pictures at the places, by the memory m of the target
abbrev pub pictures_for : LookupTarget → List ℕ → List (List ℕ) → List ℕ → List ℕ → ℕ → List ℕ
pictures_for target bodies store journal m = held_pictures bodies store journal (held_origins (want_of target) m)

unfoldable pub bytes_held : LookupTarget → List ℕ → List ℕ → List (List ℕ) → List ℕ → List ℕ → Figure → List ℕ
bytes_held target x bodies store journal m f = payload_bytes target (payload_held target x m f (pictures_for target bodies store journal m))

-- a picture at index at, and at index mark whether it is there
abbrev pub marked_picture : List ℕ → ℕ → ℕ → Option (List ℕ) → List ℕ
marked_picture out at mark p = splice (splice out at (shown_bytes p)) mark (is_there p ∷ [])

-- of a window its records, without its pixels
unfoldable pub records_held : WindowId → List ℕ → List ℕ → List (List ℕ) → List ℕ → List ℕ → List ℕ
records_held w x bodies store journal m =
    window_bytes (fields_of (field_rows family.Windows) 2 (held_slot family.Windows m)) (icons_held x (pictures_for (Window w) bodies store journal m) family.Windows w.id 0)

-- the memory is in its sets
unfoldable pub valid_held : LookupTarget → List ℕ → Bool
valid_held (Window w) m = fields_ok (field_rows family.Windows) 2 (held_slot family.Windows m)
valid_held (Notification w n) m = fields_ok (field_rows family.Notifications) 2 (held_slot family.Notifications m)
valid_held (Cell cache entry) m = true
valid_held Desktop m = fields_ok desktop_fields 2 m
valid_held Windows m = true
valid_held Notifications m = true
valid_held (Shares g k) m = true

-- the pictures, of a target that has some, can be handed out
unfoldable pub ReadyFor : LookupTarget → List ℕ → List ℕ → List (List ℕ) → List ℕ → List ℕ → Type 0
ReadyFor (Window w) x bodies store journal m = Ready x bodies store journal (held_origins (Some (want.Window w)) m)
ReadyFor (Notification w n) x bodies store journal m = Ready x bodies store journal (held_origins (Some (want.Notification w n)) m)
ReadyFor (Cell cache entry) x bodies store journal m = Ready x bodies store journal (held_origins (Some want.Pictures) m)
ReadyFor Desktop x bodies store journal m = Unit {0}
ReadyFor Windows x bodies store journal m = Unit {0}
ReadyFor Notifications x bodies store journal m = Unit {0}
ReadyFor (Shares g k) x bodies store journal m = Unit {0}

-- the output has room, the index x lists the target, and what is held of it is in its sets
pub record HandsOut (target : LookupTarget) (x bodies : List ℕ) (store : List (List ℕ)) (journal m out : List ℕ) : Type 0 where
  pub room : layout_size target ≤ length out
  pub long : index_length ≤ length x
  pub size : length m ≡ room_for (want_of target)
  pub listed : listed_in target (index_of x) ≡ true
  pub valid : valid_held target m ≡ true
  pub ready : ReadyFor target x bodies store journal m
