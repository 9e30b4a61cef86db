-- Handing out figures: a window's pixels behind its records, the table's figure behind the desktop state. Assumes nothing.
use mathlib.Core.Path.{◌≡◌, refl, ap, ◌∙◌}
use mathlib.Core.List.{List, [], ◌∷◌, ◌++◌, flatten}
use mathlib.Core.Option.{Option}
use Prim.Native.Nat.{ℕ, ◌+◌, ◌%◌, ◌≤◌}
use native.Mathlib.Omega.{arith}
use lib.ListN.{length, length-append}
use Rattle.wire.specs.Numbers.{bytes_of}
use Rattle.wire.specs.Parts.{splice}
use Rattle.wire.proofs.Numbers.{length_bytes}
use Rattle.wire.proofs.Parts.{splice_after}
use Rattle.protocol.specs.declared.WindowId.{WindowId}
use Rattle.places.specs.declared.Family.TheVariants as family
use Rattle.places.specs.Holder.{icon}
use Rattle.body.specs.Bodies.{window_fields, desktop_fields, fields_of, body_of}
use Rattle.body.specs.Stores.{room_all}
use Rattle.layout.specs.Layouts.{desktop_size, older_fields, newer_fields, older_of, newer_of, record_bytes}
use Rattle.layout.proofs.LayoutsWritten.{length_record}
use Rattle.figure.specs.declared.Figure.{Figure}
use Rattle.figure.specs.Figure.{pixels_of, figure_length, figure_bytes}
use Rattle.figure.proofs.FigureBytes.{half, lower_half}
use Rattle.table.specs.Memory.{shown_in}
use Rattle.follow.specs.Follow.{held_slot}
use Rattle.shown.specs.Shown.{is_there, shown_bytes}
use Rattle.present.specs.PresentFigure.{no_figure}
use Rattle.present.specs.TableFigure.{unmarked}
use Rattle.present.proofs.PresentFigure.{pixels_unmarked}
use Rattle.session.specs.declared.LookupTarget.TheVariants.{Window}
use Rattle.session.specs.Outcome.{pixels_start, pixels_size, pictures_bytes, window_bytes, listed_bytes, payload_bytes}
use Rattle.session.specs.Targets.{payload_held}
use Rattle.session.specs.Handing.{pictures_for, records_held, bytes_held, HandsOut}
use Rattle.session.proofs.Handed.{length_shown}

-- ---- a window

pictures_long : (p q : Option (List ℕ)) → length (pictures_bytes (p ∷ q ∷ [])) ≡ length (shown_bytes p) + length (shown_bytes q)
unfolding flatten
pictures_long p q = length-append (shown_bytes p) (shown_bytes q ++ []) ∙ omega (arith, length-append (shown_bytes q) [])

picture_long : (o : Option (List ℕ)) → length (pictures_bytes (o ∷ [])) ≡ length (shown_bytes o)
unfolding flatten
picture_long o = length-append (shown_bytes o) [] ∙ omega arith

window_long : (fields : List (List ℕ)) (p q o : Option (List ℕ)) → length (window_bytes fields (p ∷ q ∷ o ∷ [])) ≡ pixels_start
unfolding room_all
window_long fields p q o =
    let older = record_bytes older_fields (record { first = is_there p; second = is_there q; fields = older_of fields }) in
    let newer = record_bytes newer_fields (record { first = is_there o; second = 0; fields = newer_of fields }) in
    let two = pictures_bytes (p ∷ q ∷ []) in
    let last = pictures_bytes (o ∷ []) in
    omega (
      arith,
      length-append older (two ++ (newer ++ last)),
      length-append two (newer ++ last),
      length-append newer last,
      length_record older_fields (record { first = is_there p; second = is_there q; fields = older_of fields }),
      length_record newer_fields (record { first = is_there o; second = 0; fields = newer_of fields }),
      pictures_long p q,
      picture_long o,
      length_shown p,
      length_shown q,
      length_shown o,
    )

module _ {x bodies : List ℕ} {store : List (List ℕ)} {journal m out : List ℕ} {w : WindowId} (h : HandsOut (Window w) x bodies store journal m out) where
  records_long : length (records_held w x bodies store journal m) ≡ pixels_start
  unfolding records_held
  records_long =
      let pictures = pictures_for (Window w) bodies store journal m in
      window_long (fields_of window_fields 2 (held_slot family.Windows m)) (shown_in x pictures (icon family.Windows w.id 0 0))
      (shown_in x pictures (icon family.Windows w.id 0 1)) (shown_in x pictures (icon family.Windows w.id 0 2))

  -- the pixels behind the records
  pub window_handed : {y z : List ℕ} {n : ℕ} → y ≡ splice out 0 (records_held w x bodies store journal m) → n ≡ pixels_of (body_of window_fields (held_slot family.Windows m))
      → z ≡ splice y pixels_start (bytes_of 4 (n % half)) → z ≡ splice out 0 (bytes_held (Window w) x bodies store journal m no_figure)
  window_handed {y = y} {n = n} e is f =
      let records = records_held w x bodies store journal m in
      let pixels = bytes_of pixels_size (pixels_of (unmarked (fields_of window_fields 2 (held_slot family.Windows m)))) in
      let size = length_bytes pixels_size (pixels_of (unmarked (fields_of window_fields 2 (held_slot family.Windows m)))) in
      let own : bytes_of 4 (n % half) ≡ pixels = lower_half n ∙ ap (bytes_of 4) (is ∙ by-fields) in
      f
      ∙ ap (splice y pixels_start) own
      ∙ ap (λ (k : List ℕ). splice k pixels_start pixels) e
      ∙ splice_after out 0 records pixels pixels_start (omega (arith, records_long)) (omega (arith, records_long, size, h.room))
      ∙ joined
    where
      by-fields : pixels_of (body_of window_fields (held_slot family.Windows m)) ≡ pixels_of (unmarked (fields_of window_fields 2 (held_slot family.Windows m)))
      by-fields = unfold body_of in pixels_unmarked (body_of window_fields (held_slot family.Windows m))

      joined : splice out 0 (records_held w x bodies store journal m ++ bytes_of pixels_size (pixels_of (unmarked (fields_of window_fields 2 (held_slot family.Windows m)))))
          ≡ splice out 0 (bytes_held (Window w) x bodies store journal m no_figure)
      joined = unfold records_held bytes_held payload_held payload_bytes listed_bytes in refl

-- ---- the desktop state

length_figure : (f : Figure) → length (figure_bytes f) ≡ figure_length
unfolding figure_bytes
length_figure f = length-append (bytes_of 4 f.windows) (bytes_of 8 f.pixels) ∙ omega (arith, length_bytes 4 f.windows, length_bytes 8 f.pixels)

-- the figure behind it
pub desktop_laid : (out m : List ℕ) (f : Figure) → desktop_size + figure_length ≤ length out → {y z : List ℕ} → y ≡ splice out 0 (record_bytes desktop_fields (body_of desktop_fields m))
    → z ≡ splice y desktop_size (figure_bytes f) → z ≡ splice out 0 (record_bytes desktop_fields (body_of desktop_fields m) ++ figure_bytes f)
unfolding room_all
desktop_laid out m f room e g =
    let state = record_bytes desktop_fields (body_of desktop_fields m) in
    let k = length_record desktop_fields (body_of desktop_fields m) in
    g
    ∙ ap (λ (y : List ℕ). splice y desktop_size (figure_bytes f)) e
    ∙ splice_after out 0 state (figure_bytes f) desktop_size (omega (arith, k)) (omega (arith, k, length_figure f, room))
