-- Head and numbers, one after the other; each position as the number of its two bytes.
use Rattle.std.proofs.Common.{ℕ, List, [], ◌∷◌, ◌≡◌, ◌∙◌, refl, rules}
use Rattle.wire.specs.Parts.{splice}
use Rattle.wire.specs.Numbers.{bytes_of, put_all}
use Rattle.signs.specs.TwosComplement.{unsigned}
use Rattle.pdu.specs.declared.Pdu.TheVariants.{MinMaxInfo}
use Rattle.pdu.specs.declared.MinMaxInfo as M
use Rattle.pdu.specs.Layout.{widths}
use Rattle.pdu.specs.Records.{kind_of, nums_of, size_of, spans_of}
use Rattle.pdu.specs.Writing.{joined, strings_of, encode}
use Rattle.pdu_put.specs.Judging.{Encoded}
use Rattle.pdu_put.proofs.Puts.{end, put, puts}
use Rattle.pdu_put.proofs.kinds.MinMaxInfoPut.put.Goals as goal

laid : (e : M.MinMaxInfo) (src out : List ℕ) {y : List ℕ} {a b : ℕ}
    → y ≡ splice out 0 (put_all (2 ∷ 2 ∷ 4 ∷ 2 ∷ 2 ∷ 2 ∷ 2 ∷ 2 ∷ 2 ∷ 2 ∷ 2 ∷ []) (0x0A ∷ 24 ∷ e.window_id.id ∷ e.max_width ∷ e.max_height ∷ a ∷ b ∷ e.min_track_width ∷ e.min_track_height ∷ e.max_track_width ∷ e.max_track_height ∷ []))
    → a ≡ unsigned 2 e.max_pos_x → b ≡ unsigned 2 e.max_pos_y → Encoded (MinMaxInfo e) src out y
unfolding joined put_all bytes_of widths kind_of nums_of size_of spans_of strings_of encode
laid e src out ey ea eb = record { bytes = ey ∙ rw (ea, eb) }

pub returns : goal.returns
unfolding joined put_all bytes_of widths kind_of nums_of size_of spans_of strings_of encode
returns c =
    laid c.args.self c.args._src.now c.args.out.now (puts (put c.put_head.ensures refl (put c.put_quad.ensures refl (put c.put_quad-2.ensures refl end))) c.requires.room) (search rules) (search rules)
