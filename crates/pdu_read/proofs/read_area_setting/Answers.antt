-- 7 where the length is another, else the words of the setting with its rectangle.
use Rattle.std.proofs.Common.{refl, sym}
use Rattle.wire.specs.Numbers.{num_at}
use Rattle.pdu.specs.declared.Rectangle.{Rectangle}
use Rattle.pdu.specs.Settings.{area, data_size, data_allowed}
use Rattle.pdu.proofs.Settings.{area_is}
use Rattle.pdu_read.proofs.Ways.{area_agrees, data_unfilled, data_fine, told_refused}
use Rattle.pdu_read.proofs.read_area_setting.Goals as goal

pub returns-then-s-ne16 : goal.returns-then-s-ne16
unfolding data_size data_allowed
returns-then-s-ne16 c =
    let s = c.args.s.now in
    let p : Rectangle = record { left = num_at 2 s 8; top = num_at 2 s 10; right = num_at 2 s 12; bottom = num_at 2 s 14 } in
    told_refused (data_unfilled s c.args.number (area p) (c.requires.1, c.requires.2) c.requires.0 (area_is s c.requires.1 c.requires.2 c.requires.0 refl refl refl refl) (λ q. c.if-s-ne16.true (sym q)))

pub returns : goal.returns
unfolding data_size data_allowed
returns c =
    let s = c.args.s.now in
    let p : Rectangle = record { left = c.read_u16.result; top = c.read_u16-2.result; right = c.read_u16-3.result; bottom = c.read_u16-4.result } in
    let i = area_is s c.requires.1 c.requires.2 c.requires.0 c.read_u16.ensures c.read_u16-2.ensures c.read_u16-3.ensures c.read_u16-4.ensures in
    data_fine s c.args.number (area p) (c.requires.1, c.requires.2) c.requires.0 i (sym c.if-s-ne16.false) (area_agrees s c.requires.0 c.requires.2) refl c.area_setting_words.ensures
