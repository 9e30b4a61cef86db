-- The lines of docs/FORMATS.md, as the definitions have them. Assumes nothing.
use mathlib.Core.Path.{◌≡◌, refl}
use Rattle.print.specs.Texts.{decimal_in, decimal_text}
use Rattle.print.specs.Templates.{ascii, ascii_from, stands_for, next_after, fill_from, fill_text}
use Rattle.lines.specs.Lines.{reply_text, update_text}

granted : reply_text 68 (record { number = 0; count = 1; bytes = 15 }) ≡ ascii "D 0 1 15"
unfolding reply_text decimal_text decimal_in ascii ascii_from stands_for next_after fill_from fill_text
granted = refl

refused : reply_text 68 (record { number = 9; count = 0; bytes = 0 }) ≡ ascii "D 9"
unfolding reply_text decimal_text decimal_in ascii ascii_from
refused = refl

-- of two orders of 7 bytes the second is cut
an_update : update_text (record { number = 2; orders = 1; granted = 7; count = 1; bytes = 7 }) ≡ ascii "U 2 1 7 1 7"
unfolding update_text decimal_text decimal_in ascii ascii_from stands_for next_after fill_from fill_text
an_update = refl
