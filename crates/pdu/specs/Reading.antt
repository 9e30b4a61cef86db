-- Reading a message: the record, or the first refusal that applies. Assumes nothing.
use Rattle.std.specs.Prelude.{ℕ, ◌+◌, Bool, true, not, List, length, ltb, eqb, Result, Ok, Err}
use Rattle.wire.specs.Tests.{pick, both}
use Rattle.wire.specs.Numbers.{num_at, nums_at}
use Rattle.pdu.specs.declared.Pdu.{Pdu}
use Rattle.protocol.specs.declared.Refusal.{Refusal}
use Rattle.protocol.specs.declared.Refusal.TheVariants.{TooShort, LengthDiffers, UnknownType, NotFilled, OutsideSet}
use Rattle.protocol.specs.Refusals.{refused_by}
use Rattle.pdu.specs.Layout.{known}
use Rattle.pdu.specs.Settings.{high_contrast, known_setting, widths_with}
use Rattle.pdu.specs.Records.{record_of, size_of}
use Rattle.pdu.specs.Rules.{allowed}

-- orderType, orderLength, and SystemParam in a message of type 0003
abbrev pub type_at : List ℕ → ℕ
type_at s = num_at 2 s 0

abbrev pub length_at : List ℕ → ℕ
length_at s = num_at 2 s 2

abbrev pub setting_at : List ℕ → ℕ
setting_at s = num_at 4 s 4

-- the record that the bytes after the header make as one of type k
unfoldable pub record_as : ℕ → List ℕ → Pdu
record_as k s = record_of k (nums_at (widths_with k (setting_at s)) s 4)

-- ---- the record of a message, or the first refusal that applies

-- a message of type 0003 with a setting that is none
abbrev pub unknown_setting : ℕ → List ℕ → Bool
unknown_setting k s = both (eqb k 0x03) (not (known_setting (setting_at s)))

-- the outer length of a color scheme is the inner plus 2
abbrev pub lengths_agree : ℕ → List ℕ → Bool
lengths_agree k s = pick (both (eqb k 0x03) (eqb (setting_at s) high_contrast)) (eqb (num_at 4 s 12) (num_at 2 s 16 + 2)) true

-- the last lines, where it is of type k; an unknown setting is outside its set if the four bytes naming it are there
unfoldable pub body_of : ℕ → List ℕ → Result Pdu Refusal
body_of k s =
    pick (unknown_setting k s) (pick (ltb (length s) 8) (Err NotFilled) (Err OutsideSet))
    (pick (not (eqb (size_of (record_as k s)) (length s))) (Err NotFilled)
    (pick (not (lengths_agree k s)) (Err NotFilled)
    (pick (not (allowed (record_as k s))) (Err OutsideSet)
    (Ok (record_as k s)))))

unfoldable pub read_of : List ℕ → Result Pdu Refusal
read_of s =
    pick (ltb (length s) 4) (Err TooShort)
    (pick (not (eqb (length_at s) (length s))) (Err LengthDiffers)
    (pick (not (known (type_at s))) (Err UnknownType)
    (body_of (type_at s) s)))

-- the number of the refusal, 0 for none
unfoldable pub read_number : List ℕ → ℕ
read_number s = refused_by (read_of s)
