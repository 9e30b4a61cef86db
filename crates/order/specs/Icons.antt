-- An icon (IconInfo) and a cached icon (CachedIcon) at index at, after the other fields of an order. Assumes nothing.
use Rattle.std.specs.Prelude.{ℕ, ◌+◌, ◌*◌, ◌/◌, ◌-◌, Bool, false, not, List, [], ◌∷◌, length, leb, ltb, eqb}
use Rattle.wire.specs.Tests.{pick, both, either, any, has}
use Rattle.wire.specs.Numbers.{num_at}
use Rattle.rows.specs.declared.Fit.{Fit}
use Rattle.rows.specs.declared.Fit.TheVariants.{Ends, Short}
use Rattle.rows.specs.Rows.{first_bad, on_fit}
use Rattle.order.specs.declared.IconParts.{IconParts}
use Rattle.protocol.specs.Flags.{flag_cached_icon, flag_icon}

-- the bits per pixel that have a color table
abbrev pub tabled : ℕ → Bool
tabled bits = any (eqb bits 1 ∷ eqb bits 4 ∷ eqb bits 8 ∷ [])

-- mask, color table and color, one after the other
abbrev pub parts_from : ℕ → ℕ → ℕ → ℕ → IconParts
parts_from start mask table color =
    record { mask = start; table = start + mask; color = start + mask + table; end = start + mask + table + color }

-- entry 2, cache id 1, bits 1, width 2, height 2, the color table's length 2 if there is one, mask's 2, color's 2
unfoldable pub parts_of : List ℕ → ℕ → IconParts
parts_of s at =
    pick (tabled (num_at 1 s (at + 3)))
    (parts_from (at + 14) (num_at 2 s (at + 10)) (num_at 2 s (at + 8)) (num_at 2 s (at + 12)))
    (parts_from (at + 12) (num_at 2 s (at + 8)) 0 (num_at 2 s (at + 10)))

-- ---- 8

-- cache id FF passes, whatever its entry
abbrev pub entry_ok : ℕ → ℕ → Bool
entry_ok entry cache = either (eqb cache 0xFF) (leb entry 5)

abbrev pub cache_ok : ℕ → Bool
cache_ok cache = either (eqb cache 0xFF) (leb cache 1)

abbrev pub bits_ok : ℕ → Bool
bits_ok bits = any (eqb bits 1 ∷ eqb bits 4 ∷ eqb bits 8 ∷ eqb bits 16 ∷ eqb bits 24 ∷ eqb bits 32 ∷ [])

abbrev pub side_ok : ℕ → Bool
side_ok n = both (leb 1 n) (leb n 32)

-- the offset of the first number outside its set, 0 for none; n bytes in all pass by the color's length
abbrev pub icon_numbers_bad : ℕ → ℕ → ℕ → ℕ → ℕ → ℕ → ℕ → ℕ → ℕ
icon_numbers_bad at entry cache bits width height n last =
    pick (not (entry_ok entry cache)) at
    (pick (not (cache_ok cache)) (at + 2)
    (pick (not (bits_ok bits)) (at + 3)
    (pick (not (side_ok width)) (at + 4)
    (pick (not (side_ok height)) (at + 6)
    (pick (not (leb n 4224)) last
    0)))))

unfoldable pub icon_bad : List ℕ → ℕ → ℕ
icon_bad s at =
    icon_numbers_bad at (num_at 2 s at) (num_at 1 s (at + 2)) (num_at 1 s (at + 3)) (num_at 2 s (at + 4)) (num_at 2 s (at + 6))
    ((parts_of s at).end - (parts_of s at).mask) ((parts_of s at).mask - 2)

abbrev pub cached_numbers_bad : ℕ → ℕ → ℕ → ℕ
cached_numbers_bad at entry cache = pick (not (leb entry 5)) at (pick (not (leb cache 1)) (at + 2) 0)

unfoldable pub cached_bad : List ℕ → ℕ → ℕ
cached_bad s at = cached_numbers_bad at (num_at 2 s at) (num_at 1 s (at + 2))

-- ---- 7

-- of a header with a bytes left, where the number begins that is cut: numbers begin at 0, 2, 3, 4, 6, 8, 10, 12
abbrev pub head_cut : ℕ → ℕ
head_cut a = pick (ltb a 2) 0 (pick (ltb a 4) a (a / 2 * 2))

abbrev pub parts_cut : ℕ → ℕ → IconParts → ℕ
parts_cut at end p =
    pick (ltb end p.mask) (at + head_cut (end - at))
    (pick (ltb end p.table) p.mask
    (pick (ltb end p.color) p.table
    p.color))

-- ---- the icon or cached icon that the flags name

unfoldable pub icon_fit : List ℕ → ℕ → ℕ → Fit
icon_fit s at bad =
    pick (leb (parts_of s at).end (length s))
    (Ends (parts_of s at).end (first_bad bad (icon_bad s at)))
    (Short (parts_cut at (length s) (parts_of s at)))

unfoldable pub cached_fit : List ℕ → ℕ → ℕ → Fit
cached_fit s at bad =
    pick (leb 3 (length s - at))
    (Ends (at + 3) (first_bad bad (cached_bad s at)))
    (Short (at + head_cut (length s - at)))

unfoldable pub picture_fit : ℕ → List ℕ → ℕ → ℕ → Fit
picture_fit flags s at bad =
    pick (has flags flag_icon) (icon_fit s at bad)
    (pick (has flags flag_cached_icon) (cached_fit s at bad)
    (Ends at bad))

-- ---- an icon or cached icon that fills the order from index at on

-- what fits ends at n, with no number outside its set
abbrev pub ends_good : ℕ → Fit → Bool
ends_good n f = on_fit f (λ cut. false) (λ end first. both (eqb end n) (eqb first 0))

unfoldable pub icon_whole : List ℕ → ℕ → Bool
icon_whole s at = ends_good (length s) (icon_fit s at 0)

unfoldable pub cached_whole : List ℕ → ℕ → Bool
cached_whole s at = ends_good (length s) (cached_fit s at 0)

-- the same of what the flags name
unfoldable pub picture_whole : ℕ → List ℕ → ℕ → Bool
picture_whole flags s at = ends_good (length s) (picture_fit flags s at 0)
