-- Pictures as text. Assumes nothing.
use Rattle.std.specs.Prelude.{ℕ, ◌+◌, Bool, List, [], ◌∷◌, ◌++◌}
use Rattle.wire.specs.Tests.{pick}
use Rattle.wire.specs.Parts.{slice}
use Rattle.print.specs.Texts.{hex_text}
use Rattle.print.specs.Templates.{ascii, fill_text}
use Rattle.view.specs.declared.PictureRecord.{PictureRecord}
use Rattle.view.specs.Views.{picture_view}

-- bits per pixel, width and height, as a template has them
unfoldable pub sides_text : List ℕ → PictureRecord → List ℕ
sides_text template p = fill_text template (p.bits ∷ p.width ∷ p.height ∷ []) []

-- mask, color table and color in hex, each after its name; they lie one after the other
unfoldable pub lying_text : List ℕ → ℕ → ℕ → ℕ → List ℕ → List ℕ → List ℕ → List ℕ
lying_text s mask table color a b c =
    (a ++ hex_text (slice s 0 mask)) ++ (b ++ hex_text (slice s mask table)) ++ (c ++ hex_text (slice s (mask + table) color))

abbrev pub content_text : List ℕ → List ℕ → List ℕ → PictureRecord → List ℕ
content_text a b c p = lying_text p.bytes p.mask p.table p.color a b c

-- as a cell has it
unfoldable pub cell_text : PictureRecord → List ℕ
cell_text p = sides_text (ascii " bpp=# width=# height=#") p ++ content_text (ascii " mask=") (ascii " table=") (ascii " color=") p

-- the values in one, as a record has them
unfoldable pub values_text : PictureRecord → List ℕ
values_text p = sides_text (ascii "#,#,#") p ++ content_text (ascii ",") (ascii ",") (ascii ",") p

-- the field of an icon, whose picture, if it shows one, is in these bytes
unfoldable pub icon_text : List ℕ → Bool → List ℕ → List ℕ
icon_text name there s = name ++ pick there (values_text (picture_view s)) (ascii "none")
