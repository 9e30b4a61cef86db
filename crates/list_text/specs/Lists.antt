-- The lists of ids as text. Assumes nothing.
use Rattle.std.specs.Prelude.{ℕ, min, Bool, true, false, List, ◌++◌}
use Rattle.wire.specs.Tests.{pick}
use Rattle.print.specs.Texts.{decimal_text, laid_list_text}
use Rattle.print.specs.Templates.{ascii}
use Rattle.ids.specs.declared.NotificationIds.{NotificationIds}
use Rattle.ids.specs.Typed.{count_in, window_at, notification_at}

-- both ids of a notification icon, as `7/8`
abbrev pub pair_text : NotificationIds → List ℕ
pair_text p = decimal_text p.window.id ++ ascii "/" ++ decimal_text p.icon.id

-- record i of a list: a window's id, or both of a notification icon
unfoldable pub entry_text : Bool → List ℕ → ℕ → List ℕ
entry_text icons s i = pick icons (pair_text (notification_at s i)) (decimal_text (window_at s i).id)

-- the first k records of a list, parted by commas
unfoldable pub entries_text : Bool → List ℕ → ℕ → List ℕ
entries_text icons s k = laid_list_text 44 (entry_text icons s) k

-- how many a list has, 32 at most
abbrev pub laid_of : List ℕ → ℕ
laid_of s = min (count_in s) 32

unfoldable pub both_text : List ℕ → List ℕ → List ℕ
both_text windows icons = ascii " windows=" ++ entries_text false windows (laid_of windows) ++ ascii " icons=" ++ entries_text true icons (laid_of icons)
