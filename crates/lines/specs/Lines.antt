-- The lines of a call script's answers. Assumes nothing.
use Rattle.std.specs.Prelude.{ℕ, List, [], ◌∷◌, ◌++◌, eqb}
use Rattle.wire.specs.Tests.{pick}
use Rattle.wire.specs.Numbers.{num_at}
use Rattle.print.specs.Texts.{decimal_text}
use Rattle.print.specs.Templates.{ascii, fill_text}
use Rattle.session.specs.declared.Reply.{Reply}
use Rattle.session.specs.declared.LookupTarget.{LookupTarget}
use Rattle.session.specs.declared.LookupTarget.TheVariants.{Window, Notification, Cell, Desktop, Windows, Notifications, Shares}
use Rattle.update.specs.declared.Report.{Report}
use Rattle.view.specs.Views.{picture_view}
use Rattle.field_text.specs.Pictures.{cell_text}
use Rattle.window_text.specs.Windows.{window_text}
use Rattle.desktop_text.specs.Notifications.{notification_text}
use Rattle.desktop_text.specs.Desktop.{desktop_text}
use Rattle.list_text.specs.Lists.{both_text}

-- what only a granted call has
abbrev pub if_granted : Reply → List ℕ → List ℕ
if_granted r s = pick (eqb r.number 0) s []

-- the kind and the number, and for a granted call the count and the bytes
unfoldable pub reply_text : ℕ → Reply → List ℕ
reply_text kind r = (kind ∷ 32 ∷ []) ++ decimal_text r.number ++ if_granted r (fill_text (ascii " # #") (r.count ∷ r.bytes ∷ []) [])

-- the line of an update: the number, and where the memory is fit what was granted, and what stands
unfoldable pub update_text : Report → List ℕ
update_text r =
    ascii "U " ++ decimal_text r.number ++ pick (eqb r.number 1) [] (fill_text (ascii " # # # #") (r.orders ∷ r.granted ∷ r.count ∷ r.bytes ∷ []) [])

unfoldable pub shared_text : List ℕ → List ℕ
shared_text s = ascii " shared=" ++ decimal_text (num_at 1 s 0)

-- the record in the bytes that were handed out
unfoldable pub record_text : LookupTarget → List ℕ → List ℕ
record_text (Window w) s = window_text w s
record_text (Notification w i) s = notification_text w i s
record_text (Cell cache entry) s = cell_text (picture_view s)
record_text Desktop s = desktop_text s
record_text Windows s = []
record_text Notifications s = []
record_text (Shares a b) s = shared_text s

-- the line of a lookup
unfoldable pub found_text : ℕ → Reply → LookupTarget → List ℕ → List ℕ
found_text kind r target s = reply_text kind r ++ if_granted r (record_text target s)

-- the line of the two lists of ids
unfoldable pub lists_text : ℕ → Reply → List ℕ → List ℕ → List ℕ
lists_text kind r windows icons = reply_text kind r ++ if_granted r (both_text windows icons)
