-- A holder of a picture by numbers, as callers over bytes name it. Assumes nothing.
use Rattle.std.specs.Prelude.{ℕ, eqb, ltb}
use Rattle.wire.specs.Tests.{pick}
use Rattle.session.specs.declared.PictureHolder.{PictureHolder}
use Rattle.session.specs.declared.PictureHolder.TheVariants.{Cell, Small, Big, Overlay, Notification}

-- the most that a number may be: a cache id past 255 and an entry past 65,535 lie outside the caches as these do
abbrev pub capped : ℕ → ℕ → ℕ
capped most v = pick (ltb most v) most v

-- 1 a window's small icon, 2 its big one, 3 a notification icon, by window id and notify-icon id, 4 a window's overlay icon; any other
-- a cell, by cache id and entry
unfoldable pub holder_from : ℕ → ℕ → ℕ → PictureHolder
holder_from kind a b =
    pick (eqb kind 1) (Small (record { id = a }))
    (pick (eqb kind 2) (Big (record { id = a }))
    (pick (eqb kind 3) (Notification (record { id = a }) (record { id = b }))
    (pick (eqb kind 4) (Overlay (record { id = a }))
    (Cell (capped 255 a) (capped 65535 b)))))
