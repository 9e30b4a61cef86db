-- The bits of an order's FieldsPresentFlags that no row of the fields' table has, and the closed list of each kind. Assumes nothing.
use Rattle.std.specs.Prelude.{ℕ}

-- the type of the order
abbrev pub flag_window : ℕ
flag_window = 0x01000000

abbrev pub flag_notification : ℕ
flag_notification = 0x02000000

abbrev pub flag_desktop : ℕ
flag_desktop = 0x04000000

-- its state
abbrev pub flag_new : ℕ
flag_new = 0x10000000

abbrev pub flag_deleted : ℕ
flag_deleted = 0x20000000

abbrev pub flag_icon : ℕ
flag_icon = 0x40000000

abbrev pub flag_cached_icon : ℕ
flag_cached_icon = 0x80000000

-- an icon or a cached icon
abbrev pub flags_icon : ℕ
flags_icon = 0xC0000000

-- the icon is the window's big one
abbrev pub flag_big_icon : ℕ
flag_big_icon = 0x00002000

-- request No. 12: the icon is the window's overlay icon; that icon is none
abbrev pub flag_overlay_icon : ℕ
flag_overlay_icon = 0x00100000

abbrev pub flag_overlay_none : ℕ
flag_overlay_none = 0x00200000

-- either of these
abbrev pub flags_overlay : ℕ
flags_overlay = 0x00300000

-- of a desktop order: no desktop is monitored; it is; its state has been sent; it is being sent
abbrev pub desktop_none : ℕ
desktop_none = 0x00000001

abbrev pub desktop_hooked : ℕ
desktop_hooked = 0x00000002

abbrev pub desktop_arc_completed : ℕ
desktop_arc_completed = 0x00000004

abbrev pub desktop_arc_began : ℕ
desktop_arc_began = 0x00000008

-- the closed lists
abbrev pub window_flags : ℕ
window_flags = 0xF9FFFFDF

abbrev pub notification_flags : ℕ
notification_flags = 0xF200000F

abbrev pub desktop_flags : ℕ
desktop_flags = 0x0400003F
