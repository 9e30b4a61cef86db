-- The flags of an order: its kind, the kind's closed list, and the flags that clash. Assumes nothing.
use Rattle.std.specs.Prelude.{ℕ, ◌+◌, ◌/◌, ◌%◌, Bool, not, [], ◌∷◌, eqb}
use Rattle.std.specs.Int.Bits.{bit_and}
use Rattle.wire.specs.Tests.{both, either, any, all, has}
use Rattle.protocol.specs.Flags.{desktop_arc_began, desktop_arc_completed, desktop_flags, desktop_none, flag_big_icon, flag_cached_icon, flag_deleted, flag_desktop, flag_icon, flag_notification, flag_overlay_icon, flag_window, flags_icon, notification_flags, window_flags}

abbrev pub is_window : ℕ → Bool
is_window flags = has flags flag_window

abbrev pub is_notification : ℕ → Bool
is_notification flags = has flags flag_notification

abbrev pub is_desktop : ℕ → Bool
is_desktop flags = has flags flag_desktop

-- 4: exactly one of the three type bits is set
abbrev pub one_type : ℕ → Bool
one_type flags = eqb (flags / flag_window % 2 + flags / flag_notification % 2 + flags / flag_desktop % 2) 1

-- no bit stands outside the list
abbrev pub in_list : ℕ → ℕ → Bool
in_list flags list = eqb (bit_and flags list) flags

-- 5: no bit stands outside the kind's closed list, that of windows given
abbrev pub closed_in : ℕ → ℕ → Bool
closed_in list flags =
    any
    (both (is_window flags) (in_list flags list)
    ∷ both (is_notification flags) (in_list flags notification_flags)
    ∷ both (is_desktop flags) (in_list flags desktop_flags)
    ∷ [])

abbrev pub closed : ℕ → Bool
closed flags = closed_in window_flags flags

-- 6, in the order of the paper's list
abbrev pub clash : ℕ → Bool
clash flags =
    any
    -- deleted with anything but the type bit
    (both (has flags flag_deleted) (has flags 0xD8FFFFFF)
    -- icon with cached icon
    ∷ both (has flags flag_icon) (has flags flag_cached_icon)
    -- on a window, either of these with any bit besides type, new, 00002000 and 00100000
    ∷ all (is_window flags ∷ has flags flags_icon ∷ has flags 0x28EFDFFF ∷ [])
    -- 00002000 without either
    ∷ both (has flags flag_big_icon) (not (has flags flags_icon))
    -- 00100000 without either, or with 00002000
    ∷ both (has flags flag_overlay_icon) (either (not (has flags flags_icon)) (has flags flag_big_icon))
    -- desktop 1 with any other bit but the type
    ∷ all (is_desktop flags ∷ has flags desktop_none ∷ has flags 0xF8FFFFFE ∷ [])
    -- desktop 4 with 8
    ∷ all (is_desktop flags ∷ has flags desktop_arc_completed ∷ has flags desktop_arc_began ∷ [])
    ∷ [])
