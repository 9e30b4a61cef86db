-- Two editors side by side, on memory; and the premise on the orders read from their flags. Assumes nothing.
use Prim.Native.Nat.{ℕ}
use mathlib.Core.Path.{◌≡◌, refl, sym, ap, ◌∙◌}
use mathlib.Core.Bool.{true}
use native.Mathlib.Omega.{arith}
use borrow.Author.Tests.{eq-eqb}
use Rattle.std.specs.Prelude.{Ok, Err}
use Rattle.order.specs.declared.WindowOrder.{WindowOrder}
use Rattle.order.specs.declared.Order.TheVariants.{Window, Notification, Desktop}
use Rattle.order.specs.Judge.{Judged, flags_of, order_of, judge_of}
use Rattle.order.proofs.Accepted.{a_window, a_notification, a_desktop}
use Rattle.side_by_side.specs.SideBySide.{edits, window_named, FlagsSay, Claim, SideBySide, DescribedCounts, OnMemory}
use Rattle.side_by_side.proofs.States.{side_by_side, runs_agree}
use Rattle.side_by_side.proofs.Counted.{described_counts}

pub on_memory : OnMemory
unfolding OnMemory SideBySide Claim DescribedCounts
on_memory m e e' s a b x y p q p' q' v w k = runs_agree m e e' s a b p q p' q' v (side_by_side s a b x y (described_counts m s v) w) k

-- ---- read from the flags

pub flags_say : FlagsSay
unfolding FlagsSay order_of
flags_say s f = go (judge_of s) refl
  where
    go : (j : Judged) → judge_of s ≡ j → edits (window_named s) j ≡ true
    go (Ok (Window o)) e =
        let w = a_window s o e in
        let i : o.window.id ≡ window_named s = ap (λ (x : WindowOrder). x.window.id) w.is in
        let g : o.flags ≡ flags_of s = ap (λ (x : WindowOrder). x.flags) w.is in
        rw (i, g, eq-eqb (window_named s) (window_named s) refl, f.no_icon, f.no_cell)
    go (Ok (Notification o)) e =
        let w = a_notification s o e in
        let h : Ok (Notification o) ≡ Ok (Window (record { window = record { id = window_named s }; flags = flags_of s; icon = w.whole.icon })) =
        sym e ∙ w.whole.order ∙ rw f.window in
        let z : ◌≡◌ {A = ℕ} 0 1 = cc in absurd (omega arith)
    go (Ok (Desktop o)) e =
        let w = a_desktop s o e in
        let h : Ok (Desktop o) ≡ Ok (Window (record { window = record { id = window_named s }; flags = flags_of s; icon = w.whole.icon })) =
        sym e ∙ w.whole.order ∙ rw f.window in
        let z : ◌≡◌ {A = ℕ} 0 1 = cc in absurd (omega arith)
    go (Err r) e = refl
