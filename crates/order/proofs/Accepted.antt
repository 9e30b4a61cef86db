-- What an order that is not refused has, for the crates that store it. Assumes nothing.
use mathlib.Core.Path.{◌≡◌, refl, sym, ap, subst, ◌∙◌}
use mathlib.Core.Bool.{Bool, true, false, not}
use mathlib.Core.List.{List}
use Prim.Native.Nat.{ℕ, ◌+◌, ◌-◌, ◌≤◌}
use native.Mathlib.Omega.{arith}
use lib.Dec.{eqb, leb, ltb}
use lib.Bits.{bit_and}
use lib.ListN.{length}
use borrow.Author.Tests.{leb-true, ltb-false, eqb-true}
use Rattle.std.specs.Prelude.{Ok, Err}
use Rattle.wire.specs.Tests.{pick, both, has}
use Rattle.wire.specs.Numbers.{num_at}
use Rattle.rows.specs.declared.Fit.{Fit}
use Rattle.rows.specs.declared.Fit.TheVariants.{Ends, Short}
use Rattle.rows.specs.Rows.{window_rows, notification_rows, desktop_rows, on_fit, walk_of}
use Rattle.order.specs.declared.WindowOrder.{WindowOrder}
use Rattle.order.specs.declared.NotificationOrder.{NotificationOrder}
use Rattle.order.specs.declared.DesktopOrder.{DesktopOrder}
use Rattle.order.specs.declared.Order.TheVariants.{Window, Notification, Desktop}
use Rattle.order.specs.Flags.{is_window, is_notification, is_desktop, one_type, in_list, closed, clash}
use Rattle.order.specs.Icons.{parts_of, entry_ok, cache_ok, bits_ok, side_ok, icon_bad, cached_bad, head_cut, parts_cut, icon_fit, cached_fit, picture_fit}
use Rattle.order.specs.Judge.{Judged, refuse, number_of, flags_of, order_of, fields_fit, judge_of}
use Rattle.wire.proofs.Tests.{both_right}
use Rattle.rows.proofs.Absent.{unlisted}
use Rattle.rows.proofs.RowsCarried.{fit_kept}
use Rattle.order.proofs.Pictures.{picture_none, laid}
use Rattle.protocol.specs.Flags.{desktop_flags, flag_cached_icon, flag_icon}
use Rattle.protocol.specs.declared.Refusal.TheVariants.{TooShort, LengthDiffers, UnknownType, UnknownFlag, FlagsClash, NotFilled, OutsideSet}

pub record Accepted (s : List ℕ) : Type 0 where
  pub long : 7 ≤ length s
  pub sized : num_at 2 s 1 ≡ length s
  pub begins : num_at 1 s 0 ≡ 0x2E
  pub one : one_type (flags_of s) ≡ true
  pub listed : closed (flags_of s) ≡ true
  pub agrees : clash (flags_of s) ≡ false
  -- where the fields end and the icon begins
  pub icon : ℕ
  pub fields : fields_fit (flags_of s) s ≡ Ends icon 0
  pub picture : picture_fit (flags_of s) s icon 0 ≡ Ends (length s) 0
  pub order : judge_of s ≡ order_of (flags_of s) s icon

-- ---- no offset at fault is taken back

picture_kept : (flags : ℕ) (s : List ℕ) (at bad q : ℕ) → picture_fit flags s at bad ≡ Ends q 0 → bad ≡ 0
unfolding picture_fit icon_fit cached_fit
picture_kept flags s at bad q e = go (has flags flag_icon) (has flags flag_cached_icon) e
  where
    go : (b c : Bool) → pick b (icon_fit s at bad) (pick c (cached_fit s at bad) (Ends at bad)) ≡ Ends q 0 → bad ≡ 0
    go true c e = fit_kept (leb (parts_of s at).end (length s)) (parts_of s at).end bad (icon_bad s at) (parts_cut at (length s) (parts_of s at)) q e
    go false true e = fit_kept (leb 3 (length s - at)) (at + 3) bad (cached_bad s at) (at + head_cut (length s - at)) q e
    go false false e = cc

-- ---- the fields and the icon of an order that is not refused

record Body (flags : ℕ) (s : List ℕ) (j : Judged) : Type 0 where
  pub icon : ℕ
  pub fields : fields_fit flags s ≡ Ends icon 0
  pub picture : picture_fit flags s icon 0 ≡ Ends (length s) 0
  pub order : j ≡ order_of flags s icon

module _ (flags : ℕ) (s : List ℕ) where
  -- the ladder's end
  abbrev at_end : ℕ → ℕ → ℕ → Judged
  at_end icon end first = pick (not (eqb end (length s))) (refuse NotFilled end) (pick (not (eqb first 0)) (refuse OutsideSet first) (order_of flags s icon))

  abbrev in_body : Judged
  in_body =
      on_fit (fields_fit flags s) (λ cut. refuse NotFilled cut) (λ icon bad. on_fit (picture_fit flags s icon bad) (λ cut. refuse NotFilled cut) (λ end first. at_end icon end first))

  ended : (icon bad end first : ℕ) → fields_fit flags s ≡ Ends icon bad → picture_fit flags s icon bad ≡ Ends end first
      → number_of (at_end icon end first) ≡ 0 → Body flags s (at_end icon end first)
  ended icon bad end first f p h = go (eqb end (length s)) (eqb first 0) refl refl h
    where
      go : (a b : Bool) → eqb end (length s) ≡ a → eqb first 0 ≡ b
          → number_of (pick (not a) (refuse NotFilled end) (pick (not b) (refuse OutsideSet first) (order_of flags s icon))) ≡ 0
          → Body flags s (pick (not a) (refuse NotFilled end) (pick (not b) (refuse OutsideSet first) (order_of flags s icon)))
      go false b x y h = absurd (omega (arith, h))
      go true false x y h = absurd (omega (arith, h))
      go true true x y h =
          let e : end ≡ length s = eqb-true end (length s) x in
          let z : first ≡ 0 = eqb-true first 0 y in
          let p0 : picture_fit flags s icon bad ≡ Ends (length s) 0 = p ∙ rw (e, z) in
          let n : bad ≡ 0 = picture_kept flags s icon bad (length s) p0 in
          record { icon = icon; fields = f ∙ ap (Ends icon) n; picture = ap (picture_fit flags s icon) (sym n) ∙ p0; order = refl }

  body : number_of in_body ≡ 0 → Body flags s in_body
  body h = go (fields_fit flags s) refl h
    where
      then : (icon bad : ℕ) → fields_fit flags s ≡ Ends icon bad → (g : Fit) → picture_fit flags s icon bad ≡ g
          → number_of (on_fit g (λ cut. refuse NotFilled cut) (λ end first. at_end icon end first)) ≡ 0
          → Body flags s (on_fit g (λ cut. refuse NotFilled cut) (λ end first. at_end icon end first))
      then icon bad e (Short c) p h = absurd (omega (arith, h))
      then icon bad e (Ends end first) p h = ended icon bad end first e p h

      go : (f : Fit) → fields_fit flags s ≡ f
          → number_of (on_fit f (λ cut. refuse NotFilled cut) (λ icon bad. on_fit (picture_fit flags s icon bad) (λ cut. refuse NotFilled cut) (λ end first. at_end icon end first))) ≡ 0
          → Body flags s (on_fit f (λ cut. refuse NotFilled cut) (λ icon bad. on_fit (picture_fit flags s icon bad) (λ cut. refuse NotFilled cut) (λ end first. at_end icon end first)))
      go (Short c) e h = absurd (omega (arith, h))
      go (Ends icon bad) e h = then icon bad e (picture_fit flags s icon bad) refl h

-- ---- the whole ladder

pub accepted : (s : List ℕ) → number_of (judge_of s) ≡ 0 → Accepted s
unfolding judge_of
accepted s h =
    go (ltb (length s) 7) (eqb (num_at 2 s 1) (length s)) (eqb (num_at 1 s 0) 0x2E) (one_type (flags_of s)) (closed (flags_of s)) (clash (flags_of s))
    refl refl refl refl refl refl h
  where
    passed : ltb (length s) 7 ≡ false → eqb (num_at 2 s 1) (length s) ≡ true → eqb (num_at 1 s 0) 0x2E ≡ true → one_type (flags_of s) ≡ true → closed (flags_of s) ≡ true
        → clash (flags_of s) ≡ false → judge_of s ≡ in_body (flags_of s) s
    passed a b c d e f = rw (a, b, c, d, e, f)

    go : (a b c d e f : Bool) → ltb (length s) 7 ≡ a → eqb (num_at 2 s 1) (length s) ≡ b → eqb (num_at 1 s 0) 0x2E ≡ c → one_type (flags_of s) ≡ d
        → closed (flags_of s) ≡ e → clash (flags_of s) ≡ f
        → number_of
        (pick a (refuse TooShort 0) (pick (not b) (refuse LengthDiffers 1) (pick (not c) (refuse UnknownType 0) (pick (not d) (refuse UnknownType 3) (pick (not e) (refuse UnknownFlag 3) (pick f (refuse FlagsClash 3)
        (in_body (flags_of s) s))))))) ≡ 0
        → Accepted s
    go true b c d e f x1 x2 x3 x4 x5 x6 h = absurd (omega (arith, h))
    go false false c d e f x1 x2 x3 x4 x5 x6 h = absurd (omega (arith, h))
    go false true false d e f x1 x2 x3 x4 x5 x6 h = absurd (omega (arith, h))
    go false true true false e f x1 x2 x3 x4 x5 x6 h = absurd (omega (arith, h))
    go false true true true false f x1 x2 x3 x4 x5 x6 h = absurd (omega (arith, h))
    go false true true true true true x1 x2 x3 x4 x5 x6 h = absurd (omega (arith, h))
    go false true true true true false x1 x2 x3 x4 x5 x6 h =
        let w = body (flags_of s) s h in
        record {
          long = ltb-false (length s) 7 x1;
          sized = eqb-true (num_at 2 s 1) (length s) x2;
          begins = eqb-true (num_at 1 s 0) 0x2E x3;
          one = x4;
          listed = x5;
          agrees = x6;
          icon = w.icon;
          fields = w.fields;
          picture = w.picture;
          order = passed x1 x2 x3 x4 x5 x6 ∙ w.order;
        }

-- ---- by kind: the walk over the kind's own rows ends where the icon begins

pub record AWindow (s : List ℕ) (o : WindowOrder) : Type 0 where
  pub whole : Accepted s
  pub kind : is_window (flags_of s) ≡ true
  pub is : o ≡ record { window = record { id = num_at 4 s 7 }; flags = flags_of s; icon = whole.icon }
  pub fields : walk_of window_rows (flags_of s) s 7 0 ≡ Ends whole.icon 0

pub record ANotification (s : List ℕ) (o : NotificationOrder) : Type 0 where
  pub whole : Accepted s
  pub kind : is_notification (flags_of s) ≡ true
  pub is : o ≡ record { window = record { id = num_at 4 s 7 }; notify = record { id = num_at 4 s 11 }; flags = flags_of s; icon = whole.icon }
  pub fields : walk_of notification_rows (flags_of s) s 7 0 ≡ Ends whole.icon 0

pub record ADesktop (s : List ℕ) (o : DesktopOrder) : Type 0 where
  pub whole : Accepted s
  pub is : o ≡ record { flags = flags_of s }
  pub ends : whole.icon ≡ length s
  pub fields : walk_of desktop_rows (flags_of s) s 7 0 ≡ Ends whole.icon 0

abbrev pub Kinded : List ℕ → Judged → Type 0
Kinded s (Ok (Window o)) = AWindow s o
Kinded s (Ok (Notification o)) = ANotification s o
Kinded s (Ok (Desktop o)) = ADesktop s o
Kinded s (Err r) = Unit {0}

-- a desktop order has no icon, by its closed list
desktop_list : (flags : ℕ) → is_window flags ≡ false → is_notification flags ≡ false → closed flags ≡ true → bit_and flags desktop_flags ≡ flags
desktop_list flags a b c =
    let d : both (is_desktop flags) (in_list flags desktop_flags) ≡ true = rw (a, b) at c in
    eqb-true (bit_and flags desktop_flags) flags (both_right (is_desktop flags) (in_list flags desktop_flags) d)

desktop_ends : (flags : ℕ) (s : List ℕ) (at q : ℕ) → bit_and flags desktop_flags ≡ flags → picture_fit flags s at 0 ≡ Ends q 0 → at ≡ q
desktop_ends flags s at q l e =
    let n : Ends at 0 ≡ Ends q 0 = picture_none s at 0 flags (unlisted flags desktop_flags 30 l refl) (unlisted flags desktop_flags 31 l refl) ∙ e in
    cc

kinded : (s : List ℕ) → number_of (judge_of s) ≡ 0 → Kinded s (judge_of s)
unfolding order_of fields_fit
kinded s h =
    let w = accepted s h in
    subst (Kinded s) (sym w.order) (go w (is_window (flags_of s)) (is_notification (flags_of s)) refl refl w.fields)
  where
    go : (w : Accepted s) (a b : Bool) → is_window (flags_of s) ≡ a → is_notification (flags_of s) ≡ b
        → walk_of (pick a window_rows (pick b notification_rows desktop_rows)) (flags_of s) s 7 0 ≡ Ends w.icon 0
        → Kinded s
        (pick a (Ok (Window (record { window = record { id = num_at 4 s 7 }; flags = flags_of s; icon = w.icon })))
        (pick b (Ok (Notification (record { window = record { id = num_at 4 s 7 }; notify = record { id = num_at 4 s 11 }; flags = flags_of s; icon = w.icon })))
        (Ok (Desktop (record { flags = flags_of s })))))
    go w true b t u f = record { whole = w; kind = t; is = refl; fields = f }
    go w false true t u f = record { whole = w; kind = u; is = refl; fields = f }
    go w false false t u f =
        record {
          whole = w;
          is = refl;
          ends = desktop_ends (flags_of s) s w.icon (length s) (desktop_list (flags_of s) t u w.listed) w.picture;
          fields = f;
        }

module _ (s : List ℕ) where
  pub a_window : (o : WindowOrder) → judge_of s ≡ Ok (Window o) → AWindow s o
  a_window o e = subst (Kinded s) e (kinded s (ap number_of e))

  pub a_notification : (o : NotificationOrder) → judge_of s ≡ Ok (Notification o) → ANotification s o
  a_notification o e = subst (Kinded s) e (kinded s (ap number_of e))

  pub a_desktop : (o : DesktopOrder) → judge_of s ≡ Ok (Desktop o) → ADesktop s o
  a_desktop o e = subst (Kinded s) e (kinded s (ap number_of e))

-- ---- the icon

-- a fit with nothing at fault
fit_good : (t : Bool) (end bad cut q : ℕ) → pick t (Ends end bad) (Short cut) ≡ Ends q 0 → (end ≡ q) × (bad ≡ 0)
fit_good true end bad cut q e = (cc, cc)
fit_good false end bad cut q e = let z : ◌≡◌ {A = ℕ} 0 1 = cc in absurd (omega arith)

-- a test whose failure puts an offset at fault holds, and so do those after it
passes : (b : Bool) (at rest : ℕ) → 1 ≤ at → pick (not b) at rest ≡ 0 → (b ≡ true) × (rest ≡ 0)
passes true at rest h e = (refl, e)
passes false at rest h e = absurd (omega (arith, e))

-- an icon's numbers are in their sets
pub record AnIcon (s : List ℕ) (at : ℕ) : Type 0 where
  pub ends : (parts_of s at).end ≡ length s
  pub entry : entry_ok (num_at 2 s at) (num_at 1 s (at + 2)) ≡ true
  pub cache : cache_ok (num_at 1 s (at + 2)) ≡ true
  pub bits : bits_ok (num_at 1 s (at + 3)) ≡ true
  pub width : side_ok (num_at 2 s (at + 4)) ≡ true
  pub height : side_ok (num_at 2 s (at + 6)) ≡ true
  pub bytes : (parts_of s at).end - (parts_of s at).mask ≤ 4224

pub an_icon : (flags : ℕ) (s : List ℕ) (at : ℕ) → 1 ≤ at → has flags flag_icon ≡ true → picture_fit flags s at 0 ≡ Ends (length s) 0 → AnIcon s at
unfolding picture_fit icon_fit icon_bad
an_icon flags s at l h e =
    let p = parts_of s at in
    let e0 : icon_fit s at 0 ≡ Ends (length s) 0 = rw h at e in
    let x = fit_good (leb p.end (length s)) p.end (icon_bad s at) (parts_cut at (length s) p) (length s) e0 in
    let low = (laid s at).low in
    let last = pick (not (leb (p.end - p.mask) 4224)) (p.mask - 2) 0 in
    let height = pick (not (side_ok (num_at 2 s (at + 6)))) (at + 6) last in
    let width = pick (not (side_ok (num_at 2 s (at + 4)))) (at + 4) height in
    let bits = pick (not (bits_ok (num_at 1 s (at + 3)))) (at + 3) width in
    let cache = pick (not (cache_ok (num_at 1 s (at + 2)))) (at + 2) bits in
    let a = passes (entry_ok (num_at 2 s at) (num_at 1 s (at + 2))) at cache l x.1 in
    let b = passes (cache_ok (num_at 1 s (at + 2))) (at + 2) bits (omega arith) a.1 in
    let c = passes (bits_ok (num_at 1 s (at + 3))) (at + 3) width (omega arith) b.1 in
    let d = passes (side_ok (num_at 2 s (at + 4))) (at + 4) height (omega arith) c.1 in
    let f = passes (side_ok (num_at 2 s (at + 6))) (at + 6) last (omega arith) d.1 in
    let g = passes (leb (p.end - p.mask) 4224) (p.mask - 2) 0 (omega (arith, low)) f.1 in
    record {
      ends = x.0;
      entry = a.0;
      cache = b.0;
      bits = c.0;
      width = d.0;
      height = f.0;
      bytes = leb-true (p.end - p.mask) 4224 g.0;
    }

-- a cached icon names a cell
pub record ACached (s : List ℕ) (at : ℕ) : Type 0 where
  pub ends : at + 3 ≡ length s
  pub entry : num_at 2 s at ≤ 5
  pub cache : num_at 1 s (at + 2) ≤ 1

pub a_cached : (flags : ℕ) (s : List ℕ) (at : ℕ) → 1 ≤ at → has flags flag_icon ≡ false → has flags flag_cached_icon ≡ true
    → picture_fit flags s at 0 ≡ Ends (length s) 0 → ACached s at
unfolding picture_fit cached_fit cached_bad
a_cached flags s at l h g e =
    let e0 : cached_fit s at 0 ≡ Ends (length s) 0 = rw (h, g) at e in
    let x = fit_good (leb 3 (length s - at)) (at + 3) (cached_bad s at) (at + head_cut (length s - at)) (length s) e0 in
    let a = passes (leb (num_at 2 s at) 5) at (pick (not (leb (num_at 1 s (at + 2)) 1)) (at + 2) 0) l x.1 in
    let b = passes (leb (num_at 1 s (at + 2)) 1) (at + 2) 0 (omega arith) a.1 in
    record { ends = x.0; entry = leb-true (num_at 2 s at) 5 a.0; cache = leb-true (num_at 1 s (at + 2)) 1 b.0 }
