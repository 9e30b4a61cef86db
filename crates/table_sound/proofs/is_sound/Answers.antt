-- The tests stand in the order of the rule.
use Rattle.std.proofs.Common.{◌∙◌, ◌≡◌, rules, sym, true}
use Rattle.slots.proofs.Ways.{sound_long}
use Rattle.table.proofs.Ways.{sound_bodies, sound_index_lem, sound_lent, sound_windows, sound_notifications, sound_desktop, sound_holders}
use Rattle.slots.specs.Sound.{sound_index}
use Rattle.table_sound.proofs.is_sound.Goals as goal

pub returns-then-bodies-lt-BODIES : goal.returns-then-bodies-lt-BODIES
returns-then-bodies-lt-BODIES c =
    let a = c.args in
    sound_bodies a.index.now a.bodies.now a.lent c.if-bodies-lt-BODIES.true

pub returns-then-not-is_sound : goal.returns-then-not-is_sound
returns-then-not-is_sound c =
    let a = c.args in
    sound_index_lem a.index.now a.bodies.now a.lent c.if-bodies-lt-BODIES.false c.is_sound.ensures (c.if-not-is_sound.true)

pub bounds-index-0 : goal.bounds-index-0
bounds-index-0 c =
    let index_ok : sound_index c.args.index.now ≡ true = sym c.is_sound.ensures ∙ c.if-not-is_sound.false in
    let l = sound_long c.args.index.now (index_ok) in
    search rules

pub overflow_cast-index : goal.overflow_cast-index
overflow_cast-index c = let l = c.shared_slice_known-3-1.given 0 in search rules

pub returns-then-lent-index : goal.returns-then-lent-index
returns-then-lent-index c =
    let a = c.args in
    sound_lent a.index.now a.bodies.now a.lent c.if-bodies-lt-BODIES.false c.is_sound.ensures (c.if-not-is_sound.false) c.if-lent-index.true

pub windows_ok-requires : goal.windows_ok-requires
windows_ok-requires c =
    let index_ok : sound_index c.args.index.now ≡ true = sym c.is_sound.ensures ∙ c.if-not-is_sound.false in
    let l = sound_long c.args.index.now (index_ok) in
    search rules

pub returns-then-not-windows_ok : goal.returns-then-not-windows_ok
returns-then-not-windows_ok c =
    let a = c.args in
    sound_windows a.index.now a.bodies.now a.lent c.if-bodies-lt-BODIES.false c.is_sound.ensures (c.if-not-is_sound.false) c.if-lent-index.false
    c.windows_ok.ensures (c.if-not-windows_ok.true)

pub records_ok-requires : goal.records_ok-requires
records_ok-requires c =
    let index_ok : sound_index c.args.index.now ≡ true = sym c.is_sound.ensures ∙ c.if-not-is_sound.false in
    let l = sound_long c.args.index.now (index_ok) in
    search rules

pub returns-then-not-records_ok : goal.returns-then-not-records_ok
returns-then-not-records_ok c =
    let a = c.args in
    sound_notifications a.index.now a.bodies.now a.lent c.if-bodies-lt-BODIES.false c.is_sound.ensures (c.if-not-is_sound.false) c.if-lent-index.false
    c.windows_ok.ensures (c.if-not-windows_ok.false)
    c.records_ok.ensures (c.if-not-records_ok.true)

pub returns-then-not-body_ok : goal.returns-then-not-body_ok
returns-then-not-body_ok c =
    let a = c.args in
    sound_desktop a.index.now a.bodies.now a.lent c.if-bodies-lt-BODIES.false c.is_sound.ensures (c.if-not-is_sound.false) c.if-lent-index.false
    c.windows_ok.ensures (c.if-not-windows_ok.false)
    c.records_ok.ensures (c.if-not-records_ok.false)
    c.body_ok.ensures (c.if-not-body_ok.true)

pub holders_ok-requires : goal.holders_ok-requires
holders_ok-requires c =
    let index_ok : sound_index c.args.index.now ≡ true = sym c.is_sound.ensures ∙ c.if-not-is_sound.false in
    (index_ok, search rules)

pub returns : goal.returns
returns c =
    let a = c.args in
    sound_holders a.index.now a.bodies.now a.lent c.if-bodies-lt-BODIES.false c.is_sound.ensures (c.if-not-is_sound.false) c.if-lent-index.false
    c.windows_ok.ensures (c.if-not-windows_ok.false)
    c.records_ok.ensures (c.if-not-records_ok.false)
    c.body_ok.ensures (c.if-not-body_ok.false)
    c.holders_ok.ensures
