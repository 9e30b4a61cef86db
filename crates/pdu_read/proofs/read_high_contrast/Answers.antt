-- 7 where the string does not make the length of the message or its outer length is not the inner plus 2, 8 where it is too long, else the words of the setting.
use Rattle.std.proofs.Common.{ℕ, ◌∙◌, arith, refl, sym}
use Rattle.wire.specs.Numbers.{num_at}
use Rattle.pdu.specs.Settings.{high_contrast, Data, scheme, data_size, data_allowed}
use Rattle.pdu.proofs.Settings.{scheme_is}
use Rattle.pdu_read.proofs.Ways.{scheme_agrees, scheme_apart, data_unfilled, data_apart, data_outside, data_fine, told_refused}
use Rattle.pdu_read.proofs.read_high_contrast.Goals as goal

abbrev body : ℕ → ℕ → Data
body f n = scheme (record { flags = f; color_scheme = record { at = 18; len = n } })

pub returns-then-s-lt18 : goal.returns-then-s-lt18
unfolding data_size data_allowed
returns-then-s-lt18 c =
    let s = c.args.s.now in
    told_refused (data_unfilled s high_contrast (body (num_at 4 s 8) (num_at 2 s 16)) refl c.requires (scheme_is s c.requires refl refl) (λ q. omega (arith, q, c.if-s-lt18.true)))

pub returns-then-n-s : goal.returns-then-n-s
unfolding data_size data_allowed
returns-then-n-s c =
    let s = c.args.s.now in
    told_refused (data_unfilled s high_contrast (body (num_at 4 s 8) c.read_u16-n.result) refl c.requires (scheme_is s c.requires refl c.read_u16-n.ensures) (λ q. c.if-n-s.true q))

pub returns-then-read_u32-n : goal.returns-then-read_u32-n
unfolding data_size data_allowed
returns-then-read_u32-n c =
    let s = c.args.s.now in
    told_refused (data_apart s high_contrast (body (num_at 4 s 8) c.read_u16-n.result) refl c.requires (scheme_is s c.requires refl c.read_u16-n.ensures) c.if-n-s.false (scheme_apart s c.requires c.read_u32.ensures c.read_u16-n.ensures c.if-read_u32-n.true))

pub returns-then-not-high_contrast_allowed : goal.returns-then-not-high_contrast_allowed
unfolding data_size data_allowed
returns-then-not-high_contrast_allowed c =
    let s = c.args.s.now in
    told_refused (data_outside s high_contrast (body c.read_u32-2.result c.read_u16-n.result) refl c.requires (scheme_is s c.requires c.read_u32-2.ensures c.read_u16-n.ensures) c.if-n-s.false (scheme_agrees s c.requires c.read_u32.ensures c.read_u16-n.ensures c.if-read_u32-n.false) (sym c.high_contrast_allowed.ensures ∙ c.if-not-high_contrast_allowed.true))

pub returns : goal.returns
unfolding data_size data_allowed
returns c =
    let s = c.args.s.now in
    data_fine s high_contrast (body c.read_u32-2.result c.read_u16-n.result) refl c.requires (scheme_is s c.requires c.read_u32-2.ensures c.read_u16-n.ensures) c.if-n-s.false (scheme_agrees s c.requires c.read_u32.ensures c.read_u16-n.ensures c.if-read_u32-n.false) (sym c.high_contrast_allowed.ensures ∙ c.if-not-high_contrast_allowed.false) c.high_contrast_words.ensures
