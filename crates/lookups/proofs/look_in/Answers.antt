-- 1 where the rule is not met, 9 or 14 where the index and the output say so; else what m holds.
use Rattle.std.proofs.Common.{Some, None, ℕ, ◌∙◌, ◌≡◌, List, ap, arith, refl, replicate, sym}
use Rattle.wire.specs.Numbers.{Bytes}
use Rattle.slots.specs.Families.{index_length}
use Rattle.store.specs.Store.{five}
use Rattle.follow.specs.Follow.{room_for}
use Rattle.journal.specs.Journal.{log_of}
use Rattle.journal.specs.View.{Memory, memory}
use Rattle.journal.specs.Replay.{Validation}
use Rattle.journal.proofs.Logged.{logged_low, logged_high}
use Rattle.journal.proofs.Indexed.{Indexed, Followed, validated_as, unmet, indexed, followed}
use Rattle.session.specs.Outcome.{lookup}
use Rattle.session.specs.Targets.{want_of}
use Rattle.session.proofs.Outcomes.{refused_unmet}
use Rattle.session.proofs.Found.{figure_goes, followable, look_refused, look_hands, look_found}
use Rattle.lookups.proofs.look_in.Goals as goal

pub validate-requires : goal.validate-requires
validate-requires c = (refl, c.requires.1)

pub returns-in_default : goal.returns-in_default
returns-in_default c =
    let parts : List (List ℕ) = five c.args.a.now c.args.b.now c.args.c.now c.args.d.now c.args.e.now in
    let mem : Memory = memory c.args.index.now c.args.bodies.now (parts) c.args.journal.now in
    let index : List ℕ = c.validate.new.d in
    let held : List ℕ = c.validate.new.m in
    let validation : Validation (want_of c.args.target) (mem) (replicate index_length 0) c.args.m.now None (index) (held) = validated_as c.requires.0 (c.in_default.ensures (parts) (sym c.places-lent.ensures)) in
    refused_unmet (lookup c.args.target c.args.out.now) (mem) refl (unmet (validation)) c.refused.ensures

pub returns-then-number-ne0 : goal.returns-then-number-ne0
returns-then-number-ne0 c =
    let parts : List (List ℕ) = five c.args.a.now c.args.b.now c.args.c.now c.args.d.now c.args.e.now in
    let mem : Memory = memory c.args.index.now c.args.bodies.now (parts) c.args.journal.now in
    let index : List ℕ = c.validate.new.d in
    let held : List ℕ = c.validate.new.m in
    let validation : Validation (want_of c.args.target) (mem) (replicate index_length 0) c.args.m.now (Some c.in-Some.w) (index) (held) = validated_as c.requires.0 (c.in-Some.ensures (parts) (sym c.places-lent.ensures)) in
    let index_in_lem : Indexed (mem) c.in-Some.w (index) (log_of c.args.journal.now) = (indexed (validation)) in
    let held_in : Followed (want_of c.args.target) (mem) (index) (log_of c.args.journal.now) (held) = (followed (validation)) in
    look_refused (index_in_lem) c.args.target c.args.out.now (held_in) c.refusal-number.ensures c.if-number-ne0.true c.refused-then-number-ne0.ensures

pub figure_for-f-requires : goal.figure_for-f-requires
figure_for-f-requires c =
    let parts : List (List ℕ) = five c.args.a.now c.args.b.now c.args.c.now c.args.d.now c.args.e.now in
    let mem : Memory = memory c.args.index.now c.args.bodies.now (parts) c.args.journal.now in
    let index : List ℕ = c.validate.new.d in
    let held : List ℕ = c.validate.new.m in
    let validation : Validation (want_of c.args.target) (mem) (replicate index_length 0) c.args.m.now (Some c.in-Some.w) (index) (held) = validated_as c.requires.0 (c.in-Some.ensures (parts) (sym c.places-lent.ensures)) in
    followable (validation)

pub hand_out-requires : goal.hand_out-requires
hand_out-requires c =
    let parts : List (List ℕ) = five c.args.a.now c.args.b.now c.args.c.now c.args.d.now c.args.e.now in
    let mem : Memory = memory c.args.index.now c.args.bodies.now (parts) c.args.journal.now in
    let index : List ℕ = c.validate.new.d in
    let held : List ℕ = c.validate.new.m in
    let validation : Validation (want_of c.args.target) (mem) (replicate index_length 0) c.args.m.now (Some c.in-Some.w) (index) (held) = validated_as c.requires.0 (c.in-Some.ensures (parts) (sym c.places-lent.ensures)) in
    let index_in_lem : Indexed (mem) c.in-Some.w (index) (log_of c.args.journal.now) = (indexed (validation)) in
    let held_in : Followed (want_of c.args.target) (mem) (index) (log_of c.args.journal.now) (held) = (followed (validation)) in
    look_hands (index_in_lem) c.args.target c.args.out.now (held_in) c.refusal-number.ensures c.if-number-ne0.false (c.validate.auto.m ∙ c.requires.1 ∙ ap room_for c.requires.0)

pub granted-requires : goal.granted-requires
granted-requires c =
    let parts : List (List ℕ) = five c.args.a.now c.args.b.now c.args.c.now c.args.d.now c.args.e.now in
    let mem : Memory = memory c.args.index.now c.args.bodies.now (parts) c.args.journal.now in
    let index : List ℕ = c.validate.new.d in
    let held : List ℕ = c.validate.new.m in
    let validation : Validation (want_of c.args.target) (mem) (replicate index_length 0) c.args.m.now (Some c.in-Some.w) (index) (held) = validated_as c.requires.0 (c.in-Some.ensures (parts) (sym c.places-lent.ensures)) in
    let index_in_lem : Indexed (mem) c.in-Some.w (index) (log_of c.args.journal.now) = (indexed (validation)) in
    let g = (index_in_lem).logged in
    (g.few, logged_low g, logged_high g)

pub returns : goal.returns
returns c =
    let parts : List (List ℕ) = five c.args.a.now c.args.b.now c.args.c.now c.args.d.now c.args.e.now in
    let mem : Memory = memory c.args.index.now c.args.bodies.now (parts) c.args.journal.now in
    let index : List ℕ = c.validate.new.d in
    let held : List ℕ = c.validate.new.m in
    let validation : Validation (want_of c.args.target) (mem) (replicate index_length 0) c.args.m.now (Some c.in-Some.w) (index) (held) = validated_as c.requires.0 (c.in-Some.ensures (parts) (sym c.places-lent.ensures)) in
    let index_in_lem : Indexed (mem) c.in-Some.w (index) (log_of c.args.journal.now) = (indexed (validation)) in
    let held_in : Followed (want_of c.args.target) (mem) (index) (log_of c.args.journal.now) (held) = (followed (validation)) in
    let journal_bytes : Bytes c.args.journal.now = record { small = λ i. omega (arith, c.shared_slice_known-8-1.given i) } in
    look_found (index_in_lem) c.args.target c.args.out.now (held_in) c.refusal-number.ensures c.if-number-ne0.false c.figure_for-f.result
    (figure_goes (validation) c.args.target (journal_bytes) c.figure_for-f.ensures.1 c.figure_for-f.ensures.0) c.hand_out.ensures c.granted.ensures
