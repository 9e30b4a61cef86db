-- The lines 2, 3 and 4 of the ladder, then those of the type told.
use Rattle.std.proofs.Common.{ℕ, ◌≡◌, List, false, refl, true}
use Rattle.std.specs.Prelude.{Err}
use Rattle.protocol.specs.declared.Refusal.TheVariants.{UnknownType}
use Rattle.pdu.specs.Layout.{known}
use Rattle.pdu.specs.Reading.{read_of, body_of}
use Rattle.pdu_words.proofs.FromWords.{no_type}
use Rattle.pdu_read.proofs.Ways.{short, other_length, unknown, body, told_refused, told_as}
use Rattle.pdu_read.proofs.read_words.Goals as goal

pub returns-then-message-lt4 : goal.returns-then-message-lt4
unfolding known
returns-then-message-lt4 c = told_refused (short c.args.message.now c.if-message-lt4.true)

pub returns-then-read_u16-message : goal.returns-then-read_u16-message
unfolding known
returns-then-read_u16-message c =
    told_refused (other_length c.args.message.now c.read_u16.result c.read_u16.ensures c.if-message-lt4.false c.if-read_u16-message.true)

pub returns-in-1 : goal.returns-in-1
unfolding known
returns-in-1 c =
    let message : List ℕ = c.args.message.now in
    let of_type : (k : ℕ) → c.read_u16-kind.result ≡ k → known k ≡ true → body_of k (message) ≡ read_of (message) = (λ k. body (message) c.read_u16.result c.read_u16-kind.result c.read_u16.ensures c.if-message-lt4.false c.if-read_u16-message.false c.read_u16-kind.ensures k) in
    told_as (of_type 0x01 c.in-1.is refl) c.read_execute.ensures

pub returns-in-2 : goal.returns-in-2
unfolding known
returns-in-2 c =
    let message : List ℕ = c.args.message.now in
    let of_type : (k : ℕ) → c.read_u16-kind.result ≡ k → known k ≡ true → body_of k (message) ≡ read_of (message) = (λ k. body (message) c.read_u16.result c.read_u16-kind.result c.read_u16.ensures c.if-message-lt4.false c.if-read_u16-message.false c.read_u16-kind.ensures k) in
    told_as (of_type 0x02 c.in-2.is refl) c.read_activate.ensures

pub returns-in-4 : goal.returns-in-4
unfolding known
returns-in-4 c =
    let message : List ℕ = c.args.message.now in
    let of_type : (k : ℕ) → c.read_u16-kind.result ≡ k → known k ≡ true → body_of k (message) ≡ read_of (message) = (λ k. body (message) c.read_u16.result c.read_u16-kind.result c.read_u16.ensures c.if-message-lt4.false c.if-read_u16-message.false c.read_u16-kind.ensures k) in
    told_as (of_type 0x04 c.in-4.is refl) c.read_system_command.ensures

pub returns-in-5 : goal.returns-in-5
unfolding known
returns-in-5 c =
    let message : List ℕ = c.args.message.now in
    let of_type : (k : ℕ) → c.read_u16-kind.result ≡ k → known k ≡ true → body_of k (message) ≡ read_of (message) = (λ k. body (message) c.read_u16.result c.read_u16-kind.result c.read_u16.ensures c.if-message-lt4.false c.if-read_u16-message.false c.read_u16-kind.ensures k) in
    told_as (of_type 0x05 c.in-5.is refl) c.read_handshake.ensures

pub returns-in-6 : goal.returns-in-6
unfolding known
returns-in-6 c =
    let message : List ℕ = c.args.message.now in
    let of_type : (k : ℕ) → c.read_u16-kind.result ≡ k → known k ≡ true → body_of k (message) ≡ read_of (message) = (λ k. body (message) c.read_u16.result c.read_u16-kind.result c.read_u16.ensures c.if-message-lt4.false c.if-read_u16-message.false c.read_u16-kind.ensures k) in
    told_as (of_type 0x06 c.in-6.is refl) c.read_notify_event.ensures

pub returns-in-8 : goal.returns-in-8
unfolding known
returns-in-8 c =
    let message : List ℕ = c.args.message.now in
    let of_type : (k : ℕ) → c.read_u16-kind.result ≡ k → known k ≡ true → body_of k (message) ≡ read_of (message) = (λ k. body (message) c.read_u16.result c.read_u16-kind.result c.read_u16.ensures c.if-message-lt4.false c.if-read_u16-message.false c.read_u16-kind.ensures k) in
    told_as (of_type 0x08 c.in-8.is refl) c.read_window_move.ensures

pub returns-in-9 : goal.returns-in-9
unfolding known
returns-in-9 c =
    let message : List ℕ = c.args.message.now in
    let of_type : (k : ℕ) → c.read_u16-kind.result ≡ k → known k ≡ true → body_of k (message) ≡ read_of (message) = (λ k. body (message) c.read_u16.result c.read_u16-kind.result c.read_u16.ensures c.if-message-lt4.false c.if-read_u16-message.false c.read_u16-kind.ensures k) in
    told_as (of_type 0x09 c.in-9.is refl) c.read_move_size.ensures

pub returns-in-10 : goal.returns-in-10
unfolding known
returns-in-10 c =
    let message : List ℕ = c.args.message.now in
    let of_type : (k : ℕ) → c.read_u16-kind.result ≡ k → known k ≡ true → body_of k (message) ≡ read_of (message) = (λ k. body (message) c.read_u16.result c.read_u16-kind.result c.read_u16.ensures c.if-message-lt4.false c.if-read_u16-message.false c.read_u16-kind.ensures k) in
    told_as (of_type 0x0A c.in-10.is refl) c.read_min_max_info.ensures

pub returns-in-11 : goal.returns-in-11
unfolding known
returns-in-11 c =
    let message : List ℕ = c.args.message.now in
    let of_type : (k : ℕ) → c.read_u16-kind.result ≡ k → known k ≡ true → body_of k (message) ≡ read_of (message) = (λ k. body (message) c.read_u16.result c.read_u16-kind.result c.read_u16.ensures c.if-message-lt4.false c.if-read_u16-message.false c.read_u16-kind.ensures k) in
    told_as (of_type 0x0B c.in-11.is refl) c.read_client_information.ensures

pub returns-in-12 : goal.returns-in-12
unfolding known
returns-in-12 c =
    let message : List ℕ = c.args.message.now in
    let of_type : (k : ℕ) → c.read_u16-kind.result ≡ k → known k ≡ true → body_of k (message) ≡ read_of (message) = (λ k. body (message) c.read_u16.result c.read_u16-kind.result c.read_u16.ensures c.if-message-lt4.false c.if-read_u16-message.false c.read_u16-kind.ensures k) in
    told_as (of_type 0x0C c.in-12.is refl) c.read_system_menu.ensures

pub returns-in-14 : goal.returns-in-14
unfolding known
returns-in-14 c =
    let message : List ℕ = c.args.message.now in
    let of_type : (k : ℕ) → c.read_u16-kind.result ≡ k → known k ≡ true → body_of k (message) ≡ read_of (message) = (λ k. body (message) c.read_u16.result c.read_u16-kind.result c.read_u16.ensures c.if-message-lt4.false c.if-read_u16-message.false c.read_u16-kind.ensures k) in
    told_as (of_type 0x0E c.in-14.is refl) c.read_get_application_id.ensures

pub returns-in-15 : goal.returns-in-15
unfolding known
returns-in-15 c =
    let message : List ℕ = c.args.message.now in
    let of_type : (k : ℕ) → c.read_u16-kind.result ≡ k → known k ≡ true → body_of k (message) ≡ read_of (message) = (λ k. body (message) c.read_u16.result c.read_u16-kind.result c.read_u16.ensures c.if-message-lt4.false c.if-read_u16-message.false c.read_u16-kind.ensures k) in
    told_as (of_type 0x0F c.in-15.is refl) c.read_application_id_response.ensures

pub returns-in-3 : goal.returns-in-3
unfolding known
returns-in-3 c =
    let message : List ℕ = c.args.message.now in
    let of_type : (k : ℕ) → c.read_u16-kind.result ≡ k → known k ≡ true → body_of k (message) ≡ read_of (message) = (λ k. body (message) c.read_u16.result c.read_u16-kind.result c.read_u16.ensures c.if-message-lt4.false c.if-read_u16-message.false c.read_u16-kind.ensures k) in
    told_as (of_type 0x03 c.in-3.is refl) c.read_system_parameters.ensures

pub returns-in-19 : goal.returns-in-19
unfolding known
returns-in-19 c =
    let message : List ℕ = c.args.message.now in
    let of_type : (k : ℕ) → c.read_u16-kind.result ≡ k → known k ≡ true → body_of k (message) ≡ read_of (message) = (λ k. body (message) c.read_u16.result c.read_u16-kind.result c.read_u16.ensures c.if-message-lt4.false c.if-read_u16-message.false c.read_u16-kind.ensures k) in
    told_as (of_type 0x13 c.in-19.is refl) c.read_handshake_ex.ensures

pub returns-in-128 : goal.returns-in-128
unfolding known
returns-in-128 c =
    let message : List ℕ = c.args.message.now in
    let of_type : (k : ℕ) → c.read_u16-kind.result ≡ k → known k ≡ true → body_of k (message) ≡ read_of (message) = (λ k. body (message) c.read_u16.result c.read_u16-kind.result c.read_u16.ensures c.if-message-lt4.false c.if-read_u16-message.false c.read_u16-kind.ensures k) in
    told_as (of_type 0x80 c.in-128.is refl) c.read_execute_result.ensures

pub returns-in_default : goal.returns-in_default
unfolding known
returns-in_default c =
    let message : List ℕ = c.args.message.now in
    let other_type : known c.read_u16-kind.result ≡ false → Err UnknownType ≡ read_of (message) = unknown (message) c.read_u16.result c.read_u16-kind.result c.read_u16.ensures c.if-message-lt4.false c.if-read_u16-message.false c.read_u16-kind.ensures in
    told_refused (other_type (no_type _ c.in_default.in_default-own.rest))
