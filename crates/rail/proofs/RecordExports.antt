-- What is told of a session record at the C boundary fits its places. Assumes nothing.
use mathlib.Core.Path.{◌≡◌, sym, ap, ap₂, ◌∙◌}
use mathlib.Core.List.{List, []}
use Prim.Native.Nat.{ℕ, ◌+◌, ◌*◌, ◌/◌, ◌%◌, ◌≤◌}
use native.Mathlib.Omega.{arith}
use lib.ListN.{get_or, get_or-eq_default}
use Rattle.std.specs.Prelude.{Option, Some, None, unwrap_or, Ok, Err}
use Rattle.wire.specs.Parts.{slice}
use Rattle.protocol.specs.declared.Refusal.{Refusal}
use Rattle.protocol.specs.Refusals.{number_of, says}
use Rattle.record.specs.declared.Entry.{Entry}
use Rattle.record.specs.declared.Contents.{Contents}
use Rattle.record.specs.Layout.{entry}
use Rattle.record.specs.Reading.{bodies_of, inspected_of, place_of}
use Rattle.record.specs.RoundTrip.{PlacesBodies}
use Rattle.record.proofs.Handing.{told, told_granted, told_refused, told_small, no_bodies, number_small, place_fits, place_body}
use Rattle.session.specs.declared.Reply.{Reply}
use Rattle.session.specs.Packed.{packed_of, Unpacks}
use Rattle.session.proofs.Unpacks.{unpacks}
use Rattle.rail.specs.RecordExports.{record_reply, CheckExport, BodyExport}
use Rattle.journal.specs.State.{bytes_in}
use Rattle.journal.specs.Limits.{most_orders, most_bytes}

-- ---- a record checked

checked : (r : List ℕ) (reply : Reply) → (reply.count ≤ most_orders) × (reply.bytes ≤ most_bytes) → reply ≡ record_reply r → {n : ℕ} → n ≡ packed_of reply → CheckExport r n
unfolding Unpacks
checked r reply small is e =
    let s = rw is at small in
    record { answer = e ∙ ap packed_of is; unpacks = unpacks (record_reply r) (omega (arith, number_small r)) s.0 s.1 }

module _ (r : List ℕ) where
  pub check_granted : (c : Contents) → says (Ok c) ≡ inspected_of r → {n : ℕ} → n ≡ packed_of (record { number = 0; count = c.count; bytes = c.bytes }) → CheckExport r n
  check_granted c is =
      checked r (record { number = 0; count = c.count; bytes = c.bytes }) (told_small r c is)
      (rw (told_granted r c is, told r c is))

  pub check_refused : (e : Refusal) → says (Err e) ≡ inspected_of r → {n : ℕ} → n ≡ packed_of (record { number = number_of e; count = 0; bytes = 0 }) → CheckExport r n
  unfolding bytes_in
  check_refused e is =
      checked r (record { number = number_of e; count = 0; bytes = 0 }) (omega arith, omega arith)
      (rw (told_refused r e is, no_bodies r e is))

-- ---- where a body lies

module _ (r : List ℕ) (i : ℕ) where
  at_offset : (p : Option Entry) → place_of r i ≡ p → slice r (unwrap_or p (entry 0 0)).offset (unwrap_or p (entry 0 0)).size ≡ get_or (bodies_of r) i []
  unfolding PlacesBodies slice
  at_offset (Some e) is = rw is at (place_body r i)
  at_offset None is = sym (get_or-eq_default (bodies_of r) [] (rw is at (place_body r i)))

  pub place_low : {e : Entry} → Some e ≡ place_of r i → e.offset + e.size ≤ 33794
  place_low is = place_fits r i is

  pub body_none : None ≡ place_of r i → BodyExport r i 0
  body_none is = record { answer = rw (← is); offset = rw (← is); size = rw (← is); body = at_offset None (sym is) }

  pub body_export : {e : Entry} → Some e ≡ place_of r i → {n : ℕ} → n ≡ e.offset + 65536 * e.size → BodyExport r i n
  body_export {e} is {n} p =
      let low = place_low is in
      let x : n % 65536 ≡ e.offset = omega (arith, p, low) in
      let y : n / 65536 ≡ e.size = omega (arith, p, low) in
      record { answer = rw (← is) p; offset = rw (← is) x; size = rw (← is) y; body = ap₂ (slice r) x y ∙ at_offset (Some e) (sym is) }
