-- A window order that carries an owner and a title, stored into a slot of a new record. Assumes nothing.
use mathlib.Core.Path.{◌≡◌, refl, ap, ◌∙◌}
use mathlib.Core.List.{List, [], ◌∷◌}
use Prim.Native.Nat.{ℕ}
use native.Mathlib.Omega.{arith}
use lib.ListN.{replicate, get_or, length-replicate}
use Rattle.rows.specs.declared.Fit.TheVariants.{Ends}
use Rattle.rows.specs.Rows.{first_of, len_of, ok_of, field_of, step_of, walk_of}
use Rattle.wire.specs.Numbers.{num_at}
use Rattle.wire.specs.Parts.{slice, splice}
use Rattle.body.specs.Bodies.{window_fields, field_in, fields_of, set_flagged, begins_at, carried_at, empty_fields}
use Rattle.body.specs.Stores.{store_of}
use Rattle.body.proofs.Placed.{placed}
use Rattle.body.proofs.Stored.{stored as Stored·stored}
use Rattle.body.proofs.Each.{set_at}
use Rattle.body.proofs.Fresh.{window_room}

abbrev flags : ℕ
flags = 0x01000006

-- owner 00020100; title of 4 bytes
abbrev order : List ℕ
order =
    0x2E ∷ 0x15 ∷ 0x00 ∷ 0x06 ∷ 0x00 ∷ 0x00 ∷ 0x01 ∷ 0x52 ∷ 0x00 ∷ 0x02 ∷ 0x00
    ∷ 0x00 ∷ 0x01 ∷ 0x02 ∷ 0x00
    ∷ 0x04 ∷ 0x00 ∷ 0x41 ∷ 0x00 ∷ 0x42 ∷ 0x00 ∷ []

ends : walk_of window_fields flags order 11 0 ≡ Ends 21 0
unfolding walk_of step_of field_of len_of first_of ok_of num_at
ends = refl

title : carried_at window_fields flags order 11 3 ≡ 0x04 ∷ 0x00 ∷ 0x41 ∷ 0x00 ∷ 0x42 ∷ 0x00 ∷ []
unfolding carried_at begins_at len_of first_of num_at slice
title = refl

-- the set fields by the law of each: to compute `set_flagged` takes both arms of a choice at each row
set : get_or (set_flagged window_fields flags order 11 (empty_fields window_fields)) 0 [] ≡ 0x00 ∷ 0x01 ∷ 0x02 ∷ 0x00 ∷ []
unfolding carried_at begins_at len_of first_of num_at slice
set = set_at window_fields flags order 11 (empty_fields window_fields) 0 (omega arith)

-- in memory: the owner at index 2, the title after owner, styles and show state at 15
stored : slice (store_of window_fields 2 flags order 11 (replicate 1392 0)) 0 22
    ≡ 0 ∷ 0 ∷ 0x00 ∷ 0x01 ∷ 0x02 ∷ 0x00 ∷ 0 ∷ 0 ∷ 0 ∷ 0 ∷ 0 ∷ 0 ∷ 0 ∷ 0 ∷ 0 ∷ 0x04 ∷ 0x00 ∷ 0x41 ∷ 0x00 ∷ 0x42 ∷ 0x00 ∷ 0 ∷ []
unfolding store_of step_of field_of len_of first_of ok_of num_at slice splice
stored = refl

-- a slot of zeros holds a new record's fields
empty : fields_of window_fields 2 (replicate 1392 0) ≡ empty_fields window_fields
unfolding fields_of field_in empty_fields len_of first_of num_at slice
empty = refl

read : fields_of window_fields 2 (store_of window_fields 2 flags order 11 (replicate 1392 0)) ≡ set_flagged window_fields flags order 11 (empty_fields window_fields)
read =
    (Stored·stored window_fields 2 flags order 11 (replicate 1392 0) (placed 1 22) (record { end = 21; well = ends }) (omega arith) (omega arith)
    (omega (arith, window_room, length-replicate {A = ℕ} 1392 0))).fields
    ∙ ap (set_flagged window_fields flags order 11) empty
