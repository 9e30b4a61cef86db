-- An order judged on the memory of an index and carried out in one step, where the history has room for it. Assumes nothing.
use Rattle.std.specs.Prelude.{ℕ, ◌+◌, ◌≡◌, Bool, List, eqb}
use Rattle.wire.specs.Tests.{pick}
use Rattle.index.specs.declared.RecordOrder.{RecordOrder}
use Rattle.index.specs.declared.Change.{Change}
use Rattle.index.specs.declared.Plan.{Plan}
use Rattle.index.specs.declared.Plan.TheVariants.{ChangeRecord, ChangeDesktop, Refuse}
use Rattle.index.specs.declared.Stepped.{Stepped}
use Rattle.index.specs.Plans.{plan_number, plan_slot}
use Rattle.index.specs.Orders.{is_new, is_delete, brings_icon}
use Rattle.index.specs.Changes.{listed_of, removed_of, applied_of}

-- the plan's number, or 12 where the history is full
unfoldable pub step_number : Bool → Plan → ℕ
step_number full p = pick (eqb (plan_number p) 0) (pick full 12 0) (plan_number p)

-- so many places, from the first on, are pointed at once a record is changed: an icon takes the first that is free
abbrev pub change_held : Change → ℕ
change_held c = pick c.deleted 0 (pick (brings_icon c.flags) (c.place + 1) 0)

-- after a step, as far as its order tells
abbrev pub step_held : Bool → Plan → ℕ
step_held full (ChangeRecord c) = pick full 0 (change_held c)
step_held full (ChangeDesktop flags) = 0
step_held full (Refuse n) = 0

abbrev pub step_of : Bool → Plan → Stepped
step_of full p = record { number = step_number full p; slot = plan_slot p; held = step_held full p }

-- the index after the step
unfoldable pub stepped_of : Bool → List ℕ → Plan → List ℕ
stepped_of full x p = pick full x (applied_of x p)

-- ---- for the private functions

-- a step of the plan p on the index x answers r and leaves x'
abbrev pub StepOutcome : Bool → List ℕ → Plan → Stepped → List ℕ → Type 0
StepOutcome full x p r x' = (r ≡ step_of full p) × (x' ≡ stepped_of full x p)

-- what an order for the record in slot i that changes no picture makes of the index
unfoldable pub slot_stepped : List ℕ → RecordOrder → ℕ → List ℕ
slot_stepped x o i = pick (is_delete o.flags) (removed_of x i) (pick (is_new o.family o.flags) (listed_of x i o.window.id o.notify.id) x)

abbrev pub SlotOutcome : Bool → List ℕ → RecordOrder → ℕ → Stepped → List ℕ → Type 0
SlotOutcome full x o i r x' = (r ≡ record { number = pick full 12 0; slot = i; held = 0 }) × (x' ≡ pick full x (slot_stepped x o i))
