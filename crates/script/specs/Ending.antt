-- How a run ends. Assumes nothing.
use Rattle.std.specs.Prelude.{◌≡◌, Result, Ok, Err, IsOk, ⊤}
use Rattle.std.specs.declared.io.Error.{Error}
use Rattle.script.specs.declared.Stop.{Stop}
use Rattle.script.specs.declared.Stop.TheVariants.{BadItem, MemoryChanged, Failed}

-- what is answered of a run: nothing after the whole input, what failed in it, and after a stop that is told in words how telling them went
abbrev pub Ended : {A B : Type 0} → Result A Stop → Result B Error → Type 0
Ended (Ok whole) told = IsOk told
Ended (Err BadItem) told = ⊤
Ended (Err MemoryChanged) told = ⊤
Ended (Err (Failed error)) told = told ≡ Err error
