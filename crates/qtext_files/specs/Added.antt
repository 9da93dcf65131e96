-- What reading a line adds to those that were read.
use Rattle.std.specs.Prelude.{◌≡◌, List, [], ◌∷◌, ◌++◌, Result, Ok, Err}
use Rattle.qtext.specs.declared.text_fault.TextKind.{TextKind}
use Rattle.qtext.specs.declared.read_fault.ReadFault.{ReadFault}
use Rattle.qtext.specs.Gives.{Fails}

-- what reading gives was added behind the old ones, unless memory ran out
abbrev pub Adds : {X U : Type 0} → List X → List X → Result U ReadFault → Result X TextKind → Type 0
Adds {X} old new (Ok u) read = (x : X) × (read ≡ Ok x) × (new ≡ old ++ x ∷ [])
Adds old new (Err fault) read = Fails fault read
