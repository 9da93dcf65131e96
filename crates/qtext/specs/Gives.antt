-- What a reader and its parts answer.
use Rattle.std.specs.Prelude.{◌≡◌, ◌⊎◌, Result, Ok, Err}
use Rattle.qtext.specs.declared.text_fault.TextKind.{TextKind}
use Rattle.qtext.specs.declared.text_fault.TextFault.{TextFault}
use Rattle.qtext.specs.declared.read_fault.ReadFault.{ReadFault}
use Rattle.qtext.specs.declared.read_fault.ReadFault.TheVariants as faults
use Rattle.qtext.specs.TextFaults.{want_of_memory}

-- the fault is the one that reading gives, unless memory ran out
abbrev pub Fails : {X : Type 0} → ReadFault → Result X TextKind → Type 0
Fails faults.Memory read = Unit {0}
Fails (faults.Fault kind) read = read ≡ Err kind

-- what was answered is what reading gives, unless memory ran out
abbrev pub Gives : {X : Type 0} → Result X ReadFault → Result X TextKind → Type 0
Gives (Ok x) read = read ≡ Ok x
Gives (Err fault) read = Fails fault read

-- what was answered is what the text says, unless memory ran out
abbrev pub Reads : {X : Type 0} → Result X TextFault → Result X TextFault → Type 0
Reads (Ok x) read = read ≡ Ok x
Reads (Err fault) read = (fault ≡ want_of_memory) ⊎ (read ≡ Err fault)
