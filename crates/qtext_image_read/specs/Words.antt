-- Words that are borrowed.
use Rattle.std.specs.Prelude.{◌≡◌, ℕ, List, Result, Ok, Err}
use Rattle.std.specs.Borrow.{Bor}
use Rattle.qtext.specs.declared.read_fault.ReadFault.{ReadFault}
use Rattle.qtext.specs.declared.text_fault.TextKind.{TextKind}
use Rattle.qtext.specs.Gives.{Fails}

-- the bytes that are borrowed are those that reading gives, unless memory ran out
abbrev pub GivesBytes : Result (Bor (List ℕ)) ReadFault → Result (List ℕ) TextKind → Type 0
GivesBytes (Ok bytes) read = read ≡ Ok bytes.now
GivesBytes (Err fault) read = Fails fault read
