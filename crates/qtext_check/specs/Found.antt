-- The words that are told of faults.
use Rattle.std.specs.Prelude.{List}
use Rattle.std.specs.List.{AllByRecursion}
use Rattle.qtext_check.specs.declared.fault.Finding.{Finding}
use Rattle.qtext_check.specs.Places.{IsAtFault}

-- of each fault for which a line is none by one of its words, the word is the first that is none
abbrev pub AreAtFault : List Finding → Type 0
AreAtFault findings = AllByRecursion (λ f. IsAtFault f.fault.wrong f.word f.bytes.now) findings
