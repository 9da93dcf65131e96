-- All that is wrong in a script.
use Rattle.std.specs.Prelude.{ℕ, nat_lt, List, [], ◌∷◌, Option, Some, None, Result, Ok, Err, option_map, if◌then◌else◌}
use Rattle.std.specs.List.{flat_map}
use Rattle.qplain.specs.Setups.{Setting}
use Rattle.qplain.specs.declared.bounds.TheConstants.{MAX_LINES}
use Rattle.qtext.specs.declared.text_fault.TextFault.{TextFault}
use Rattle.qtext_files.specs.RawLines.{RawLine, raw_lines}
use Rattle.qtext_check.specs.declared.fault.FaultyLine.{FaultyLine}
use Rattle.qtext_check.specs.declared.fault.Wrong.{Wrong}
use Rattle.qtext_check.specs.declared.fault.Wrong.TheVariants.{Text, Refused}
use Rattle.qtext_check.specs.Wrongs.{wrong_in}

-- what is wrong in the line of this number
abbrev pub fault_at : ℕ → Wrong → FaultyLine
fault_at line wrong = record { line = line; wrong = wrong }

-- what is wrong in a line, with its number
abbrev pub fault_in : Option Setting → RawLine → Option FaultyLine
fault_in s l = option_map (fault_at l.number) (wrong_in s l)

-- one, or none
abbrev pub listed : {X : Type 0} → Option X → List X
listed None = []
listed (Some x) = x ∷ []

-- the faults of lines, in their order
abbrev pub faults_in : Option Setting → List RawLine → List FaultyLine
faults_in s ls = flat_map (λ l. listed (fault_in s l)) ls

-- the lines that are looked at: none behind the first one that is too many
unfoldable pub looked_at : List RawLine → List RawLine
looked_at [] = []
looked_at (l ∷ ls) = l ∷ (if nat_lt MAX_LINES l.number then [] else looked_at ls)

-- the faults of a script: those of all of its lines up to the first one too many, in their order
abbrev pub faults_of : Option Setting → List ℕ → List FaultyLine
faults_of s text = faults_in s (looked_at (raw_lines text))

-- a line that has a fault
abbrev pub checked_line : Option Setting → RawLine → Option (List ℕ)
checked_line s l = option_map (λ fault. l.bytes) (fault_in s l)

-- the lines of a script that have faults, in their order
abbrev pub checked_lines : Option Setting → List ℕ → List (List ℕ)
checked_lines s text = flat_map (λ l. listed (checked_line s l)) (looked_at (raw_lines text))

-- the fault that reading tells of a line that is none
abbrev pub text_fault_by : ℕ → Wrong → Option TextFault
text_fault_by line (Text kind) = Some (record { line = line; kind = kind })
text_fault_by line (Refused refusal) = None

-- the first, or else the second
abbrev pub first_or : Option TextFault → Option TextFault → Option TextFault
first_or (Some fault) other = Some fault
first_or None other = other

-- the first of the faults for which a line is none
unfoldable pub first_text_fault : List FaultyLine → Option TextFault
first_text_fault [] = None
first_text_fault (f ∷ fs) = first_or (text_fault_by f.line f.wrong) (first_text_fault fs)

-- the fault that reading tells, where it tells one
abbrev pub fault_read : {X : Type 0} → Result X TextFault → Option TextFault
fault_read (Ok x) = None
fault_read (Err fault) = Some fault
