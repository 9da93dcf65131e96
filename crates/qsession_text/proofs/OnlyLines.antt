-- The only line of a text.
use Rattle.std.proofs.Common.{◌≡◌, ℕ, ◌<◌, Bool, List, [], ◌∷◌, None, Result, Ok, Err, length, refl, ap, ◌∙◌}
use Rattle.qplain.specs.declared.line.Line.{Line}
use Rattle.qtext.specs.declared.read_fault.ReadFault.{ReadFault}
use Rattle.qtext.specs.declared.read_fault.ReadFault.TheVariants as faults
use Rattle.qtext.specs.declared.text_fault.TextFault.{TextFault}
use Rattle.qtext.specs.declared.text_fault.TextKind.{TextKind}
use Rattle.qtext.specs.Gives.{Gives}
use Rattle.qtext.specs.Reading.{each_of}
use Rattle.qtext_files.specs.Scripts.{at_line, script_line_of, script_of}
use Rattle.qtext_files.proofs.OneLine.{IsCutAfter, first_line, none_after, none_alone, one_of, said_alone}
use Rattle.qtext_files.proofs.RawLines.{no_line_of}
use Rattle.qsession_text.specs.Lines.{ReadsOne, only_line}

-- a text of no bytes has none
pub only_of_none : (text : List ℕ) → length text ≡ 0 → only_line (script_of text) ≡ None
unfolding each_of
only_of_none text e = ap (λ ls. only_line (each_of at_line ls)) (no_line_of 1 text e)

none_by : (said : Result (List Line) TextFault) → ((line : Line) → said ≡ Ok (line ∷ []) → ⊥) → only_line said ≡ None
none_by (Ok []) not_one = refl
none_by (Ok (line ∷ [])) not_one = absurd (not_one line refl)
none_by (Ok (line ∷ other ∷ lines)) not_one = refl
none_by (Err fault) not_one = refl

-- nor has one in which something stands after the first
pub only_of_more : (text bytes after : List ℕ) (whole : Bool) → IsCutAfter text bytes after whole → 0 < length after
    → only_line (script_of text) ≡ None
only_of_more text bytes after whole cut lt = none_by (script_of text) (λ line. none_alone text bytes after whole line cut lt)

-- where nothing does, it is what the first says
pub only_said : (text bytes after : List ℕ) (whole : Bool) → IsCutAfter text bytes after whole → length after ≡ 0
    → script_of text ≡ one_of (script_line_of (first_line bytes whole))
only_said text bytes after whole cut e = said_alone text bytes whole (none_after text bytes after whole cut e)

pub line_said : (text bytes after : List ℕ) (whole : Bool) (line : Line) → IsCutAfter text bytes after whole → length after ≡ 0
    → script_line_of (first_line bytes whole) ≡ Ok line → script_of text ≡ Ok (line ∷ [])
line_said text bytes after whole line cut e said = only_said text bytes after whole cut e ∙ ap one_of said

pub fault_said : (text bytes after : List ℕ) (whole : Bool) (kind : TextKind) → IsCutAfter text bytes after whole → length after ≡ 0
    → script_line_of (first_line bytes whole) ≡ Err kind → only_line (script_of text) ≡ None
fault_said text bytes after whole kind cut e said = ap (λ s. only_line s) (only_said text bytes after whole cut e ∙ ap one_of said)

-- what is read of the first where nothing stands after it
pub one_read : (text bytes after : List ℕ) (whole : Bool) (read : Result Line ReadFault) → IsCutAfter text bytes after whole → length after ≡ 0
    → Gives read (script_line_of (first_line bytes whole)) → ReadsOne read (script_of text)
one_read text bytes after whole (Ok line) cut e said = line_said text bytes after whole line cut e said
one_read text bytes after whole (Err faults.Memory) cut e said = tt
one_read text bytes after whole (Err (faults.Fault kind)) cut e said = fault_said text bytes after whole kind cut e said
