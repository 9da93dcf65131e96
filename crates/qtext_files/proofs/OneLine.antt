-- What a script of one line says.
use Rattle.std.proofs.Common.{◌≡◌, ℕ, ◌<◌, Bool, List, [], ◌∷◌, length, Result, Ok, Err, refl, ap, sym, ◌∙◌, arith}
use Rattle.qplain.specs.declared.line.Line.{Line}
use Rattle.qtext.specs.declared.text_fault.TextFault.{TextFault}
use Rattle.qtext.specs.declared.text_fault.TextKind.{TextKind}
use Rattle.qtext.specs.Reading.{◌>>=◌, each_of}
use Rattle.qtext.specs.Words.{parts}
use Rattle.qtext.proofs.StepsFound.{same_ok, step_found}
use Rattle.qtext_files.specs.RawLines.{RawLine, in_line, raw_lines, raw_lines_from}
use Rattle.qtext_files.specs.Scripts.{at_line, script_line_of, script_of}
use Rattle.qtext_files.proofs.RawLines.{no_line_of, some_line}

-- a first line, and whether a line end stands after it
abbrev pub first_line : List ℕ → Bool → RawLine
first_line bytes whole = record { number = 1; bytes = bytes; whole = whole }

-- a text was cut after its first line
abbrev pub IsCutAfter : (text bytes after : List ℕ) → Bool → Type 0
IsCutAfter text bytes after whole = raw_lines text ≡ first_line bytes whole ∷ raw_lines_from 2 (parts 10 after)

-- what a script of one line says, by what the line says
abbrev pub one_of : Result Line TextKind → Result (List Line) TextFault
one_of (Ok line) = Ok (line ∷ [])
one_of (Err kind) = Err (record { line = 1; kind = kind })

step : (s : Result Line TextKind) → (in_line 1 s >>= (λ first. Ok [] >>= (λ others. Ok (first ∷ others)))) ≡ one_of s
step (Ok line) = refl
step (Err kind) = refl

-- a line with none after it is all that a script says
pub said_alone : (text bytes : List ℕ) (whole : Bool) → raw_lines text ≡ first_line bytes whole ∷ []
    → script_of text ≡ one_of (script_line_of (first_line bytes whole))
unfolding each_of at_line
said_alone text bytes whole is = ap (each_of at_line) is ∙ step (script_line_of (first_line bytes whole))

pub none_after : (text bytes after : List ℕ) (whole : Bool) → IsCutAfter text bytes after whole → length after ≡ 0
    → raw_lines text ≡ first_line bytes whole ∷ []
none_after text bytes after whole cut e = cut ∙ ap (λ ls. first_line bytes whole ∷ ls) (no_line_of 2 after e)

-- and with one after it the script says more than one line, if any
each_some : (l m : RawLine) (ls : List RawLine) (line : Line) → each_of at_line (l ∷ m ∷ ls) ≡ Ok (line ∷ []) → ⊥
unfolding each_of
each_some l m ls line e =
    step_found (at_line l) _ e λ first is e.
    step_found (each_of at_line (m ∷ ls)) _ e λ others is e.
    step_found (at_line m) _ is λ second is more.
    step_found (each_of at_line ls) _ more λ last is more.
    absurd (cc (same_ok e, same_ok more))

some_after : (l : RawLine) (ls : List RawLine) (line : Line) → 0 < length ls → each_of at_line (l ∷ ls) ≡ Ok (line ∷ []) → ⊥
some_after l [] line lt e = absurd (omega arith)
some_after l (m ∷ ls) line lt e = each_some l m ls line e

pub none_alone : (text bytes after : List ℕ) (whole : Bool) (line : Line) → IsCutAfter text bytes after whole → 0 < length after
    → script_of text ≡ Ok (line ∷ []) → ⊥
none_alone text bytes after whole line cut lt said =
    some_after (first_line bytes whole) (raw_lines_from 2 (parts 10 after)) line (some_line 2 after lt)
    (sym (ap (each_of at_line) cut) ∙ said)
