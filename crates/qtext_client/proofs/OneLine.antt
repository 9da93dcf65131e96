-- What a text of one line says.
use Rattle.std.proofs.Common.{◌≡◌, inl, inr, ◌≤◌, ℕ, Result, ◌+◌, eqb, Bool, true, false, List, [], ◌∷◌, length}
use Rattle.std.proofs.Common.{take, refl, sym, ap, ◌∙◌, arith, drop_of_length-le}
use Rattle.std.proofs.lemmas.Bool.{cases_lt}
use Rattle.std.specs.List.{position_or_len}
use Rattle.std.specs.Io.BufRead.{take_through}
use Rattle.qplain.specs.declared.line.Line.{Line}
use Rattle.qtext.specs.Words.{parts}
use Rattle.qtext.specs.declared.text_fault.TextKind.{TextKind}
use Rattle.qtext.proofs.Splitting.{parts_at, parts_none}
use Rattle.qtext_files.specs.RawLines.{RawLine, raw_lines}
use Rattle.qtext_files.specs.Scripts.{script_line_of, script_of}
use Rattle.qtext_files.proofs.OneLine.{IsCutAfter, first_line, one_of, said_alone}
use Rattle.qtext_files.proofs.RawLines.{cut_line, ended_line, no_line}
use Rattle.qtext_client.specs.BoundedLines.{IsOneLine}
use Rattle.qtext_client.proofs.FirstLines.{through_len}

-- a text of one line has that line alone
one_raw : (text : List ℕ) → IsOneLine text → (l : RawLine) × (raw_lines text ≡ l ∷ [])
one_raw text (one, some) =
    let at = position_or_len (λ b. eqb b 10) text in
    let size : length text ≡ length (take_through 10 text) = ap length (sym one) in
    elim (cases_lt at (length text)) [
      | inl lt ↦
          let end : length text ≤ at + 1 = omega (arith, size, through_len text) in
          let split : parts 10 text ≡ take at text ∷ parts 10 [] =
          parts_at 10 text at lt refl ∙ ap (λ l. take at text ∷ parts 10 l) (drop_of_length-le text {i = at + 1} end) in
          (first_line (take at text) true, ended_line 1 text (take at text) [] split ∙ ap (λ l. first_line (take at text) true ∷ l) (no_line 2))
      | inr le ↦
          (first_line text false, cut_line 1 text text some (parts_none 10 text le) ∙ ap (λ l. first_line text false ∷ l) (no_line 2))
    ]

-- the only line is the first
only_first : (ls ms : List RawLine) (l m : RawLine) → ls ≡ l ∷ [] → ls ≡ m ∷ ms → ls ≡ m ∷ []
only_first ls ms l m one first =
    let none : ms ≡ [] = cc (sym one ∙ first) in
    first ∙ ap (λ r. m ∷ r) none

-- so what was cut from it is all that it says
pub one_said : (text bytes after : List ℕ) (whole : Bool) → IsOneLine text → IsCutAfter text bytes after whole
    → script_of text ≡ one_of (script_line_of (first_line bytes whole))
one_said text bytes after whole one cut =
    let (l, is) = one_raw text one in
    said_alone text bytes whole (only_first (raw_lines text) _ l (first_line bytes whole) is cut)

-- and so is what is read of it
pub said_as : (text bytes after : List ℕ) (whole : Bool) (read : Result Line TextKind) → IsOneLine text → IsCutAfter text bytes after whole
    → script_line_of (first_line bytes whole) ≡ read → script_of text ≡ one_of read
said_as text bytes after whole read one cut is = one_said text bytes after whole one cut ∙ ap one_of is
