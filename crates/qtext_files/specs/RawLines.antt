-- The lines of a text as they stand in it.
use Rattle.std.specs.Prelude.{ℕ, ◌+◌, ◌==◌, Bool, true, false, List, [], ◌∷◌, length, Result, Ok, Err, if◌then◌else◌}
use Rattle.qtext.specs.declared.text_fault.TextKind.{TextKind}
use Rattle.qtext.specs.declared.text_fault.TextFault.{TextFault}
use Rattle.qtext.specs.Words.{parts}

-- a line with its number, counted from 1, and whether a line end stands after it
pub record RawLine : Type 0 where
  pub number : ℕ
  pub bytes : List ℕ
  pub whole : Bool

-- what stands between line ends, with its number; nothing after the last line end is no line
unfoldable pub raw_lines_from : ℕ → List (List ℕ) → List RawLine
raw_lines_from n [] = []
raw_lines_from n (l ∷ []) = if length l == 0 then [] else record { number = n; bytes = l; whole = false } ∷ []
raw_lines_from n (l ∷ m ∷ ls) = record { number = n; bytes = l; whole = true } ∷ raw_lines_from (n + 1) (m ∷ ls)

-- the lines of a text
abbrev pub raw_lines : List ℕ → List RawLine
raw_lines text = raw_lines_from 1 (parts 10 text)

-- a fault is reported with the number of its line
abbrev pub in_line : {A : Type 0} → ℕ → Result A TextKind → Result A TextFault
in_line n (Ok x) = Ok x
in_line n (Err kind) = Err (record { line = n; kind = kind })
