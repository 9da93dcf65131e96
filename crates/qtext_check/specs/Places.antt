-- Which word of a line is at fault.
use Rattle.std.specs.Prelude.{◌≡◌, ℕ, zero, suc, ◌+◌, Bool, true, false, not, List, [], ◌∷◌, length, Result, Ok, Err, is_ok}
use Rattle.std.specs.Prelude.{if◌then◌else◌}
use Rattle.qplain.specs.declared.edition.Edition.TheVariants.{Two}
use Rattle.qtext.specs.declared.text_fault.TextKind.{TextKind}
use Rattle.qtext.specs.declared.text_fault.TextKind.TheVariants.{Cut, BadByte, TooMany}
use Rattle.qtext.specs.Words.{number, words}
use Rattle.qtext_read.specs.declared.row.Verb.{Verb}
use Rattle.qtext_read.specs.Callers.{caller_of}
use Rattle.qtext_read.specs.Judged.{values_before}
use Rattle.qtext_read.specs.Rows.{row, takes}
use Rattle.qtext_read.specs.Rows.{verb_of}
use Rattle.qtext_check.specs.declared.fault.Wrong.{Wrong}
use Rattle.qtext_check.specs.declared.fault.Wrong.TheVariants.{Text, Refused}

-- how many words of a call stand before the first that is none, where its verb is read so: the verb is none too where
-- it takes another number of arguments
abbrev pub verb_before : Result Verb TextKind → List (List ℕ) → ℕ
verb_before (Ok v) arguments = if takes v (length arguments) then 1 + values_before Two (row v) arguments else 0
verb_before (Err kind) arguments = 0

-- how many words of a call stand before the first that is none
abbrev pub call_before : List (List ℕ) → ℕ
call_before [] = 0
call_before (v ∷ arguments) = verb_before (verb_of v) arguments

-- how many words behind a moment stand before the first that is none: a caller and a call
abbrev pub caller_before : List (List ℕ) → ℕ
caller_before [] = 0
caller_before (c ∷ call) = if is_ok (caller_of c) then 1 + call_before call else 0

-- how many words of a line stand before the first that is none: a moment, a caller and a call
abbrev pub words_before : List (List ℕ) → ℕ
words_before [] = 0
words_before (m ∷ behind) = if is_ok (number m) then 1 + caller_before behind else 0

-- whether a line is none as a whole, and not for one of its words
abbrev pub is_of_line : TextKind → Bool
is_of_line Cut = true
is_of_line BadByte = true
is_of_line TooMany = true
is_of_line _ = false

-- whether what is wrong is a word: one that is none, or for which the line is refused
abbrev pub is_of_word : Wrong → Bool
is_of_word (Text kind) = not (is_of_line kind)
is_of_word (Refused refusal) = true

-- where a line is none for one of its words, the one that is told is the first that is none, from 0
abbrev pub IsAtFault : Wrong → ℕ → List ℕ → Type 0
IsAtFault (Text kind) word line = is_of_line kind ≡ false → word ≡ words_before (words line)
IsAtFault (Refused refusal) word line = Unit

-- how many bytes stand before the word of that number, from 0: those of the words before it, with a space behind each
unfoldable pub start_of : ℕ → List (List ℕ) → ℕ
start_of zero ws = 0
start_of (suc n) [] = 0
start_of (suc n) (w ∷ ws) = length w + 1 + start_of n ws
