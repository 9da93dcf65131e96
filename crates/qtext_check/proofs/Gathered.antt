-- The faults of lines one after the other, as a loop gathers them, and the first of them that reading tells.
use Rattle.std.proofs.Common.{◌≡◌, ◌+◌, ℕ, Bool, true, false, nat_lt, List, [], ◌∷◌, ◌++◌, length, Option, Some, None, Result, Ok, Err, refl, sym, ap, ◌∙◌, append_assoc}
use Rattle.std.specs.Prelude.{if◌then◌else◌, option_map}
use Rattle.std.specs.List.{flat_map}
use Rattle.std.proofs.lemmas.List.{append-nil}
use Rattle.qplain.specs.Setups.{Setting}
use Rattle.qplain.specs.declared.bounds.TheConstants.{MAX_LINES}
use Rattle.qplain.specs.declared.line.Line.{Line}
use Rattle.qplain.specs.declared.refusal.Refusal.{Refusal}
use Rattle.qtext.specs.declared.text_fault.TextFault.{TextFault}
use Rattle.qtext.specs.declared.text_fault.TextKind.{TextKind}
use Rattle.qtext.specs.declared.text_fault.TextKind.TheVariants.{TooMany}
use Rattle.qtext.specs.Words.{parts}
use Rattle.qtext.specs.Reading.{◌>>=◌, each_of}
use Rattle.qtext_files.specs.RawLines.{RawLine, in_line, raw_lines, raw_lines_from}
use Rattle.qtext_files.proofs.RawLines.{no_line_of}
use Rattle.qtext_files.specs.Scripts.{at_line, script_line_of, script_of}
use Rattle.qtext_check.specs.declared.fault.FaultyLine.{FaultyLine}
use Rattle.qtext_check.specs.declared.fault.Wrong.{Wrong}
use Rattle.qtext_check.specs.declared.fault.Wrong.TheVariants.{Refused}
use Rattle.qtext_check.specs.Faults.{fault_at, faults_in, faults_of, first_text_fault, listed, looked_at, fault_read}
use Rattle.qtext_check.specs.Wrongs.{written_refusal, refused_in, wrong_by}

-- ---- the loop

-- what lines give, one after the other
pub goes_on : {X : Type 0} (given : RawLine → List X) (l : RawLine) (ls rest : List RawLine) (found before total : List X)
    → found ≡ given l → rest ≡ l ∷ ls → before ++ flat_map given rest ≡ total → (before ++ found) ++ flat_map given ls ≡ total
goes_on given l ls rest found before total is cut so_far =
    let one : before ++ flat_map given (l ∷ ls) ≡ (before ++ found) ++ flat_map given ls =
    rw is (sym (append_assoc before (given l) (flat_map given ls))) in
    sym one ∙ (rw cut at so_far)

pub is_done : {X : Type 0} (given : RawLine → List X) (rest : List RawLine) (before total : List X) → rest ≡ []
    → before ++ flat_map given rest ≡ total → before ≡ total
is_done given rest before total cut so_far = sym (append-nil before) ∙ (rw cut at so_far)

by_bound : (n : ℕ) (b : Bool) (after : List ℕ) → (if b then [] else looked_at (raw_lines_from n (parts 10 after)))
    ≡ looked_at (raw_lines_from n (parts 10 (if b then [] else after)))
unfolding looked_at
by_bound n true after = sym (ap looked_at (no_line_of n [] refl))
by_bound n false after = refl

-- behind a line those are looked at that are left, and none where it is too many
pub looks_on : (n : ℕ) (bytes : List ℕ) (whole : Bool) (rest after next : List ℕ)
    → raw_lines_from n (parts 10 rest) ≡ record { number = n; bytes = bytes; whole = whole } ∷ raw_lines_from (n + 1) (parts 10 after)
    → next ≡ (if nat_lt MAX_LINES n then [] else after)
    → looked_at (raw_lines_from n (parts 10 rest))
    ≡ record { number = n; bytes = bytes; whole = whole } ∷ looked_at (raw_lines_from (n + 1) (parts 10 next))
unfolding looked_at
looks_on n bytes whole rest after next cut is =
    rw (cut, is) (ap (λ ls. record { number = n; bytes = bytes; whole = whole } ∷ ls) (by_bound (n + 1) (nat_lt MAX_LINES n) after))

-- and none behind no line
pub none_left : (n : ℕ) (rest : List ℕ) → length rest ≡ 0 → looked_at (raw_lines_from n (parts 10 rest)) ≡ []
unfolding looked_at
none_left n rest none = ap looked_at (no_line_of n rest none)

-- ---- the first that reading tells

-- the fault of a line, and those of the lines behind it
abbrev faults_then : ℕ → Option Wrong → List FaultyLine → List FaultyLine
faults_then n None others = others
faults_then n (Some wrong) others = fault_at n wrong ∷ others

listed_then : (n : ℕ) (wrong : Option Wrong) (others : List FaultyLine) → listed (option_map (fault_at n) wrong) ++ others ≡ faults_then n wrong others
listed_then n None others = refl
listed_then n (Some wrong) others = refl

then_faults : (s : Option Setting) (l : RawLine) (ls : List RawLine) (said : Result Line TextKind) → script_line_of l ≡ said
    → faults_in s (l ∷ ls) ≡ faults_then l.number (wrong_by s said) (faults_in s ls)
then_faults s l ls said is = rw (← is) (listed_then l.number (wrong_by s (script_line_of l)) (faults_in s ls))

-- a refusal is nothing that reading tells
past_refusal : (n : ℕ) (refusal : Option Refusal) (others : List FaultyLine)
    → first_text_fault (faults_then n (option_map (λ r. Refused r) refusal) others) ≡ first_text_fault others
unfolding first_text_fault
past_refusal n None others = refl
past_refusal n (Some refusal) others = refl

past_refused : (s : Option Setting) (line : Line) (n : ℕ) (others : List FaultyLine)
    → first_text_fault (faults_then n (refused_in s line) others) ≡ first_text_fault others
past_refused None line n others = refl
past_refused (Some s) line n others = past_refusal n (written_refusal s line) others

-- what reading tells of a line, or else of those behind it
abbrev told_then : ℕ → Result Line TextKind → Option TextFault → Option TextFault
told_then n (Ok line) others = others
told_then n (Err kind) others = Some (record { line = n; kind = kind })

told_behind : (line : Line) (others : Result (List Line) TextFault) → fault_read (others >>= λ ls. Ok (line ∷ ls)) ≡ fault_read others
told_behind line (Ok lines) = refl
told_behind line (Err fault) = refl

told_by : (n : ℕ) (said : Result Line TextKind) (others : Result (List Line) TextFault)
    → fault_read (in_line n said >>= λ line. (others >>= λ ls. Ok (line ∷ ls))) ≡ told_then n said (fault_read others)
told_by n (Ok line) others = told_behind line others
told_by n (Err kind) others = refl

then_told : (l : RawLine) (ls : List RawLine) (said : Result Line TextKind) → script_line_of l ≡ said
    → fault_read (each_of at_line (l ∷ ls)) ≡ told_then l.number said (fault_read (each_of at_line ls))
unfolding each_of at_line
then_told l ls said is = rw (← is) (told_by l.number (script_line_of l) (each_of at_line ls))

first_of_line : (s : Option Setting) (n : ℕ) (said : Result Line TextKind) (faults : List FaultyLine) (others : Option TextFault)
    → first_text_fault faults ≡ others → first_text_fault (faults_then n (wrong_by s said) faults) ≡ told_then n said others
unfolding first_text_fault
first_of_line s n (Ok line) faults others so = past_refused s line n faults ∙ so
first_of_line s n (Err kind) faults others so = refl

-- a line too many is none
too_many : (l : RawLine) → nat_lt MAX_LINES l.number ≡ true → script_line_of l ≡ Err TooMany
unfolding script_line_of
too_many l many = rw many refl

-- the lines behind it are not looked at, and reading does not come to them
first_then : (s : Option Setting) (l : RawLine) (ls : List RawLine) (b : Bool) → nat_lt MAX_LINES l.number ≡ b
    → first_text_fault (faults_in s (looked_at ls)) ≡ fault_read (each_of at_line ls)
    → first_text_fault (faults_in s (l ∷ (if b then [] else looked_at ls))) ≡ fault_read (each_of at_line (l ∷ ls))
unfolding first_text_fault
first_then s l ls true many later =
    ap first_text_fault (then_faults s l [] (Err TooMany) (too_many l many)) ∙ sym (then_told l ls (Err TooMany) (too_many l many))
first_then s l ls false few later =
    ap first_text_fault (then_faults s l (looked_at ls) (script_line_of l) refl)
    ∙ first_of_line s l.number (script_line_of l) (faults_in s (looked_at ls)) (fault_read (each_of at_line ls)) later
    ∙ sym (then_told l ls (script_line_of l) refl)

-- the first of the faults of lines that reading tells is the one that it tells
pub first_told : (s : Option Setting) (ls : List RawLine)
    → first_text_fault (faults_in s (looked_at ls)) ≡ fault_read (each_of at_line ls)
unfolding first_text_fault each_of looked_at
first_told s [] = refl
first_told s (l ∷ ls) = first_then s l ls (nat_lt MAX_LINES l.number) refl (first_told s ls)

-- and so of all of them
pub first_told_of : (s : Option Setting) (text : List ℕ) (faults : List FaultyLine) → faults ≡ faults_of s text
    → first_text_fault faults ≡ fault_read (script_of text)
first_told_of s text faults is = ap first_text_fault is ∙ first_told s (raw_lines text)
