-- The lines of a text, one after the other.
use Rattle.std.proofs.Common.{◌≡◌, ℕ, ◌<◌, ◌+◌, true, false, eqb, List, [], ◌∷◌, length, Result, Ok, Err, refl, sym, ap, arith}
use Rattle.std.proofs.lemmas.Bool.Decides.{nat_tests}
use Rattle.qtext.specs.declared.text_fault.TextKind.{TextKind}
use Rattle.qtext.specs.Reading.{each_of}
use Rattle.qtext.specs.Words.{parts}
use Rattle.qtext.proofs.Splitting.{some_part}
use Rattle.qtext.proofs.StepsFound.{joined, same_ok}
use Rattle.qtext_files.specs.RawLines.{RawLine, raw_lines_from, in_line}
use Rattle.qtext_files.specs.Scripts.{script_line_of, at_line}

pub more_lines : (n : ℕ) (l : List ℕ) (ls : List (List ℕ)) → 0 < length ls
    → raw_lines_from n (l ∷ ls) ≡ record { number = n; bytes = l; whole = true } ∷ raw_lines_from (n + 1) ls
unfolding raw_lines_from
more_lines n l [] lt = absurd (omega arith)
more_lines n l (m ∷ ls) lt = refl

one_line : (n : ℕ) (l : List ℕ) → 0 < length l → raw_lines_from n (l ∷ []) ≡ record { number = n; bytes = l; whole = false } ∷ []
unfolding raw_lines_from
one_line n l lt = let some : eqb (length l) 0 ≡ false = grind (arith, nat_tests) in rw some refl

pub no_line : (n : ℕ) → raw_lines_from n (parts 10 []) ≡ []
unfolding raw_lines_from
no_line n = refl

pub no_line_of : (n : ℕ) (text : List ℕ) → length text ≡ 0 → raw_lines_from n (parts 10 text) ≡ []
no_line_of n [] e = no_line n
no_line_of n (b ∷ text) e = absurd (omega arith)

pub ended_line : (n : ℕ) (text line after : List ℕ) → parts 10 text ≡ line ∷ parts 10 after
    → raw_lines_from n (parts 10 text) ≡ record { number = n; bytes = line; whole = true } ∷ raw_lines_from (n + 1) (parts 10 after)
ended_line n text line after e = rw e (more_lines n line (parts 10 after) (some_part 10 after))

pub cut_line : (n : ℕ) (text line : List ℕ) → 0 < length line → parts 10 text ≡ line ∷ []
    → raw_lines_from n (parts 10 text) ≡ record { number = n; bytes = line; whole = false } ∷ raw_lines_from (n + 1) (parts 10 [])
cut_line n text line lt e = rw (e, no_line (n + 1)) (one_line n line lt)

-- a text that is not empty has a line
some_of : (n : ℕ) (text : List ℕ) (ls : List (List ℕ)) → parts 10 text ≡ ls → 0 < length text → 0 < length (raw_lines_from n ls)
some_of n text [] is lt = absurd (omega (arith, ap length is, some_part 10 text))
some_of n text (l ∷ []) is lt =
    let whole : l ≡ text = joined 10 text (l ∷ []) (sym is) in
    rw (one_line n l (rw whole lt)) omega arith
some_of n text (l ∷ m ∷ ls) is lt = rw (more_lines n l (m ∷ ls) (omega arith)) omega arith

pub some_line : (n : ℕ) (text : List ℕ) → 0 < length text → 0 < length (raw_lines_from n (parts 10 text))
some_line n text lt = some_of n text (parts 10 text) refl lt

-- ---- what is told of a line

-- what was read of a line
pub in_line_found : {A : Type 0} {x : A} (n : ℕ) (read : Result A TextKind) → in_line n read ≡ Ok x → read ≡ Ok x
in_line_found n (Ok x) e = ap Ok (same_ok e)
in_line_found n (Err kind) e = absurd (cc e)

pub told_ok : {A : Type 0} (n : ℕ) (read : Result A TextKind) (x : A) → read ≡ Ok x → in_line n read ≡ Ok x
told_ok n read x e = rw e refl

pub told_err : {A : Type 0} (n : ℕ) (read : Result A TextKind) (kind : TextKind) → read ≡ Err kind
    → in_line n read ≡ Err (record { line = n; kind = kind })
told_err n read kind e = rw e refl

-- two readers that say the same of each line
pub each_same : {A B E : Type 0} (f g : A → Result B E) → ((x : A) → f x ≡ g x) → (xs : List A) → each_of f xs ≡ each_of g xs
unfolding each_of
each_same f g same [] = refl
each_same f g same (x ∷ xs) = rw (same x, each_same f g same xs) refl

pub at_line_is : (l : RawLine) → in_line l.number (script_line_of l) ≡ at_line l
unfolding at_line
at_line_is l = refl
