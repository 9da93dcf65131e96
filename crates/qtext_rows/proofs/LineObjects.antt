-- The objects of lines, one after the other.
use Rattle.std.proofs.Common.{◌≡◌, ◌+◌, ◌<◌, ◌≤◌, ℕ, Bool, add-one, drop-cons, drop, get_or, length, List, [], ◌∷◌, ◌++◌, Result, refl}
use Rattle.std.proofs.lemmas.List.{drop_all}
use Rattle.qplain.specs.declared.call_fault.CallFault.{CallFault}
use Rattle.qplain.specs.declared.line.Line.{Line}
use Rattle.qplain.specs.declared.receipt.Receipt.{Receipt}
use Rattle.qtext_rows.specs.Lines.{line_object, line_objects}

-- one more of them
pub next_line : (calls : Bool) (worker place i : ℕ) (ls : List Line) (answers : List (Result Receipt CallFault)) (l : Line) (a : Result Receipt CallFault)
    → l ≡ get_or ls i l → a ≡ get_or answers i a → i < length ls → i < length answers
    → line_objects calls worker place (drop i ls) (drop i answers)
    ≡ line_object calls worker place l a ++ line_objects calls worker (place + 1) (drop (i + 1) ls) (drop (i + 1) answers)
unfolding line_objects
next_line calls worker place i ls answers l a line answer few many =
    let lines : drop i ls ≡ l ∷ drop (i + 1) ls = rw (line, add-one) (drop-cons ls i l few) in
    let told : drop i answers ≡ a ∷ drop (i + 1) answers = rw (answer, add-one) (drop-cons answers i a many) in
    rw (lines, told) refl

no_line : (calls : Bool) (worker place : ℕ) (answers : List (Result Receipt CallFault)) → line_objects calls worker place [] answers ≡ []
unfolding line_objects
no_line calls worker place answers = refl

-- none is left where the lines have come to their end
pub over : (calls : Bool) (worker place i : ℕ) (ls : List Line) (answers : List (Result Receipt CallFault)) → length ls ≤ i
    → line_objects calls worker place (drop i ls) (drop i answers) ≡ []
over calls worker place i ls answers end = rw (drop_all i ls end) (no_line calls worker place (drop i answers))
