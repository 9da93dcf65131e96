-- Lines and what they were answered, one after the other.
use Rattle.std.proofs.Common.{◌≡◌, ◌+◌, ◌<◌, ◌≤◌, ◌∙◌, ℕ, ap, add-one, append_assoc, codes, decimal, drop-cons, drop, get_or, length, List, [], ◌∷◌, ◌++◌, Result, refl, sym, arith, tests, zero, suc, true, Some, ◌==◌}
use Rattle.std.specs.Prelude.{nat_lt, replicate}
use Rattle.std.specs.List.{list_all}
use Rattle.hex.specs.Hex.{encode_lower}
use Rattle.std.proofs.lemmas.List.{drop_all, length-replicate}
use Rattle.qtext_read.specs.Spelling.{caller_text}
use Rattle.qplain.specs.declared.call_fault.CallFault.{CallFault}
use Rattle.qplain.specs.declared.line.Line.{Line}
use Rattle.qplain.specs.declared.receipt.Receipt.{Receipt}
use Rattle.qtext_outcome.specs.Calls.{called_lines, called_text, fill_text, line_head, repeated}

-- one more of them
pub called_next : (place i : ℕ) (ls : List Line) (answers : List (Result Receipt CallFault)) (l : Line) (a : Result Receipt CallFault)
    → l ≡ get_or ls i l → a ≡ get_or answers i a → i < length ls → i < length answers
    → called_lines place (drop i ls) (drop i answers)
    ≡ called_text place l a ++ called_lines (place + 1) (drop (i + 1) ls) (drop (i + 1) answers)
unfolding called_lines
called_next place i ls answers l a line answer few many =
    let lines : drop i ls ≡ l ∷ drop (i + 1) ls = rw (line, add-one) (drop-cons ls i l few) in
    let told : drop i answers ≡ a ∷ drop (i + 1) answers = rw (answer, add-one) (drop-cons answers i a many) in
    rw (lines, told) refl

no_line : (place : ℕ) (answers : List (Result Receipt CallFault)) → called_lines place [] answers ≡ []
unfolding called_lines
no_line place answers = refl

-- none is left where the lines have come to their end
pub over : (place i : ℕ) (ls : List Line) (answers : List (Result Receipt CallFault)) → length ls ≤ i
    → called_lines place (drop i ls) (drop i answers) ≡ []
over place i ls answers end = rw (drop_all i ls end) (no_line place (drop i answers))

-- what stands before a call, from its parts
pub head_parts : (place : ℕ) (l : Line) → line_head place l
    ≡ (((decimal place ++ 32 ∷ decimal l.moment) ++ 32 ∷ []) ++ caller_text l.cred) ++ 32 ∷ []
head_parts place l =
    let p : List ℕ = decimal place in
    let m : List ℕ = 32 ∷ decimal l.moment in
    let s : List ℕ = 32 ∷ [] in
    let caller : List ℕ = caller_text l.cred in
    sym (append_assoc ((p ++ m) ++ s) caller s ∙ append_assoc (p ++ m) s (caller ++ s) ∙ append_assoc p m (s ++ (caller ++ s)))

-- what stands behind the path of a fill
abbrev pub fill_rest : ℕ → ℕ → ℕ → List ℕ
fill_rest off count byte = 32 ∷ decimal off ++ (32 ∷ decimal count ++ (32 ∷ encode_lower (byte ∷ [])))

-- a fill behind a line, and its parts put one after the other
pub fill_joined : (line path : List ℕ) (off count byte : ℕ)
    → line ++ fill_text path off count byte ≡ ((line ++ codes "fill ") ++ path) ++ fill_rest off count byte
fill_joined line path off count byte =
    sym (append_assoc (line ++ codes "fill ") path (fill_rest off count byte)
    ∙ append_assoc line (codes "fill ") (path ++ fill_rest off count byte))

-- a line, an arrow and what it was answered
pub called_joined : (head call arrow answer : List ℕ) → (head ++ (call ++ arrow)) ++ answer ≡ head ++ (call ++ (arrow ++ answer))
called_joined head call arrow answer = append_assoc head (call ++ arrow) answer ∙ ap (λ (l : List ℕ). head ++ l) (append_assoc call arrow answer)

-- what is put behind the path, one part after the other
pub rest_joined : (line : List ℕ) (off count byte : ℕ)
    → (((line ++ 32 ∷ decimal off) ++ 32 ∷ decimal count) ++ 32 ∷ []) ++ encode_lower (byte ∷ []) ≡ line ++ fill_rest off count byte
rest_joined line off count byte =
    append_assoc ((line ++ 32 ∷ decimal off) ++ 32 ∷ decimal count) (32 ∷ []) (encode_lower (byte ∷ []))
    ∙ append_assoc (line ++ 32 ∷ decimal off) (32 ∷ decimal count) (32 ∷ encode_lower (byte ∷ []))
    ∙ append_assoc line (32 ∷ decimal off) (32 ∷ decimal count ++ (32 ∷ encode_lower (byte ∷ [])))

-- all of these bytes are equal
equal_bytes : (n b : ℕ) → list_all (λ c. c == b) (replicate n b) ≡ true
equal_bytes zero b = refl
equal_bytes (suc n) b = rw (equal_bytes n b) (grind (arith, tests))

-- more than 32 equal bytes
pub repeated_fill : (n b : ℕ) → 32 < n → repeated (replicate n b) ≡ Some b
repeated_fill zero b many = absurd (omega arith)
repeated_fill (suc n) b many =
    let enough : nat_lt 31 (length (replicate n b)) ≡ true = rw (length-replicate n b) (grind (arith, tests)) in
    rw (enough, equal_bytes n b) refl
