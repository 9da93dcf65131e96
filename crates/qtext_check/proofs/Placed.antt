-- Which word of a line is at fault.
use Rattle.std.proofs.Common.{◌≡◌, ℕ, zero, suc, ◌+◌, ◌≤◌, Bool, true, false, not, cond, eqb, List, [], ◌∷◌, length, Result, Err, refl, sym, ap, ◌∙◌, arith}
use Rattle.std.specs.Prelude.{nat_lt}
use Rattle.std.specs.List.{join_with_byte, list_all}
use Rattle.std.proofs.lemmas.List.{length-append}
use Rattle.std.proofs.lemmas.List.Splits.{length-slice_split}
use Rattle.qplain.specs.declared.bounds.TheConstants.{MAX_LINES}
use Rattle.qtext.specs.Words.{is_text_byte, parts, words}
use Rattle.qtext.proofs.StepsFound.{joined}
use Rattle.qtext.specs.declared.text_fault.TextKind.{TextKind}
use Rattle.qtext.specs.declared.text_fault.TextKind.TheVariants.{BadByte, Cut, TooMany}
use Rattle.qtext_files.specs.RawLines.{RawLine}
use Rattle.qtext_files.specs.Scripts.{line_in, script_line_of}
use Rattle.qtext_check.specs.Places.{is_of_line, start_of}

-- two faults that are told as the same are the same
same_fault : {A : Type 0} {one other : TextKind} → ◌≡◌ {A = Result A TextKind} (Err one) (Err other) → one ≡ other
same_fault e = cc e

-- of three tests that refuse a line as a whole, none did
passed_all : {A : Type 0} (many part text : Bool) (read : Result A TextKind) (kind : TextKind)
    → cond many (Err TooMany) (cond (not part) (Err Cut) (cond (not text) (Err BadByte) read)) ≡ Err kind → is_of_line kind ≡ false → text ≡ true
passed_all false true true read kind e is = refl
passed_all true part text read kind e is = absurd (cc (rw (← same_fault e) at is))
passed_all false false text read kind e is = absurd (cc (rw (← same_fault e) at is))
passed_all false true false read kind e is = absurd (cc (rw (← same_fault e) at is))

-- a line that is none for one of its words is text
pub is_text : (l : RawLine) (kind : TextKind) → script_line_of l ≡ Err kind → is_of_line kind ≡ false → list_all is_text_byte l.bytes ≡ true
unfolding script_line_of
is_text l kind e is = passed_all (nat_lt MAX_LINES l.number) l.whole (list_all is_text_byte l.bytes) (line_in (words l.bytes)) kind e is

-- a word before others takes a space more
length_joined : (w : List ℕ) (ws : List (List ℕ)) → 1 ≤ length ws
    → length (join_with_byte 32 (w ∷ ws)) ≡ length w + 1 + length (join_with_byte 32 ws)
length_joined w [] some = absurd (omega (arith, some))
length_joined w (v ∷ vs) some = let whole = length-append w (32 ∷ join_with_byte 32 (v ∷ vs)) in omega (arith, whole)

-- a text's first word, the space behind it and what stands there are all of it
pub first_length : (text word after : List ℕ) → parts 32 text ≡ word ∷ parts 32 after → length text ≡ length word + 1 + length after
first_length text word after cut =
    let some = length-slice_split (λ b. eqb b 32) after in
    ap length (sym (joined 32 text (word ∷ parts 32 after) (sym cut)))
    ∙ length_joined word (parts 32 after) (omega (arith, some))
    ∙ ap (λ l. length word + 1 + length l) (joined 32 after (parts 32 after) refl)

-- behind the last word
pub start_behind : (n : ℕ) (w : List ℕ) → (n ≡ 0 → ⊥) → start_of n (w ∷ []) ≡ length w + 1
unfolding start_of
start_behind zero w some = absurd (some refl)
start_behind (suc zero) w some = omega arith
start_behind (suc (suc n)) w some = omega arith
