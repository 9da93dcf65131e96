-- Lines of scripts that were read have parts that their types can hold.
use Rattle.std.proofs.Common.{◌≡◌, ℕ, not, List, [], ◌∷◌, Result, Ok}
use Rattle.std.specs.Prelude.{nat_lt}
use Rattle.std.specs.List.{list_all, AllByRecursion}
use Rattle.qplain.specs.Held.{IsLine}
use Rattle.qplain.specs.declared.line.Line.{Line}
use Rattle.qtext.specs.declared.text_fault.TextKind.TheVariants.{BadByte, Cut, TooMany}
use Rattle.qtext.specs.Reading.{each_of}
use Rattle.qtext.specs.Words.{is_text_byte, number, words}
use Rattle.qtext.proofs.StepsFound.{passed, same_ok, step_found, word_found}
use Rattle.qtext_read.specs.Calls.{call_in}
use Rattle.qtext_read.proofs.ArgumentsFound.{any_number}
use Rattle.qtext_read.proofs.CallersFound.{any_caller}
use Rattle.qtext_read.proofs.CallsFound.{call_fits}
use Rattle.qtext_files.specs.RawLines.{RawLine, raw_lines}
use Rattle.qtext_files.specs.Scripts.{line_in, script_line_of, at_line, script_of}
use Rattle.qtext_files.proofs.RawLines.{in_line_found}

line_in_found : (ws : List (List ℕ)) (line : Line) → line_in ws ≡ Ok line → IsLine line
unfolding line_in
line_in_found [] line e = absurd (cc e)
line_in_found (m ∷ []) line e = step_found (number m) _ e λ moment is e. absurd (cc e)
line_in_found (m ∷ c ∷ behind) line e =
    word_found any_number m _ e λ moment is_moment moment_fits e.
    word_found any_caller c _ e λ cred is_cred cred_fits e.
    step_found (call_in behind) _ e λ call is_call e.
    rw (← same_ok e) (record { moment = moment_fits; cred = cred_fits; call = call_fits behind call is_call })

at_line_found : (l : RawLine) (line : Line) → at_line l ≡ Ok line → IsLine line
unfolding at_line script_line_of
at_line_found l line e =
    let near = passed (nat_lt 65536 l.number) _ TooMany line (in_line_found l.number (script_line_of l) e) in
    let whole = passed (not l.whole) _ Cut line near.1 in
    let text = passed (not (list_all is_text_byte l.bytes)) _ BadByte line whole.1 in
    line_in_found (words l.bytes) line text.1

-- each that was read one after the other is what each that is read is
each_found : {A B E : Type 0} (read : A → Result B E) (Is : B → Type 0) → ((x : A) (y : B) → read x ≡ Ok y → Is y)
    → (xs : List A) (ys : List B) → each_of read xs ≡ Ok ys → AllByRecursion Is ys
unfolding each_of
each_found read Is law [] ys e = rw (← same_ok e) tt
each_found read Is law (x ∷ xs) ys e =
    step_found (read x) _ e λ first is_first e.
    step_found (each_of read xs) _ e λ others are_others e.
    rw (← same_ok e) (law x first is_first, each_found read Is law xs others are_others)

pub script_found : (text : List ℕ) (lines : List Line) → script_of text ≡ Ok lines → AllByRecursion IsLine lines
script_found text lines e = each_found at_line IsLine at_line_found (raw_lines text) lines e
