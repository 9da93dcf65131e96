-- Scripts that are spelled out are read again.
use Rattle.std.proofs.Common.{◌≡◌, ◌⊎◌, ℕ, ◌+◌, ◌≤◌, ◌<◌, ◌^◌, true, false, ltb, List, [], ◌∷◌, length, Result, Ok, Err, refl, sym, ap, ◌∙◌, arith, decimal, inl, inr}
use Rattle.std.specs.List.{join_with_byte, AllByRecursion}
use Rattle.std.proofs.lemmas.Bool.{le-ltb}
use Rattle.qplain.specs.Caller.{Caller}
use Rattle.qplain.specs.Held.{AreLines, IsCaller, IsLine}
use Rattle.qplain.specs.Calls.{IsCall}
use Rattle.qplain.specs.declared.call.Call.{Call}
use Rattle.qplain.specs.declared.line.Line.{Line}
use Rattle.qtext.specs.declared.text_fault.TextFault.{TextFault}
use Rattle.qtext.specs.Reading.{each_of}
use Rattle.qtext.specs.TextFaults.{want_of_memory}
use Rattle.qtext.specs.Words.{parts}
use Rattle.qtext_read.specs.Spelling.{caller_text, call_words}
use Rattle.qtext_read.proofs.ArgumentsAgain.{decimal_word}
use Rattle.qtext_read.proofs.CallersAgain.{caller_word, caller_again}
use Rattle.qtext_read.proofs.CallsAgain.{IsWord, any_number, call_word, call_again}
use Rattle.qtext_files.specs.RawLines.{raw_lines_from}
use Rattle.qtext_files.specs.Scripts.{line_in, script_line_of, at_line, script_of}
use Rattle.qtext_files.specs.Spelling.{line_words, script_spelling}
use Rattle.qtext_files.proofs.LinesAgain.{joined_is_text, joined_parts, raw_again}
use Rattle.qtext_files.proofs.RawLines.{no_line}

line_word : (l : Line) → IsLine l → AllByRecursion IsWord (line_words l)
line_word l fits = (decimal_word l.moment fits.moment, (caller_word l.cred fits.cred, call_word l.call fits.call))

abbrev lined : ℕ → Caller → Call → Line
lined moment cred call = record { cred = cred; moment = moment; call = call }

in_again : (moment : ℕ) (cred : Caller) (call : Call) → moment < 2 ^ 64 → IsCaller cred → IsCall call
    → line_in (line_words (lined moment cred call)) ≡ Ok (lined moment cred call)
unfolding line_in
in_again moment cred call lt c k = rw (any_number moment lt, caller_again cred c, call_again call k) refl

at_line_again : (n : ℕ) (l : Line) → n ≤ 65536 → IsLine l
    → at_line (record { number = n; bytes = join_with_byte 32 (line_words l); whole = true }) ≡ Ok l
unfolding at_line script_line_of
at_line_again n l le fits =
    let few : ltb 65536 n ≡ false = le-ltb _ _ le in
    let word = line_word l fits in
    rw (few, joined_is_text _ _ word, joined_parts _ _ word, in_again l.moment l.cred l.call fits.moment fits.cred fits.call) refl

each_line_again : (n : ℕ) (ls : List Line) → n + length ls ≤ 65537 → AllByRecursion IsLine ls
    → each_of at_line (raw_lines_from n (parts 10 (script_spelling ls))) ≡ Ok ls
unfolding each_of
each_line_again n [] le fits = ap (each_of at_line) (no_line n)
each_line_again n (l ∷ ls) le fits =
    let near : n ≤ 65536 = omega arith in
    let rest : n + 1 + length ls ≤ 65537 = omega arith in
    ap (each_of at_line) (raw_again n (decimal l.moment) (caller_text l.cred ∷ call_words l.call) (script_spelling ls) (line_word l fits.0))
    ∙ rw (at_line_again n l near fits.0, each_line_again (n + 1) ls rest fits.1) refl

script_again : (ls : List Line) → AreLines ls → script_of (script_spelling ls) ≡ Ok ls
script_again ls fits = let few : length ls ≤ 65536 = fits.few in each_line_again 1 ls (omega arith) fits.each

abbrev failed : TextFault → Result (List Line) TextFault
failed fault = Err fault

-- what was answered, where lines were spelled out
pub script_read_again : (text : List ℕ) (answer : Result (List Line) TextFault) → (answer ≡ script_of text) ⊎ (answer ≡ Err want_of_memory)
    → (ls : List Line) → AreLines ls → text ≡ script_spelling ls → (answer ≡ Ok ls) ⊎ (answer ≡ Err want_of_memory)
script_read_again text answer (inl e) ls fits same = inl (e ∙ ap script_of same ∙ script_again ls fits)
script_read_again text answer (inr e) ls fits same = inr e

-- what was answered, where a line was at fault or memory was wanting
pub script_faulted : (text : List ℕ) (fault : TextFault) → (fault ≡ want_of_memory) ⊎ (script_of text ≡ Err fault)
    → (failed fault ≡ script_of text) ⊎ (failed fault ≡ Err want_of_memory)
script_faulted text fault (inl e) = inr (ap failed e)
script_faulted text fault (inr e) = inl (sym e)

-- and so where lines were spelled out
pub script_told : (text : List ℕ) (fault : TextFault) → (fault ≡ want_of_memory) ⊎ (script_of text ≡ Err fault)
    → (ls : List Line) → AreLines ls → text ≡ script_spelling ls → (failed fault ≡ Ok ls) ⊎ (failed fault ≡ Err want_of_memory)
script_told text fault told = script_read_again text (failed fault) (script_faulted text fault told)
