-- Lines that are written out one after the other, as a loop does.
use Rattle.std.proofs.Common.{◌≡◌, ℕ, ◌+◌, List, [], ◌∷◌, ◌++◌, length, Result, Ok, Err, refl, sym, ap, ◌∙◌, append_assoc}
use Rattle.std.proofs.lemmas.List.{append-nil}
use Rattle.qplain.specs.Setups.{Setting}
use Rattle.qtext.specs.declared.text_fault.TextFault.{TextFault}
use Rattle.qtext.specs.declared.text_fault.TextKind.{TextKind}
use Rattle.qtext.specs.Reading.{◌>>=◌}
use Rattle.qtext_files.specs.RawLines.{RawLine}
use Rattle.qtext_expand.specs.Expansions.{expansion_from, line_expansion, written_after}
use Rattle.qtext_expand.specs.FriendlyLines.{Written}
use Rattle.qtext_expand.specs.FriendlyWords.{ended}

-- what was written before, and what is still written
abbrev pub with_text : List ℕ → Result (List ℕ) TextFault → Result (List ℕ) TextFault
with_text before written = written >>= λ text. Ok (before ++ text)

okay : List ℕ → Result (List ℕ) TextFault
okay text = Ok text

with_nothing : (written : Result (List ℕ) TextFault) → with_text [] written ≡ written
with_nothing (Ok text) = refl
with_nothing (Err fault) = refl

-- the writing begins
pub begins_so : (s : Setting) (ls : List RawLine) → with_text [] (expansion_from s 0 0 [] ls) ≡ expansion_from s 0 0 [] ls
begins_so s ls = with_nothing (expansion_from s 0 0 [] ls)

regroup : (before lines : List ℕ) (written : Result (List ℕ) TextFault)
    → with_text before (written >>= λ others. okay (lines ++ others)) ≡ with_text (before ++ lines) written
unfolding okay
regroup before lines (Ok text) = ap okay (sym (append_assoc before lines text))
regroup before lines (Err fault) = refl

-- it goes on after a line that was written out
pub goes_on : (s : Setting) (before when : ℕ) (who : List ℕ) (l : RawLine) (ls rest : List RawLine) (w : Written) (out : List ℕ)
    (total : Result (List ℕ) TextFault) → written_after s before when who l.whole l.bytes ≡ Ok w → rest ≡ l ∷ ls
    → with_text out (expansion_from s before when who rest) ≡ total
    → with_text (out ++ ended w.lines) (expansion_from s (before + length w.lines) w.when w.who ls) ≡ total
unfolding expansion_from line_expansion okay
goes_on s before when who l ls rest w out total is cut so_far =
    let one : with_text out (expansion_from s before when who (l ∷ ls))
    ≡ with_text (out ++ ended w.lines) (expansion_from s (before + length w.lines) w.when w.who ls) =
    rw is (regroup out (ended w.lines) (expansion_from s (before + length w.lines) w.when w.who ls)) in
    sym one ∙ (rw cut at so_far)

-- it ends at a line that is at fault
pub ends_at : (s : Setting) (before when : ℕ) (who : List ℕ) (l : RawLine) (ls rest : List RawLine) (kind : TextKind) (out : List ℕ)
    (total : Result (List ℕ) TextFault) → written_after s before when who l.whole l.bytes ≡ Err kind → rest ≡ l ∷ ls
    → with_text out (expansion_from s before when who rest) ≡ total → total ≡ Err (record { line = l.number; kind = kind })
unfolding expansion_from line_expansion
ends_at s before when who l ls rest kind out total is cut so_far =
    let one : with_text out (expansion_from s before when who (l ∷ ls)) ≡ Err (record { line = l.number; kind = kind }) = rw is refl in
    sym (rw cut at so_far) ∙ one

-- nothing is left
pub is_done : (s : Setting) (before when : ℕ) (who : List ℕ) (rest : List RawLine) (out : List ℕ) (total : Result (List ℕ) TextFault)
    → rest ≡ [] → with_text out (expansion_from s before when who rest) ≡ total → total ≡ Ok out
unfolding expansion_from okay
is_done s before when who rest out total cut so_far = sym (rw cut at so_far) ∙ ap okay (append-nil out)
