-- The first text that is no script.
use Rattle.std.proofs.Common.{◌≡◌, ℕ, ◌+◌, List, [], ◌∷◌, ◌++◌, length, map, drop, slice_index_or, Result, Ok, Err, Some, inl, inr, sym, ap, ◌∙◌, arith}
use Rattle.qplain.specs.declared.line.Line.{Line}
use Rattle.qtext.specs.declared.text_fault.TextFault.{TextFault}
use Rattle.qtext.specs.TextFaults.{want_of_memory}
use Rattle.qtext_files.specs.Scripts.{script_of}
use Rattle.qtool_runs.specs.Readers.{IsReadFrom, fault_or, first_fault}

abbrev fault_in : Result (List Line) TextFault → TextFault
fault_in (Ok lines) = want_of_memory
fault_in (Err fault) = fault

-- two results that are faults are so by one fault
pub one_fault : (f g : TextFault) → (◌≡◌ {A = Result (List Line) TextFault} (Err f) (Err g)) → f ≡ g
one_fault f g same = ap fault_in same

abbrev script_tag : Result (List Line) TextFault → ℕ
script_tag (Ok lines) = 1
script_tag (Err fault) = 0

-- where memory is wanting there is no script
no_script : (lines : List Line) → (◌≡◌ {A = Result (List Line) TextFault} (Ok lines) (Err want_of_memory)) → ⊥
no_script lines same = omega (arith, ap script_tag same)

-- a script that was read from a text is what it says
pub says_so : (text : List ℕ) (lines : List Line) → IsReadFrom text (Ok lines) → Ok lines ≡ script_of text
says_so text lines (inl says) = says
says_so text lines (inr wants) = absurd (no_script lines wants)

-- behind texts that are scripts it is the next, where that is none
pub first_at : (number at : ℕ) (before : List (List ℕ)) (scripts : List (List Line)) (text : List ℕ) (behind : List (List ℕ)) (fault : TextFault)
    → map Ok scripts ≡ map script_of before → script_of text ≡ Err fault → at ≡ number + length before
    → first_fault number (before ++ text ∷ behind) ≡ Some (record { number = at; fault = fault })
first_at number at [] scripts text behind fault same says place =
    let here : number ≡ at = omega (arith, place) in
    ap (λ r. fault_or number r (first_fault (number + 1) behind)) says ∙ ap (λ n. Some (record { number = n; fault = fault })) here
first_at number at (b ∷ bs) [] text behind fault same says place =
    let none : ⊥ = omega (arith, ap length same) in
    absurd none
first_at number at (b ∷ bs) (s ∷ ss) text behind fault same says place =
    let reads : script_of b ≡ Ok s = sym (ap (λ rs. slice_index_or rs 0 (Ok s)) same) in
    let next : at ≡ (number + 1) + length bs = omega (arith, place) in
    ap (λ r. fault_or number r (first_fault (number + 1) (bs ++ text ∷ behind))) reads
    ∙ first_at (number + 1) at bs ss text behind fault (ap (drop 1) same) says next
