-- Words in the places of arguments, judged one by one.
use Rattle.std.specs.Prelude.{◌≡◌, ℕ, ◌+◌, Bool, true, false, List, ◌∷◌, Result, Ok, Err, is_ok, if◌then◌else◌}
use Rattle.qplain.specs.declared.edition.Edition.{Edition}
use Rattle.qtext.specs.declared.read_fault.ReadFault.{ReadFault}
use Rattle.qtext.specs.declared.read_fault.ReadFault.TheVariants as faults
use Rattle.qtext_read.specs.declared.row.Argument.{Argument}
use Rattle.qtext_read.specs.Rows.{value_in}

-- whether something was read, for which memory sufficed
abbrev pub IsJudged : {X : Type 0} → Bool → Result X ReadFault → Type 0
IsJudged is (Ok x) = is ≡ true
IsJudged is (Err (faults.Fault kind)) = is ≡ false
IsJudged is (Err faults.Memory) = ⊥

-- whether a word is one in the place of an argument
abbrev pub is_value : Edition → Argument → List ℕ → Bool
is_value edition a word = is_ok (value_in edition a word)

-- how many words stand before the first that is none in the place of its argument, as far as there are both
unfoldable pub values_before : Edition → List Argument → List (List ℕ) → ℕ
values_before edition (a ∷ arguments) (w ∷ words) =
    if is_value edition a w then 1 + values_before edition arguments words else 0
values_before edition _ _ = 0
