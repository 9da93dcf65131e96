-- The values in the places of arguments, one after the other.
use Rattle.std.proofs.Common.{◌≡◌, ◌-◌, ◌≤◌, ℕ, get_or, length, take, drop, map, List, [], ◌∷◌, ◌++◌, refl, arith}
use Rattle.std.proofs.lemmas.List.{take_all}
use Rattle.std.specs.List.{flat_map, zip}
use Rattle.qtext_read.specs.declared.row.Argument.{Argument}
use Rattle.qtext_read.specs.Rows.{name}
use Rattle.qtext_rows.specs.Values.{member, value_text}
use Rattle.qtext_rows.specs.declared.value.Value.{Value}

abbrev members : List Argument → List Value → List ℕ
members arguments values = flat_map (λ p. member (name p.0) p.1) (zip arguments (map value_text values))

-- the first, and those behind it
pub first_value : (arguments : List Argument) (values : List Value) (d : Argument) (e : Value) → 1 ≤ length arguments → 1 ≤ length values
    → members arguments values ≡ member (name (get_or arguments 0 d)) (value_text (get_or values 0 e))
    ++ members (take (length arguments - 1) (drop 1 arguments)) (take (length values - 1) (drop 1 values))
first_value [] values d e some more = absurd (omega (arith, some))
first_value (a ∷ arguments) [] d e some more = absurd (omega (arith, more))
first_value (a ∷ arguments) (v ∷ values) d e some more =
    rw (take_all (length (a ∷ arguments) - 1) arguments (omega arith), take_all (length (v ∷ values) - 1) values (omega arith)) refl
