-- Where a directory is empty, a name in it leads nowhere.
use Rattle.std.proofs.Common.{◌≡◌, ℕ, ◌==◌, Bool, true, false, not, cond, List, [], ◌∷◌, Some, None, refl, arith, tests}
use Rattle.std.specs.BTreeMap.{is_at}
use Rattle.std.specs.List.{list_any}
use Rattle.std.specs.Map.{lookup}
use Rattle.std.proofs.lemmas.Bool.{or_parts}
use Rattle.qplain.specs.State.{NameKey, State, name_key_cmp, named}
use Rattle.qplain.specs.Use.{is_empty}
use Rattle.qplain_laws.proofs.Sweeping.{key-dir}

-- where no name stands in a directory, none is found in it
pub none-in : (number : ℕ) (names : List (NameKey × ℕ)) → list_any (λ e. e.0.0 == number) names ≡ false → (name : List ℕ)
    → lookup (is_at (name_key_cmp (number, name))) names ≡ None
none-in number [] empty name = refl
none-in number (e ∷ es) empty name =
    let parts = or_parts (e.0.0 == number) (list_any (λ e. e.0.0 == number) es) empty in
    by (is_at (name_key_cmp (number, name)) e.0) refl parts.0 (none-in number es parts.1 name)
  where
    by : (b : Bool) → is_at (name_key_cmp (number, name)) e.0 ≡ b → (e.0.0 == number) ≡ false → lookup (is_at (name_key_cmp (number, name))) es ≡ None
        → cond b (Some e.1) (lookup (is_at (name_key_cmp (number, name))) es) ≡ None
    by true at apart later =
        let same : number ≡ e.0.0 = key-dir number name e.0 at in
        let itself : (e.0.0 == number) ≡ true = grind (arith, tests, same) in
        cc
    by false at apart later = later

-- the same of an empty inode
pub empty-none : (S : State) (number : ℕ) → is_empty S number ≡ true → (name : List ℕ) → named S number name ≡ None
empty-none S number empty name = none-in number S.names (false-from (list_any (λ e. e.0.0 == number) S.names) empty) name
  where
    false-from : (b : Bool) → not b ≡ true → b ≡ false
    false-from true h = cc
    false-from false h = refl
