-- Parts of a line as text.
use Rattle.std.specs.Prelude.{ℕ, List, [], ◌∷◌, decimal, Option, Some, None}
use Rattle.std.specs.List.{flat_map}

-- a further group, after a comma
abbrev pub group_text : ℕ → List ℕ
group_text group = 44 ∷ decimal group

-- a project's id, after a space, and nothing where there is none
abbrev pub project_text : Option ℕ → List ℕ
project_text None = []
project_text (Some id) = 32 ∷ decimal id

-- words, each after a space
abbrev pub spaced : List (List ℕ) → List ℕ
spaced words = flat_map (λ word. 32 ∷ word) words
