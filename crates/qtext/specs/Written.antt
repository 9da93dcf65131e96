-- What a writer holds after a text was written to it, where it tells its bytes. Of one that does not (`None`), as
-- standard output, these facts hold whatever it took, and so say nothing.
use Rattle.std.specs.Prelude.{◌≡◌, ℕ, List, ◌++◌, Option, Result, MatchResult}
use Rattle.std.specs.Io.KnownBytes.{Appends}

-- the writer took some beginning of the text
pub record AppendsFront (old new : Option (List ℕ)) (text : List ℕ) : Type 0 where
  pub front : List ℕ
  pub rest : List ℕ
  pub parts : text ≡ front ++ rest
  pub appends : Appends old new front

-- the writer took all of the text, or after a refusal some beginning of it
abbrev pub Writes : {T E : Type 0} → Option (List ℕ) → Option (List ℕ) → Result T E → List ℕ → Type 0
Writes old new r text = MatchResult r (λ _. Appends old new text) (λ _. AppendsFront old new text)

-- the writer took some beginning of the text, and this is left of it
pub record Partly (old new : Option (List ℕ)) (text rest : List ℕ) : Type 0 where
  pub front : List ℕ
  pub parts : text ≡ front ++ rest
  pub appends : Appends old new front

-- the writer took some beginning of the text, and this is left of it, or after a refusal it took some beginning
abbrev pub Passes : {T E : Type 0} → Option (List ℕ) → Option (List ℕ) → Result T E → List ℕ → List ℕ → Type 0
Passes old new r text rest = MatchResult r (λ _. Partly old new text rest) (λ _. AppendsFront old new text)
