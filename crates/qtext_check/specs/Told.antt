-- How a fault is told, as far as clauses say it.
use Rattle.std.specs.Prelude.{◌≡◌, ℕ, List, ◌++◌, codes, decimal}

-- :LINE:COLUMN:
abbrev pub fault_place_text : ℕ → ℕ → List ℕ
fault_place_text line column = codes ":" ++ decimal line ++ codes ":" ++ decimal column ++ codes ": "

-- the text begins with the line and some column of it
pub record IsToldAt (line : ℕ) (text : List ℕ) : Type 0 where
  pub column : ℕ
  pub rest : List ℕ
  pub parts : text ≡ fault_place_text line column ++ rest

-- the text begins with the line and this column of it
pub record IsPlacedAt (line column : ℕ) (text : List ℕ) : Type 0 where
  pub rest : List ℕ
  pub parts : text ≡ fault_place_text line column ++ rest
