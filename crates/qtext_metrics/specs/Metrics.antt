-- A board as text for a monitor, in the text format of Prometheus: HELP, TYPE and samples, family by family.
use Rattle.std.specs.Prelude.{ℕ, ◌==◌, List, [], ◌∷◌, ◌++◌, Option, Some, None, codes, decimal, find}
use Rattle.std.specs.List.{concat, flat_map}
use Rattle.std.specs.Option.{option_map_or}
use Rattle.qrules.specs.declared.board_row.BoardRow.{BoardRow}
use Rattle.qplain.specs.declared.board.Board.{Board}
use Rattle.qplain.specs.Setups.{Setting, principals_in}
use Rattle.qtext.specs.RuleWords.{kind_text}
use Rattle.qtext_metrics.specs.declared.family.Family.{Family}
use Rattle.qtext_metrics.specs.Families.{families, help_of, name_of, row_value, total_value}

-- whose row it is: the name of the principal of its kind and id, or the id where there is none
abbrev pub holder_text : Setting → BoardRow → List ℕ
holder_text s r = option_map_or (λ p. p.name) (find (λ p. p.id == r.id) (principals_in r.kind s)) (decimal r.id)

-- the two lines over a family's samples: what they are, and that each is a gauge
abbrev pub family_head : Family → List ℕ
family_head f = concat (codes "# HELP " ∷ name_of f ∷ codes " " ∷ help_of f
    ∷ codes "\n# TYPE " ∷ name_of f ∷ codes " gauge\n" ∷ [])

-- the sample of the whole store, where the family has a number of it
abbrev pub total_text : Family → Option ℕ → List ℕ
total_text f None = []
total_text f (Some n) = concat (name_of f ∷ codes " " ∷ decimal n ∷ codes "\n" ∷ [])

-- the sample of a row of this kind and name, where the family has a number of it
abbrev pub sample_text : Family → List ℕ → List ℕ → Option ℕ → List ℕ
sample_text f kind name None = []
sample_text f kind name (Some n) = concat (name_of f ∷ codes "{kind=\"" ∷ kind ∷ codes "\",name=\"" ∷ name
    ∷ codes "\"} " ∷ decimal n ∷ codes "\n" ∷ [])

-- the sample of a row of the board
abbrev pub family_row : Setting → Family → BoardRow → List ℕ
family_row s f r = sample_text f (kind_text r.kind) (holder_text s r) (row_value f r)

-- a family: its head, its sample of the whole store, and its samples of the rows in their order
abbrev pub family_text : Setting → Board → Family → List ℕ
family_text s b f = family_head f ++ total_text f (total_value s b f) ++ flat_map (family_row s f) b.rows

-- all families, one after the other
abbrev pub metrics_text : Setting → Board → List ℕ
metrics_text s b = flat_map (family_text s b) families
