-- Ids in place of names.
use Rattle.std.specs.Prelude.{ℕ, List, [], ◌∷◌, ◌++◌, codes, Option, Some, None, if◌then◌else◌}
use Rattle.std.specs.List.{flat_map}
use Rattle.std.specs.Str.{bytes_eq}
use Rattle.qplain.specs.Setups.{Setting}
use Rattle.qplain.specs.declared.principal.Principal.{Principal}
use Rattle.qtext.specs.Words.{parts}
use Rattle.qtext_expand.specs.Values.{decimal_or}

-- the id of the principal of this name
unfoldable pub id_named : List ℕ → List Principal → Option ℕ
id_named name [] = None
id_named name (p ∷ ps) = if bytes_eq p.name name then Some p.id else id_named name ps

-- an id in place of a name; any other word stays
abbrev pub named_text : List Principal → List ℕ → List ℕ
named_text principals word = decimal_or word (id_named word principals)

-- the principals of the kind that a word names; of another there are none
unfoldable pub principals_of : Setting → List ℕ → List Principal
principals_of s kind =
    if bytes_eq kind (codes "user") then s.users
    else if bytes_eq kind (codes "group") then s.groups
    else if bytes_eq kind (codes "project") then s.projects
    else []

-- groups, each with a separator before it
abbrev pub groups_text : ℕ → List Principal → List (List ℕ) → List ℕ
groups_text separator groups names = flat_map (λ name. separator ∷ named_text groups name) names

-- the first is a user, and what follows are groups
abbrev pub own_text : Setting → List (List ℕ) → List ℕ
own_text s [] = []
own_text s (user ∷ groups) = named_text s.users user ++ groups_text 58 s.groups groups

-- the first are a caller's own, and what follows are further groups
abbrev pub joined_text : Setting → List (List ℕ) → List ℕ
joined_text s [] = []
joined_text s (own ∷ groups) = own_text s (parts 58 own) ++ groups_text 44 s.groups groups

-- USER:GROUP, then a comma before each further group, with ids in place of names
abbrev pub caller_ids : Setting → List ℕ → List ℕ
caller_ids s word = joined_text s (parts 44 word)
