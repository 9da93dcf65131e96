-- Names of files that are others.
use Rattle.std.specs.Prelude.{◌≢◌, ℕ, List, Option, Some, None}

-- where both are named, the journal and the image have other names
abbrev pub AreApart : Option (List ℕ) → Option (List ℕ) → Type 0
AreApart None image = Unit {0}
AreApart (Some journal) None = Unit {0}
AreApart (Some journal) (Some image) = journal ≢ image
