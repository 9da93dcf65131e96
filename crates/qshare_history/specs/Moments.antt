-- The moments of a history.
use Rattle.std.specs.Prelude.{◌≡◌, ◌≤◌, Bool, true, false, ℕ, List, [], ◌∷◌, All, ⊤}
use Rattle.qplain.specs.declared.entry.Entry.{Entry}

-- no entry has an earlier moment than one that stands before it
unfoldable pub NeverFalls : List Entry → Type 0
NeverFalls [] = ⊤
NeverFalls (e ∷ later) = All (λ l. e.moment ≤ l.moment) later × NeverFalls later

-- this moment is given to a line that tells that one: where a clock rules it may be a later one, and else it is the
-- same
abbrev pub IsGiven : Bool → ℕ → ℕ → Type 0
IsGiven true told given = told ≤ given
IsGiven false told given = given ≡ told
