-- Journals in parts, each played from the state that those before it leave.
use Rattle.std.specs.Prelude.{◌≡◌, List, [], ◌∷◌}
use Rattle.std.specs.List.{flat_map}
use Rattle.qplain.specs.declared.entry.Entry.{Entry}
use Rattle.qplain.specs.State.{State}
use Rattle.qplain.specs.Journal.{IsLegal, play}

-- each journal is legal from the state that those before it leave
abbrev pub IsChain : State → List (List Entry) → Type 0
IsChain S [] = Unit {0}
IsChain S (journal ∷ rest) = IsLegal S journal × IsChain (play S journal) rest

-- the entries of all journals, one journal behind the other
abbrev pub joined : List (List Entry) → List Entry
joined journals = flat_map (λ journal. journal) journals

-- the state that is left when each journal is played from what the one before leaves
abbrev pub state_after : State → List (List Entry) → State
state_after S [] = S
state_after S (journal ∷ rest) = state_after (play S journal) rest

-- a chain of journals is one legal journal
abbrev pub ChainsAreLegal : Type 0
ChainsAreLegal = (S : State) (journals : List (List Entry)) → IsChain S journals → IsLegal S (joined journals)

-- joined journals leave what they leave one after the other
abbrev pub ChainsLeaveTheLast : Type 0
ChainsLeaveTheLast = (S : State) (journals : List (List Entry)) → play S (joined journals) ≡ state_after S journals

-- however a legal journal is cut, its parts are a chain
abbrev pub PartsAreChains : Type 0
PartsAreChains = (S : State) (journals : List (List Entry)) → IsLegal S (joined journals) → IsChain S journals
