-- Who is declared: a principal of a kind and an id, and a caller with all of its groups (profile).
use Rattle.std.specs.Prelude.{ℕ, Bool, false, not, ◌&&◌, ◌==◌, ◌∷◌, Option, Some, None}
use Rattle.std.specs.List.{list_all, list_any}
use Rattle.qrules.specs.declared.kind.Kind.{Kind}
use Rattle.qrules.specs.declared.kind.Kind.TheVariants.{User, Group}
use Rattle.qrules.specs.Kinds.{is_same_kind}
use Rattle.qplain.specs.Caller.{Caller}
use Rattle.qplain.specs.State.{Holder, State}

-- the holder is the principal of this kind and id
abbrev pub is_holder : Kind → ℕ → Holder → Bool
is_holder kind id h = is_same_kind kind h.kind && id == h.id

-- there is a principal of this kind and id
abbrev pub is_declared : State → Kind → ℕ → Bool
is_declared S kind id = list_any (is_holder kind id) S.holders

-- the caller's user and all of its groups are declared
abbrev pub is_known : State → Caller → Bool
is_known S cred = is_declared S User cred.uid && list_all (is_declared S Group) (cred.gid ∷ cred.more)

-- an id is named, and it is not declared
abbrev pub is_undeclared : State → Kind → Option ℕ → Bool
is_undeclared S kind None = false
is_undeclared S kind (Some id) = not (is_declared S kind id)
