-- The setup that a state tells of.
use Rattle.std.specs.Prelude.{ℕ, Bool, true, not, List, [], ◌∷◌, filter, is_some, map}
use Rattle.qrules.specs.declared.kind.Kind.{Kind}
use Rattle.qrules.specs.declared.kind.Kind.TheVariants.{User, Group, Project}
use Rattle.qrules.specs.Kinds.{is_same_kind}
use Rattle.qplain.specs.declared.principal.Principal.{Principal}
use Rattle.qplain.specs.Setups.{Setting, setting, setup_fault}
use Rattle.qplain.specs.State.{Holder, Inode, State}

-- a holder as a setup declares it
abbrev pub principal_of : Holder → Principal
principal_of h = record { id = h.id; name = h.name; limits = h.limits }

-- the holders of a kind so, in their order
abbrev pub principals_of : Kind → List Holder → List Principal
principals_of kind hs = map principal_of (filter (λ h. is_same_kind kind h.kind) hs)

-- the setup with the state's bounds, graces, holders and limits, in edition 2
abbrev pub setup_of : State → Setting
setup_of S = setting S.size S.most_inodes S.graces
    (principals_of User S.holders) (principals_of Group S.holders) (principals_of Project S.holders)

-- where an inode stands, what is before it is a setup that is granted
abbrev pub is_granted : List (ℕ × Inode) → Setting → Bool
is_granted [] s = true
is_granted (e ∷ es) s = not (is_some (setup_fault s))
