-- The owners of what a caller makes.
use Rattle.std.specs.Prelude.{ℕ, Option}
use Rattle.qplain.specs.declared.owners.Owners.{Owners}
use Rattle.qplain.specs.Caller.{Caller}

-- the owners of a caller's own, in a project, if it is in one
abbrev pub caller_owners : Caller → Option ℕ → Owners
caller_owners cred project = record { uid = cred.uid; gid = cred.gid; project = project }
