-- Who may call, and where a caller's records stand.
use Rattle.std.specs.Prelude.{◌≡◌, ℕ, true, Bool, ◌&&◌, ◌==◌, List, ◌∷◌, Option, None, All, IfSome}
use Rattle.std.specs.List.{list_all, list_any}
use Rattle.qplain.specs.Caller.{Caller}
use Rattle.qplain.specs.declared.owners.Owners.{Owners}
use Rattle.qstore_accounts.specs.declared.claim.Slots.{Slots}
use Rattle.qstore_accounts.specs.declared.kept_holder.KeptHolder.{KeptHolder}
use Rattle.qstore_accounts.specs.declared.known_callers.KnownCaller.{KnownCaller}
use Rattle.qstore_accounts.specs.Books.{Books, HasSlots}

-- a record is this id's
abbrev pub has_id : List KeptHolder → ℕ → Bool
has_id holders id = list_any (λ o. id == o.id) holders

-- the books have a record of the caller's user and of each of its groups
abbrev pub is_known_in : Books → Caller → Bool
is_known_in b cred = has_id b.users cred.uid && list_all (has_id b.groups) (cred.gid ∷ cred.more)

-- the caller's own user and group, and no project
abbrev pub callers_own : Caller → Owners
callers_own cred = record { uid = cred.uid; gid = cred.gid; project = None }

-- the books know the caller, whose records stand at these slots
pub record IsKnownAt (b : Books) (cred : Caller) (slots : Slots) : Type 0 where
  pub known : is_known_in b cred ≡ true
  pub own : HasSlots b slots (callers_own cred)

-- each caller that is kept is known where it is said
abbrev pub AreKnown : Books → List (Option KnownCaller) → Type 0
AreKnown b callers = All (λ kept. IfSome kept (λ k. IsKnownAt b k.cred k.slots)) callers
