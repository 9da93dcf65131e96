-- What a run or a service begins with.
use Rattle.std.specs.Prelude.{◌≡◌, ℕ, ◌<◌, [], Option, IfSome, IsSome}
use Rattle.qplain.specs.State.{State}
use Rattle.qstore.specs.Stored.{Stored}
use Rattle.qrun.specs.declared.beginning.Beginning.{Beginning}

-- another store is in this state, where there is one; and there is one where boards are wanted
pub record BeginsAlike (begun : State) (boards : ℕ) (again : Option Stored) : Type 0 where
  pub alike : IfSome again (λ s. s.state ≡ begun)
  pub there : 0 < boards → IsSome again

-- a store that has just begun, beside one that begins alike
pub record HasBegun (boards : ℕ) (b : Beginning) : Type 0 where
  pub fresh : b.store.journal ≡ []
  pub again : BeginsAlike b.store.begun boards b.again
