-- Which graces, limits and grace ends a store can have.
use Rattle.std.specs.Prelude.{◌≡◌, ℕ, ◌+◌, ◌≤◌, true, All, IfSome, Option}
use Rattle.qrules.specs.declared.graces.TheConstants.{MAX_GRACE, MAX_MOMENT}
use Rattle.qrules.specs.Range.{are_graces_in_range, are_limits_in_range}
use Rattle.qplain.specs.declared.call.Call.{Call}
use Rattle.qplain.specs.Caller.{Caller}
use Rattle.qplain.specs.Setups.{IsLawfulSetup, Setting}
use Rattle.qplain.specs.State.{Holder, State, start}
use Rattle.qplain.specs.Step.{step}

-- a grace end that stands is at most what the latest moment and the longest grace add up to
abbrev pub IsEndInRange : Option ℕ → Type 0
IsEndInRange end = IfSome end (λ moment. moment ≤ MAX_MOMENT + MAX_GRACE)

-- a principal's limits are such as may be set, and each of its grace ends is in range
pub record IsHolderInRange (h : Holder) : Type 0 where
  pub limits : are_limits_in_range h.limits ≡ true
  pub block_end : IsEndInRange h.block_end
  pub inode_end : IsEndInRange h.inode_end

-- the graces are such as may be set, and each principal is in range
pub record AreSettingsInRange (S : State) : Type 0 where
  pub graces : are_graces_in_range S.graces ≡ true
  pub holders : All IsHolderInRange S.holders

-- in a new store of a lawful setup they are
abbrev pub StartIsInRange : Type 0
StartIsInRange = (s : Setting) → IsLawfulSetup s → AreSettingsInRange (start s)

-- after every step of a state in which they are, they are
abbrev pub SettingsStayInRange : Type 0
SettingsStayInRange = (S : State) (cred : Caller) (moment : ℕ) (call : Call) → AreSettingsInRange S
    → AreSettingsInRange (step S cred moment call).0
