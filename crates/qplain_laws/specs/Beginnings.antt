-- What holds of every state that a store of a setup can be in; that bytes are below 256 is said by the types of code.
use Rattle.std.specs.Prelude.{ℕ, List}
use Rattle.std.specs.List.{AllByRecursion}
use Rattle.qplain.specs.declared.call.Call.{Call}
use Rattle.qplain.specs.declared.entry.Entry.{Entry}
use Rattle.qplain.specs.Caller.{Caller}
use Rattle.qplain.specs.Calls.{IsCall}
use Rattle.qplain.specs.Setups.{IsLawfulSetup, Setting}
use Rattle.qplain.specs.State.{State, start}
use Rattle.qplain.specs.Journal.{play}
use Rattle.qplain.specs.Step.{step}
use Rattle.qplain_laws.specs.Laws.{AllReached, IsLawful, KeepsSetup}
use Rattle.qplain_laws.specs.PathNames.{AreNamed}
use Rattle.qplain_laws.specs.SettingRanges.{AreSettingsInRange}
use Rattle.qplain_laws.specs.Sizes.{AreRightSized}

-- the state has the setup's bounds and principals, is lawful, with settings in their ranges and files within the file
-- limit, every inode can be walked to, and names are names
pub record IsStateOf (setting : Setting) (S : State) : Type 0 where
  pub setup : IsLawfulSetup setting
  pub keeps : KeepsSetup (start setting) S
  pub lawful : IsLawful S
  pub ranges : AreSettingsInRange S
  pub sized : AreRightSized S
  pub reached : AllReached S
  pub named : AreNamed S

-- a new store of a lawful setup is in such a state
abbrev pub StartIsStateOf : Type 0
StartIsStateOf = (setting : Setting) → IsLawfulSetup setting → IsStateOf setting (start setting)

-- each call that a store can be asked for leaves one
abbrev pub StepsStayStates : Type 0
StepsStayStates =
    (setting : Setting) (S : State) (cred : Caller) (moment : ℕ) (call : Call) → IsCall call → IsStateOf setting S
    → IsStateOf setting (step S cred moment call).0

-- so does each journal of such calls, whatever it tells of their replies
abbrev pub JournalsStayStates : Type 0
JournalsStayStates =
    (setting : Setting) (S : State) (journal : List Entry) → AllByRecursion (λ e. IsCall e.call) journal
    → IsStateOf setting S → IsStateOf setting (play S journal)
