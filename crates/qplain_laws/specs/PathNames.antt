-- What the names of a state are made of.
use Rattle.std.specs.Prelude.{◌≡◌, ℕ, ◌≤◌, true, false, List, length, All}
use Rattle.std.specs.List.{list_all, list_any}
use Rattle.qplain.specs.declared.bounds.TheConstants.{MAX_NAME}
use Rattle.qplain.specs.declared.call.Call.{Call}
use Rattle.qplain.specs.Caller.{Caller}
use Rattle.qplain.specs.Calls.{IsCall}
use Rattle.qplain.specs.Paths.{is_path_byte}
use Rattle.qplain.specs.State.{State}
use Rattle.qplain.specs.Walk.{is_name, is_slash}
use Rattle.qplain.specs.Step.{step}
use Rattle.qplain_laws.specs.Laws.{IsLawful}

-- a name as paths have them: neither empty nor `.` nor `..`, not too long, of bytes that print and with no slash
pub record IsPathName (name : List ℕ) : Type 0 where
  pub own : is_name name ≡ true
  pub short : length name ≤ MAX_NAME
  pub prints : list_all is_path_byte name ≡ true
  pub whole : list_any is_slash name ≡ false

-- each name of the state is one
abbrev pub AreNamed : State → Type 0
AreNamed S = All (λ e. IsPathName e.0.1) S.names

-- from a lawful state each call that a store can be asked for leaves such names
abbrev pub NamesStayNames : Type 0
NamesStayNames = (S : State) (cred : Caller) (moment : ℕ) (call : Call) → IsLawful S → IsCall call → AreNamed S
    → AreNamed (step S cred moment call).0
