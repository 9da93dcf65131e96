-- Why a text is no configuration, and what a function answers that reads one, or a part of one.
use Rattle.std.specs.Prelude.{◌≡◌, ℕ, List, Option, Some, None, Result, Ok, Err, string_bytes}
use Rattle.qplain.specs.declared.setup.SetupFault.{SetupFault}
use Rattle.qplain.specs.declared.setup.SetupFault.TheVariants as refused
use Rattle.qtext_config.specs.declared.config_fault.ConfigFault.{ConfigFault}
use Rattle.qtext_config.specs.declared.config_fault.ConfigFault.TheVariants as fault

-- why a text is no configuration, out of memory aside; a field is named by its key
pub data Cause : Type 0 where
  Text : Cause
  Field : List ℕ → Cause
  Range : Cause
  Duplicate : Cause
  NoZero : Cause

-- the cause that a fault tells; out of memory tells none
abbrev pub cause_of : ConfigFault → Option Cause
cause_of fault.Text = Some Text
cause_of (fault.Field key) = Some (Field (string_bytes key))
cause_of fault.Range = Some Range
cause_of fault.Duplicate = Some Duplicate
cause_of fault.NoZero = Some NoZero
cause_of fault.Memory = None

-- the cause for which a setup is refused
abbrev pub cause_of_setup : SetupFault → Cause
cause_of_setup refused.Range = Range
cause_of_setup refused.Duplicate = Duplicate
cause_of_setup refused.NoZero = NoZero

-- the number under which a fault is reported
abbrev pub config_fault_number : ConfigFault → ℕ
config_fault_number fault.Text = 51
config_fault_number (fault.Field key) = 52
config_fault_number fault.Range = 53
config_fault_number fault.Duplicate = 54
config_fault_number fault.NoZero = 55
config_fault_number fault.Memory = 56

-- the fault tells this cause, if it tells one
abbrev pub NamesCause : ConfigFault → Cause → Type 0
NamesCause fault this = (cause : Cause) → cause_of fault ≡ Some cause → cause ≡ this

-- the cause that the fault tells, if it tells one, is the one for which the reading ends
abbrev pub EndsFor : {A : Type 0} → ConfigFault → Result A Cause → Type 0
EndsFor fault reading = (cause : Cause) → cause_of fault ≡ Some cause → reading ≡ Err cause

-- the result, seen by the view, is what the reading gives; its fault is the reading's, or out of memory
abbrev pub GivesBy : {A B : Type 0} → (A → B) → Result A ConfigFault → Result B Cause → Type 0
GivesBy view (Ok value) reading = reading ≡ Ok (view value)
GivesBy view (Err fault) reading = EndsFor fault reading
