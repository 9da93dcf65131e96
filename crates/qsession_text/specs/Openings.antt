-- What opening a session comes to.
use Rattle.std.specs.Prelude.{◌≡◌, ◌≤◌, ℕ, Bool, true, false, if◌then◌else◌, List, [], Option, Some, None, Result}
use Rattle.std.specs.Prelude.{Ok, Err, length, take}
use Rattle.std.specs.Str.{is_utf8}
use Rattle.qplain.specs.Setups.{IsSetupOf, Setting}
use Rattle.qtext_config.specs.ConfigFaults.{Cause, Duplicate, Field, NoZero, Range, Text}
use Rattle.qtext_config.specs.Configs.{setting_in}
use Rattle.qsession.specs.Holdings.{Holding, new_journaled, new_plain}

-- the setting that bytes write, or the first cause for which they write none; those that are no UTF-8 are no text
abbrev pub config_in : List ℕ → Result Setting Cause
config_in bytes = if is_utf8 bytes then setting_in bytes else Err Text

-- the text writes a setting, and the setup is of it
abbrev pub IsRead : Setting → Result Setting Cause → Type 0
IsRead setup (Ok given) = IsSetupOf given setup
IsRead setup (Err cause) = ⊥

-- what a new store holds, with an empty journal or without one
abbrev pub new_kept : Bool → Setting → Holding
new_kept true = new_journaled
new_kept false = new_plain

-- what is held is what a new store of some setup of the given setting holds
pub record IsBegun (new : Setting → Holding) (given : Setting) (h : Holding) : Type 0 where
  pub setting : Setting
  pub of_given : IsSetupOf given setting
  pub begins : h ≡ new setting

-- the session is open, the text writes a setting, and what is held begins with a setup of it
abbrev pub IsOpened : (Setting → Holding) → Option Holding → Result Setting Cause → Type 0
IsOpened new (Some h) (Ok given) = IsBegun new given h
IsOpened new (Some h) (Err cause) = ⊥
IsOpened new None read = ⊥

-- the number of a cause
abbrev pub cause_code : Cause → ℕ
cause_code Text = 51
cause_code (Field key) = 52
cause_code Range = 53
cause_code Duplicate = 54
cause_code NoZero = 55

-- the key that a cause names: a field's, and else none
abbrev pub key_of : Cause → List ℕ
key_of (Field key) = key
key_of cause = []

-- a cause is told by its number, and its key at the front of a buffer that has room for it; how long it is, in any case
pub record IsRefused (cause : Cause) (buffer : List ℕ) (len number : ℕ) : Type 0 where
  pub number_is : number ≡ cause_code cause
  pub len_is : len ≡ length (key_of cause)
  pub key : len ≤ length buffer → take len buffer ≡ key_of cause

-- the number tells what the text is read as: 0 a setting, and another the cause for which it writes none
abbrev pub IsReadingTold : Result Setting Cause → List ℕ → ℕ → ℕ → Type 0
IsReadingTold (Ok given) buffer len number = number ≡ 0
IsReadingTold (Err cause) buffer len number = IsRefused cause buffer len number
