-- What a file must not be written over.
use Rattle.std.specs.Prelude.{ℕ, ◌≤◌}
use Rattle.qtool_files.specs.declared.overwriting.Overwritten.{Overwritten}
use Rattle.qtool_files.specs.declared.overwriting.Overwritten.TheVariants.{Config, Script, Output}

-- a script that is told is one of so many, numbered from 1
abbrev pub IsScriptOf : ℕ → Overwritten → Type 0
IsScriptOf scripts Config = Unit {0}
IsScriptOf scripts (Script number) = (1 ≤ number) × (number ≤ scripts)
IsScriptOf scripts Output = Unit {0}
