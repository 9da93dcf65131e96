-- What is wrong in a line of a script.
use Rattle.std.specs.Prelude.{Option, Some, None, Result, Ok, Err, option_map}
use Rattle.qplain.specs.Calls.{refusal_of_arguments}
use Rattle.qplain.specs.Setups.{Setting}
use Rattle.qplain.specs.State.{start}
use Rattle.qplain.specs.declared.line.Line.{Line}
use Rattle.qplain.specs.declared.refusal.Refusal.{Refusal}
use Rattle.qtext.specs.declared.text_fault.TextKind.{TextKind}
use Rattle.qtext_files.specs.RawLines.{RawLine}
use Rattle.qtext_files.specs.Scripts.{script_line_of}
use Rattle.qtext_check.specs.declared.fault.Wrong.{Wrong}
use Rattle.qtext_check.specs.declared.fault.Wrong.TheVariants.{Text, Refused}

-- the refusal of a line for what is written in it, in a new store: it looks at the declared principals alone, which no
-- call changes
abbrev pub written_refusal : Setting → Line → Option Refusal
written_refusal s line = refusal_of_arguments (start s) line.cred line.moment line.call

-- what a store of the setup refuses in a line whatever its state; without a setup nothing is known of that
abbrev pub refused_in : Option Setting → Line → Option Wrong
refused_in None line = None
refused_in (Some s) line = option_map (λ refusal. Refused refusal) (written_refusal s line)

-- what is wrong in a line that was read, or the first thing for which it is none
abbrev pub wrong_by : Option Setting → Result Line TextKind → Option Wrong
wrong_by s (Ok line) = refused_in s line
wrong_by s (Err kind) = Some (Text kind)

-- what is wrong in a line by itself, whatever the lines before it say
abbrev pub wrong_in : Option Setting → RawLine → Option Wrong
wrong_in s l = wrong_by s (script_line_of l)
