-- A line, put together.
use Rattle.std.specs.Prelude.{ℕ}
use Rattle.qplain.specs.declared.call.Call.{Call}
use Rattle.qplain.specs.declared.line.Line.{Line}
use Rattle.qplain.specs.Caller.{Caller}

-- a caller's call at a moment
abbrev pub line_of : Caller → ℕ → Call → Line
line_of cred moment call = record { cred = cred; moment = moment; call = call }
