-- What a report of a session says, and what an audit of it finds.
use Rattle.std.specs.Prelude.{ℕ, List, length, Option, Some, None, Result, Ok, Err}
use Rattle.qaudit.specs.Reports.{report_text}
use Rattle.qaudit_checks.specs.OwnRows.{differences_in, record_rows}
use Rattle.qsession.specs.declared.fault.Fault.{Fault}
use Rattle.qsession.specs.declared.fault.Fault.TheVariants.{Closed}
use Rattle.qsession.specs.Holdings.{Holding}

-- the report of a session's records as of a moment; a closed one has none
abbrev pub report_in : Option Holding → ℕ → Result (List ℕ) Fault
report_in None moment = Err Closed
report_in (Some h) moment = Ok (report_text (record_rows h.state) moment)

-- how many differences a recount of a session's inodes and names finds from its records; of a closed one there is none
abbrev pub audit_in : Option Holding → Result ℕ Fault
audit_in None = Err Closed
audit_in (Some h) = Ok (length (differences_in h.state))
