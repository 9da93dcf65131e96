-- How it is kept where answers stand. No public clause cites this module.
use Rattle.std.specs.Prelude.{ℕ, ◌<◌, List, length, slice_get, Option, None, Some, Result, Ok, Err}
use Rattle.qrun_replay.specs.declared.failed_line.FailedLine.{FailedLine}
use Rattle.qrun_replay.specs.declared.places.Kept.{Kept}
use Rattle.qrun_replay.specs.declared.places.Kept.TheVariants.{Failed, Journaled}
use Rattle.qrun_replay.specs.declared.places.Stand.{Stand}
use Rattle.qrun_replay.specs.declared.places.Stand.TheVariants.{Failed as SeenFailed, Journaled as SeenJournaled}

-- beside this failed line; where there is none, which is so of no answer, at no place
abbrev pub beside : Option FailedLine → Result ℕ FailedLine
beside (Some failed) = Err failed
beside None = Ok 0

-- where an answer stands that is kept so, beside these failed lines
abbrev pub stand_of : List FailedLine → Kept → Result ℕ FailedLine
stand_of failed (Journaled place) = Ok place
stand_of failed (Failed index) = beside (slice_get failed index)

-- its failed line is one of these
abbrev pub IsThere : List FailedLine → Kept → Type 0
IsThere failed (Journaled place) = Unit {0}
IsThere failed (Failed index) = index < length failed

-- where an answer stands that is told so
abbrev pub stand_seen : Stand → Result ℕ FailedLine
stand_seen (SeenJournaled place) = Ok place
stand_seen (SeenFailed failed) = Err failed.now
