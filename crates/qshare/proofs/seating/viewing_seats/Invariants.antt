use Rattle.std.proofs.Common.{◌≡◌, ◌+◌, []}
use Rattle.qplain.specs.Journal.{no_tally}
use Rattle.qshare.specs.Seats.{seats_of}
use Rattle.qshare.proofs.seating.viewing_seats.Given as goal

abbrev pub invariant-loop-before : goal.invariant-loop-before
invariant-loop-before g l = (l.publisher ≡ []) × (l.all.tally ≡ no_tally) × (l.all.parts + l.before ≡ l.count) × (l.seats.items ≡ seats_of l.before)
