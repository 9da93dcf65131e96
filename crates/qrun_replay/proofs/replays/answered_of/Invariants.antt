use Rattle.std.proofs.Common.{◌≡◌, Ok, take, map}
use Rattle.qplain.specs.Journal.{entries_of}
use Rattle.qrun_replay.proofs.replays.answered_of.Given as goal

abbrev pub invariant-loop-entry : goal.invariant-loop-entry
invariant-loop-entry l = record {
  place : l.place ≡ l.entry-index;
  stands : l.places.stands ≡ map (λ x. Ok x.0) (entries_of (take l.entry-index l.entries) l.worker);
  room : l.places.room ≡ 0;
}
