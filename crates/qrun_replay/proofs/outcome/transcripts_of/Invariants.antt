use Rattle.std.proofs.Common.{◌≡◌, ◌+◌, ◌≤◌, List, ◌++◌, All, map}
use Rattle.std.specs.Vec.{vec_capacity, vec_len}
use Rattle.std.specs.Vec.Iter.{into_iter_items, into_iter_len}
use Rattle.qrun_replay.specs.declared.answered.Answered.{Answered}
use Rattle.qrun_replay.specs.Placed.{HoldsPlaces, transcript_from}
use Rattle.qrun_replay.proofs.outcome.transcripts_of.Given as goal

abbrev pub invariant-loop-one : goal.invariant-loop-one
invariant-loop-one l =
    ((done : List Answered) × (done ++ into_iter_items l.one-iterator ≡ l.fn.answered.items)
    × (l.transcripts.items ≡ map (transcript_from l.journal.entries) done))
    × All (HoldsPlaces l.journal.entries) (into_iter_items l.one-iterator)
    × (vec_len l.transcripts + into_iter_len l.one-iterator ≤ vec_capacity l.transcripts)
