use Rattle.std.proofs.Common.{◌≡◌, map}
use Rattle.std.specs.List.{range_with_len}
use Rattle.qrun_replay.specs.Replays.{answered_in}
use Rattle.qrun_replay.proofs.replays.all_answered.Given as goal

abbrev pub invariant-loop-before : goal.invariant-loop-before
invariant-loop-before l = l.all.items ≡ map (answered_in l.entries) (range_with_len 1 l.before)
