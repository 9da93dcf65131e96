use Rattle.std.specs.Prelude.{◌≡◌, vec_len}
use Rattle.test_runs.proofs.gathers.transcript.Given as goal

abbrev pub invariant-loop-before : goal.invariant-loop-before
invariant-loop-before l = vec_len l.answers ≡ l.before
