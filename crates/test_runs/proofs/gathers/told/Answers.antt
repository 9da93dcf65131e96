use Rattle.std.proofs.Common.{◌∙◌}
use Rattle.test_runs.proofs.Alone.{one_apart}
use Rattle.test_runs.proofs.gathers.told.Goals as goal

pub gather-requires-clause-apart : goal.gather-requires-clause-apart
gather-requires-clause-apart c =
    one_apart c.deref.result.now c.in_ok-transcript.transcript (c.deref.ensures.value ∙ c.in_ok-transcripts.ensures.items)
