use Rattle.std.proofs.Common.{inl, inr, map}
use Rattle.std.specs.Prelude.{string_bytes}
use Rattle.qtext_job.proofs.Asked.{asked_some}
use Rattle.qtool.proofs.Endings.{printed_help, untouched_by_ending, untouched_by_words}
use Rattle.qtool.proofs.program.tool.Goals as goal

pub do_job-requires-clause-some : goal.do_job-requires-clause-some
do_job-requires-clause-some g c κs within =
    asked_some (map (λ w. string_bytes w) c.args.words.now) c.in-Ok.job c.in-Ok.ensures.job

pub returns-in-Ok-do_job-clause-printed : goal.returns-in-Ok-do_job-clause-printed
returns-in-Ok-do_job-clause-printed g c = λ done. inr (c.in-Ok.job, c.in-Ok.ensures.job, c.in-Ok-do_job.ensures.printed)

pub returns-in-Ok-clause-untouched : goal.returns-in-Ok-clause-untouched
returns-in-Ok-clause-untouched g c =
    untouched_by_words (map (λ w. string_bytes w) c.args.words.now) c.in-Ok.job c.tell.result _ _ c.in-Ok.ensures.job
    (untouched_by_ending c.in-Err-do_job.ending c.in-Ok.job c.tell.result _ _ c.in-Err-do_job.ensures.left c.tell.ensures.refusal)

pub returns-clause-printed : goal.returns-clause-printed
returns-clause-printed g c =
    λ done. inl (printed_help (map (λ w. string_bytes w) c.args.words.now) c.in-Err.fault c.tell_words.result c.in-Err.ensures.refused
    c.tell_words.ensures.status done)
