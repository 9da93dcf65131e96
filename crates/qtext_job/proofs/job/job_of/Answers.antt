use Rattle.std.proofs.Common.{codes, sym, ap, ◌∙◌}
use Rattle.clap.specs.Words.{found_of, rows_of, subcommand_rows_of}
use Rattle.qtext_job.proofs.JobLaws.{job_at, map_first, no_job_at, some_text}
use Rattle.qtext_job.proofs.job.job_of.Goals as goal

pub returns-in-Some-run-default-clause-ok : goal.returns-in-Some-run-default-clause-ok
returns-in-Some-run-default-clause-ok c =
    job_at (subcommand_rows_of c.args.matches.now) (codes "run") (rows_of (found_of c.in-Some-run-default.matches.now)) c.run.result
    (map_first _ _ _ ∙ sym (rw c.in-Some-run-default.is at c.subcommand.ensures.name) ∙ ap some_text c.in-Some-run-default.is-run)
    (sym (rw c.in-Some-run-default.is at c.subcommand.ensures.rows)) c.run.ensures.ok

pub returns-in-Some-run-default-clause-err : goal.returns-in-Some-run-default-clause-err
returns-in-Some-run-default-clause-err c =
    no_job_at (subcommand_rows_of c.args.matches.now) (codes "run") (rows_of (found_of c.in-Some-run-default.matches.now)) c.run.result
    (map_first _ _ _ ∙ sym (rw c.in-Some-run-default.is at c.subcommand.ensures.name) ∙ ap some_text c.in-Some-run-default.is-run)
    (sym (rw c.in-Some-run-default.is at c.subcommand.ensures.rows)) c.run.ensures.err

pub returns-in-Some-serve-default-clause-ok : goal.returns-in-Some-serve-default-clause-ok
returns-in-Some-serve-default-clause-ok c =
    job_at (subcommand_rows_of c.args.matches.now) (codes "serve") (rows_of (found_of c.in-Some-serve-default.matches.now)) c.serve.result
    (map_first _ _ _ ∙ sym (rw c.in-Some-serve-default.is at c.subcommand.ensures.name) ∙ ap some_text c.in-Some-serve-default.is-serve)
    (sym (rw c.in-Some-serve-default.is at c.subcommand.ensures.rows)) c.serve.ensures.ok

pub returns-in-Some-serve-default-clause-err : goal.returns-in-Some-serve-default-clause-err
returns-in-Some-serve-default-clause-err c =
    no_job_at (subcommand_rows_of c.args.matches.now) (codes "serve") (rows_of (found_of c.in-Some-serve-default.matches.now)) c.serve.result
    (map_first _ _ _ ∙ sym (rw c.in-Some-serve-default.is at c.subcommand.ensures.name) ∙ ap some_text c.in-Some-serve-default.is-serve)
    (sym (rw c.in-Some-serve-default.is at c.subcommand.ensures.rows)) c.serve.ensures.err

pub returns-in-Some-replay-default-clause-err : goal.returns-in-Some-replay-default-clause-err
returns-in-Some-replay-default-clause-err c =
    no_job_at (subcommand_rows_of c.args.matches.now) (codes "replay") (rows_of (found_of c.in-Some-replay-default.matches.now)) c.replay.result
    (map_first _ _ _ ∙ sym (rw c.in-Some-replay-default.is at c.subcommand.ensures.name) ∙ ap some_text c.in-Some-replay-default.is-replay)
    (sym (rw c.in-Some-replay-default.is at c.subcommand.ensures.rows)) c.replay.ensures.err

pub returns-in-Some-expand-default-clause-ok : goal.returns-in-Some-expand-default-clause-ok
returns-in-Some-expand-default-clause-ok c =
    job_at (subcommand_rows_of c.args.matches.now) (codes "expand") (rows_of (found_of c.in-Some-expand-default.matches.now)) c.expand.result
    (map_first _ _ _ ∙ sym (rw c.in-Some-expand-default.is at c.subcommand.ensures.name) ∙ ap some_text c.in-Some-expand-default.is-expand)
    (sym (rw c.in-Some-expand-default.is at c.subcommand.ensures.rows)) c.expand.ensures.ok

pub returns-in-Some-expand-default-clause-err : goal.returns-in-Some-expand-default-clause-err
returns-in-Some-expand-default-clause-err c =
    no_job_at (subcommand_rows_of c.args.matches.now) (codes "expand") (rows_of (found_of c.in-Some-expand-default.matches.now)) c.expand.result
    (map_first _ _ _ ∙ sym (rw c.in-Some-expand-default.is at c.subcommand.ensures.name) ∙ ap some_text c.in-Some-expand-default.is-expand)
    (sym (rw c.in-Some-expand-default.is at c.subcommand.ensures.rows)) c.expand.ensures.err

pub returns-in-Some-check-default-clause-ok : goal.returns-in-Some-check-default-clause-ok
returns-in-Some-check-default-clause-ok c =
    job_at (subcommand_rows_of c.args.matches.now) (codes "check") (rows_of (found_of c.in-Some-check-default.matches.now)) c.check.result
    (map_first _ _ _ ∙ sym (rw c.in-Some-check-default.is at c.subcommand.ensures.name) ∙ ap some_text c.in-Some-check-default.is-check)
    (sym (rw c.in-Some-check-default.is at c.subcommand.ensures.rows)) c.check.ensures.ok

pub returns-in-Some-check-default-clause-err : goal.returns-in-Some-check-default-clause-err
returns-in-Some-check-default-clause-err c =
    no_job_at (subcommand_rows_of c.args.matches.now) (codes "check") (rows_of (found_of c.in-Some-check-default.matches.now)) c.check.result
    (map_first _ _ _ ∙ sym (rw c.in-Some-check-default.is at c.subcommand.ensures.name) ∙ ap some_text c.in-Some-check-default.is-check)
    (sym (rw c.in-Some-check-default.is at c.subcommand.ensures.rows)) c.check.ensures.err
