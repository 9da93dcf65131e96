-- What words that ask for a job say of it.
use Rattle.std.proofs.Common.{List, Option, Some, None, arith}
use Rattle.std.specs.Prelude.{string_bytes}
use Rattle.std.proofs.lemmas.List.{length-map}
use Rattle.clap.specs.Words.{Row, Text, subcommand_of}
use Rattle.qtext_job.specs.declared.job.Job.{Job}
use Rattle.qtext_job.specs.declared.job.Job.TheVariants.{Run, Serve, Replay, Expand, Check}
use Rattle.qtext_job.specs.Commands.{quotafs}
use Rattle.qtext_job.specs.Jobs.{HasScript, IsAskedBy, IsJobOf, IsNamedBy}

named_some : (name : Text) (rows : List Row) (job : Job) → IsNamedBy name rows job → HasScript job
named_some name rows (Run run) is =
    let some = is.7.1 in
    omega (arith, some, length-map run.scripts.items (λ s. string_bytes s))
named_some name rows (Replay replay) is = tt
named_some name rows (Serve serve) is = tt
named_some name rows (Expand expand) is = tt
named_some name rows (Check check) is = tt

job_some : (named : Option (Text × List Row)) (job : Job) → IsJobOf named job → HasScript job
job_some None job is = absurd is
job_some (Some p) job is = named_some p.0 p.1 job is

-- a run that is asked for has a script
pub asked_some : (words : List Text) (job : Job) → IsAskedBy words job → HasScript job
asked_some words job is = job_some (subcommand_of quotafs words) job is.1
