use Rattle.std.proofs.Common.{◌≡◌, ◌⊎◌, true, refl, ap, subst, ◌∙◌, List, [], map, string_bytes, inl}
use Rattle.std.specs.Prelude.{Option}
use Rattle.clap.specs.declared.error.kind.ErrorKind.TheVariants.{OutOfMemory}
use Rattle.clap.specs.Words.{App, IsAmong, Row, Text, app_of, fault_of, is_simple, is_simple_and_free, kind_of, subcommand_of, subcommand_rows_of}
use Rattle.clap.proofs.OnLiterals.{clap_on_literals}
use Rattle.qtext_job.specs.Commands.{quotafs}
use Rattle.qtext_job.proofs.JobLaws.{asked, not_asked, told_among}
use Rattle.qtext_job.proofs.job.Job.read.Goals as goal

is_plain : is_simple quotafs ≡ true
unfolding clap_on_literals
is_plain = refl

is_free : is_simple_and_free quotafs ≡ true
unfolding clap_on_literals
is_free = refl

-- the rows of the command are those of the command line
same_rows : (rows : Option (Text × List Row)) (a : App) (words : List Text) → a ≡ quotafs → rows ≡ subcommand_of a words → rows ≡ subcommand_of quotafs words
same_rows rows a words shape same = same ∙ ap (λ (b : App). subcommand_of b words) shape

pub returns-in-Err-clause-refused : goal.returns-in-Err-clause-refused
returns-in-Err-clause-refused c =
    let shape : app_of c.in_ok-command.command ≡ quotafs = c.in_ok-command.ensures in
    let words : List Text = map (λ w. string_bytes w) c.args.words.now in
    let has = c.in-Err.ensures.kinds (ap is_simple_and_free shape ∙ is_free) in
    let kinds = subst (λ (a : App). (kind_of c.in-Err.error ≡ OutOfMemory) ⊎ IsAmong (kind_of c.in-Err.error) (fault_of a words)) shape has in
    inl (told_among (fault_of quotafs words) (kind_of c.in-Err.error) c.fault.result c.fault.ensures.memory c.fault.ensures.told kinds)

pub returns-in-Ok-clause-job : goal.returns-in-Ok-clause-job
returns-in-Ok-clause-job c =
    let shape : app_of c.in_ok-command.command ≡ quotafs = c.in_ok-command.ensures in
    let words : List Text = map (λ w. string_bytes w) c.args.words.now in
    let free : fault_of quotafs words ≡ [] = subst (λ (a : App). fault_of a words ≡ []) shape (c.in-Ok.ensures.kinds (ap is_simple_and_free shape ∙ is_free)) in
    let rows = same_rows (subcommand_rows_of c.in-Ok.matches) (app_of c.in_ok-command.command) words shape
    (c.in-Ok.ensures.matches (ap is_simple shape ∙ is_plain)).1 in
    asked words (subcommand_rows_of c.in-Ok.matches) c.job_of.result free rows c.job_of.ensures.ok

pub returns-in-Ok-clause-refused : goal.returns-in-Ok-clause-refused
returns-in-Ok-clause-refused c =
    let shape : app_of c.in_ok-command.command ≡ quotafs = c.in_ok-command.ensures in
    let words : List Text = map (λ w. string_bytes w) c.args.words.now in
    let free : fault_of quotafs words ≡ [] = subst (λ (a : App). fault_of a words ≡ []) shape (c.in-Ok.ensures.kinds (ap is_simple_and_free shape ∙ is_free)) in
    let rows = same_rows (subcommand_rows_of c.in-Ok.matches) (app_of c.in_ok-command.command) words shape
    (c.in-Ok.ensures.matches (ap is_simple shape ∙ is_plain)).1 in
    not_asked words (subcommand_rows_of c.in-Ok.matches) c.job_of.result free rows c.job_of.ensures.err
