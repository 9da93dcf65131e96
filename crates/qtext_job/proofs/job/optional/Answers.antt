use Rattle.std.proofs.Common.{◌∙◌, refl, sym}
use Rattle.clap.specs.Words.{found_of}
use Rattle.qtext_job.proofs.JobLaws.{first_in_rows}
use Rattle.qtext_job.proofs.job.optional.Goals as goal

pub returns-in_ok-from_str-in-Some : goal.returns-in_ok-from_str-in-Some
returns-in_ok-from_str-in-Some c = sym (first_in_rows (found_of c.args.matches.now) c.args.id.now)
    ∙ sym c.get_str.ensures ∙ rw (c.in-Some.is, c.in_ok-from_str-in-Some.ensures.ok) refl

pub returns-in-None : goal.returns-in-None
returns-in-None c = sym (first_in_rows (found_of c.args.matches.now) c.args.id.now)
    ∙ sym c.get_str.ensures ∙ rw c.in-None.is refl
