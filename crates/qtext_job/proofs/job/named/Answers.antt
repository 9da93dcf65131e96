use Rattle.std.proofs.Common.{◌≡◌, ◌∙◌, None, refl, sym}
use Rattle.clap.specs.Words.{first_of, found_of, rows_of}
use Rattle.qtext_job.proofs.JobLaws.{first_in_rows, unless_there}
use Rattle.qtext_job.proofs.job.named.Goals as goal

pub returns-in_ok-from_str-in-Some-clause-ok : goal.returns-in_ok-from_str-in-Some-clause-ok
returns-in_ok-from_str-in-Some-clause-ok c = sym (first_in_rows (found_of c.args.matches.now) c.args.id.now)
    ∙ sym c.get_str.ensures ∙ rw (c.in-Some.is, c.in_ok-from_str-in-Some.ensures.ok) refl

pub returns-in-None-clause-err : goal.returns-in-None-clause-err
returns-in-None-clause-err c =
    let none : first_of c.args.id.now (rows_of (found_of c.args.matches.now)) ≡ None =
    sym (first_in_rows (found_of c.args.matches.now) c.args.id.now) ∙ sym c.get_str.ensures
    ∙ rw c.in-None.is refl in
    unless_there _ c.missing.result none c.missing.ensures
