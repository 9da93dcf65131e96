use Rattle.std.proofs.Common.{◌≡◌, ◌∙◌, Some, None, map, codes, refl, sym}
use Rattle.clap.specs.Words.{all_of, found_of, rows_of}
use Rattle.qtext_job.proofs.JobLaws.{all_in_rows}
use Rattle.qtext_job.proofs.job.checked.Goals as goal

pub returns-in-Some : goal.returns-in-Some
returns-in-Some c =
    let given : all_of (codes "scripts") (rows_of (found_of c.args.matches.now)) ≡ Some (map (λ w. w.now) c.in-Some.names.now) =
    sym (all_in_rows (found_of c.args.matches.now) _) ∙ sym c.get_strs.ensures ∙ rw c.in-Some.is refl in
    rw given c.copies.ensures

pub returns-in-None : goal.returns-in-None
returns-in-None c =
    let given : all_of (codes "scripts") (rows_of (found_of c.args.matches.now)) ≡ None =
    sym (all_in_rows (found_of c.args.matches.now) _) ∙ sym c.get_strs.ensures ∙ rw c.in-None.is refl in
    rw (given, c.new.ensures.items) refl
