use Rattle.std.proofs.Common.{◌≡◌, ◌∙◌, Some, None, map, codes, refl, sym}
use Rattle.clap.specs.Words.{all_of, found_of, rows_of}
use Rattle.qtext_job.proofs.JobLaws.{all_in_rows}
use Rattle.qtext_job.proofs.pair.clients.Goals as goal

pub returns-in-Some-clause-ok : goal.returns-in-Some-clause-ok
returns-in-Some-clause-ok c =
    let given : all_of (codes "clients") (rows_of (found_of c.args.matches.now)) ≡ Some (map (λ w. w.now) c.in-Some.words.now) =
    sym (all_in_rows (found_of c.args.matches.now) _) ∙ sym c.get_strs.ensures ∙ rw c.in-Some.is refl in
    rw given c.pairs_of.ensures.ok

pub returns-in-Some-clause-err : goal.returns-in-Some-clause-err
returns-in-Some-clause-err c =
    let given : all_of (codes "clients") (rows_of (found_of c.args.matches.now)) ≡ Some (map (λ w. w.now) c.in-Some.words.now) =
    sym (all_in_rows (found_of c.args.matches.now) _) ∙ sym c.get_strs.ensures ∙ rw c.in-Some.is refl in
    rw given c.pairs_of.ensures.err

pub returns-in-None-clause-ok : goal.returns-in-None-clause-ok
returns-in-None-clause-ok c =
    let given : all_of (codes "clients") (rows_of (found_of c.args.matches.now)) ≡ None =
    sym (all_in_rows (found_of c.args.matches.now) _) ∙ sym c.get_strs.ensures ∙ rw c.in-None.is refl in
    rw (given, c.new.ensures.items) tt
