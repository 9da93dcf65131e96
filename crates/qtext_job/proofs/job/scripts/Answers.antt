use Rattle.std.proofs.Common.{◌≡◌, ◌∙◌, Some, None, map, codes, refl, sym}
use Rattle.clap.specs.Words.{found_of, rows_of}
use Rattle.qtext_job.proofs.JobLaws.{all_in_rows, no_names, no_scripts, some_names}
use Rattle.qtext_job.proofs.job.scripts.Goals.{in_default-via-in-Some+else-not-is_empty, in_default-via-in_default}
use Rattle.qtext_job.proofs.job.scripts.Goals as goal

pub returns-in_ok-copies-in-Some-clause-ok : goal.returns-in_ok-copies-in-Some-clause-ok
returns-in_ok-copies-in-Some-clause-ok c = (
  sym (all_in_rows (found_of c.args.matches.now) _) ∙ sym c.get_strs.ensures ∙ rw (c.in-Some.is, c.in_ok-copies-in-Some.ensures) refl,
  some_names _ c.in-Some.names.now c.in_ok-copies-in-Some.ensures (sym c.if-not-is_empty.ensures),
)

pub returns-in_default-clause-err : goal.returns-in_default-clause-err
returns-in_default-clause-err c = no_scripts (rows_of (found_of c.args.matches.now)) c.missing.result
    (λ ts is.
    let given = c.get_strs.ensures ∙ all_in_rows (found_of c.args.matches.now) (codes "scripts") ∙ is in
    elim c.in_default.branch [
      | in_default-via-in-Some+else-not-is_empty w ↦
          let same : Some (map (λ s. s.now) w.in-Some.names.now) ≡ Some ts = rw w.in-Some.is at given in
          let texts : map (λ s. s.now) w.in-Some.names.now ≡ ts = cc in
          no_names ts w.in-Some.names.now texts (sym w.if-not-is_empty.ensures)
      | in_default-via-in_default w ↦
          let none : None ≡ Some ts = rw w.in_default.is at given in
          absurd cc
    ]) c.missing.ensures
