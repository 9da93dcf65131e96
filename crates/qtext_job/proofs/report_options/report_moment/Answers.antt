use Rattle.std.proofs.Common.{◌≡◌, true, false, refl, ◌∙◌}
use Rattle.clap.specs.Words.{found_of, rows_of}
use Rattle.qtext_job.proofs.TellingLaws.{no_moment_there}
use Rattle.qtext_job.proofs.report_options.report_moment.Goals as goal

pub returns-in-None-clause-err : goal.returns-in-None-clause-err
returns-in-None-clause-err c = no_moment_there (rows_of (found_of c.args.matches.now)) c.no_moment.result
    (λ n. c.number_at.ensures.none (rw c.in-None.is refl) n)
    (λ last. let is : c.is_word_at.result ≡ true = c.is_word_at.ensures ∙ last in
    let not : c.is_word_at.result ≡ false = c.if-is_word_at.false in absurd cc) c.no_moment.ensures
