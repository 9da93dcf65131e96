use Rattle.std.proofs.Common.{refl}
use Rattle.clap.specs.Words.{found_of}
use Rattle.qtext_job.proofs.JobLaws.{first_in_rows}
use Rattle.qtext_job.proofs.report_options.is_word_at.Goals as goal

pub returns-in-Some : goal.returns-in-Some
returns-in-Some c = rw (← first_in_rows (found_of c.args.matches.now) c.args.id.now, ← c.get_str.ensures, c.in-Some.is) c.eq.ensures

pub returns-in-None : goal.returns-in-None
returns-in-None c = rw (← first_in_rows (found_of c.args.matches.now) c.args.id.now, ← c.get_str.ensures, c.in-None.is) refl
