use Rattle.std.proofs.Common.{sym}
use Rattle.qtext_job.proofs.PairLaws.{is_cut, no_colon, no_input, no_output}
use Rattle.qtext_job.proofs.pair.cut.Goals.{in_default-via-in-Some+then-not-is_empty+else-not-is_empty-2, in_default-via-in-Some+else-not-is_empty, in_default-via-in_default}
use Rattle.qtext_job.proofs.pair.cut.Goals as goal

pub returns-in-Some-clause-cut : goal.returns-in-Some-clause-cut
returns-in-Some-clause-cut c =
    is_cut c.args.word.now (c.in-Some.input, c.in-Some.output) (rw c.in-Some.is at c.split_once.ensures.cases)
    (sym c.if-not-is_empty.ensures) (sym c.if-not-is_empty-2.ensures)

pub returns-in_default-clause-uncut : goal.returns-in_default-clause-uncut
returns-in_default-clause-uncut c none = elim c.in_default.branch [
  | in_default-via-in-Some+then-not-is_empty+else-not-is_empty-2 w ↦
      no_output c.args.word.now (w.in-Some.input, w.in-Some.output) (rw w.in-Some.is at c.split_once.ensures.cases)
      (sym w.if-not-is_empty-2.ensures)
  | in_default-via-in-Some+else-not-is_empty w ↦
      no_input c.args.word.now (w.in-Some.input, w.in-Some.output) (rw w.in-Some.is at c.split_once.ensures.cases)
      (sym w.if-not-is_empty.ensures)
  | in_default-via-in_default w ↦
      no_colon c.args.word.now c.split_once.result c.split_once.ensures.cases w.in_default.not-Some
]
