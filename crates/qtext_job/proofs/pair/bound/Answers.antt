use Rattle.qtext_job.proofs.PairLaws.{is_bound, no_caller, no_equals, only_names}
use Rattle.qtext_job.proofs.pair.bound.Goals as goal

pub returns-in_default-clause-unbound : goal.returns-in_default-clause-unbound
returns-in_default-clause-unbound c = λ none. no_equals c.args.word.now c.split_once.result c.split_once.ensures.cases c.in_default.not-Some

pub returns-in-Ok-clause-bound : goal.returns-in-Ok-clause-bound
returns-in-Ok-clause-bound c =
    is_bound c.args.word.now c.in-Ok.caller (c.in-Some.before, c.in-Some.names) (rw c.in-Some.is at c.split_once.ensures.cases)
    (rw c.as_bytes.ensures.value at c.in-Ok.ensures)

pub returns-in-Ok-clause-only : goal.returns-in-Ok-clause-only
returns-in-Ok-clause-only c =
    only_names c.args.word.now (c.in-Some.before, c.in-Some.names) (rw c.in-Some.is at c.split_once.ensures.cases)

pub returns-in-Err-Fault-clause-unbound : goal.returns-in-Err-Fault-clause-unbound
returns-in-Err-Fault-clause-unbound c = λ none.
    no_caller c.args.word.now (c.in-Some.before, c.in-Some.names) (rw c.in-Some.is at c.split_once.ensures.cases) c.in-Err-Fault.field-0-0
    (rw (c.in-Err-Fault.field-0-is, c.as_bytes.ensures.value) at c.in-Err-Fault.ensures)
