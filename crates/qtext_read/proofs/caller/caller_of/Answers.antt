use Rattle.std.proofs.Common.{rules}
use Rattle.qtext.specs.Reading.{each_of}
use Rattle.qtext_read.specs.Callers.{caller_by, caller_from, caller_in, few_groups_of}
use Rattle.qtext_read.proofs.caller.caller_of.Goals as goal

pub returns-in_err-uid : goal.returns-in_err-uid
unfolding caller_in caller_from
returns-in_err-uid c = rw c.first_part.ensures.parts (search rules)

pub returns-in-Some : goal.returns-in-Some
unfolding caller_in caller_from
returns-in-Some c = rw c.first_part.ensures.parts (search rules)

pub returns-in-Some-2 : goal.returns-in-Some-2
unfolding caller_in caller_from caller_by few_groups_of each_of
returns-in-Some-2 c = rw (c.first_part.ensures.parts, c.in-None.is) (search rules)
