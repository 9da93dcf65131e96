use Rattle.std.proofs.Common.{Ok, ap}
use Rattle.qtext_job.proofs.PairLaws.{IsCut, cut_of_bound, cut_of_free, free_pairs, unless_cut}
use Rattle.qtext_job.proofs.pair.pair_of.Goals as goal

pub returns-in-Some-clause-err : goal.returns-in-Some-clause-err
returns-in-Some-clause-err c =
    let word = c.args.word.now in
    unless_cut (IsCut c.in-Some.names.now) word c.pair_from.result
    (cut_of_bound word c.in-Some.caller c.in-Some.names.now (rw c.in-Some.is at c.in_ok-caller.ensures.bound)
    (rw c.in-Some.is at c.in_ok-caller.ensures.only)) c.pair_from.ensures.err

pub returns-in-None-clause-ok : goal.returns-in-None-clause-ok
returns-in-None-clause-ok c =
    free_pairs c.args.word.now c.pair_from-in-None.result (c.in_ok-caller.ensures.unbound (ap Ok c.in-None.is)) c.pair_from-in-None.ensures.ok

pub returns-in-None-clause-err : goal.returns-in-None-clause-err
returns-in-None-clause-err c =
    let word = c.args.word.now in
    unless_cut (IsCut word) word c.pair_from-in-None.result (cut_of_free word (c.in_ok-caller.ensures.unbound (ap Ok c.in-None.is)))
    c.pair_from-in-None.ensures.err
