use Rattle.std.proofs.Common.{List, map}
use Rattle.std.proofs.lemmas.List.{take_all}
use Rattle.qtext_job.specs.declared.pair.Pair.{Pair}
use Rattle.qtext_job.specs.Pairs.{ArePairs}
use Rattle.qtext_job.proofs.JobLaws.{passed_on}
use Rattle.qtext_job.proofs.PairLaws.{pair_at, pairs_more}
use Rattle.qtext_job.proofs.pair.pairs_of.Goals as goal

pub loop-word-init : goal.loop-word-init
loop-word-init c = rw c.new-pairs.ensures.items tt

pub returns-in_err-pair_of-clause-err : goal.returns-in_err-pair_of-clause-err
returns-in_err-pair_of-clause-err c =
    passed_on c.from_residual.result _ ((pairs : List Pair) × ArePairs (map (λ w. w.now) c.args.words.now) pairs)
    c.in_err-pair_of.field-0.0 c.from_residual.ensures.1 c.in_err-pair_of.ensures.err
    (λ all. pair_at c.args.words.now c.loop-word.word-index _ all.0 c.loop-word-test.true all.1)

pub loop-word-preserved : goal.loop-word-preserved
loop-word-preserved c = rw c.in_ok-push.ensures.items (pairs_more c.args.words.now c.loop-word.word-index _ _ _
    c.loop-word-test.true c.loop-word.invariant c.in_ok-pair_of.ensures.ok)

pub returns-clause-ok : goal.returns-clause-ok
returns-clause-ok c = rw (take_all _ _ c.loop-word-test.false) at c.loop-word.invariant
