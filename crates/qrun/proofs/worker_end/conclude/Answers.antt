use Rattle.std.proofs.Common.{◌≡◌, ◌+◌, ◌-◌, arith, refl, sym, subst, slice_index_or, take, take_all}
use Rattle.qrun.specs.declared.worker_end.WorkerEnd.TheVariants.{Done, NotStarted}
use Rattle.qrun.specs.WorkerEnds.{AreDone}
use Rattle.qrun.proofs.worker_end.conclude.Goals as goal

pub returns-in-NotStarted-clause-err : goal.returns-in-NotStarted-clause-err
returns-in-NotStarted-clause-err c =
    let ends = c.args.ends.now in
    let place : c.loop-end.worker + 1 - 1 ≡ c.loop-end.end-index = omega (arith, c.loop-end.invariant.0) in
    record {
      there = (omega (arith), omega (arith, c.loop-end.invariant.0, c.loop-end-test.true));
      refused = subst (λ k. slice_index_or ends k Done ≡ NotStarted) (sym place) c.in-NotStarted.is;
      before = subst (λ k. AreDone (take k ends)) (sym place) c.loop-end.invariant.1;
    }

pub returns-clause-ok : goal.returns-clause-ok
returns-clause-ok c =
    let all = take_all c.loop-end.end-index c.args.ends.now c.loop-end-test.false in
    (λ _. subst AreDone all c.loop-end.invariant.1, λ _. refl)
