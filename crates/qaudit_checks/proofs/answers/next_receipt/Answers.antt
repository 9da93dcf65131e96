use Rattle.std.proofs.Common.{◌∙◌, sym, arith}
use Rattle.qaudit_checks.proofs.Receipts.{failed-at, granted-at, past-all}
use Rattle.qaudit_checks.proofs.answers.next_receipt.Goals as goal

pub loop-at-preserved : goal.loop-at-preserved
loop-at-preserved c = (
  omega (arith, c.loop-at-test.true),
  λ worker lines same. c.loop-at.invariant.1 worker lines same
      ∙ failed-at worker c.loop-at.at lines c.args.answers.now _ c.index-answers-at.result c.index-answers-at.is c.loop-at-test.true same
      (sym c.is_err.ensures.value ∙ c.if-is_err.true),
)

pub returns-else-is_err : goal.returns-else-is_err
returns-else-is_err c = record {
  within = c.loop-at.invariant.0;
  skipped = c.loop-at.invariant.1;
  receipt = granted-at c.loop-at.at c.args.answers.now _ c.index-answers-at.result c.index-answers-at.is c.loop-at-test.true
      (sym c.is_err.ensures.value ∙ c.if-is_err.false);
}

pub returns-after-loop-at : goal.returns-after-loop-at
returns-after-loop-at c = record {
  within = c.loop-at.invariant.0;
  skipped = c.loop-at.invariant.1;
  receipt = past-all c.loop-at.at c.args.answers.now c.loop-at-test.false;
}
