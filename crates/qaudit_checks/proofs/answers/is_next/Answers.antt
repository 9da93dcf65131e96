use Rattle.std.proofs.Common.{subst, arith, IfSome, IsOk}
use Rattle.qaudit_checks.proofs.Receipts.{first-told, looked-at, never-told}
use Rattle.qaudit_checks.proofs.answers.is_next.Goals as goal

pub returns-then-at-answers : goal.returns-then-at-answers
returns-then-at-answers c =
    let less = c.if-at-answers.true in
    let here = looked-at c.args.answers.now c.args.at c.index-answers-at.result _ c.index-answers-at.is less in
    let line = looked-at c.args.lines.now c.args.at c.index-lines-at.result _ c.index-lines-at.is (omega (arith, less, c.requires.each)) in
    let told = first-told c.args.entry.now.worker c.args.at c.args.place c.args.lines.now c.args.answers.now _ _ c.args.entry.now line here
    (subst (λ o. IfSome o IsOk) here c.requires.receipt) in
    (λ yes. told.0 (c.stands_for.ensures.0 yes), λ first. c.stands_for.ensures.1 (told.1 first))

pub returns-else-at-answers : goal.returns-else-at-answers
returns-else-at-answers c =
    never-told c.args.entry.now.worker c.args.at c.args.lines.now c.args.answers.now c.args.place c.args.entry.now c.requires.within c.if-at-answers.false
