use Rattle.std.proofs.Common.{ap, length, refl, ◌∙◌}
use Rattle.qaudit_checks.specs.OwnRows.{differences_in}
use Rattle.qsession.specs.Holdings.{holding_of}
use Rattle.qsession_text.proofs.Answering.{tells}
use Rattle.qsession_text.proofs.audit.tell_audit.Goals as goal

pub returns-in-Ok-clause-differences : goal.returns-in-Ok-clause-differences
returns-in-Ok-clause-differences c =
    let found = c.in-Ok.ensures.differences ∙ ap (λ S. length (differences_in S)) c.store.ensures in
    tells (holding_of c.args.kept.now) 0 _ (refl, found)
