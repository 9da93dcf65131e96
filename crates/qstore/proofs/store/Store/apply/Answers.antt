use Rattle.std.proofs.Common.{All, sym, subst, ap, ◌∙◌}
use Rattle.qplain.specs.declared.reply.Reply.{Reply}
use Rattle.qplain.specs.State.{State}
use Rattle.qplain_laws.specs.Laws.{PassesNoLimit}
use Rattle.qplain_laws.proofs.Within.{limits_hold}
use Rattle.qstore.proofs.store.Store.apply.Goals as goal

pub returns-clause-limits : goal.returns-clause-limits
returns-clause-limits c other =
    let x = c.args in
    let S = x.self.now.state in
    let after = sym (c.commit.ensures ∙ ap (λ (told : State × Reply). told.0) c.in_ok-reply.ensures.step) in
    subst (λ T. All (PassesNoLimit S T x.moment) S.holders) after (limits_hold S x.cred.now x.moment x.call.now other)
