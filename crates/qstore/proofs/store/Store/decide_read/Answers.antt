use Rattle.std.proofs.Common.{sym, ap, ◌∙◌}
use Rattle.qplain.specs.declared.reply.Reply.TheVariants.{Bytes}
use Rattle.qplain.specs.Step.{settle}
use Rattle.qblocks.specs.File.{read_at}
use Rattle.qstore.proofs.Deciding.{bytes-unrefused}
use Rattle.qstore.proofs.store.Store.decide_read.Goals as goal

pub returns-in-Err-clause-step : goal.returns-in-Err-clause-step
returns-in-Err-clause-step c cred moment =
    let x = c.args in
    sym (ap (settle x.self.now.state cred moment) (c.in-Err.ensures.fault x.off x.len))

pub returns-in_err-read-in-Ok-clause-refused_first : goal.returns-in_err-read-in-Ok-clause-refused_first
returns-in_err-read-in-Ok-clause-refused_first c cred moment =
    let x = c.args in
    bytes-unrefused x.self.now.state cred moment _ (read_at c.in-Ok.file.now.file x.off x.len) (c.in-Ok.ensures.found x.off x.len)

pub returns-in_err-new-in-Ok-clause-refused_first : goal.returns-in_err-new-in-Ok-clause-refused_first
returns-in_err-new-in-Ok-clause-refused_first c cred moment =
    let x = c.args in
    bytes-unrefused x.self.now.state cred moment _ (read_at c.in-Ok.file.now.file x.off x.len) (c.in-Ok.ensures.found x.off x.len)

pub returns-in_ok-new-in-Ok-clause-step : goal.returns-in_ok-new-in-Ok-clause-step
returns-in_ok-new-in-Ok-clause-step c cred moment =
    let x = c.args in
    let bytes = c.in_ok-new-in-Ok.ensures ∙ c.in_ok-read-in-Ok.ensures in
    (λ i. (x.self.now.state, Bytes (bytes i))) ∙ sym (ap (settle x.self.now.state cred moment) (c.in-Ok.ensures.found x.off x.len))
