use Rattle.std.proofs.Common.{length, ap, ◌∙◌}
use Rattle.qplain.specs.declared.reply.Reply.TheVariants.{Refused}
use Rattle.qstore.specs.Stored.{Stored}
use Rattle.qstore_journaled.specs.Lines.{line_of}
use Rattle.qsession.specs.BorrowedCalls.{read_of}
use Rattle.qsession.proofs.Committing.{stepped_plain}
use Rattle.qsession.proofs.kept.Kept.read.Goals as goal

pub returns-in-Err-clause-ok : goal.returns-in-Err-clause-ok
returns-in-Err-clause-ok c =
    let x = c.args in
    let line = line_of x.cred.now x.moment (read_of x.from (length x.buffer.now)) in
    let refused = Refused c.in-Err.refusal in
    stepped_plain x.self.now c.in-Plain.store c.read_into.new.self.state line refused c.in-Plain.is
    (ap (λ (v : Stored). (v.state, refused)) c.in-Err.ensures.same ∙ c.in-Err.ensures.read.refused)
