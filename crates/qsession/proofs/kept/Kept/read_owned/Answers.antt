use Rattle.std.proofs.Common.{Some, length}
use Rattle.qplain.specs.declared.call.Call.TheVariants.{Read}
use Rattle.qstore_journaled.specs.Lines.{line_of}
use Rattle.qsession.specs.Answers.{tells_bytes}
use Rattle.qsession.specs.Holdings.{holding_of}
use Rattle.qsession.proofs.Calling.{passes}
use Rattle.qsession.proofs.kept.Kept.read_owned.Goals as goal

pub put_answer-requires : goal.put_answer-requires
put_answer-requires c =
    let x = c.args in
    let room = length x.buffer.now in
    let line = line_of x.cred.now x.moment (Read x.path x.off room) in
    passes (tells_bytes room) (Some (holding_of x.self.now)) (Some (holding_of c.call-answer.new.self)) line c.call-answer.result
    (λ S. c.replies_are_of_their_kind.ensures.reads S line.cred line.moment x.path x.off room) c.call-answer.ensures.ok
