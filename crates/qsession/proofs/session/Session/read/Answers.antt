use Rattle.std.proofs.Common.{length}
use Rattle.qsession.specs.BorrowedCalls.{read_of}
use Rattle.qsession.specs.Holdings.{held_in}
use Rattle.qsession.specs.ReadReplies.{answer_with}
use Rattle.qsession.proofs.Calling.{called}
use Rattle.qsession.proofs.session.Session.read.Goals as goal

pub returns-clause-called : goal.returns-clause-called
returns-clause-called c =
    let x = c.args in
    let buffer = c.ask_bytes.new.buffer in
    called (held_in x.self.now.slot.kept) (held_in c.ask_bytes.new.self.slot.kept) x.context (read_of x.from (length x.buffer.now))
    (answer_with buffer c.ask_bytes.result) _ (c.tell_read.ensures.code buffer) c.ask_bytes.ensures.answered

pub returns-clause-room : goal.returns-clause-room
returns-clause-room c zero = c.tell_read.ensures.room (length c.args.buffer.now) c.ask_bytes.ensures.room zero
