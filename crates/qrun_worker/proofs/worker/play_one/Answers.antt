use Rattle.qrun_worker.proofs.Going.{held_further, held_low}
use Rattle.qrun_worker.proofs.worker.play_one.Goals as goal

pub tell-requires-clause-answer : goal.tell-requires-clause-answer
tell-requires-clause-answer g c =
    let applied = c.apply-answer.ensures in
    held_low g.C.Form.ReceiptForm.form g.S.StoreId.id.clocked c.line-line.result.now g.S.StoreId.id.begun
    c.args.held.now c.apply-answer.new.self c.args.seat.now
    c.apply-answer.new.seat c.apply-answer.result applied.ok applied.stays

pub returns-clause-gone : goal.returns-clause-gone
returns-clause-gone g c =
    let applied = c.apply-answer.ensures in
    let client = c.args.client.now in
    held_further g.C.Form.ReceiptForm.form g.S.StoreId.id.clocked c.line-line.result.now g.C.Client.clocked
    c.requires.clock g.S.StoreId.id.begun (g.C.Client.stands client) (g.C.Client.stands c.tell.new.self)
    (g.C.Client.talk client) (g.C.Client.talk client) (g.C.Client.talk c.tell.new.self) (g.C.Client.owed client) c.line-line.ensures
    (λ lines answers left comes. comes) c.args.held.now c.apply-answer.new.self c.args.seat.now c.apply-answer.new.seat c.apply-answer.result
    c.tell.ensures.told applied.ok applied.stays applied.err applied.full
