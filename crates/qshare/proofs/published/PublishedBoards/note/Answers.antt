use Rattle.std.proofs.Common.{IfOk, subst}
use Rattle.qstore.specs.Ready.{committed}
use Rattle.qstore.specs.Stored.{Stored}
use Rattle.qstore_journaled.proofs.Journaling.{taken-next}
use Rattle.qshare.specs.Waiting.{LeadsOn}
use Rattle.qshare.proofs.Leading.{noted}
use Rattle.qshare.proofs.published.PublishedBoards.note.Goals as goal

pub returns-clause-ok : goal.returns-clause-ok
returns-clause-ok g c published e is waits =
    let store = c.args.store.now in
    let waiting = c.args.self.now.waiting.items in
    let longer = c.let_wait.new.waiting.items in
    let led = subst (λ (s : Stored). IfOk c.let_wait.result (λ x. LeadsOn waiting s.state longer (committed s)))
    c.store.ensures.store c.let_wait.ensures.rows in
    noted g.S.StoreId.id.setting g.S.StoreId.id.begun store e c.args.self.now.publisher published waiting longer c.let_wait.result c.requires.store
    (taken-next store c.requires.next.0 e c.requires.next.1 is) waits led
