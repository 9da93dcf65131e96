use Rattle.std.proofs.Common.{subst}
use Rattle.qplain.specs.Journal.{IsLegal}
use Rattle.qshare.specs.Locked.{Locked}
use Rattle.qshare.proofs.Growing.{legal_begins}
use Rattle.qshare.proofs.locked_store.LockedStore.published.Goals as goal

pub returns-clause-legal : goal.returns-clause-legal
returns-clause-legal g c =
    let locked = c.self.invariant.0 in
    let journal = c.self.inside.store.journal in
    let legal = subst (λ S. IsLegal S journal) locked.of.begun_is locked.of.played.legal in
    subst (λ (v : Locked). IsLegal g.S.StoreId.id.begun v.published) c.self.view_is (legal_begins _ _ _ locked.begins legal)
