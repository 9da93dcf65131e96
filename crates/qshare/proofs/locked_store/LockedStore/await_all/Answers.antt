use Rattle.std.proofs.Common.{All, subst, arith}
use Rattle.std.proofs.lemmas.List.{take_all}
use Rattle.std.proofs.lemmas.List.Elements.{All-more}
use mathlib.Core.List.{IsPrefix}
use Rattle.qshare_history.proofs.Prefixes.{prefix_trans}
use Rattle.qshare.proofs.locked_store.LockedStore.await_all.Goals as goal

pub loop-share-preserved : goal.loop-share-preserved
loop-share-preserved g c =
    let locked = c.args.self.now in
    let published = subst (λ p. IsPrefix p.entries locked.published) c.prefix.ensures c.await_seen.ensures.published in
    let seen = prefix_trans _ _ _ published c.await_seen.ensures.journal in
    All-more (λ s. IsPrefix s.seen locked.journal) c.args.shares.now c.loop-share.share-index _ c.loop-share-test.true c.loop-share.invariant
    (subst (λ s. IsPrefix s.seen locked.journal) c.share-item.is seen)

pub returns : goal.returns
returns g c =
    subst (All (λ s. IsPrefix s.seen c.args.self.now.journal)) (take_all c.loop-share.share-index c.args.shares.now (omega (arith, c.loop-share-test.false)))
    c.loop-share.invariant
