use Rattle.std.proofs.Common.{All, take}
use mathlib.Core.List.{IsPrefix}
use Rattle.qshare.proofs.locked_store.LockedStore.await_all.Given as goal

abbrev pub invariant-loop-share : goal.invariant-loop-share
invariant-loop-share g l = All (λ s. IsPrefix s.seen l.self.journal) (take l.share-index l.shares)
