use Rattle.std.proofs.Common.{◌≡◌, ◌≤◌, length}
use Rattle.qshare_history.specs.Shares.{tally_of_shares}
use Rattle.qshare_history.proofs.share.together.Given as goal

abbrev pub invariant-loop-share : goal.invariant-loop-share
invariant-loop-share g l = (l.all ≡ record { tally = tally_of_shares l.yielded; parts = length l.yielded }) × (length l.yielded ≤ g.S.StoreId.id.counters.parts)
