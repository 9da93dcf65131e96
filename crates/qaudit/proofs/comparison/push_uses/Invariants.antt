use Rattle.std.proofs.Common.{◌≡◌, ◌++◌, take}
use Rattle.qaudit.specs.Differences.{use_differences}
use Rattle.qaudit.proofs.comparison.push_uses.Given as goal

abbrev pub invariant-loop-record : goal.invariant-loop-record
invariant-loop-record l = l.differences.items ≡ l.fn.differences.items ++ use_differences l.counts (take l.record-index l.records)
