use Rattle.std.proofs.Common.{◌≡◌, ◌++◌, take}
use Rattle.qaudit.specs.Differences.{owners_without_record}
use Rattle.qaudit.proofs.comparison.push_owners.Given as goal

abbrev pub invariant-loop-counted : goal.invariant-loop-counted
invariant-loop-counted l = l.differences.items
    ≡ l.fn.differences.items ++ owners_without_record l.kind (take l.counted-index l.owners) l.records
