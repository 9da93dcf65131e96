use Rattle.std.proofs.Common.{◌≡◌, ℕ, take}
use Rattle.std.specs.BTreeSet.{contains}
use Rattle.std.specs.Ordering.{nat_cmp}
use Rattle.qaudit.specs.Differences.{has_record}
use Rattle.qaudit.proofs.comparison.recorded.Given as goal

abbrev pub invariant-loop-record : goal.invariant-loop-record
invariant-loop-record l = (q : ℕ) → contains nat_cmp l.found q ≡ has_record l.kind (take l.record-index l.records) q
