use Rattle.std.proofs.Common.{ap, not, refl, ◌∙◌}
use Rattle.qaudit.specs.declared.difference.Difference.TheVariants.{NoRow}
use Rattle.qaudit.specs.Differences.{has_record}
use Rattle.qaudit.proofs.Kept.{kept_told}
use Rattle.qaudit.proofs.comparison.push_owners.Goals as goal

pub loop-counted-preserved : goal.loop-counted-preserved
loop-counted-preserved c =
    kept_told (NoRow c.args.kind) (λ n. not (has_record c.args.kind c.args.records.now n.id)) c.counts_in-owners.result.now
    c.loop-counted.counted-index _ _ c.args.differences.now.items c.loop-counted.differences.items _ _
    c.loop-counted.invariant c.loop-counted-test.true refl
    (ap not (c.contains.ensures ∙ c.in_ok-recorded.ensures _)) c.in_ok-push_owner.ensures
