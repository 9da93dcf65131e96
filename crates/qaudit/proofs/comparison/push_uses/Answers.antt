use Rattle.std.proofs.Common.{◌≡◌, ap, refl, ◌∙◌}
use Rattle.std.specs.Option.{unwrap_or}
use Rattle.qrules.specs.declared.kind.Kind.TheVariants.{User, Group, Project}
use Rattle.qrules.specs.declared.record_row.RecordRow.{RecordRow}
use Rattle.qaudit.specs.declared.counts.Counts.{Counts}
use Rattle.qaudit.specs.Differences.{counted_for, counted_of, is_off, no_use, use_difference}
use Rattle.qaudit.proofs.Kept.{kept_more}
use Rattle.qaudit.proofs.comparison.push_uses.Goals.{in-User, in-Group, in-Project}
use Rattle.qaudit.proofs.comparison.push_uses.Goals as goal

user_counted : (counts : Counts) (r : RecordRow) → r.kind ≡ User → counted_of counts.users r.id ≡ counted_for counts r
user_counted counts r is = rw is refl

group_counted : (counts : Counts) (r : RecordRow) → r.kind ≡ Group → counted_of counts.groups r.id ≡ counted_for counts r
group_counted counts r is = rw is refl

project_counted : (counts : Counts) (r : RecordRow) → r.kind ≡ Project → counted_of counts.projects r.id ≡ counted_for counts r
project_counted counts r is = rw is refl

-- what is counted of whom the record is for
counted : (c : goal.In_ok-push_use) → c.match-record.counted ≡ counted_for c.args.counts.now c.record-item.result
counted c =
    let id = c.record-item.result.id in
    elim c.match-record.branch [
      | in-User w ↦
          w.counted-is ∙ w.count_at-counted.ensures ∙ ap (λ o. unwrap_or o (no_use id)) (c.in_ok-users.ensures id)
          ∙ ap (λ counts. counted_of counts id) c.as_slice.ensures ∙ user_counted c.args.counts.now c.record-item.result w.in-User.is
      | in-Group w ↦
          w.counted-is ∙ w.count_at-counted-in-Group.ensures ∙ ap (λ o. unwrap_or o (no_use id)) (c.in_ok-groups.ensures id)
          ∙ ap (λ counts. counted_of counts id) c.as_slice-2.ensures ∙ group_counted c.args.counts.now c.record-item.result w.in-Group.is
      | in-Project w ↦
          w.counted-is ∙ w.count_at-counted-in-Project.ensures ∙ ap (λ o. unwrap_or o (no_use id)) (c.in_ok-projects.ensures id)
          ∙ ap (λ counts. counted_of counts id) c.as_slice-3.ensures ∙ project_counted c.args.counts.now c.record-item.result w.in-Project.is
    ]

pub loop-record-preserved : goal.loop-record-preserved
loop-record-preserved c =
    kept_more (use_difference c.args.counts.now) (λ r. is_off (counted_for c.args.counts.now r) r) c.args.records.now
    c.loop-record.record-index _ _ c.args.differences.now.items c.loop-record.differences.items _
    c.loop-record.invariant c.loop-record-test.true c.record-item.is (rw (counted c) at c.in_ok-push_use.ensures)
