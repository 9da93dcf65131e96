use Rattle.std.proofs.Common.{◌≡◌, List, IfOk, subst, ◌∙◌}
use Rattle.qaudit.specs.declared.difference.Difference.{Difference}
use Rattle.qaudit.specs.Differences.{differences_of}
use Rattle.qaudit.specs.Recount.{recount_of}
use Rattle.qaudit_checks.specs.OwnRows.{inode_rows, name_rows}
use Rattle.qaudit_checks.proofs.Agree.{nothing_found}
use Rattle.qaudit_checks.proofs.AnyOrder.{recount-any_order}
use Rattle.qaudit_checks.proofs.audits.audit.Goals as goal

pub returns-clause-differences : goal.returns-clause-differences
returns-clause-differences c =
    let inodes = c.deref.ensures.value ∙ c.in_ok-inodes.ensures.rows in
    let state = c.args.store.now.state in
    let counted : c.in_ok-counts.counts ≡ recount_of (inode_rows state) (name_rows state) =
    c.in_ok-counts.ensures ∙ (λ i. recount_of (inodes i) (c.deref-2.ensures.value i))
    ∙ recount-any_order (inode_rows state) (name_rows state) c.in_ok-names.names.items c.in_ok-names.ensures.rows in
    subst (λ (all : List Difference). IfOk c.compare.result (λ found. found.items ≡ all))
    (λ i. differences_of (counted i) (c.requires.own i)) c.compare.ensures

pub returns-clause-none : goal.returns-clause-none
returns-clause-none c =
    subst (λ (all : List Difference). IfOk c.compare.result (λ found. found.items ≡ all))
    (nothing_found c.args.store.now.state c.always_lawful.ensures.lawful) (returns-clause-differences c)
