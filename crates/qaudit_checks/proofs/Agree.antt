-- The three parts together: an audit of a lawful state's own rows finds nothing.
use Rattle.std.proofs.Common.{◌≡◌, [], ◌++◌, get_or, map, not, ap, ◌∙◌}
use Rattle.std.specs.List.{filter, filter_map}
use Rattle.qrules.specs.declared.kind.Kind.{Kind}
use Rattle.qrules.specs.declared.kind.Kind.TheVariants.{User, Group, Project}
use Rattle.qplain.specs.State.{State}
use Rattle.qplain_laws.specs.Laws.{IsLawful}
use Rattle.qaudit.specs.declared.difference.Difference.TheVariants.{NoRow, Links}
use Rattle.qaudit.specs.Recount.{ascending, count_of, counts_by, link_row, owner_of, recount_of}
use Rattle.qaudit.specs.Differences.{counted_for, has_record, is_off, is_off_by_links, link_differences, owners_without_record, use_difference, use_differences}
use Rattle.qstore.specs.Rows.{inode_row_of, record_row_of}
use Rattle.qaudit_checks.specs.OwnRows.{differences_in, inode_rows, name_rows, record_rows}
use Rattle.qaudit_checks.proofs.Rows.{filter-none, map-map}
use Rattle.qaudit_checks.proofs.Uses.{not_off}
use Rattle.qaudit_checks.proofs.Owners.{not_forgotten}
use Rattle.qaudit_checks.proofs.Links.{links_agree}

-- no record is off
uses-agree : (S : State) → use_differences (recount_of (inode_rows S) (name_rows S)) (record_rows S) ≡ []
uses-agree S =
    let counts = recount_of (inode_rows S) (name_rows S) in
    ap (map (use_difference counts))
    (filter-none (λ r. is_off (counted_for counts r) r) (record_row_of S) S.holders (λ k d less. not_off S (get_or S.holders k d)))

-- no owner is without a record
owners-agree : (S : State) (kind : Kind) → IsLawful S → owners_without_record kind (counts_by kind (inode_rows S)) (record_rows S) ≡ []
owners-agree S kind lawful =
    ap (map (NoRow kind)) (filter-none (λ c. not (has_record kind (record_rows S) c.id)) (count_of kind (inode_rows S))
    (ascending (filter_map (owner_of kind) (inode_rows S))) (not_forgotten S kind lawful.parts.inodes.owners_known))

-- no link count is off
links-agree : (S : State) → IsLawful S → link_differences (recount_of (inode_rows S) (name_rows S)).links ≡ []
links-agree S lawful =
    ap (map Links) (ap (filter is_off_by_links) (map-map (link_row (inode_rows S) (name_rows S)) (inode_row_of S) S.inodes)
    ∙ filter-none is_off_by_links (λ e. link_row (inode_rows S) (name_rows S) (inode_row_of S e)) S.inodes
    (λ k d less. links_agree S (get_or S.inodes k d) lawful.parts.inodes.in_order))

-- an audit of a lawful state's own rows finds nothing
pub nothing_found : (S : State) → IsLawful S → differences_in S ≡ []
nothing_found S lawful =
    λ i. uses-agree S i ++ owners-agree S User lawful i ++ owners-agree S Group lawful i ++ owners-agree S Project lawful i
    ++ links-agree S lawful i
