-- A recount does not see in which order the names stand.
use Rattle.std.proofs.Common.{◌≡◌, ◌+◌, ◌==◌, Bool, ◌&&◌, cond, count_by, List, map, IsPermutation}
use Rattle.std.proofs.lemmas.List.Sorted.{sum_by-IsPermutation}
use Rattle.qrules.specs.declared.inode_row.InodeRow.{InodeRow}
use Rattle.qrules.specs.declared.name_row.NameRow.{NameRow}
use Rattle.qaudit.specs.Recount.{counted_links, is_directory, link_row, recount_of}

-- names in another order are counted alike
pub recount-any_order : (inodes : List InodeRow) (names rows : List NameRow) → IsPermutation names rows
    → recount_of inodes rows ≡ recount_of inodes names
recount-any_order inodes names rows p =
    let counted : (test : NameRow → Bool) → count_by test rows ≡ count_by test names =
    λ test. sum_by-IsPermutation (λ n. cond (test n) 1 0) names rows p in
    let links : (row : InodeRow) → counted_links inodes rows row ≡ counted_links inodes names row =
    λ row i. cond row.dir (2 + counted (λ n. n.dir == row.ino && is_directory inodes n.ino) i) (counted (λ n. n.ino == row.ino) i) in
    λ i. record (recount_of inodes names) { links = map (λ row. record (link_row inodes names row) { counted = links row i }) inodes }
