-- What the tests of all lines have shown that the end is decided with.
use Rattle.std.proofs.Common.{◌≡◌, ℕ, ◌+◌, ◌*◌, ◌^◌, ◌<◌, ◌≤◌, suc, true, not, ◌&&◌, nat_le, nat_lt, List, [], ◌∷◌, All, length, arith, tests}
use Rattle.std.specs.List.{list_all, AllByRecursion}
use Rattle.std.proofs.lemmas.Bool.{and_parts}
use Rattle.std.proofs.lemmas.List.Elements.{All-from_recursion, recursion_from_All}
use Rattle.qblocks.specs.declared.block.TheConstants.{BLOCK_SIZE}
use Rattle.qblocks.specs.File.{File, begins_below, size_of}
use Rattle.qblocks.proofs.Indexes.{Rises}
use Rattle.qplain.specs.declared.setup.TheConstants.{MAX_BLOCKS, MAX_INODES}
use Rattle.qplain.specs.State.{Inode, State}
use Rattle.qplain.specs.Use.{has_too_many_links}
use Rattle.qplain_laws.specs.Laws.{leads}
use Rattle.qplain_image.specs.Rows.{Row}
use Rattle.qtext_image.specs.Faults.{are_bounds_fit, has_few_names, is_inode_fit}
use Rattle.qtext_image.proofs.Made.{AreWell, IsWell}
use Rattle.qtext_image.proofs.Passing.{PassesTests}
use Rattle.qstore_tree.specs.Tree.{RoomyTree}
use Rattle.qstore_tree.specs.TreeOf.{IsTreeOf}
use Rattle.qstore_open.specs.declared.bounds.Bounds.{Bounds}
use Rattle.qstore_open.specs.Counting.{IsOpened}

-- indexes that rise from one on, all below another, are at most as many as lie between
rises-few : (from below : ℕ) (ks : List ℕ) → Rises from ks → AllByRecursion (λ k. k < below) ks → from ≤ below → length ks + from ≤ below
rises-few from below [] rises low le = omega (arith, le)
rises-few from below (k ∷ ks) rises low le =
    let more = rises-few (suc k) below ks rises.1 low.1 (omega (arith, low.0)) in
    omega (arith, more, rises.0)

below-few : (size : ℕ) (ks : List ℕ) → size ≤ 2 ^ 40 → AllByRecursion (λ k. begins_below size k ≡ true) ks → AllByRecursion (λ k. k < 2 ^ 28) ks
below-few size [] few below = tt
below-few size (k ∷ ks) few below =
    let begins : k * BLOCK_SIZE < size = grind (arith, tests, below.0) in
    (omega (arith, begins, few), below-few size ks few below.1)

file-few : (file : File) → IsWell file → size_of file ≤ 2 ^ 40 → length file.allocated < 2 ^ 32
file-few file well few =
    let low = below-few (size_of file) file.allocated few
    (recursion_from_All (λ k. begins_below (size_of file) k ≡ true) file.allocated well.below) in
    let many = rises-few 0 (2 ^ 28) file.allocated well.rises low (omega arith) in
    omega (arith, many)

inodes-few : (S : State) (es : List (ℕ × Inode)) → S.file_limit ≤ 2 ^ 40 → AreWell es → list_all (is_inode_fit S) es ≡ true
    → AllByRecursion (λ e. length e.1.file.allocated < 2 ^ 32) es
inodes-few S [] limit well fit = tt
inodes-few S (e ∷ es) limit well fit =
    let parts = and_parts (is_inode_fit S e) (list_all (is_inode_fit S) es) fit in
    let within = and_parts (nat_lt e.0 S.next) (nat_le (size_of e.1.file) S.file_limit) parts.0 in
    let small : size_of e.1.file ≤ S.file_limit = grind (arith, tests, within.1) in
    (file-few e.1.file well.0 (omega (arith, small, limit)), inodes-few S es limit well.1 parts.1)

module _ (S : State) (rows : List Row) (passes : PassesTests rows S) where
  -- no file has too many blocks for a row
  pub few-blocks : AreWell S.inodes → S.file_limit ≤ 2 ^ 40 → All (λ e. length e.1.file.allocated < 2 ^ 32) S.inodes
  few-blocks well limit =
      All-from_recursion (λ (e : ℕ × Inode). length e.1.file.allocated < 2 ^ 32) S.inodes
      (inodes-few S S.inodes limit well (and_parts _ (list_all (is_inode_fit S) S.inodes) passes.ranged).1)

  -- the bounds are such as a store may have
  pub bounds-fit : (S.size ≤ MAX_BLOCKS) × (S.most_inodes ≤ MAX_INODES)
  bounds-fit =
      let inodes = and_parts _ (list_all (is_inode_fit S) S.inodes) passes.ranged in
      let holders = and_parts _ _ inodes.0 in
      let graces = and_parts _ _ holders.0 in
      let next = and_parts (are_bounds_fit S) _ graces.0 in
      let most = and_parts (nat_le 1 S.size && nat_le S.size MAX_BLOCKS && nat_le 1 S.most_inodes) (nat_le S.most_inodes MAX_INODES) next.0 in
      let least = and_parts (nat_le 1 S.size && nat_le S.size MAX_BLOCKS) (nat_le 1 S.most_inodes) most.0 in
      let size = and_parts (nat_le 1 S.size) (nat_le S.size MAX_BLOCKS) least.0 in
      (grind (arith, tests, size.1), grind (arith, tests, most.1))

  pub opened : (bounds : Bounds) (tree : RoomyTree) → IsTreeOf S tree → S.size ≡ bounds.size → S.most_inodes ≡ bounds.most_inodes → IsOpened S bounds tree
  opened bounds tree is size most = record {
    is_of = is;
    size = size;
    most_inodes = most;
    few_names = (and_parts (list_all (leads S) S.names && not (has_too_many_links S)) (list_all (has_few_names S) S.inodes) passes.led).1;
  }
