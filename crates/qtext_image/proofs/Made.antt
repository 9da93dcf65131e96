-- What holds of the files of every state that is made of rows, whatever they are.
use Rattle.std.proofs.Common.{◌≡◌, ℕ, ◌+◌, ◌*◌, true, false, nat_lt, List, [], ◌∷◌, ◌++◌, All, fold, length, replicate, refl, arith, tests, ⊎_elim}
use Rattle.std.specs.List.{AllByRecursion}
use Rattle.std.proofs.lemmas.Bool.{cases_lt}
use Rattle.std.proofs.lemmas.List.{get_or_past, get_or-replicate, length-replicate}
use Rattle.std.proofs.lemmas.List.Elements.{All-nil}
use Rattle.qblocks.specs.declared.block.TheConstants.{BLOCK_SIZE}
use Rattle.qblocks.specs.File.{File, begins_below, empty_file, size_of}
use Rattle.qblocks.proofs.Indexes.{Rises}
use Rattle.qplain.specs.State.{Inode, State}
use Rattle.qplain_laws.specs.Holes.{HolesAreEmpty}
use Rattle.qplain_laws.proofs.Hollow.{hollow-written}
use Rattle.qplain_laws.proofs.RightSized.{right_sized-written}
use Rattle.qplain_image.specs.Blocks.{unfilled, with_block}
use Rattle.qplain_image.specs.Rows.{Row, Bounds, Grace, Record, Directory, FileHead, Block, Name, blank, made_of, with_last_block, with_row}
use Rattle.qplain_image.proofs.Refilling.{rises-written}

-- a file whose blocks rise and begin below its size, and whose bytes of no block are 0
pub record IsWell (file : File) : Type 0 where
  pub rises : Rises 0 file.allocated
  pub holes : HolesAreEmpty file
  pub below : All (λ k. begins_below (size_of file) k ≡ true) file.allocated

empty-well : IsWell empty_file
empty-well = record { rises = tt; holes = λ o none. refl; below = All-nil (λ k. begins_below 0 k ≡ true) }

pub unfilled-well : (size : ℕ) → IsWell (unfilled size)
unfilled-well size = record {
  rises = tt;
  holes = λ o none. ⊎_elim
      (λ low. get_or-replicate size o 0 0 low)
      (λ high. get_or_past (replicate size 0) o 0 (omega (arith, high, length-replicate {A = ℕ} size 0)))
      (cases_lt o size);
  below = All-nil (λ k. begins_below (size_of (unfilled size)) k ≡ true);
}

pub block-well : (file : File) (b : ℕ × List ℕ) → IsWell file → IsWell (with_block file b)
block-well file b well =
    let limit : ℕ = size_of file + (b.0 * BLOCK_SIZE + length b.1) in
    let fits : nat_lt limit (b.0 * BLOCK_SIZE + length b.1) ≡ false = grind (arith, tests) in
    record {
      rises = rises-written file (b.0 * BLOCK_SIZE) b.1 well.rises;
      holes = hollow-written file (b.0 * BLOCK_SIZE) b.1 well.holes;
      below = (right_sized-written limit file (b.0 * BLOCK_SIZE) b.1 fits (record { size = omega arith; blocks = well.below })).blocks;
    }

-- each inode holds such a file
abbrev pub AreWell : List (ℕ × Inode) → Type 0
AreWell es = AllByRecursion (λ e. IsWell e.1.file) es

well-end : (es : List (ℕ × Inode)) (e : ℕ × Inode) → AreWell es → IsWell e.1.file → AreWell (es ++ e ∷ [])
well-end [] e all well = (well, tt)
well-end (x ∷ es) e all well = (all.0, well-end es e all.1 well)

well-last : (b : ℕ × List ℕ) (es : List (ℕ × Inode)) → AreWell es → AreWell (with_last_block b es)
well-last b [] all = tt
well-last b (e ∷ []) all = (block-well e.1.file b all.0, tt)
well-last b (e ∷ other ∷ rest) all = (all.0, well-last b (other ∷ rest) all.1)

well-row : (T : State) (r : Row) → AreWell T.inodes → AreWell (with_row T r).inodes
well-row T (Bounds size most next) all = all
well-row T (Grace graces) all = all
well-row T (Record h blocks inodes) all = all
well-row T (Directory number owners) all = well-end T.inodes _ all empty-well
well-row T (FileHead number owners size) all = well-end T.inodes _ all (unfilled-well size)
well-row T (Block b) all = well-last b T.inodes all
well-row T (Name key number) all = all

well-rows : (T : State) (rows : List Row) → AreWell T.inodes → AreWell (fold with_row T rows).inodes
well-rows T [] all = all
well-rows T (r ∷ rows) all = well-rows (with_row T r) rows (well-row T r all)

pub made-well : (limit : ℕ) (rows : List Row) → AreWell (made_of limit rows).inodes
made-well limit rows = well-rows (blank limit) rows tt

limit-kept : (T : State) (rows : List Row) → (fold with_row T rows).file_limit ≡ T.file_limit
limit-kept T [] = refl
limit-kept T (Bounds size most next ∷ rows) = limit-kept (with_row T (Bounds size most next)) rows
limit-kept T (Grace graces ∷ rows) = limit-kept (with_row T (Grace graces)) rows
limit-kept T (Record h blocks inodes ∷ rows) = limit-kept (with_row T (Record h blocks inodes)) rows
limit-kept T (Directory number owners ∷ rows) = limit-kept (with_row T (Directory number owners)) rows
limit-kept T (FileHead number owners size ∷ rows) = limit-kept (with_row T (FileHead number owners size)) rows
limit-kept T (Block b ∷ rows) = limit-kept (with_row T (Block b)) rows
limit-kept T (Name key number ∷ rows) = limit-kept (with_row T (Name key number)) rows

-- the file limit is the given one
pub made-limit : (limit : ℕ) (rows : List Row) → (made_of limit rows).file_limit ≡ limit
made-limit limit rows = limit-kept (blank limit) rows
