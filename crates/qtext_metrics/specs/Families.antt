-- What a monitor is told of a board: families of samples, in their order, with their names and what they are.
use Rattle.std.specs.Prelude.{ℕ, ◌==◌, List, [], ◌∷◌, Option, Some, None, codes, if◌then◌else◌}
use Rattle.qrules.specs.declared.board_row.BoardRow.{BoardRow}
use Rattle.qplain.specs.declared.board.Board.{Board}
use Rattle.qplain.specs.Setups.{Setting}
use Rattle.qtext_metrics.specs.declared.family.Family.{Family}
use Rattle.qtext_metrics.specs.declared.family.Family.TheVariants as family

-- all families, in the order in which they are written: those of the whole store, then those of rows
abbrev pub families : List Family
families =
    family.Version ∷ family.Blocks ∷ family.BlocksLimit ∷ family.Inodes ∷ family.InodesLimit
    ∷ family.BlocksUsed ∷ family.InodesUsed
    ∷ family.BlocksSoft ∷ family.BlocksHard ∷ family.InodesSoft ∷ family.InodesHard
    ∷ family.BlocksGrace ∷ family.InodesGrace ∷ []

-- the name of a family's samples
abbrev pub name_of : Family → List ℕ
name_of family.Version = codes "quotafs_version"
name_of family.Blocks = codes "quotafs_blocks"
name_of family.BlocksLimit = codes "quotafs_blocks_limit"
name_of family.Inodes = codes "quotafs_inodes"
name_of family.InodesLimit = codes "quotafs_inodes_limit"
name_of family.BlocksUsed = codes "quotafs_blocks_used"
name_of family.InodesUsed = codes "quotafs_inodes_used"
name_of family.BlocksSoft = codes "quotafs_blocks_soft_limit_kib"
name_of family.BlocksHard = codes "quotafs_blocks_hard_limit_kib"
name_of family.InodesSoft = codes "quotafs_inodes_soft_limit"
name_of family.InodesHard = codes "quotafs_inodes_hard_limit"
name_of family.BlocksGrace = codes "quotafs_blocks_grace_end_seconds"
name_of family.InodesGrace = codes "quotafs_inodes_grace_end_seconds"

-- what a family's samples are, in a sentence
abbrev pub help_of : Family → List ℕ
help_of family.Version = codes "Calls that led to these numbers."
help_of family.Blocks = codes "Allocated blocks of 4096 bytes."
help_of family.BlocksLimit = codes "Blocks of 4096 bytes that the store has room for."
help_of family.Inodes = codes "Inodes in use."
help_of family.InodesLimit = codes "Inodes that the store has room for."
help_of family.BlocksUsed = codes "Blocks of 4096 bytes charged to each principal."
help_of family.InodesUsed = codes "Inodes charged to each principal."
help_of family.BlocksSoft = codes "Soft limit for blocks, in KiB, of each principal that has one."
help_of family.BlocksHard = codes "Hard limit for blocks, in KiB, of each principal that has one."
help_of family.InodesSoft = codes "Soft limit for inodes of each principal that has one."
help_of family.InodesHard = codes "Hard limit for inodes of each principal that has one."
help_of family.BlocksGrace = codes "Moment at which the grace for blocks ends, where one runs."
help_of family.InodesGrace = codes "Moment at which the grace for inodes ends, where one runs."

-- a limit, where there is one: 0 is none (setquota(8))
abbrev pub limit_told : ℕ → Option ℕ
limit_told limit = if limit == 0 then None else Some limit

-- a family's number of the whole store; none where it is one of rows
abbrev pub total_value : Setting → Board → Family → Option ℕ
total_value s b family.Version = Some b.version
total_value s b family.Blocks = Some b.blocks
total_value s b family.BlocksLimit = Some s.blocks
total_value s b family.Inodes = Some b.inodes
total_value s b family.InodesLimit = Some s.inodes
total_value s b f = None

-- a family's number of a row; none where the row has none, or the family is one of the whole store
abbrev pub row_value : Family → BoardRow → Option ℕ
row_value family.BlocksUsed r = Some r.blocks
row_value family.InodesUsed r = Some r.inodes
row_value family.BlocksSoft r = limit_told r.limits.block_soft
row_value family.BlocksHard r = limit_told r.limits.block_hard
row_value family.InodesSoft r = limit_told r.limits.inode_soft
row_value family.InodesHard r = limit_told r.limits.inode_hard
row_value family.BlocksGrace r = r.block_end
row_value family.InodesGrace r = r.inode_end
row_value f r = None
