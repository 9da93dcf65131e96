-- What changes of files and of directories have in common.
use Rattle.std.specs.Prelude.{ℕ, List}
use Rattle.qplain.specs.declared.owners.Owners.{Owners}
use Rattle.qplain.specs.State.{Inode, State, new_directory, new_file}
use Rattle.qstore_change.specs.declared.file_type.FileType.{FileType}
use Rattle.qstore_change.specs.declared.file_type.FileType.TheVariants.{File, Directory}
use Rattle.qstore_change.specs.Changes.{CanRmdir, CanUnlink}

-- an empty file or directory of these owners
abbrev pub inode_new : FileType → Owners → Inode
inode_new File owners = new_file owners
inode_new Directory owners = new_directory owners

-- the name may go, which leads to a file, or to an empty directory
abbrev pub CanRemove : FileType → State → ℕ → ℕ → List ℕ → Type 0
CanRemove File S dir number name = CanUnlink S dir number name
CanRemove Directory S dir number name = CanRmdir S dir number name
