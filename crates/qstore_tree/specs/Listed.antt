-- The inodes and the names of a tree as lists.
use Rattle.std.specs.Prelude.{ℕ}
use Rattle.std.specs.Borrow.{Bor}
use Rattle.qplain.specs.State.{Inode, NameKey}
use Rattle.qstore_tree.specs.declared.name.Name.{Name}
use Rattle.qstore_tree.specs.declared.node.Node.{Node}
use Rattle.qstore_tree.specs.Nodes.{inode_of}

-- a name that is borrowed, under its key, with the inode that it leads to
abbrev pub name_entry : Name → NameKey × ℕ
name_entry n = ((n.dir, n.text.now), n.ino)

-- an inode that is borrowed, under its number
abbrev pub node_entry : ℕ × Bor Node → ℕ × Inode
node_entry e = (e.0, inode_of e.1.now)
