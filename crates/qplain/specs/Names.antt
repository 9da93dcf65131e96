-- Names that come and go, and inodes with them: create, mkdir, link, unlink and rmdir (open(2), mkdir(2), link(2),
-- unlink(2), rmdir(2)).
use Rattle.std.specs.Prelude.{ℕ, ◌+◌, not, if◌then◌else◌, List, filter, is_some, Option, Some, None}
use Rattle.std.specs.Ordering.{nat_cmp}
use Rattle.std.specs.BTreeMap.{is_at, insert_entry}
use Rattle.std.specs.Map.{remove_entry}
use Rattle.qplain.specs.declared.owners.Owners.{Owners}
use Rattle.qplain.specs.declared.refusal.Refusal.TheVariants.{EEXIST, EISDIR, EMLINK, ENOTDIR, ENOTEMPTY, EPERM}
use Rattle.qplain.specs.Caller.{Caller}
use Rattle.qplain.specs.State.{Inode, State, inode_at, named, new_directory, new_file, name_key_cmp}
use Rattle.qplain.specs.Use.{has_name, has_too_many_links, is_empty}
use Rattle.qplain.specs.Attempt.{Attempt, Refuse, Becomes, at_name, in_parent}
use Rattle.qplain.specs.Rights.{may_remove}

-- the state with this inode under the next number and this name
abbrev pub created : State → Inode → ℕ → List ℕ → State
created S inode dir name = record S {
  inodes = insert_entry nat_cmp S.inodes S.next inode;
  names = insert_entry name_key_cmp S.names (dir, name) S.next;
  next = S.next + 1;
}

-- the project of what is made in a directory: the directory's
abbrev pub project_of : Option Inode → Option ℕ
project_of None = None
project_of (Some inode) = inode.owners.project

-- the owners of what a caller makes in a directory: its uid, its gid and the directory's project
abbrev pub owners_by : State → Caller → ℕ → Owners
owners_by S cred dir = record { uid = cred.uid; gid = cred.gid; project = project_of (inode_at S dir) }

-- create a file of the caller's under this name
abbrev pub create_as : State → Caller → ℕ → List ℕ → Attempt
create_as S cred dir name =
    if is_some (named S dir name) then Refuse EEXIST
    else Becomes (created S (new_file (owners_by S cred dir)) dir name) S.next

-- the plain result, unless an inode has too many links in it
abbrev pub unless_too_many_links : State → ℕ → Attempt
unless_too_many_links S number = if has_too_many_links S then Refuse EMLINK else Becomes S number

-- make a directory of the caller's under this name
abbrev pub mkdir_as : State → Caller → ℕ → List ℕ → Attempt
mkdir_as S cred dir name =
    if is_some (named S dir name) then Refuse EEXIST
    else unless_too_many_links (created S (new_directory (owners_by S cred dir)) dir name) S.next

-- the state in which this name leads to the inode of this number
abbrev pub with_name : State → ℕ → List ℕ → ℕ → State
with_name S dir name number = record S { names = insert_entry name_key_cmp S.names (dir, name) number }

-- link an inode under this name
abbrev pub link_as : State → ℕ → Inode → ℕ → List ℕ → Attempt
link_as S number inode dir name =
    if inode.dir then Refuse EPERM
    else if is_some (named S dir name) then Refuse EEXIST
    else unless_too_many_links (with_name S dir name number) number

-- link an inode under the last name of the path in its parent
abbrev pub link_to : State → List ℕ → ℕ → Inode → Attempt
link_to S to number inode = in_parent S EEXIST (link_as S number inode) to

-- the state without this name
abbrev pub without_name : State → ℕ → List ℕ → State
without_name S dir name = record S { names = remove_entry (is_at (name_key_cmp (dir, name))) S.names }

-- the state without the inodes that no name leads to; the root stays
abbrev pub swept : State → State
swept S = record S { inodes = filter (λ e. has_name S e.0) S.inodes }

-- unlink an inode, which has this name
abbrev pub unlink_at : State → Caller → ℕ → List ℕ → ℕ → Inode → Attempt
unlink_at S cred dir name number inode =
    if inode.dir then Refuse EISDIR
    else if not (may_remove S cred dir number) then Refuse EPERM
    else Becomes (swept (without_name S dir name)) number

-- unlink what has this name
abbrev pub unlink_as : State → Caller → ℕ → List ℕ → Attempt
unlink_as S cred dir name = at_name S (unlink_at S cred dir name) dir name

-- remove a directory, which has this name
abbrev pub rmdir_at : State → Caller → ℕ → List ℕ → ℕ → Inode → Attempt
rmdir_at S cred dir name number inode =
    if not inode.dir then Refuse ENOTDIR
    else if not (may_remove S cred dir number) then Refuse EPERM
    else if not (is_empty S number) then Refuse ENOTEMPTY
    else Becomes (swept (without_name S dir name)) number

-- remove the directory that has this name
abbrev pub rmdir_as : State → Caller → ℕ → List ℕ → Attempt
rmdir_as S cred dir name = at_name S (rmdir_at S cred dir name) dir name
