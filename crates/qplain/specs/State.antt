-- The plain state: what a store holds, with nothing counted (tmpfs(5), quotactl(2)).
use Rattle.std.specs.Prelude.{ℕ, Bool, true, false, List, [], ◌∷◌, ◌++◌, map, Option, Some, None}
use Rattle.std.specs.declared.cmp.Ordering.{Ordering}
use Rattle.std.specs.Ordering.{nat_cmp, on, then_cmp}
use Rattle.std.specs.Cmp.Lexicographic.{slice_cmp}
use Rattle.std.specs.BTreeMap.{is_at}
use Rattle.std.specs.Map.{lookup}
use Rattle.qrules.specs.declared.kind.Kind.{Kind}
use Rattle.qrules.specs.declared.kind.Kind.TheVariants.{User, Group, Project}
use Rattle.qrules.specs.Kinds.{rank_of}
use Rattle.qrules.specs.declared.limits.Limits.{Limits}
use Rattle.qrules.specs.declared.graces.Graces.{Graces}
use Rattle.qblocks.specs.File.{File, empty_file}
use Rattle.qplain.specs.declared.owners.Owners.{Owners}
use Rattle.qplain.specs.declared.principal.Principal.{Principal}
use Rattle.qplain.specs.declared.bounds.TheConstants.{ROOT}
use Rattle.qplain.specs.Editions.{file_limit_of}
use Rattle.qplain.specs.Setups.{Setting, principals_in}

-- a user, a group or a project with its limits, and for each sort the moment at which its grace ends, where one runs
pub record Holder : Type 0 where
  pub kind : Kind
  pub id : ℕ
  pub name : List ℕ
  pub limits : Limits
  pub block_end : Option ℕ
  pub inode_end : Option ℕ

-- by kind, then by id
abbrev pub holder_cmp : Holder → Holder → Ordering
holder_cmp = then_cmp (on (λ h. rank_of h.kind) nat_cmp) (on (λ h. h.id) nat_cmp)

-- a file or a directory, its owners, and what it holds; a directory's file is empty
pub record Inode : Type 0 where
  pub dir : Bool
  pub owners : Owners
  pub file : File

-- the key of a name: its directory, then its bytes
abbrev pub NameKey : Type 0
NameKey = ℕ × List ℕ

-- by directory, then by name
abbrev pub name_key_cmp : NameKey → NameKey → Ordering
name_key_cmp = then_cmp (on (λ p. p.0) nat_cmp) (on (λ p. p.1) (slice_cmp nat_cmp))

-- the bounds, the file limit, the graces, the holders (users by id, then groups, then projects), inodes by number,
-- names by key, and the number of the next inode
pub record State : Type 0 where
  pub size : ℕ
  pub most_inodes : ℕ
  pub file_limit : ℕ
  pub graces : Graces
  pub holders : List Holder
  pub inodes : List (ℕ × Inode)
  pub names : List (NameKey × ℕ)
  pub next : ℕ

-- the inode of this number
abbrev pub inode_at : State → ℕ → Option Inode
inode_at S number = lookup (is_at (nat_cmp number)) S.inodes

-- the inode that this name in this directory leads to
abbrev pub named : State → ℕ → List ℕ → Option ℕ
named S dir name = lookup (is_at (name_key_cmp (dir, name))) S.names

-- there is an inode, and it is a directory
abbrev pub is_dir : Option Inode → Bool
is_dir None = false
is_dir (Some inode) = inode.dir

-- the number is a directory's
abbrev pub is_directory : State → ℕ → Bool
is_directory S number = is_dir (inode_at S number)

-- an empty file of these owners
abbrev pub new_file : Owners → Inode
new_file owners = record { dir = false; owners = owners; file = empty_file }

-- an empty directory of these owners
abbrev pub new_directory : Owners → Inode
new_directory owners = record { dir = true; owners = owners; file = empty_file }

-- the project of the root directory: 0, where any is declared
abbrev pub root_project : List Principal → Option ℕ
root_project [] = None
root_project (p ∷ ps) = Some 0

-- the root directory belongs to user 0, to group 0 and, where projects are declared, to project 0
abbrev pub root : Setting → Inode
root s = new_directory (record { uid = 0; gid = 0; project = root_project s.projects })

-- a declared principal, for whom no grace runs
abbrev pub holder_of : Kind → Principal → Holder
holder_of kind p = record {
  kind = kind;
  id = p.id;
  name = p.name;
  limits = p.limits;
  block_end = None;
  inode_end = None;
}

-- the holders of a kind in a new store
abbrev pub declared_in : Kind → Setting → List Holder
declared_in kind s = map (holder_of kind) (principals_in kind s)

-- a new store has the file limit of its edition, the root directory, no name and the next number 2; users come before
-- groups, and groups before projects
abbrev pub start : Setting → State
start s = record {
  size = s.blocks;
  most_inodes = s.inodes;
  file_limit = file_limit_of s.edition;
  graces = s.graces;
  holders = declared_in User s ++ (declared_in Group s ++ declared_in Project s);
  inodes = (ROOT, root s) ∷ [];
  names = [];
  next = 2;
}
