-- A row of an image as words.
use Rattle.std.specs.Prelude.{ℕ, List, [], ◌∷◌, codes, Result, Ok, Err, if◌then◌else◌}
use Rattle.std.specs.Char.{is_ascii_uppercase}
use Rattle.std.specs.List.{list_any}
use Rattle.std.specs.Str.{bytes_eq}
use Rattle.qrules.specs.declared.kind.Kind.{Kind}
use Rattle.qrules.specs.declared.kind.Kind.TheVariants.{User, Group, Project}
use Rattle.qplain.specs.declared.owners.Owners.{Owners}
use Rattle.qplain_image.specs.Rows.{Row, Bounds, Grace, Record, Directory, FileHead, Block, Name}
use Rattle.qtext.specs.declared.text_fault.TextKind.{TextKind}
use Rattle.qtext.specs.declared.text_fault.TextKind.TheVariants.{BadHex, BadNumber, BadVerb, WordCount}
use Rattle.qtext.specs.Data.{data_of}
use Rattle.qtext.specs.Reading.{◌>>=◌}
use Rattle.qtext.specs.Words.{id_of, number}
use Rattle.qtext_read.specs.Arguments.{owner_of, path_of}
use Rattle.qtext_read.specs.RepliesRead.{end_of, limits_of}

-- SIZE MOST NEXT
unfoldable pub bounds_in : List (List ℕ) → Result Row TextKind
bounds_in (s ∷ m ∷ n ∷ []) = do
  size ← number s
  most ← number m
  next ← number n
  Ok (Bounds size most next)
bounds_in _ = Err WordCount

-- BLOCK INODE
unfoldable pub graces_in : List (List ℕ) → Result Row TextKind
graces_in (b ∷ i ∷ []) = do
  block ← number b
  inode ← number i
  Ok (Grace (record { block = block; inode = inode }))
graces_in _ = Err WordCount

-- ID NAME BLOCKS INODES BSOFT BHARD ISOFT IHARD BEND IEND
unfoldable pub record_in : Kind → List (List ℕ) → Result Row TextKind
record_in kind (d ∷ n ∷ b ∷ i ∷ bs ∷ bh ∷ is ∷ ih ∷ be ∷ ie ∷ []) = do
  id ← id_of BadNumber d
  name ← path_of n
  blocks ← number b
  inodes ← number i
  limits ← limits_of bs bh is ih
  block_end ← end_of be
  inode_end ← end_of ie
  Ok (Record (record {
    kind = kind;
    id = id;
    name = name;
    limits = limits;
    block_end = block_end;
    inode_end = inode_end;
  }) blocks inodes)
record_in kind _ = Err WordCount

-- UID GID PROJECT
unfoldable pub owners_of : List ℕ → List ℕ → List ℕ → Result Owners TextKind
owners_of u g p = do
  uid ← id_of BadNumber u
  gid ← id_of BadNumber g
  project ← owner_of p
  Ok (record { uid = uid; gid = gid; project = project })

-- NUMBER UID GID PROJECT
unfoldable pub directory_in : List (List ℕ) → Result Row TextKind
directory_in (n ∷ u ∷ g ∷ p ∷ []) = do
  ino ← number n
  owners ← owners_of u g p
  Ok (Directory ino owners)
directory_in _ = Err WordCount

-- NUMBER UID GID PROJECT SIZE
unfoldable pub file_in : List (List ℕ) → Result Row TextKind
file_in (n ∷ u ∷ g ∷ p ∷ s ∷ []) = do
  ino ← number n
  owners ← owners_of u g p
  size ← number s
  Ok (FileHead ino owners size)
file_in _ = Err WordCount

-- data in lower case
unfoldable pub lower_data_of : List ℕ → Result (List ℕ) TextKind
lower_data_of word = if list_any is_ascii_uppercase word then Err BadHex else data_of word

-- INDEX DATA
unfoldable pub block_row_in : List (List ℕ) → Result Row TextKind
block_row_in (k ∷ d ∷ []) = do
  index ← number k
  bytes ← lower_data_of d
  Ok (Block (index, bytes))
block_row_in _ = Err WordCount

-- DIR NAME NUMBER
unfoldable pub name_in : List (List ℕ) → Result Row TextKind
name_in (d ∷ n ∷ i ∷ []) = do
  dir ← number d
  name ← path_of n
  ino ← number i
  Ok (Name (dir, name) ino)
name_in _ = Err WordCount

-- the row that the word at the front tells of
unfoldable pub row_by : List ℕ → List (List ℕ) → Result Row TextKind
row_by verb rest =
    if bytes_eq verb (codes "store") then bounds_in rest
    else if bytes_eq verb (codes "graces") then graces_in rest
    else if bytes_eq verb (codes "user") then record_in User rest
    else if bytes_eq verb (codes "group") then record_in Group rest
    else if bytes_eq verb (codes "project") then record_in Project rest
    else if bytes_eq verb (codes "dir") then directory_in rest
    else if bytes_eq verb (codes "file") then file_in rest
    else if bytes_eq verb (codes "block") then block_row_in rest
    else if bytes_eq verb (codes "name") then name_in rest
    else Err BadVerb

-- a row in its words
unfoldable pub row_in : List (List ℕ) → Result Row TextKind
row_in [] = Err BadVerb
row_in (verb ∷ rest) = row_by verb rest
