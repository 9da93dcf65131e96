-- What is wrong with one row more, where nothing is wrong with those before it, by the state that they make. No public
-- clause cites this module.
use Rattle.std.specs.Prelude.{ℕ, ◌+◌, ◌-◌, ◌*◌, ◌==◌, min, Bool, true, false, not, ◌&&◌, ◌||◌, nat_le, nat_lt}
use Rattle.std.specs.Prelude.{List, [], ◌∷◌, ◌++◌, length, Option, Some, None, if◌then◌else◌}
use Rattle.std.specs.declared.cmp.Ordering.{Ordering}
use Rattle.std.specs.List.{list_all, list_any}
use Rattle.std.specs.Map.{keys_of}
use Rattle.std.specs.Ordering.{is_lt, nat_cmp}
use Rattle.std.specs.Str.{bytes_eq}
use Rattle.qrules.specs.declared.graces.Graces.{Graces}
use Rattle.qrules.specs.declared.kind.Kind.TheVariants.{User, Group}
use Rattle.qrules.specs.Range.{are_graces_in_range}
use Rattle.qblocks.specs.declared.block.TheConstants.{BLOCK_SIZE}
use Rattle.qblocks.specs.File.{File, begins_below, empty_file, size_of}
use Rattle.qplain.specs.declared.bounds.TheConstants.{MAX_LINKS, MAX_NUMBER, ROOT}
use Rattle.qplain.specs.Principals.{is_principal_name}
use Rattle.qplain.specs.State.{Holder, Inode, NameKey, State, holder_cmp, is_directory, name_key_cmp, new_directory}
use Rattle.qplain.specs.Use.{links_of, names_to}
use Rattle.qplain_laws.specs.Laws.{leads}
use Rattle.qplain_image.specs.Blocks.{unfilled}
use Rattle.qplain_image.specs.Rows.{Row, Bounds, Grace, Record, Directory, FileHead, Block, Name, with_row}
use Rattle.qtext.specs.declared.text_fault.TextKind.TheVariants.{BadHex, BadNumber}
use Rattle.qtext_image.specs.Faults.{BadName, BadOrder, BadOwner, ImageKind, InText, NoInode, are_bounds_fit}
use Rattle.qtext_image.specs.Faults.{has_known_owners, is_begun_kind, is_holder_fit, is_inode_fit, is_path_name}
use Rattle.qtext_image.specs.Setups.{principal_of, principals_of}

-- it stands behind all of these
abbrev pub is_behind : {K : Type 0} → (K → K → Ordering) → List K → K → Bool
is_behind cmp ks k = list_all (λ other. is_lt (cmp other k)) ks

-- none are there
abbrev pub are_none : {A : Type 0} → List A → Bool
are_none xs = length xs == 0

-- the bounds are told
abbrev pub has_bounds : State → Bool
has_bounds S = not (S.size == 0)

-- the graces are told
abbrev pub has_graces : State → Bool
has_graces S = not (S.graces.block == 0)

-- the file of the last inode, and of none an empty one
abbrev pub last_file : List (ℕ × Inode) → File
last_file [] = empty_file
last_file (e ∷ []) = e.1.file
last_file (e ∷ other ∷ rest) = last_file (other ∷ rest)

-- the file that a block belongs to which is told next: behind a name there is none
abbrev pub open_file : State → File
open_file S = if are_none S.names then last_file S.inodes else empty_file

-- what is wrong with these bounds
abbrev pub bounds_fault : State → ℕ → ℕ → ℕ → Option ImageKind
bounds_fault S size most next =
    if has_bounds S then Some BadOrder
    else if not (are_bounds_fit (with_row S (Bounds size most next)) && nat_le next (MAX_NUMBER + 1))
    then Some (InText BadNumber)
    else None

-- with these graces
abbrev pub graces_fault : State → Graces → Option ImageKind
graces_fault S graces =
    if not (has_bounds S && not (has_graces S)) then Some BadOrder
    else if not (are_graces_in_range graces) then Some (InText BadNumber)
    else None

-- a holder may be told next: behind all others, the first of its kind with the id 0, and not too many
abbrev pub may_hold : State → Holder → Bool
may_hold S h =
    has_graces S && are_none S.inodes && is_behind holder_cmp S.holders h
    && is_begun_kind (principals_of h.kind S.holders ++ principal_of h ∷ [])

-- another of the kind has the name
abbrev pub is_name_taken : State → Holder → Bool
is_name_taken S h = list_any (λ p. bytes_eq p.name h.name) (principals_of h.kind S.holders)

-- with this holder
abbrev pub holder_fault : State → Holder → Option ImageKind
holder_fault S h =
    if not (may_hold S h) then Some BadOrder
    else if not (is_holder_fit h) then Some (InText BadNumber)
    else if not (is_principal_name h.name && not (is_name_taken S h)) then Some BadName
    else None

-- an inode may be told next: there are graces, users and groups, no name yet, and all others have lower numbers
abbrev pub may_stand : State → ℕ → Bool
may_stand S number =
    has_graces S && not (are_none (principals_of User S.holders)) && not (are_none (principals_of Group S.holders))
    && are_none S.names && is_behind nat_cmp (keys_of S.inodes) number

-- with this inode
abbrev pub inode_fault : State → ℕ × Inode → Option ImageKind
inode_fault S e =
    if not (may_stand S e.0) then Some BadOrder
    else if not (is_inode_fit S e) then Some (InText BadNumber)
    else if not (has_known_owners S e.1) then Some BadOwner
    else None

-- the block is a whole one or reaches to the size, if it begins below it
abbrev pub is_block_long : ℕ → ℕ × List ℕ → Bool
is_block_long size b = not (begins_below size b.0) || length b.1 == min BLOCK_SIZE (size - b.0 * BLOCK_SIZE)

-- with this block of this file
abbrev pub block_fault : File → ℕ × List ℕ → Option ImageKind
block_fault file b =
    if not (is_block_long (size_of file) b) then Some (InText BadHex)
    else if not (begins_below (size_of file) b.0 && is_behind nat_cmp file.allocated b.0) then Some BadOrder
    else None

-- one name more may lead to this number from this directory: to a directory the first, and to no inode too many
abbrev pub may_lead : State → ℕ → ℕ → Bool
may_lead S dir number =
    not (number == ROOT)
    && (if is_directory S number then names_to S number == 0 && nat_lt (links_of S dir true) MAX_LINKS
    else nat_lt (names_to S number) MAX_LINKS)

-- with this name
abbrev pub name_fault : State → NameKey → ℕ → Option ImageKind
name_fault S key number =
    if not (has_graces S && is_behind name_key_cmp (keys_of S.names) key) then Some BadOrder
    else if not (is_path_name key.1) then Some BadName
    else if not (leads S (key, number) && may_lead S key.0 number) then Some NoInode
    else None

-- with this row
abbrev pub next_fault : State → Row → Option ImageKind
next_fault S (Bounds size most next) = bounds_fault S size most next
next_fault S (Grace graces) = graces_fault S graces
next_fault S (Record h blocks inodes) = holder_fault S h
next_fault S (Directory number owners) = inode_fault S (number, new_directory owners)
next_fault S (FileHead number owners size) =
    inode_fault S (number, record { dir = false; owners = owners; file = unfilled size })
next_fault S (Block b) = block_fault (open_file S) b
next_fault S (Name key number) = name_fault S key number
