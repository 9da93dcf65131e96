-- What is wrong with a row of an image, whatever may follow it.
use Rattle.std.specs.Prelude.{ℕ, ◌+◌, ◌-◌, ◌*◌, ◌==◌, min, Bool, true, not, ◌&&◌, ◌||◌, nat_le, nat_lt}
use Rattle.std.specs.Prelude.{List, [], ◌∷◌, length, map}
use Rattle.std.specs.Prelude.{Option, Some, None, if◌then◌else◌}
use Rattle.std.specs.declared.cmp.Ordering.{Ordering}
use Rattle.std.specs.Cmp.Lexicographic.{pointwise}
use Rattle.std.specs.List.{list_all, list_any, starts_with}
use Rattle.std.specs.Map.{keys_of, values_of}
use Rattle.std.specs.Ordering.{is_lt, nat_cmp}
use Rattle.std.specs.Str.{bytes_eq}
use Rattle.qrules.specs.declared.graces.Graces.{Graces}
use Rattle.qrules.specs.declared.graces.TheConstants.{MAX_GRACE, MAX_MOMENT}
use Rattle.qrules.specs.declared.kind.Kind.TheVariants.{User, Group, Project}
use Rattle.qrules.specs.Range.{are_graces_in_range, are_limits_in_range}
use Rattle.qblocks.specs.declared.block.TheConstants.{BLOCK_SIZE}
use Rattle.qblocks.specs.File.{begins_below, blocks_of, size_of}
use Rattle.qplain.specs.declared.bounds.TheConstants.{MAX_NAME, MAX_NUMBER, ROOT}
use Rattle.qplain.specs.declared.principal.Principal.{Principal}
use Rattle.qplain.specs.declared.principal.TheConstants.{MAX_PRINCIPALS}
use Rattle.qplain.specs.declared.setup.TheConstants.{MAX_BLOCKS, MAX_INODES}
use Rattle.qplain.specs.Paths.{is_path_byte}
use Rattle.qplain.specs.Principals.{has_duplicate, is_principal_name}
use Rattle.qplain.specs.State.{Holder, Inode, State, holder_cmp, name_key_cmp}
use Rattle.qplain.specs.Use.{has_too_many_links, names_to, owner}
use Rattle.qplain.specs.Walk.{is_name, is_slash}
use Rattle.qplain_laws.specs.Laws.{is_known_owner, leads}
use Rattle.qplain_image.specs.Rows.{Row, Record, FileHead, Block, made_of, rows_of}
use Rattle.qtext.specs.declared.text_fault.TextKind.{TextKind}
use Rattle.qtext.specs.declared.text_fault.TextKind.TheVariants.{BadHex, BadNumber}
use Rattle.qtext_image.specs.Setups.{is_granted, principals_of, setup_of}
use Rattle.qtext_image.specs.Spelling.{row_words}

-- what is wrong with a line: a fault of its text, where a number out of its range is a bad number and data of another
-- length are bad data; a row that may not stand there; an owner that is not declared; a name that is none; a name that
-- leads where none may; and what all rows together show not to be so: a use, a total, an end, the root, or the names of
-- an inode
pub data ImageKind : Type 0 where
  InText : TextKind → ImageKind
  BadOrder : ImageKind
  BadOwner : ImageKind
  BadName : ImageKind
  NoInode : ImageKind
  BadCount : ImageKind

-- the line that is told, counted from 1, and what is wrong there: the first line that is wrong whatever follows it, or
-- where there is none the first that is wrong beside all others
pub record ImageFault : Type 0 where
  pub line : ℕ
  pub kind : ImageKind

-- the row without the uses of a holder
abbrev pub untold : Row → Row
untold (Record h blocks inodes) = Record h 0 0
untold r = r

-- the rows are spelled in the same words
abbrev pub is_same_row : Row → Row → Bool
is_same_row r other = pointwise bytes_eq (row_words r) (row_words other)

-- each block that begins below its file's size is a whole one or reaches to the size; this is the size of the file that
-- the rows before tell of last, and 0 where that is none
abbrev pub are_blocks_long : ℕ → List Row → Bool
are_blocks_long size [] = true
are_blocks_long size (FileHead number owners told ∷ rows) = are_blocks_long told rows
are_blocks_long size (Block b ∷ rows) =
    (not (begins_below size b.0) || length b.1 == min BLOCK_SIZE (size - b.0 * BLOCK_SIZE))
    && are_blocks_long size rows
are_blocks_long size (r ∷ rows) = are_blocks_long 0 rows

-- the rows begin those of this state, but for uses
abbrev pub are_begun : List Row → State → Bool
are_begun rows S = starts_with is_same_row (map untold (rows_of S)) (map untold rows)

-- each stands before all behind it
abbrev pub do_rise : {K : Type 0} → (K → K → Ordering) → List K → Bool
do_rise cmp [] = true
do_rise cmp (k ∷ ks) = list_all (λ other. is_lt (cmp k other)) ks && do_rise cmp ks

-- a directory has no bytes and no blocks
abbrev pub holds_nothing : Inode → Bool
holds_nothing inode = not inode.dir || (size_of inode.file == 0 && blocks_of inode.file == 0)

-- the first of the principals, if there are any, has the id 0, and they are no more than there may be
abbrev pub is_begun_kind : List Principal → Bool
is_begun_kind [] = true
is_begun_kind (p ∷ ps) = p.id == 0 && nat_le (length (p ∷ ps)) MAX_PRINCIPALS

-- so it is for each kind
abbrev pub do_kinds_begin : State → Bool
do_kinds_begin S =
    is_begun_kind (principals_of User S.holders) && is_begun_kind (principals_of Group S.holders)
    && is_begun_kind (principals_of Project S.holders)

-- holders rise by kind and id, of each kind from id 0 on and no more than there may be, inodes rise by number and names
-- by key; no block is a directory's; and where an inode stands, a whole setup is before it
abbrev pub is_ordered : State → Bool
is_ordered S =
    do_rise holder_cmp S.holders && do_rise nat_cmp (keys_of S.inodes) && do_rise name_key_cmp (keys_of S.names)
    && list_all holds_nothing (values_of S.inodes) && is_granted S.inodes (setup_of S)
    && do_kinds_begin S

-- the bounds are such as a setup may have
abbrev pub are_bounds_fit : State → Bool
are_bounds_fit S =
    nat_le 1 S.size && nat_le S.size MAX_BLOCKS && nat_le 1 S.most_inodes && nat_le S.most_inodes MAX_INODES

-- the graces are in range; where one row stands, none are told yet
abbrev pub are_graces_fit : List Row → Graces → Bool
are_graces_fit (bounds ∷ []) graces = true
are_graces_fit rows graces = are_graces_in_range graces

-- a grace end that stands is at most what the latest moment and the longest grace add up to
abbrev pub is_end_fit : Option ℕ → Bool
is_end_fit None = true
is_end_fit (Some end) = nat_le end (MAX_MOMENT + MAX_GRACE)

-- the limits and the ends of a holder are in range
abbrev pub is_holder_fit : Holder → Bool
is_holder_fit h = are_limits_in_range h.limits && is_end_fit h.block_end && is_end_fit h.inode_end

-- the number of an inode is below the next one, and a file within the file limit
abbrev pub is_inode_fit : State → ℕ × Inode → Bool
is_inode_fit S e = nat_lt e.0 S.next && nat_le (size_of e.1.file) S.file_limit

-- every number that is told by these rows is in its range
abbrev pub are_numbers_fit : List Row → State → Bool
are_numbers_fit rows S =
    are_bounds_fit S && nat_le S.next (MAX_NUMBER + 1) && are_graces_fit rows S.graces
    && list_all is_holder_fit S.holders && list_all (is_inode_fit S) S.inodes

-- a name as paths have them: neither empty nor `.` nor `..`, not too long, of bytes that print and with no slash
abbrev pub is_path_name : List ℕ → Bool
is_path_name name =
    is_name name && nat_le (length name) MAX_NAME && list_all is_path_byte name && not (list_any is_slash name)

-- two principals of a kind have the same name, or the same id
abbrev pub has_twins : State → Bool
has_twins S =
    has_duplicate (principals_of User S.holders) || has_duplicate (principals_of Group S.holders)
    || has_duplicate (principals_of Project S.holders)

-- names of principals are such as a setup may have, and names of inodes such as paths have
abbrev pub has_good_names : State → Bool
has_good_names S =
    list_all (λ h. is_principal_name h.name) S.holders && not (has_twins S)
    && list_all (λ e. is_path_name e.0.1) S.names

-- an inode's user and group are declared, and its project where any is
abbrev pub has_known_owners : State → Inode → Bool
has_known_owners S inode =
    is_known_owner S User (owner User inode.owners) && is_known_owner S Group (owner Group inode.owners)
    && is_known_owner S Project (owner Project inode.owners)

-- the root has no name, and another directory no second one
abbrev pub has_few_names : State → ℕ × Inode → Bool
has_few_names S e =
    if e.0 == ROOT then names_to S e.0 == 0
    else if e.1.dir then nat_le (names_to S e.0) 1
    else true

-- each name stands in a directory and leads to an inode, none of which has too many names
abbrev pub do_lead : State → Bool
do_lead S = list_all (leads S) S.names && not (has_too_many_links S) && list_all (has_few_names S) S.inodes

-- what is wrong with the last of the rows of which this state is made
abbrev pub fault_in : List Row → State → Option ImageKind
fault_in rows S =
    if not (are_blocks_long 0 rows) then Some (InText BadHex)
    else if not (are_begun rows S && is_ordered S) then Some BadOrder
    else if not (are_numbers_fit rows S) then Some (InText BadNumber)
    else if not (has_good_names S) then Some BadName
    else if not (list_all (has_known_owners S) (values_of S.inodes)) then Some BadOwner
    else if not (do_lead S) then Some NoInode
    else None

-- what is wrong with the last of these rows under this file limit, where those before it are not at fault
abbrev pub row_fault : ℕ → List Row → Option ImageKind
row_fault limit rows = fault_in rows (made_of limit rows)
