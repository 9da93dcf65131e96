-- What the records of an image tell of.
use Rattle.std.specs.Prelude.{◌≡◌, ℕ, Bool, true, false, ◌&&◌, List, [], ◌∷◌, ◌++◌, map, None}
use Rattle.qrules.specs.declared.kind.Kind.{Kind}
use Rattle.qrules.specs.declared.kind.Kind.TheVariants.{User, Group, Project}
use Rattle.qrules.specs.Kinds.{by_kind, is_same_kind}
use Rattle.qplain.specs.State.{Holder, State}
use Rattle.qplain_image.specs.Parts.{HolderPart}
use Rattle.qplain_image.specs.Rows.{Row, Record, blank, with_row}
use Rattle.qtext_image.specs.NextFaults.{are_none}
use Rattle.qtext_image_read.specs.declared.record.ImageRecord.{ImageRecord}
use Rattle.qstore_open.specs.declared.records.ToldRecord.{ToldRecord}
use Rattle.qstore_open.specs.declared.records.ToldRecords.{ToldRecords}

-- what a record of this kind tells
abbrev pub part_of : Kind → ToldRecord → HolderPart
part_of kind t = record {
  holder = record {
    kind = kind;
    id = t.id;
    name = t.name;
    limits = t.quota.limits;
    block_end = t.quota.block_end;
    inode_end = t.quota.inode_end;
  };
  blocks = t.quota.blocks;
  inodes = t.quota.inodes;
}

-- what all records tell, those of users before those of groups and these before those of projects
abbrev pub parts_of : ToldRecords → List HolderPart
parts_of records = map (part_of User) records.users.items
    ++ (map (part_of Group) records.groups.items ++ map (part_of Project) records.projects.items)

-- the records of a kind
abbrev pub records_in : Kind → ToldRecords → List ToldRecord
records_in kind records = by_kind records.users.items records.groups.items records.projects.items kind

-- a holder of this kind and id, of whom nothing else is told
abbrev pub holder_of : Kind → ℕ → Holder
holder_of kind id = record {
  kind = kind;
  id = id;
  name = [];
  limits = record { block_soft = 0; block_hard = 0; inode_soft = 0; inode_hard = 0 };
  block_end = None;
  inode_end = None;
}

-- none of a later kind is told
abbrev pub are_later_none : Kind → ToldRecords → Bool
are_later_none User r = are_none r.groups.items && are_none r.projects.items
are_later_none Group r = are_none r.projects.items
are_later_none Project r = true

-- the id of the first of them, and where there is none this one
abbrev pub first_id : ℕ → List ToldRecord → ℕ
first_id id [] = id
first_id id (t ∷ ts) = t.id

-- one record more stands behind those of its kind
pub record IsPushed (kind : Kind) (t : ToldRecord) (old new : ToldRecords) : Type 0 where
  pub own : records_in kind new ≡ records_in kind old ++ t ∷ []
  pub others : (k : Kind) → is_same_kind kind k ≡ false → records_in k new ≡ records_in k old

-- what a row of a record tells
abbrev pub part_in : ImageRecord → HolderPart
part_in r = record {
  holder = record {
    kind = r.kind;
    id = r.id;
    name = r.name.now;
    limits = r.limits;
    block_end = r.block_end;
    inode_end = r.inode_end;
  };
  blocks = r.blocks;
  inodes = r.inodes;
}

-- what rows have told: the state that they make, and the records with the uses that they tell
pub record Told : Type 0 where
  pub state : State
  pub records : List HolderPart

-- nothing is told under this file limit
abbrev pub nothing_told : ℕ → Told
nothing_told limit = record { state = blank limit; records = [] }

-- the records with that of a row, if it is one
abbrev pub records_more : List HolderPart → Row → List HolderPart
records_more ts (Record h blocks inodes) = ts ++ record { holder = h; blocks = blocks; inodes = inodes } ∷ []
records_more ts r = ts

-- what is told with one row more
abbrev pub told_more : Told → Row → Told
told_more t r = record { state = with_row t.state r; records = records_more t.records r }
