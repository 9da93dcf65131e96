-- How an image is spelled out: a line for its head and one for each row, each in its one spelling.
use Rattle.std.specs.Prelude.{ℕ, List, [], ◌∷◌, ◌++◌, codes, decimal}
use Rattle.std.specs.List.{flat_map, join_with_byte}
use Rattle.qplain.specs.declared.edition.Edition.{Edition}
use Rattle.qplain.specs.declared.owners.Owners.{Owners}
use Rattle.qplain.specs.State.{State}
use Rattle.qplain_image.specs.Rows.{Row, Bounds, Grace, Record, Directory, FileHead, Block, Name, rows_of}
use Rattle.qtext.specs.Pieces.{data_text}
use Rattle.qtext.specs.RuleWords.{kind_text}
use Rattle.qtext_read.specs.Replies.{end_text}
use Rattle.qtext_read.specs.Spelling.{owner_text}
use Rattle.qtext_files.specs.Spelling.{edition_text}

-- UID GID PROJECT, a dash for no project
abbrev pub owners_words : Owners → List (List ℕ) → List (List ℕ)
owners_words o rest = decimal o.uid ∷ decimal o.gid ∷ owner_text o.project ∷ rest

-- the words of a row, of which the first tells which row it is
abbrev pub row_words : Row → List (List ℕ)
row_words (Bounds size most next) = codes "store" ∷ decimal size ∷ decimal most ∷ decimal next ∷ []
row_words (Grace g) = codes "graces" ∷ decimal g.block ∷ decimal g.inode ∷ []
row_words (Record h blocks inodes) = kind_text h.kind ∷ decimal h.id ∷ h.name ∷ decimal blocks ∷ decimal inodes
    ∷ decimal h.limits.block_soft ∷ decimal h.limits.block_hard
    ∷ decimal h.limits.inode_soft ∷ decimal h.limits.inode_hard ∷ end_text h.block_end ∷ end_text h.inode_end ∷ []
row_words (Directory number owners) = codes "dir" ∷ decimal number ∷ owners_words owners []
row_words (FileHead number owners size) = codes "file" ∷ decimal number ∷ owners_words owners (decimal size ∷ [])
row_words (Block b) = codes "block" ∷ decimal b.0 ∷ data_text b.1 ∷ []
row_words (Name key number) = codes "name" ∷ decimal key.0 ∷ key.1 ∷ decimal number ∷ []

-- a row with a space between its words and a line end after it
abbrev pub row_text : Row → List ℕ
row_text r = join_with_byte 0x20 (row_words r) ++ 10 ∷ []

-- quotafs image E at PLACE
abbrev pub head_words : Edition → ℕ → List (List ℕ)
head_words edition place = codes "quotafs" ∷ codes "image" ∷ edition_text edition ∷ codes "at" ∷ decimal place ∷ []

-- the first line
abbrev pub head_text : Edition → ℕ → List ℕ
head_text edition place = join_with_byte 0x20 (head_words edition place) ++ 10 ∷ []

-- the last line
abbrev pub end_line : List ℕ
end_line = codes "end\n"

-- rows of this edition after so many calls, spelled out
abbrev pub rows_text : Edition → ℕ → List Row → List ℕ
rows_text edition place rows = head_text edition place ++ (flat_map row_text rows ++ end_line)

-- an image of a state of this edition after so many calls, spelled out
abbrev pub image_text : Edition → ℕ → State → List ℕ
image_text edition place S = rows_text edition place (rows_of S)
