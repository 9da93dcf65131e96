-- The lines of all rows, joined to the text of an image.
use Rattle.std.proofs.Common.{◌≡◌, ℕ, List, [], ◌∷◌, ◌++◌, map, refl, sym, ap, ◌∙◌, append_assoc, false}
use Rattle.std.specs.List.{flat_map}
use Rattle.std.proofs.lemmas.Grind.{flat_map-append}
use Rattle.std.proofs.lemmas.List.Concat.{flat_map-cons}
use Rattle.std.proofs.lemmas.List.Folds.{flat_map-map}
use Rattle.qblocks.specs.File.{File, size_of}
use Rattle.qplain.specs.declared.edition.Edition.{Edition}
use Rattle.qplain.specs.declared.owners.Owners.{Owners}
use Rattle.qplain.specs.State.{Inode, State}
use Rattle.qplain_image.specs.Blocks.{block_in, blocks_in}
use Rattle.qplain_image.specs.Rows.{Row, Block, Bounds, FileHead, Grace, Name, holder_row, inode_rows, rows_by}
use Rattle.qtext_image.specs.Spelling.{end_line, head_text, image_text, row_text}
use Rattle.qtext_image_write.specs.Lines.{blocks_text, holder_text, inode_text, name_text, settings_text, tree_text}

-- the lines of a file: its own, and those of its blocks
pub file_lines : (number : ℕ) (owners : Owners) (file : File) → flat_map row_text (rows_by false number owners file)
    ≡ row_text (FileHead number owners (size_of file)) ++ blocks_text file
file_lines number owners file =
    flat_map-cons row_text (FileHead number owners (size_of file)) (map (λ b. Block b) (blocks_in file))
    ∙ ap (λ (l : List ℕ). row_text (FileHead number owners (size_of file)) ++ l)
    (flat_map-map row_text (λ b. Block b) (blocks_in file)
    ∙ flat_map-map (λ b. row_text (Block b)) (λ k. (k, block_in file k)) file.allocated)

inode_lines : (es : List (ℕ × Inode)) → flat_map row_text (flat_map inode_rows es) ≡ flat_map inode_text es
inode_lines [] = refl
inode_lines (e ∷ es) =
    ap (flat_map row_text) (flat_map-cons inode_rows e es)
    ∙ flat_map-append row_text (inode_rows e) (flat_map inode_rows es)
    ∙ ap (λ (l : List ℕ). inode_text e ++ l) (inode_lines es)
    ∙ sym (flat_map-cons inode_text e es)

-- the lines of the sections behind the graces
section_lines : (S : State) → flat_map row_text
    (map (holder_row S) S.holders ++ (flat_map inode_rows S.inodes ++ map (λ e. Name e.0 e.1) S.names))
    ≡ flat_map (holder_text S) S.holders ++ (flat_map inode_text S.inodes ++ flat_map name_text S.names)
section_lines S =
    let holders : List Row = map (holder_row S) S.holders in
    let inodes : List Row = flat_map inode_rows S.inodes in
    let names : List Row = map (λ e. Name e.0 e.1) S.names in
    rw (
      flat_map-append row_text holders (inodes ++ names),
      flat_map-append row_text inodes names,
      flat_map-map row_text (holder_row S) S.holders,
      inode_lines S.inodes,
      flat_map-map row_text (λ e. Name e.0 e.1) S.names,
    ) refl

regrouped : (bounds graces holders inodes names last : List ℕ)
    → (bounds ++ (graces ++ (holders ++ (inodes ++ names)))) ++ last
    ≡ (bounds ++ (graces ++ holders)) ++ (inodes ++ (names ++ last))
regrouped bounds graces holders inodes names last = simp append_assoc

-- an image is its head, the lines of what is set and of who is known, and those of the inodes and the names
pub image_parts : (edition : Edition) (place : ℕ) (S : State)
    → image_text edition place S ≡ head_text edition place ++ (settings_text S ++ tree_text S)
image_parts edition place S =
    let bounds : Row = Bounds S.size S.most_inodes S.next in
    let graces : Row = Grace S.graces in
    let names : List Row = map (λ e. Name e.0 e.1) S.names in
    let behind : List Row = map (holder_row S) S.holders ++ (flat_map inode_rows S.inodes ++ names) in
    ap (λ (l : List ℕ). head_text edition place ++ (l ++ end_line))
    (flat_map-cons row_text bounds (graces ∷ behind)
    ∙ ap (λ (l : List ℕ). row_text bounds ++ l)
    (flat_map-cons row_text graces behind ∙ ap (λ (l : List ℕ). row_text graces ++ l) (section_lines S)))
    ∙ ap (λ (l : List ℕ). head_text edition place ++ l)
    (regrouped (row_text bounds) (row_text graces) (flat_map (holder_text S) S.holders) (flat_map inode_text S.inodes)
    (flat_map name_text S.names) end_line)
