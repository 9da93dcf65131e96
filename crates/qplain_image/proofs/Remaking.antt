-- A state is made again of its rows.
use Rattle.std.proofs.Common.{◌≡◌, ℕ, Bool, true, false, List, [], ◌∷◌, ◌++◌, All, map, fold, refl, sym, ap, ◌∙◌, append_assoc}
use Rattle.std.specs.List.{flat_map}
use Rattle.std.specs.Map.{values_of}
use Rattle.std.proofs.lemmas.List.{append-nil}
use Rattle.std.proofs.lemmas.List.Sums.{fold-append}
use Rattle.std.proofs.lemmas.List.Elements.{All-head, All-tail}
use Rattle.qblocks.specs.File.{File, empty_file, size_of}
use Rattle.qplain.specs.declared.owners.Owners.{Owners}
use Rattle.qplain.specs.Setups.{Setting}
use Rattle.qplain.specs.State.{Holder, Inode, NameKey, State}
use Rattle.qplain_laws.specs.Beginnings.{IsStateOf}
use Rattle.qplain_image.specs.Blocks.{IsSparse, blocks_in, unfilled, with_block}
use Rattle.qplain_image.specs.Rows.{Row, StatesAreMadeAgain, Block, Name, blank, holder_row, inode_rows, made_of, rows_by, rows_of, with_last_block, with_row}
use Rattle.qplain_image.proofs.Refilling.{files_are_made_again}

-- the inode has rows that tell of all of it: a directory's file is empty, and a file is sparse
pub record HasRows (inode : Inode) : Type 0 where
  pub directory : inode.dir ≡ true → inode.file ≡ empty_file
  pub file : IsSparse inode.file

-- ---- holders

with_holders : (T S : State) (hs : List Holder) → fold with_row T (map (holder_row S) hs) ≡ record T { holders = T.holders ++ hs }
with_holders T S [] = ap (λ xs. record T { holders = xs }) (sym (append-nil T.holders))
with_holders T S (h ∷ hs) =
    with_holders (record T { holders = T.holders ++ h ∷ [] }) S hs ∙ ap (λ xs. record T { holders = xs }) (append_assoc T.holders (h ∷ []) hs)

-- ---- names

pub with_names : (T : State) (es : List (NameKey × ℕ)) → fold with_row T (map (λ e. Name e.0 e.1) es) ≡ record T { names = T.names ++ es }
with_names T [] = ap (λ xs. record T { names = xs }) (sym (append-nil T.names))
with_names T (e ∷ es) =
    with_names (record T { names = T.names ++ e ∷ [] }) es ∙ ap (λ xs. record T { names = xs }) (append_assoc T.names (e ∷ []) es)

-- ---- inodes

-- a block goes into the last file
last_block : (b : ℕ × List ℕ) (xs : List (ℕ × Inode)) (e : ℕ × Inode)
    → with_last_block b (xs ++ e ∷ []) ≡ xs ++ (e.0, record e.1 { file = with_block e.1.file b }) ∷ []
last_block b [] e = refl
last_block b (x ∷ []) e = refl
last_block b (x ∷ y ∷ xs) e = ap (λ es. x ∷ es) (last_block b (y ∷ xs) e)

-- and all of a file's do
pub with_blocks : (T : State) (xs : List (ℕ × Inode)) (number : ℕ) (inode : Inode) (bs : List (ℕ × List ℕ)) → T.inodes ≡ xs ++ (number, inode) ∷ []
    → fold with_row T (map (λ b. Block b) bs)
    ≡ record T { inodes = xs ++ (number, record inode { file = fold with_block inode.file bs }) ∷ [] }
with_blocks T xs number inode [] is = ap (λ es. record T { inodes = es }) is
with_blocks T xs number inode (b ∷ bs) is =
    with_blocks (record T { inodes = with_last_block b T.inodes }) xs number (record inode { file = with_block inode.file b }) bs
    (ap (with_last_block b) is ∙ last_block b xs (number, inode))

with_inode : (T : State) (number : ℕ) (dir : Bool) (owners : Owners) (file : File) → HasRows (record { dir = dir; owners = owners; file = file })
    → fold with_row T (rows_by dir number owners file)
    ≡ record T { inodes = T.inodes ++ (number, record { dir = dir; owners = owners; file = file }) ∷ [] }
with_inode T number true owners file has =
    ap (λ (f : File). record T { inodes = T.inodes ++ (number, record { dir = true; owners = owners; file = f }) ∷ [] }) (sym (has.directory refl))
with_inode T number false owners file has =
    let begun : Inode = record { dir = false; owners = owners; file = unfilled (size_of file) } in
    with_blocks (record T { inodes = T.inodes ++ (number, begun) ∷ [] }) T.inodes number begun (blocks_in file) refl
    ∙ ap (λ (f : File). record T { inodes = T.inodes ++ (number, record { dir = false; owners = owners; file = f }) ∷ [] })
    (files_are_made_again file has.file)

with_inodes : (T : State) (es : List (ℕ × Inode)) → All HasRows (values_of es)
    → fold with_row T (flat_map inode_rows es) ≡ record T { inodes = T.inodes ++ es }
with_inodes T [] all = ap (λ xs. record T { inodes = xs }) (sym (append-nil T.inodes))
with_inodes T (e ∷ es) all =
    fold-append with_row T (inode_rows e) (flat_map inode_rows es)
    ∙ ap (λ U. fold with_row U (flat_map inode_rows es)) (with_inode T e.0 e.1.dir e.1.owners e.1.file (All-head HasRows e.1 (values_of es) all))
    ∙ with_inodes (record T { inodes = T.inodes ++ e ∷ [] }) es (All-tail HasRows e.1 (values_of es) all)
    ∙ ap (λ xs. record T { inodes = xs }) (append_assoc T.inodes (e ∷ []) es)

-- ---- the whole state

-- a state is made again where each inode has its rows
of-rows : (S : State) → All HasRows (values_of S.inodes) → made_of S.file_limit (rows_of S) ≡ S
of-rows S has =
    let begun : State = record (blank S.file_limit) { size = S.size; most_inodes = S.most_inodes; next = S.next; graces = S.graces } in
    let inodes : List Row = flat_map inode_rows S.inodes in
    let names : List Row = map (λ e. Name e.0 e.1) S.names in
    fold-append with_row begun (map (holder_row S) S.holders) (inodes ++ names)
    ∙ ap (λ T. fold with_row T (inodes ++ names)) (with_holders begun S S.holders)
    ∙ fold-append with_row (record begun { holders = S.holders }) inodes names
    ∙ ap (λ T. fold with_row T names) (with_inodes (record begun { holders = S.holders }) S.inodes has)
    ∙ with_names (record begun { holders = S.holders; inodes = S.inodes }) S.names

-- each inode of such a state has its rows
pub rows-stand : (setting : Setting) (S : State) → IsStateOf setting S → All HasRows (values_of S.inodes)
rows-stand setting S is = λ k d below.
    let sound = is.lawful.parts.inodes.sound k d below in
    record {
      directory = sound.holds_nothing;
      file = record { in_order = sound.in_order; below = (is.sized k d below).blocks; holes = sound.holes };
    }

pub states_are_made_again : StatesAreMadeAgain
states_are_made_again setting S is =
    ap (λ limit. made_of limit (rows_of S)) (sym is.keeps.file_limit) ∙ of-rows S (rows-stand setting S is)
