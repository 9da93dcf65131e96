-- What is told of the inodes of a state, whose numbers and owners pass.
use Rattle.std.proofs.Common.{◌≡◌, ℕ, Bool, true, false, ◌&&◌, nat_le, nat_lt, List, [], ◌∷◌, ◌++◌, All, map, refl, sym, ap, subst, ◌∙◌, arith, tests}
use Rattle.std.specs.List.{list_all, AllByRecursion}
use Rattle.std.specs.Map.{keys_of, values_of}
use Rattle.std.proofs.lemmas.List.Elements.{All-head, All-tail}
use Rattle.qrules.specs.declared.kind.Kind.TheVariants.{User, Group, Project}
use Rattle.qblocks.specs.File.{File, size_of}
use Rattle.qplain.specs.declared.owners.Owners.{Owners}
use Rattle.qplain.specs.State.{Holder, Inode, State}
use Rattle.qplain.specs.Use.{owner}
use Rattle.qplain_laws.specs.Laws.{AreKnown, is_known_owner}
use Rattle.qplain_laws.specs.Sizes.{IsRightSized}
use Rattle.qplain_image.specs.Blocks.{AreBlocksOf, blocks_in}
use Rattle.qplain_image.specs.Parts.{InodePart}
use Rattle.qplain_image.proofs.Refilling.{files_are_made_again}
use Rattle.qplain_image.proofs.GivingBack.{blocks_are_given_back}
use Rattle.qplain_image.proofs.Remaking.{HasRows}
use Rattle.qplain_image.proofs.Returning.{entry_of, file_by}
use Rattle.qtext.proofs.Joining.{and_both}
use Rattle.qtext_image.specs.Faults.{has_known_owners, holds_nothing, is_inode_fit}
use Rattle.qtext_image.proofs.Parted.{HasBlocks, blocks-are, blocks-front, holder_part, inode_part}

-- what is told of an inode whose numbers and owners pass
pub record IsPartFit (S : State) (p : InodePart) : Type 0 where
  pub low : nat_lt p.number S.next ≡ true
  pub size : nat_le p.size S.file_limit ≡ true
  pub known : (is_known_owner S User (owner User p.owners) && is_known_owner S Group (owner Group p.owners)
      && is_known_owner S Project (owner Project p.owners)) ≡ true
  pub blocks : HasBlocks p

pub parts-blocks-fit : (S : State) (ps : List InodePart) → AllByRecursion (IsPartFit S) ps → AllByRecursion HasBlocks ps
parts-blocks-fit S [] all = tt
parts-blocks-fit S (p ∷ ps) all = (all.0.blocks, parts-blocks-fit S ps all.1)

file-size : (dir : Bool) (size limit : ℕ) (blocks : List (ℕ × List ℕ)) → AreBlocksOf size 0 blocks → nat_le size limit ≡ true
    → nat_le (size_of (file_by dir size blocks)) limit ≡ true
file-size true size limit blocks are fits = grind (arith, tests)
file-size false size limit blocks are fits = ap (λ n. nat_le n limit) (blocks_are_given_back size blocks are).0 ∙ fits

pub parts-fit : (S : State) (ps : List InodePart) → AllByRecursion (IsPartFit S) ps → list_all (is_inode_fit S) (map entry_of ps) ≡ true
parts-fit S [] all = refl
parts-fit S (p ∷ ps) all =
    and_both (is_inode_fit S (entry_of p)) (list_all (is_inode_fit S) (map entry_of ps))
    (and_both (nat_lt p.number S.next) _ all.0.low (file-size p.dir p.size S.file_limit p.blocks all.0.blocks all.0.size)) (parts-fit S ps all.1)

pub parts-known : (S : State) (ps : List InodePart) → AllByRecursion (IsPartFit S) ps → list_all (has_known_owners S) (values_of (map entry_of ps)) ≡ true
parts-known S [] all = refl
parts-known S (p ∷ ps) all =
    and_both (has_known_owners S (entry_of p).1) (list_all (has_known_owners S) (values_of (map entry_of ps))) all.0.known (parts-known S ps all.1)

part-holds : (dir : Bool) (owners : Owners) (size : ℕ) (blocks : List (ℕ × List ℕ))
    → holds_nothing (record { dir = dir; owners = owners; file = file_by dir size blocks }) ≡ true
part-holds true owners size blocks = refl
part-holds false owners size blocks = refl

pub parts-hold : (ps : List InodePart) → list_all holds_nothing (values_of (map entry_of ps)) ≡ true
parts-hold [] = refl
parts-hold (p ∷ ps) =
    and_both (holds_nothing (entry_of p).1) (list_all holds_nothing (values_of (map entry_of ps))) (part-holds p.dir p.owners p.size p.blocks) (parts-hold ps)

pub keys-of-parts : (ps : List InodePart) → keys_of (map entry_of ps) ≡ map (λ p. p.number) ps
keys-of-parts [] = refl
keys-of-parts (p ∷ ps) = ap (λ l. p.number ∷ l) (keys-of-parts ps)

pub numbers-are : (es : List (ℕ × Inode)) → map (λ p. p.number) (map inode_part es) ≡ keys_of es
numbers-are [] = refl
numbers-are (e ∷ es) = ap (λ l. e.0 ∷ l) (numbers-are es)

pub holders-are : (S : State) (hs : List Holder) → map (λ t. t.holder) (map (holder_part S) hs) ≡ hs
holders-are S [] = refl
holders-are S (h ∷ hs) = ap (λ l. h ∷ l) (holders-are S hs)

-- the first parts and one with fewer blocks
pub parts-front : (S : State) (done rest : List InodePart) (p : InodePart) (first more : List (ℕ × List ℕ)) → first ++ more ≡ p.blocks
    → AllByRecursion (IsPartFit S) (done ++ p ∷ rest) → AllByRecursion (IsPartFit S) (done ++ record p { blocks = first } ∷ [])
parts-front S [] rest p first more are all = (
  record {
    low = all.0.low;
    size = all.0.size;
    known = all.0.known;
    blocks = blocks-front p.size 0 first more (subst (λ bs. AreBlocksOf p.size 0 bs) (sym are) all.0.blocks);
  },
  tt,
)
parts-front S (d ∷ done) rest p first more are all = (all.0, parts-front S done rest p first more are all.1)

-- all parts of a state
abbrev pub IsFitInode : State → Inode → Type 0
IsFitInode S inode = IsRightSized S.file_limit inode.file × AreKnown S inode.owners × HasRows inode

pub all-parts-fit : (S : State) (es : List (ℕ × Inode)) → AllByRecursion (λ e. nat_lt e.0 S.next ≡ true) es → All (IsFitInode S) (values_of es)
    → AllByRecursion (IsPartFit S) (map inode_part es)
all-parts-fit S [] low fits = tt
all-parts-fit S (e ∷ es) low fits =
    let is = All-head (IsFitInode S) e.1 (values_of es) fits in (
      record {
        low = low.0;
        size = grind (arith, tests, is.0.size);
        known = rw (is.1 User, is.1 Group, is.1 Project) refl;
        blocks = blocks-are e.1.file is.2.file;
      },
      all-parts-fit S es low.1 (All-tail (IsFitInode S) e.1 (values_of es) fits),
    )

entry-is : (number : ℕ) (dir : Bool) (owners : Owners) (file : File) → HasRows (record { dir = dir; owners = owners; file = file })
    → file_by dir (size_of file) (blocks_in file) ≡ file
entry-is number true owners file has = sym (has.directory refl)
entry-is number false owners file has = files_are_made_again file has.file

pub entries-are : (es : List (ℕ × Inode)) → All HasRows (values_of es) → map entry_of (map inode_part es) ≡ es
entries-are [] has = refl
entries-are (e ∷ es) has = λ i.
    (e.0, record { dir = e.1.dir; owners = e.1.owners; file = entry-is e.0 e.1.dir e.1.owners e.1.file (All-head HasRows e.1 (values_of es) has) i })
    ∷ entries-are es (All-tail HasRows e.1 (values_of es) has) i
