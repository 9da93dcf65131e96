-- Bytes and ids that were written are what their types can hold.
use Rattle.std.proofs.Common.{◌≡◌, ◌==◌, ℕ, ◌+◌, ◌*◌, ◌/◌, ◌%◌, ◌<◌, ◌^◌, ◌||◌, Bool, true, false, List, [], ◌∷◌}
use Rattle.std.proofs.Common.{drop, drop-cons, get_or, length, map, add-one, All, Result, Ok, Err, slice_index, refl}
use Rattle.std.proofs.Common.{ap, ◌∙◌, arith, subst}
use Rattle.std.specs.List.{AllByRecursion, list_any}
use Rattle.std.specs.Map.{values_of}
use Rattle.std.specs.Prelude.{IfOk}
use Rattle.std.proofs.lemmas.Bool.{eqb-true}
use Rattle.std.proofs.lemmas.List.{get_or-drop, get_or-take}
use Rattle.std.proofs.lemmas.List.Elements.{All-cons, All-from_recursion, All-head, All-nil, All-tail}
use Rattle.qblocks.specs.declared.block.TheConstants.{BLOCK_SIZE}
use Rattle.qblocks.specs.File.{File, is_allocated}
use Rattle.qplain.specs.Ranges.{AreBytes}
use Rattle.qplain.specs.State.{Inode, State}
use Rattle.qplain_laws.specs.Holes.{HolesAreEmpty}
use Rattle.qplain_laws.specs.Laws.{IsLawful, IsSound}
use Rattle.qplain_image.specs.Blocks.{block_in}
use Rattle.qtext_image.specs.Held.{IsStateTyped}
use Rattle.qtext_image_write.specs.Typed.{HasTypedBlocks}

pub always : {T E : Type 0} (r : Result T E) (P : Type 0) → P → IfOk r (λ _. P)
always (Ok x) P p = p
always (Err e) P p = tt

-- one more is known, of those that are left
pub one_more : {A : Type 0} (P : A → Type 0) (xs : List A) (i : ℕ) (x d : A) → x ≡ get_or xs i d → i < length xs → P x
    → (AllByRecursion P (drop i xs) → AllByRecursion P xs) → AllByRecursion P (drop (i + 1) xs) → AllByRecursion P xs
one_more P xs i x d is lt here so_far rest =
    let cut : drop i xs ≡ x ∷ drop (i + 1) xs = rw (is, add-one i) (drop-cons xs i d lt) in
    so_far (rw cut (here, rest))

-- what is known of nodes is known of the inodes that they are
pub known_of_all : {A B : Type 0} (view : A → B) (P : B → Type 0) (xs : List A) (ys : List B) → map view xs ≡ ys
    → AllByRecursion (λ x. P (view x)) xs → AllByRecursion P ys
known_of_all {A = A} view P xs ys are all = rw (← are) (mapped xs all)
  where
    mapped : (zs : List A) → AllByRecursion (λ x. P (view x)) zs → AllByRecursion P (map view zs)
    mapped [] all = tt
    mapped (z ∷ zs) all = (all.0, mapped zs all.1)

-- what is known of rows is known of what they are the rows of
pub known_before : {A B : Type 0} (view : A → B) (P : B → Type 0) (xs : List A) → AllByRecursion P (map view xs)
    → AllByRecursion (λ x. P (view x)) xs
known_before view P [] all = tt
known_before view P (x ∷ xs) all = (all.0, known_before view P xs all.1)

listed : (P : ℕ → Type 0) (ks : List ℕ) (k : ℕ) → All P ks → list_any (λ x. x == k) ks ≡ true → P k
listed P [] k all found = absurd (cc found)
listed P (x ∷ xs) k all found = by (x == k) refl found (listed P xs k (All-tail P x xs all))
  where
    by : (b : Bool) → (x == k) ≡ b → (b || list_any (λ y. y == k) xs) ≡ true
        → (list_any (λ y. y == k) xs ≡ true → P k) → P k
    by true at found later = subst P (eqb-true x k at) (All-head P x xs all)
    by false at found later = later found

byte_in_block : (file : File) (i : ℕ) → AreBytes (block_in file (i / BLOCK_SIZE)) → slice_index file.bytes i < 256
byte_in_block file i typed =
    let k : ℕ = i / BLOCK_SIZE in
    let j : ℕ = i % BLOCK_SIZE in
    let within : j < BLOCK_SIZE = omega arith in
    let place : k * BLOCK_SIZE + j ≡ i = omega arith in
    let same : slice_index (block_in file k) j ≡ slice_index file.bytes i =
    get_or-take BLOCK_SIZE (drop (k * BLOCK_SIZE) file.bytes) j 0 within ∙ get_or-drop (k * BLOCK_SIZE) file.bytes j 0
    ∙ ap (slice_index file.bytes) place in
    subst (λ b. b < 256) same (typed j)

-- all bytes of a file have 8 bits where those of its blocks have, since the others are 0
bytes_typed : (file : File) → HolesAreEmpty file → HasTypedBlocks file → AreBytes file.bytes
bytes_typed file holes typed i = by (is_allocated file (i / BLOCK_SIZE)) refl
  where
    by : (b : Bool) → is_allocated file (i / BLOCK_SIZE) ≡ b → slice_index file.bytes i < 256
    by true there =
        byte_in_block file i (listed (λ k. AreBytes (block_in file k)) file.allocated (i / BLOCK_SIZE) typed there)
    by false none = rw (holes i none) (omega arith)

all_typed : (es : List (ℕ × Inode)) → All IsSound (values_of es) → AllByRecursion (λ e. HasTypedBlocks e.1.file) es
    → All (λ inode. AreBytes inode.file.bytes) (values_of es)
all_typed [] sound typed = All-nil (λ inode. AreBytes inode.file.bytes)
all_typed (e ∷ es) sound typed =
    All-cons (λ inode. AreBytes inode.file.bytes) e.1 (values_of es)
    (bytes_typed e.1.file (All-head IsSound e.1 (values_of es) sound).holes typed.0)
    (all_typed es (All-tail IsSound e.1 (values_of es) sound) typed.1)

-- a lawful state is what types can hold where ids and bytes of blocks are
pub state_typed : (S : State) → IsLawful S → AllByRecursion (λ h. h.id < 2 ^ 32) S.holders
    → AllByRecursion (λ e. HasTypedBlocks e.1.file) S.inodes → IsStateTyped S
state_typed S lawful ids blocks = record {
  ids = All-from_recursion (λ h. h.id < 2 ^ 32) S.holders ids;
  bytes = all_typed S.inodes lawful.parts.inodes.sound blocks;
}
