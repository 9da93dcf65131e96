-- Where one block more may stand in the last file.
use Rattle.std.proofs.Common.{◌≡◌, ℕ, ◌+◌, ◌-◌, ◌*◌, ◌<◌, ◌≤◌, ◌^◌, ◌==◌, min, max, suc, Bool, true, false, not, ◌||◌, cond, nat_lt, List, [], ◌∷◌, drop, ◌++◌, fold, get_or, length, map, refl, sym, ap, subst, ◌∙◌, arith, tests, codes, decimal}
use Rattle.std.proofs.lemmas.Fmt.{decimal_is_IsNumeral_wide}
use Rattle.std.specs.Str.Parse.{digits_value}
use Rattle.std.specs.declared.cmp.Ordering.TheVariants.{Less, Equal, Greater}
use Rattle.std.specs.List.{starts_with, AllByRecursion}
use Rattle.std.specs.Ordering.{is_lt, nat_cmp}
use Rattle.std.proofs.lemmas.Bool.{and_parts, eqb-true}
use Rattle.std.proofs.lemmas.List.{length-append, length-map}
use Rattle.std.proofs.lemmas.List.Elements.{recursion_from_All}
use Rattle.std.proofs.Math.ListN.{length-take}
use Rattle.hex.proofs.HexLemmas.{length-encode_with}
use Rattle.hex.specs.Hex.{encode_lower}
use Rattle.qblocks.specs.declared.block.TheConstants.{BLOCK_SIZE}
use Rattle.qblocks.specs.File.{File, after_write, begins_below, size_of}
use Rattle.qblocks.proofs.Indexes.{Rises}
use Rattle.qplain.specs.declared.owners.Owners.{Owners}
use Rattle.qplain.specs.State.{Inode, NameKey}
use Rattle.qtext.specs.Pieces.{data_text}
use Rattle.qplain_image.specs.Blocks.{AreBlocksOf, IsBlockOf, block_in, blocks_in, refilled, unfilled, with_block}
use Rattle.qplain_image.specs.Rows.{Block, FileHead, with_last_block}
use Rattle.qplain_image.proofs.Refilling.{length-after}
use Rattle.qtext_image.specs.Faults.{is_same_row, untold}
use Rattle.qtext_image.specs.NextFaults.{is_behind, is_block_long, last_file}
use Rattle.qtext_image.specs.Spelling.{row_words}
use Rattle.qtext_image.proofs.Made.{IsWell, block-well, unfilled-well}
use Rattle.qtext_image.proofs.NextLists.{starts-longer}
use Rattle.qtext_image.proofs.Ordered.{same-words}
use Rattle.qtext_image.proofs.Prefixes.{name_row}

-- ---- the last inode

pub last-block : (b : ℕ × List ℕ) (xs : List (ℕ × Inode)) (e : ℕ × Inode)
    → with_last_block b (xs ++ e ∷ []) ≡ xs ++ (e.0, record e.1 { file = with_block e.1.file b }) ∷ []
last-block b [] e = refl
last-block b (x ∷ []) e = refl
last-block b (x ∷ y ∷ xs) e = ap (λ es. x ∷ es) (last-block b (y ∷ xs) e)

pub last-file : (xs : List (ℕ × Inode)) (e : ℕ × Inode) → last_file (xs ++ e ∷ []) ≡ e.1.file
last-file [] e = refl
last-file (x ∷ []) e = refl
last-file (x ∷ y ∷ xs) e = last-file (y ∷ xs) e

-- ---- numbers

-- numbers that are not too large are told apart by their digits
same-decimal : (m n : ℕ) → m < 2 ^ 96 → n < 2 ^ 96 → decimal m ≡ decimal n → m ≡ n
same-decimal m n small few same =
    sym (decimal_is_IsNumeral_wide m (omega (arith, small))).1 ∙ ap (digits_value 10) same ∙ (decimal_is_IsNumeral_wide n (omega (arith, few))).1

pub less-than : (x y : ℕ) → x < y → is_lt (nat_cmp x y) ≡ true
less-than x y lt = let less : nat_lt x y ≡ true = grind (arith, tests, lt) in rw less refl

pub from-less : (x y : ℕ) → is_lt (nat_cmp x y) ≡ true → x < y
from-less x y e = by (nat_lt x y) (x == y) refl e
  where
    by : (l s : Bool) → nat_lt x y ≡ l → is_lt (cond l Less (cond s Equal Greater)) ≡ true → x < y
    by true s less e = grind (arith, tests, less)
    by false true less e = absurd (cc e)
    by false false less e = absurd (cc e)

-- ---- blocks that may stand

indexes : List (ℕ × List ℕ) → List ℕ
indexes bs = map (λ b. b.0) bs

pub block-of : (size : ℕ) (b : ℕ × List ℕ) → is_block_long size b ≡ true → begins_below size b.0 ≡ true → IsBlockOf size b
block-of size b long begins = record { begins = begins; long = eqb-true (length b.1) (min BLOCK_SIZE (size - b.0 * BLOCK_SIZE)) (by begins long) }
  where
    by : begins_below size b.0 ≡ true → is_block_long size b ≡ true → (length b.1 == min BLOCK_SIZE (size - b.0 * BLOCK_SIZE)) ≡ true
    by begins long = sym (ap (λ c. not c || length b.1 == min BLOCK_SIZE (size - b.0 * BLOCK_SIZE)) begins) ∙ long

pub blocks-end : (size from : ℕ) (bs : List (ℕ × List ℕ)) (b : ℕ × List ℕ) → AreBlocksOf size from bs → from ≤ b.0 → IsBlockOf size b
    → is_behind nat_cmp (map (λ x. x.0) bs) b.0 ≡ true → AreBlocksOf size from (bs ++ b ∷ [])
blocks-end size from [] b are le is behind = (le, is, tt)
blocks-end size from (c ∷ bs) b are le is behind =
    let parts = and_parts (is_lt (nat_cmp c.0 b.0)) (is_behind nat_cmp (map (λ x. x.0) bs) b.0) behind in
    let lt = from-less c.0 b.0 parts.0 in
    (are.0, are.1, blocks-end size (c.0 + 1) bs b are.2 (omega (arith, lt)) is parts.1)

-- the file keeps its size
pub size-kept : (file : File) (b : ℕ × List ℕ) → IsBlockOf (size_of file) b → size_of (with_block file b) ≡ size_of file
size-kept file b is =
    let begins = is.begins in
    let long = is.long in
    let under : b.0 * BLOCK_SIZE < length file.bytes = grind (arith, tests, begins) in
    let some : 0 < length b.1 = omega (arith, long, under) in
    length-after file (b.0 * BLOCK_SIZE) b.1 some ∙ omega (arith, long, under)

-- the size of a file with any block more
size-most : (file : File) (b : ℕ × List ℕ) → size_of (with_block file b) ≤ max (size_of file) (b.0 * BLOCK_SIZE + length b.1)
unfolding after_write
size-most file b = by b.1
  where
    by : (input : List ℕ) → length (after_write file (b.0 * BLOCK_SIZE) input).bytes ≤ max (size_of file) (b.0 * BLOCK_SIZE + length input)
    by [] = omega arith
    by (x ∷ xs) =
        let long = length-after file (b.0 * BLOCK_SIZE) (x ∷ xs) (omega arith) in
        omega (arith, long)

pub refilled-well : (size : ℕ) (blocks : List (ℕ × List ℕ)) → IsWell (refilled size blocks)
refilled-well size blocks = by blocks (unfilled size) (unfilled-well size)
  where
    by : (bs : List (ℕ × List ℕ)) (file : File) → IsWell file → IsWell (fold with_block file bs)
    by [] file well = well
    by (b ∷ bs) file well = by bs (with_block file b) (block-well file b well)

pub allocated-are : (file : File) (bs : List (ℕ × List ℕ)) → blocks_in file ≡ bs → file.allocated ≡ map (λ b. b.0) bs
allocated-are file bs is = sym (first file.allocated) ∙ ap (map (λ (b : ℕ × List ℕ). b.0)) is
  where
    first : (ks : List ℕ) → map (λ (b : ℕ × List ℕ). b.0) (map (λ k. (k, block_in file k)) ks) ≡ ks
    first [] = refl
    first (k ∷ ks) = ap (λ l. k ∷ l) (first ks)

-- ---- rows that begin those of a file

-- the rows of these blocks of a file, and then of others
abbrev BeginsBlocks : File → List ℕ → List (ℕ × List ℕ) → ℕ × List ℕ → Type 0
BeginsBlocks g ks bs b =
    starts_with is_same_row (map untold (map (λ x. Block x) (map (λ k. (k, block_in g k)) ks) ++ [])) (map untold (map
    (λ x. Block x) bs ++ Block b ∷ [])) ≡ true

same-block : (b c : ℕ × List ℕ) → is_same_row (Block b) (Block c) ≡ true → (decimal b.0 ≡ decimal c.0) × (data_text b.1 ≡ data_text c.1)
same-block b c e =
    let same = same-words (row_words (Block b)) (row_words (Block c)) e in
    (ap (λ (ws : List (List ℕ)). get_or ws 1 []) same, ap (λ (ws : List (List ℕ)). get_or ws 2 []) same)

-- data that are spelled as those of a block are no longer
short-data : (xs ys : List ℕ) → length ys ≤ BLOCK_SIZE → data_text xs ≡ data_text ys → length xs ≤ BLOCK_SIZE
short-data [] ys few same = omega arith
short-data (x ∷ xs) [] few same =
    let long = length-encode_with (codes "0123456789abcdef") (x ∷ xs) in
    let one : length (encode_lower (x ∷ xs)) ≡ 1 = ap (λ (l : List ℕ). length l) same in
    absurd (omega (arith, long, one))
short-data (x ∷ xs) (y ∷ ys) few same =
    let long = length-encode_with (codes "0123456789abcdef") (x ∷ xs) in
    let other = length-encode_with (codes "0123456789abcdef") (y ∷ ys) in
    let equal : length (encode_lower (x ∷ xs)) ≡ length (encode_lower (y ∷ ys)) = ap (λ (l : List ℕ). length l) same in
    omega (arith, long, other, equal, few)

block-short : (g : File) (k : ℕ) → length (block_in g k) ≤ BLOCK_SIZE
block-short g k = omega (arith, length-take BLOCK_SIZE (drop (k * BLOCK_SIZE) g.bytes))

begun-short : (g : File) (ks : List ℕ) (bs : List (ℕ × List ℕ)) (b : ℕ × List ℕ) → BeginsBlocks g ks bs b → length b.1 ≤ BLOCK_SIZE
begun-short g [] [] b begun = absurd (cc begun)
begun-short g [] (c ∷ bs) b begun = absurd (cc begun)
begun-short g (k ∷ ks) [] b begun =
    let parts = and_parts (is_same_row (Block b) (Block (k, block_in g k))) _ begun in
    short-data b.1 (block_in g k) (block-short g k) (same-block b (k, block_in g k) parts.0).1
begun-short g (k ∷ ks) (c ∷ bs) b begun =
    begun-short g ks bs b (and_parts (is_same_row (Block c) (Block (k, block_in g k))) _ begun).1

-- where such a block stands
record StandsBehind (g : File) (from : ℕ) (bs : List (ℕ × List ℕ)) (b : ℕ × List ℕ) : Type 0 where
  from_on : from ≤ b.0
  behind : is_behind nat_cmp (map (λ x. x.0) bs) b.0 ≡ true
  begins : begins_below (size_of g) b.0 ≡ true

begun-behind : (g : File) (from : ℕ) (ks : List ℕ) (bs : List (ℕ × List ℕ)) (b : ℕ × List ℕ) → size_of g < 2 ^ 96 → b.0 < 2 ^ 64
    → AllByRecursion (λ (c : ℕ × List ℕ). c.0 < 2 ^ 64) bs → Rises from ks → AllByRecursion (λ k. begins_below (size_of g) k ≡ true) ks → BeginsBlocks g ks bs b
    → StandsBehind g from bs b
begun-behind g from [] [] b small low lows rises below begun = absurd (cc begun)
begun-behind g from [] (c ∷ bs) b small low lows rises below begun = absurd (cc begun)
begun-behind g from (k ∷ ks) [] b small low lows rises below begun =
    let parts = and_parts (is_same_row (Block b) (Block (k, block_in g k))) _ begun in
    let under = below.0 in
    let high : k < 2 ^ 96 = grind (arith, tests, under, small) in
    let same : b.0 ≡ k = same-decimal b.0 k (omega (arith, low)) high (same-block b (k, block_in g k) parts.0).0 in
    record { from_on = omega (arith, same, rises.0); behind = refl; begins = ap (begins_below (size_of g)) same ∙ under }
begun-behind g from (k ∷ ks) (c ∷ bs) b small low lows rises below begun =
    let parts = and_parts (is_same_row (Block c) (Block (k, block_in g k))) _ begun in
    let under = below.0 in
    let high : k < 2 ^ 96 = grind (arith, tests, under, small) in
    let few = lows.0 in
    let same : c.0 ≡ k = same-decimal c.0 k (omega (arith, few)) high (same-block c (k, block_in g k) parts.0).0 in
    let rest = begun-behind g (suc k) ks bs b small low lows.1 rises.1 below.1 parts.1 in
    let on = rest.from_on in
    record {
      from_on = omega (arith, on, rises.0);
      behind = rw (less-than c.0 b.0 (omega (arith, on, same)), rest.behind) refl;
      begins = rest.begins;
    }

low-indexes : (size from : ℕ) (bs : List (ℕ × List ℕ)) → size < 2 ^ 64 → AreBlocksOf size from bs → AllByRecursion (λ (c : ℕ × List ℕ). c.0 < 2 ^ 64) bs
low-indexes size from [] small are = tt
low-indexes size from (c ∷ bs) small are =
    let begins = are.1.begins in
    (grind (arith, tests, begins, small), low-indexes size (c.0 + 1) bs small are.2)

-- a block that begins the rows of its file stands behind all others, below the size
pub block-stands : (number : ℕ) (owners : Owners) (size : ℕ) (bs : List (ℕ × List ℕ)) (b : ℕ × List ℕ) → size < 2 ^ 64 → b.0 < 2 ^ 64 → AreBlocksOf size 0 bs
    → size_of (refilled size bs) ≡ size
    → starts_with is_same_row
    (map untold ((FileHead number owners (size_of (with_block (refilled size bs) b)) ∷ map (λ x. Block x) (blocks_in (with_block (refilled size bs) b))) ++ []))
    (map untold ((FileHead number owners size ∷ map (λ x. Block x) bs) ++ Block b ∷ [])) ≡ true
    → (begins_below size b.0 ≡ true) × (is_behind nat_cmp (map (λ x. x.0) bs) b.0 ≡ true)
block-stands number owners size bs b small low are sized begun =
    let g : File = with_block (refilled size bs) b in
    let parts = and_parts (is_same_row (FileHead number owners size) (FileHead number owners (size_of g))) _ begun in
    let short = begun-short g g.allocated bs b parts.1 in
    let most = size-most (refilled size bs) b in
    let few : size_of g < 2 ^ 96 = omega (arith, most, short, low, small, sized) in
    let words = same-words (row_words (FileHead number owners size)) (row_words (FileHead number owners (size_of g))) parts.0 in
    let same : size ≡ size_of g = same-decimal size (size_of g) (omega (arith, small)) few (ap (λ (ws : List (List ℕ)). get_or ws 5 []) words) in
    let well : IsWell g = block-well (refilled size bs) b (refilled-well size bs) in
    let stands = begun-behind g 0 g.allocated bs b few low (low-indexes size 0 bs small are) well.rises
    (recursion_from_All (λ k. begins_below (size_of g) k ≡ true) g.allocated well.below) parts.1 in
    (subst (λ n. begins_below n b.0 ≡ true) (sym same) stands.begins, stands.behind)

-- a block does not stand where a name does
pub block-not-name : (xs bs : List (ℕ × List ℕ)) (e : NameKey × ℕ) (es : List (NameKey × ℕ)) (b : ℕ × List ℕ)
    → starts_with is_same_row (map untold (map (λ x. Block x) xs ++ map name_row (e ∷ es))) (map untold (map (λ x. Block x) bs ++ (map name_row
    (e ∷ es) ++ Block b ∷ []))) ≡ true
    → ⊥
block-not-name [] [] e es b begun =
    let longer = starts-longer is_same_row (map untold (map name_row (e ∷ es))) (map untold (map name_row (e ∷ es) ++ Block b ∷ [])) begun in
    let own = length-map (map name_row (e ∷ es)) untold in
    let more = length-map (map name_row (e ∷ es) ++ Block b ∷ []) untold in
    let both = length-append (map name_row (e ∷ es)) (Block b ∷ []) in
    omega (arith, longer, own, more, both)
block-not-name [] (c ∷ bs) e es b begun = cc
block-not-name (x ∷ xs) [] e es b begun = cc
block-not-name (x ∷ xs) (c ∷ bs) e es b begun = block-not-name xs bs e es b (and_parts (is_same_row (Block c) (Block x)) _ begun).1
