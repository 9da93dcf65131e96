-- A sparse file is made again of its size and its blocks.
use Rattle.std.proofs.Common.{◌≡◌, ℕ, ◌+◌, ◌-◌, ◌*◌, ◌/◌, ◌<◌, ◌≤◌, Bool, true, false, ◌||◌, ◌==◌, min, max, cond, List, [], ◌∷◌, length, get_or, drop, map, fold, refl, sym, ap, ◌∙◌, arith, tests, ⊎_elim, length-drop}
use Rattle.std.specs.List.{AllByRecursion}
use Rattle.std.proofs.Math.ListN.{length-take}
use Rattle.std.proofs.lemmas.Bool.{cases_lt, cases_eq, eq-eqb, ne_eqb}
use Rattle.std.proofs.lemmas.Grind.{same_number_lists}
use Rattle.std.proofs.lemmas.List.{get_or-drop, get_or-take, get_or_past, length-replicate}
use Rattle.std.proofs.lemmas.List.Elements.{recursion_from_All}
use Rattle.qblocks.specs.declared.block.TheConstants.{BLOCK_SIZE}
use Rattle.qblocks.specs.File.{File, after_write, begins_below, is_allocated, size_of, touches}
use Rattle.qblocks.specs.Row.{Overwrites}
use Rattle.qblocks.proofs.Bytes.{length-written, zeros}
use Rattle.qblocks.proofs.Indexes.{has, Rises, same_indexes}
use Rattle.qblocks.proofs.Touched.{Rises-with_touched, is_allocated-after_write}
use Rattle.qplain_laws.specs.Bytes.{byte_at}
use Rattle.qplain_laws.proofs.Orders.{above-zero, rises-sorted}
use Rattle.qplain_laws.proofs.Reading.{bytes_are_written}
use Rattle.qplain_image.specs.Blocks.{FilesAreMadeAgain, IsSparse, block_in, blocks_in, refilled, unfilled, with_block}

-- the file has the size of the other, and of its blocks and bytes those whose indexes pass the test
record IsPart (file : File) (p : ℕ → Bool) (g : File) : Type 0 where
  size : length g.bytes ≡ length file.bytes
  rises : Rises 0 g.allocated
  blocks : (q : ℕ) → is_allocated g q ≡ p q
  bytes : (o : ℕ) → byte_at g o ≡ cond (p (o / BLOCK_SIZE)) (byte_at file o) 0

-- how long a block of a file is that begins below its size
pub length-block : (file : File) (k : ℕ) → k * BLOCK_SIZE < length file.bytes
    → length (block_in file k) ≡ min BLOCK_SIZE (length file.bytes - k * BLOCK_SIZE)
length-block file k l = omega (arith, length-take BLOCK_SIZE (drop (k * BLOCK_SIZE) file.bytes), length-drop (k * BLOCK_SIZE) file.bytes)

-- a byte of it
pub byte-block : (file : File) (k i : ℕ) → i < BLOCK_SIZE → get_or (block_in file k) i 0 ≡ byte_at file (k * BLOCK_SIZE + i)
byte-block file k i l = get_or-take BLOCK_SIZE (drop (k * BLOCK_SIZE) file.bytes) i 0 l ∙ get_or-drop (k * BLOCK_SIZE) file.bytes i 0

-- to write a block is to touch it alone
pub touches-block : (k n q : ℕ) → 0 < n → n ≤ BLOCK_SIZE → touches (k * BLOCK_SIZE) n q ≡ (k == q)
touches-block k n q some few = ⊎_elim
    (λ e. grind (arith, tests, e, some))
    (λ ne. grind (arith, tests, ne, few))
    (cases_eq k q)

-- indexes still rise behind a write
pub rises-written : (g : File) (off : ℕ) (input : List ℕ) → Rises 0 g.allocated → Rises 0 (after_write g off input).allocated
unfolding after_write
rises-written g off [] rises = rises
rises-written g off (b ∷ bs) rises = Rises-with_touched g.allocated off (length (b ∷ bs)) rises

-- how long the file is then
pub length-after : (g : File) (off : ℕ) (input : List ℕ) → 0 < length input
    → length (after_write g off input).bytes ≡ max (length g.bytes) (off + length input)
unfolding after_write
length-after g off [] some = absurd (omega (arith, some))
length-after g off (b ∷ bs) some = length-written g.bytes off (b ∷ bs)

-- in which block a byte stands
stands-in : (o k : ℕ) → k * BLOCK_SIZE ≤ o → o < k * BLOCK_SIZE + BLOCK_SIZE → (k == o / BLOCK_SIZE) ≡ true
stands-in o k from to = let same : k ≡ o / BLOCK_SIZE = omega arith in eq-eqb k (o / BLOCK_SIZE) same

stands-before : (o k : ℕ) → o < k * BLOCK_SIZE → (k == o / BLOCK_SIZE) ≡ false
stands-before o k l = ne_eqb k (o / BLOCK_SIZE) (λ same. absurd (omega arith))

stands-behind : (o k : ℕ) → k * BLOCK_SIZE + BLOCK_SIZE ≤ o → (k == o / BLOCK_SIZE) ≡ false
stands-behind o k l = ne_eqb k (o / BLOCK_SIZE) (λ same. absurd (omega arith))

-- what is told of a byte of the block, and of one of another
told-here : (b c : Bool) (x : ℕ) → c ≡ true → x ≡ cond (b || c) x 0
told-here true c x e = refl
told-here false true x e = refl
told-here false false x e = cc

told-other : (b c : Bool) (x : ℕ) → c ≡ false → cond b x 0 ≡ cond (b || c) x 0
told-other true c x e = refl
told-other false true x e = cc
told-other false false x e = refl

told-none : (b c : Bool) (x : ℕ) → x ≡ 0 → cond b x 0 ≡ cond c x 0
told-none true true x e = refl
told-none true false x e = e
told-none false true x e = sym e
told-none false false x e = refl

-- one block more
one_more : (file g : File) (p : ℕ → Bool) (k : ℕ) → begins_below (size_of file) k ≡ true → IsPart file p g
    → IsPart file (λ q. p q || k == q) (with_block g (k, block_in file k))
one_more file g p k begins part = record {
  size = length-after g off input some ∙ omega (arith, part.size, long, below);
  rises = rises-written g off input part.rises;
  blocks = λ q. is_allocated-after_write g off input q ∙ (λ i. part.blocks q i || touches-block k n q some few i);
  bytes = bytes;
}
  where
    off : ℕ
    off = k * BLOCK_SIZE

    input : List ℕ
    input = block_in file k

    n : ℕ
    n = length input

    below : off < length file.bytes
    below = grind (arith, tests, begins)

    long : n ≡ min BLOCK_SIZE (length file.bytes - off)
    long = length-block file k below

    some : 0 < n
    some = omega (arith, long, below)

    few : n ≤ BLOCK_SIZE
    few = omega (arith, long)

    new : File
    new = after_write g off input

    writes : Overwrites (byte_at g) (byte_at new) off input
    writes = bytes_are_written g off input

    bytes : (o : ℕ) → byte_at new o ≡ cond (p (o / BLOCK_SIZE) || k == o / BLOCK_SIZE) (byte_at file o) 0
    bytes o = ⊎_elim
        (λ early. writes.before o early ∙ part.bytes o
        ∙ told-other (p (o / BLOCK_SIZE)) (k == o / BLOCK_SIZE) (byte_at file o) (stands-before o k early))
        (λ late. ⊎_elim
        (λ within.
        let i : ℕ = o - off in
        let at : off + i ≡ o = omega (arith, late) in
        let l : i < n = omega (arith, within, late) in
        ap (byte_at new) (sym at) ∙ writes.inside i l ∙ byte-block file k i (omega (arith, l, few)) ∙ ap (byte_at file) at
        ∙ told-here (p (o / BLOCK_SIZE)) (k == o / BLOCK_SIZE) (byte_at file o) (stands-in o k late (omega (arith, within, few))))
        (λ past. writes.behind o past ∙ part.bytes o ∙ ⊎_elim
        (λ here.
        let none : byte_at file o ≡ 0 = get_or_past file.bytes o 0 (omega (arith, past, here, long, below)) in
        told-none (p (o / BLOCK_SIZE)) (p (o / BLOCK_SIZE) || k == o / BLOCK_SIZE) (byte_at file o) none)
        (λ behind. told-other (p (o / BLOCK_SIZE)) (k == o / BLOCK_SIZE) (byte_at file o) (stands-behind o k behind))
        (cases_lt o (off + BLOCK_SIZE)))
        (cases_lt o (off + n)))
        (cases_lt o off)

-- the same test makes the same part
same-part : (file : File) (p r : ℕ → Bool) (g : File) → ((q : ℕ) → p q ≡ r q) → IsPart file p g → IsPart file r g
same-part file p r g same part = record {
  size = part.size;
  rises = part.rises;
  blocks = λ q. part.blocks q ∙ same q;
  bytes = λ o. part.bytes o ∙ ap (λ b. cond b (byte_at file o) 0) (same (o / BLOCK_SIZE));
}

or-assoc : (a b c : Bool) → ((a || b) || c) ≡ (a || (b || c))
or-assoc true b c = refl
or-assoc false b c = refl

or-none : (a : Bool) → a ≡ (a || false)
or-none true = refl
or-none false = refl

-- so many blocks more
all_more : (file : File) (ks : List ℕ) (g : File) (p : ℕ → Bool) → AllByRecursion (λ k. begins_below (size_of file) k ≡ true) ks → IsPart file p g
    → IsPart file (λ q. p q || has ks q) (fold with_block g (map (λ k. (k, block_in file k)) ks))
all_more file [] g p begin part = same-part file p (λ q. p q || false) g (λ q. or-none (p q)) part
all_more file (k ∷ ks) g p begin part =
    let h : File = with_block g (k, block_in file k) in
    same-part file (λ q. (p q || k == q) || has ks q) (λ q. p q || has (k ∷ ks) q) (fold with_block h (map (λ j. (j, block_in file j)) ks))
    (λ q. or-assoc (p q) (k == q) (has ks q))
    (all_more file ks h (λ q. p q || k == q) begin.1 (one_more file g p k begin.0 part))

-- a file with no block is the part that has none
none-part : (file : File) → IsPart file (λ q. false) (unfilled (size_of file))
none-part file = record {
  size = length-replicate {A = ℕ} (size_of file) 0;
  rises = tt;
  blocks = λ q. refl;
  bytes = λ o. zeros (size_of file) o;
}

-- the part that has all blocks is the file
whole : (file g : File) → IsSparse file → IsPart file (has file.allocated) g → g ≡ file
whole file g sparse part = λ i. record { bytes = bytes i; allocated = blocks i }
  where
    blocks : g.allocated ≡ file.allocated
    blocks = same_indexes 0 g.allocated file.allocated part.rises (rises-sorted 0 file.allocated (above-zero file.allocated) sparse.in_order) part.blocks

    byte : (b : Bool) (o : ℕ) → has file.allocated (o / BLOCK_SIZE) ≡ b → cond b (byte_at file o) 0 ≡ byte_at file o
    byte true o e = refl
    byte false o e = sym (sparse.holes o e)

    bytes : g.bytes ≡ file.bytes
    bytes = same_number_lists g.bytes file.bytes part.size
        (λ o l. part.bytes o ∙ byte (has file.allocated (o / BLOCK_SIZE)) o refl)

pub files_are_made_again : FilesAreMadeAgain
files_are_made_again file sparse =
    whole file (refilled (size_of file) (blocks_in file)) sparse
    (all_more file file.allocated (unfilled (size_of file)) (λ q. false)
    (recursion_from_All (λ k. begins_below (size_of file) k ≡ true) file.allocated sparse.below) (none-part file))
