-- Blocks in order are those of the file that is made of them.
use Rattle.std.proofs.Common.{◌≡◌, ℕ, ◌+◌, ◌*◌, ◌<◌, ◌≤◌, suc, Bool, true, false, ◌||◌, ◌==◌, List, [], ◌∷◌, ◌++◌, length, map, fold, refl, sym, ap, subst, ◌∙◌, arith, tests, append_assoc}
use Rattle.std.proofs.lemmas.Grind.{same_number_lists}
use Rattle.std.proofs.lemmas.List.{append-nil, length-replicate}
use Rattle.qblocks.specs.declared.block.TheConstants.{BLOCK_SIZE}
use Rattle.qblocks.specs.File.{File}
use Rattle.qblocks.proofs.Indexes.{has, Rises, same_indexes}
use Rattle.qblocks.proofs.Touched.{is_allocated-after_write}
use Rattle.qplain_laws.proofs.Reading.{bytes_are_written}
use Rattle.qplain_image.specs.Blocks.{AreBlocksOf, BlocksAreGivenBack, IsBlockOf, block_in, refilled, unfilled, with_block}
use Rattle.qplain_image.proofs.Refilling.{byte-block, length-after, length-block, rises-written, touches-block}

-- a list of indexes with one more at its end
has-end : (ks : List ℕ) (k q : ℕ) → has (ks ++ k ∷ []) q ≡ (has ks q || k == q)
has-end [] k q = or-none (k == q)
  where
    or-none : (a : Bool) → (a || false) ≡ a
    or-none true = refl
    or-none false = refl
has-end (x ∷ ks) k q = ap (λ b. x == q || b) (has-end ks k q) ∙ sym (or-assoc (x == q) (has ks q) (k == q))
  where
    or-assoc : (a b c : Bool) → ((a || b) || c) ≡ (a || (b || c))
    or-assoc true b c = refl
    or-assoc false b c = refl

-- each index is below this one
abbrev AreBelow : List ℕ → ℕ → Type 0
AreBelow [] k = Unit {0}
AreBelow (x ∷ xs) k = (x < k) × AreBelow xs k

below-more : (xs : List ℕ) (k l : ℕ) → k ≤ l → AreBelow xs k → AreBelow xs l
below-more [] k l le all = tt
below-more (x ∷ xs) k l le all = let lt = all.0 in (omega (arith, lt, le), below-more xs k l le all.1)

below-end : (xs : List ℕ) (x k : ℕ) → AreBelow xs k → x < k → AreBelow (xs ++ x ∷ []) k
below-end [] x k all l = (l, tt)
below-end (y ∷ xs) x k all l = (all.0, below-end xs x k all.1 l)

rises-end : (b : ℕ) (xs : List ℕ) (k : ℕ) → Rises b xs → AreBelow xs k → b ≤ k → Rises b (xs ++ k ∷ [])
rises-end b [] k rises below l = (l, tt)
rises-end b (x ∷ xs) k rises below l = let lt = below.0 in (rises.0, rises-end (suc x) xs k rises.1 below.1 (omega (arith, lt)))

-- the file has this size, blocks of these indexes, all below `to`, and in each of them these bytes
record IsMade (size to : ℕ) (bs : List (ℕ × List ℕ)) (g : File) : Type 0 where
  size_is : length g.bytes ≡ size
  allocated : g.allocated ≡ map (λ b. b.0) bs
  rises : Rises 0 g.allocated
  below : AreBelow g.allocated to
  blocks : map {B = ℕ × List ℕ} (λ k. (k, block_in g k)) (map (λ b. b.0) bs) ≡ bs

-- with a block behind all others
module _ (size to : ℕ) (g : File) (k : ℕ) (input : List ℕ) (is : IsBlockOf size (k, input)) (same_size : length g.bytes ≡ size)
    (rises : Rises 0 g.allocated) (below : AreBelow g.allocated k) where
  new : File
  new = with_block g (k, input)

  under : k * BLOCK_SIZE < size
  under = let begins = is.begins in grind (arith, tests, begins)

  some : 0 < length input
  some = let long = is.long in omega (arith, long, under)

  few : length input ≤ BLOCK_SIZE
  few = let long = is.long in omega (arith, long)

  pub length-new : length (with_block g (k, input)).bytes ≡ size
  length-new =
      let long = is.long in
      length-after g (k * BLOCK_SIZE) input some ∙ omega (arith, same_size, long, under)

  pub allocated-new : (with_block g (k, input)).allocated ≡ g.allocated ++ k ∷ []
  allocated-new =
      same_indexes 0 (with_block g (k, input)).allocated (g.allocated ++ k ∷ []) (rises-written g (k * BLOCK_SIZE) input rises)
      (rises-end 0 g.allocated k rises below (omega arith))
      (λ q. is_allocated-after_write g (k * BLOCK_SIZE) input q
      ∙ (λ i. has g.allocated q || touches-block k (length input) q some few i) ∙ sym (has-end g.allocated k q))

  -- its own bytes
  pub own-new : block_in (with_block g (k, input)) k ≡ input
  own-new =
      let long = is.long in
      let writes = bytes_are_written g (k * BLOCK_SIZE) input in
      let many = length-block (with_block g (k, input)) k (omega (arith, length-new, under)) in
      same_number_lists (block_in (with_block g (k, input)) k) input (omega (arith, many, length-new, long))
      (λ i l. byte-block (with_block g (k, input)) k i (omega (arith, l, many)) ∙ writes.inside i (omega (arith, l, many, length-new, long)))

  -- and those of the others, as before
  pub other-new : (j : ℕ) → j < k → block_in (with_block g (k, input)) j ≡ block_in g j
  other-new j l =
      let writes = bytes_are_written g (k * BLOCK_SIZE) input in
      let old_many = length-block g j (omega (arith, same_size, under, l)) in
      let many = length-block (with_block g (k, input)) j (omega (arith, length-new, under, l)) in
      same_number_lists (block_in (with_block g (k, input)) j) (block_in g j) (omega (arith, many, old_many, length-new, same_size))
      (λ i low. byte-block (with_block g (k, input)) j i (omega (arith, low, many))
      ∙ writes.before (j * BLOCK_SIZE + i) (omega (arith, low, many, l)) ∙ sym (byte-block g j i (omega (arith, low, many))))

  pub others-new : (js : List ℕ) → AreBelow js k
      → map {B = ℕ × List ℕ} (λ j. (j, block_in (with_block g (k, input)) j)) js ≡ map (λ j. (j, block_in g j)) js
  others-new [] all = refl
  others-new (j ∷ js) all = λ i. (j, other-new j all.0 i) ∷ others-new js all.1 i

map-end : {A B : Type 0} (f : A → B) (xs : List A) (x : A) → map f (xs ++ x ∷ []) ≡ map f xs ++ f x ∷ []
map-end f [] x = refl
map-end f (y ∷ xs) x = ap (λ ys. f y ∷ ys) (map-end f xs x)

one_more : (size to : ℕ) (bs : List (ℕ × List ℕ)) (g : File) (b : ℕ × List ℕ) → IsMade size to bs g → to ≤ b.0 → IsBlockOf size b
    → IsMade size (b.0 + 1) (bs ++ b ∷ []) (with_block g b)
one_more size to bs g b made le is =
    let k : ℕ = b.0 in
    let low : AreBelow g.allocated k = below-more g.allocated to k le made.below in
    let ks : List ℕ = map (λ x. x.0) bs in
    let low_too : AreBelow ks k = subst (λ xs. AreBelow xs k) made.allocated low in
    let allocated = allocated-new size to g k b.1 is made.size_is made.rises low in
    record {
      size_is = length-new size to g k b.1 is made.size_is made.rises low;
      allocated = allocated ∙ ap (λ xs. xs ++ k ∷ []) made.allocated ∙ sym (map-end (λ x. x.0) bs b);
      rises = rises-written g (k * BLOCK_SIZE) b.1 made.rises;
      below = subst (λ xs. AreBelow xs (k + 1)) (sym allocated)
          (below-end g.allocated k (k + 1) (below-more g.allocated k (k + 1) (omega arith) low) (omega arith));
      blocks =
          ap (map {B = ℕ × List ℕ} (λ j. (j, block_in (with_block g b) j))) (map-end (λ x. x.0) bs b)
          ∙ map-end {B = ℕ × List ℕ} (λ j. (j, block_in (with_block g b) j)) ks k
          ∙ (λ i. others-new size to g k b.1 is made.size_is made.rises low ks low_too i
          ++ (k, own-new size to g k b.1 is made.size_is made.rises low i) ∷ [])
          ∙ ap (λ xs. xs ++ b ∷ []) made.blocks;
    }

-- and with all that follow
all_more : (size to : ℕ) (bs rest : List (ℕ × List ℕ)) (g : File) → IsMade size to bs g → AreBlocksOf size to rest
    → (end : ℕ) × IsMade size end (bs ++ rest) (fold with_block g rest)
all_more size to bs [] g made are = (to, subst (λ xs. IsMade size to xs g) (sym (append-nil bs)) made)
all_more size to bs (b ∷ rest) g made are =
    let more = all_more size (b.0 + 1) (bs ++ b ∷ []) rest (with_block g b) (one_more size to bs g b made are.0 are.1) are.2 in
    (more.0, subst (λ xs. IsMade size more.0 xs (fold with_block (with_block g b) rest)) (append_assoc bs (b ∷ []) rest) more.1)

none_made : (size : ℕ) → IsMade size 0 [] (unfilled size)
none_made size = record {
  size_is = length-replicate {A = ℕ} size 0;
  allocated = refl;
  rises = tt;
  below = tt;
  blocks = refl;
}

pub blocks_are_given_back : BlocksAreGivenBack
blocks_are_given_back size blocks are =
    let made = (all_more size 0 [] blocks (unfilled size) (none_made size) are).1 in
    (made.size_is, ap (map {B = ℕ × List ℕ} (λ k. (k, block_in (refilled size blocks) k))) made.allocated ∙ made.blocks)
