-- What a write and a truncation leave of a file's size and of where its blocks begin.
use Rattle.std.proofs.Common.{◌≡◌, ℕ, zero, suc, ◌+◌, ◌*◌, ◌/◌, ◌≤◌, ◌<◌, ◌==◌, Bool, true, false, max, nat_le, nat_lt, cond, List, [], ◌∷◌, All, length, filter, slice_index_or, refl, sym, subst, tests, arith}
use Rattle.std.specs.List.{AllByRecursion}
use Rattle.std.proofs.Math.Nat.{div-mul-le_self}
use Rattle.std.proofs.lemmas.List.Elements.{All-from_recursion, filter_passes, recursion_from_All}
use Rattle.qblocks.specs.declared.block.TheConstants.{BLOCK_SIZE}
use Rattle.qblocks.specs.File.{File, after_truncate, after_write, begins_below, empty_file, size_of, with_index, with_touched, resized, written}
use Rattle.qblocks.proofs.Bytes.{length-resized, length-written}
use Rattle.qplain_laws.specs.Sizes.{IsRightSized}

-- what holds of all indexes and of one more
each-with_index : (P : ℕ → Type 0) (xs : List ℕ) (k : ℕ) → AllByRecursion P xs → P k → AllByRecursion P (with_index xs k)
unfolding with_index
each-with_index P [] k all new = (new, tt)
each-with_index P (x ∷ xs) k all new =
    elim (nat_lt k x) as (λ b. AllByRecursion P (cond b (k ∷ x ∷ xs) (cond (x == k) (x ∷ xs) (x ∷ with_index xs k)))) [
      | true ↦ (new, all)
      | false ↦ elim (x == k) as (λ b. AllByRecursion P (cond b (x ∷ xs) (x ∷ with_index xs k))) [
        | true ↦ all
        | false ↦ (all.0, each-with_index P xs k all.1 new)
      ]
    ]

-- what begins below a size begins below a larger one
begins-weaker : (size more k : ℕ) → size ≤ more → begins_below size k ≡ true → begins_below more k ≡ true
begins-weaker size more k l h = grind (arith, tests, l, h)

all-weaker : (size more : ℕ) (ks : List ℕ) → size ≤ more → All (λ k. begins_below size k ≡ true) ks → All (λ k. begins_below more k ≡ true) ks
all-weaker size more ks l all = λ i d below. begins-weaker size more (slice_index_or ks i d) l (all i d below)

-- the block of a byte begins at it or before
begins-touched : (byte size : ℕ) → byte < size → begins_below size (byte / BLOCK_SIZE) ≡ true
begins-touched byte size l =
    let before : byte / BLOCK_SIZE * BLOCK_SIZE ≤ byte = div-mul-le_self byte BLOCK_SIZE in
    grind (arith, tests, l, before)

-- each block that a write touches begins below its end
each-touched : (xs : List ℕ) (off n size : ℕ) → off + n ≤ size → AllByRecursion (λ k. begins_below size k ≡ true) xs
    → AllByRecursion (λ k. begins_below size k ≡ true) (with_touched xs off n)
unfolding with_touched
each-touched xs off zero size l all = all
each-touched xs off (suc n) size l all =
    each-with_index (λ k. begins_below size k ≡ true) (with_touched xs off n) ((off + n) / BLOCK_SIZE)
    (each-touched xs off n size (omega (arith, l)) all) (begins-touched (off + n) size (omega (arith, l)))

-- a write that ends within the limit
pub right_sized-written : (limit : ℕ) (file : File) (off : ℕ) (bytes : List ℕ) → nat_lt limit (off + length bytes) ≡ false → IsRightSized limit file
    → IsRightSized limit (after_write file off bytes)
unfolding after_write
right_sized-written limit file off [] below right = right
right_sized-written limit file off (byte ∷ rest) below right =
    let input : List ℕ = byte ∷ rest in
    let ends : off + length input ≤ limit = grind (arith, tests, below) in
    let long : length (written file.bytes off input) ≡ max (length file.bytes) (off + length input) = length-written file.bytes off input in
    let old = right.size in
    let more : length file.bytes ≤ length (written file.bytes off input) = omega (arith, long) in
    let past : off + length input ≤ length (written file.bytes off input) = omega (arith, long) in
    record {
      size = omega (arith, long, ends, old);
      blocks =
          All-from_recursion (λ (k : ℕ). begins_below (length (written file.bytes off input)) k ≡ true) (with_touched file.allocated off (length input))
          (each-touched file.allocated off (length input) (length (written file.bytes off input)) past
          (recursion_from_All (λ (k : ℕ). begins_below (length (written file.bytes off input)) k ≡ true) file.allocated
          (all-weaker (length file.bytes) (length (written file.bytes off input)) file.allocated more right.blocks)));
    }

-- a truncation to a size within the limit
pub right_sized-truncated : (limit : ℕ) (file : File) (size : ℕ) → nat_lt limit size ≡ false → IsRightSized limit file
    → IsRightSized limit (after_truncate file size)
unfolding after_truncate
right_sized-truncated limit file size below right =
    let long = length-resized file.bytes size in
    let within : size ≤ limit = grind (arith, tests, below) in
    record {
      size = omega (arith, long, within);
      blocks = subst-size (by (nat_le (size_of file) size) refl);
    }
  where
    Cut : ℕ → Type 0
    Cut n = All (λ k. begins_below n k ≡ true) (cond (nat_le (size_of file) size) file.allocated (filter (begins_below size) file.allocated))

    subst-size : Cut size → Cut (length (resized file.bytes size))
    subst-size all = subst Cut (sym (length-resized file.bytes size)) all

    by : (b : Bool) → nat_le (size_of file) size ≡ b → Cut size
    by true e =
        let l : size_of file ≤ size = grind (arith, tests, e) in
        subst (λ b. All (λ k. begins_below size k ≡ true) (cond b file.allocated (filter (begins_below size) file.allocated))) (sym e)
        (all-weaker (size_of file) size file.allocated l right.blocks)
    by false e =
        subst (λ b. All (λ k. begins_below size k ≡ true) (cond b file.allocated (filter (begins_below size) file.allocated))) (sym e)
        (λ i d below_too. filter_passes (begins_below size) file.allocated i d below_too)

-- an empty file
pub right_sized-empty : (limit : ℕ) → IsRightSized limit empty_file
right_sized-empty limit = record { size = omega arith; blocks = λ i d below. absurd (omega (arith, below)) }
