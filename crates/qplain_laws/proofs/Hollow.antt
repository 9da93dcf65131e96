-- Bytes of no block stay 0.
use Rattle.std.proofs.Common.{◌≡◌, ℕ, ◌+◌, ◌*◌, ◌/◌, ◌<◌, ◌≤◌, Bool, true, false, ◌&&◌, nat_le, cond, List, length, filter, refl, sym, ◌∙◌, arith, tests, ⊎_elim}
use Rattle.std.proofs.Math.Nat.{div-mul-le_self}
use Rattle.std.proofs.lemmas.Bool.{cases_lt, or_parts}
use Rattle.std.proofs.lemmas.List.{get_or_past}
use Rattle.qblocks.specs.declared.block.TheConstants.{BLOCK_SIZE}
use Rattle.qblocks.specs.File.{File, after_truncate, after_write, begins_below, is_allocated, size_of, touches}
use Rattle.qblocks.proofs.Indexes.{has, has-filter}
use Rattle.qblocks.proofs.Touched.{is_allocated-after_write}
use Rattle.qplain_laws.specs.Holes.{HolesAreEmpty}
use Rattle.qplain_laws.proofs.Reading.{bytes_are_cut, bytes_are_written}

-- a write touches the blocks of its bytes
touches-own : (off n o : ℕ) → off ≤ o → o < off + n → touches off n (o / BLOCK_SIZE) ≡ true
touches-own off n o from to =
    let under : o / BLOCK_SIZE * BLOCK_SIZE ≤ o = div-mul-le_self o BLOCK_SIZE in
    let over : o < o / BLOCK_SIZE * BLOCK_SIZE + BLOCK_SIZE = omega arith in
    grind (arith, tests, under, over, from, to)

-- a write leaves them so
pub hollow-written : (file : File) (off : ℕ) (bytes : List ℕ) → HolesAreEmpty file → HolesAreEmpty (after_write file off bytes)
hollow-written file off bytes holes o none =
    let n : ℕ = length bytes in
    let writes = bytes_are_written file off bytes in
    let both = or_parts (is_allocated file (o / BLOCK_SIZE)) (touches off n (o / BLOCK_SIZE))
    (sym (is_allocated-after_write file off bytes (o / BLOCK_SIZE)) ∙ none) in
    ⊎_elim (λ early. writes.before o early ∙ holes o both.0)
    (λ late. ⊎_elim (λ within. absurd (cc (touches-own off n o late within, both.1))) (λ past. writes.behind o past ∙ holes o both.0) (cases_lt o (off + n)))
    (cases_lt o off)

kept : (a b : Bool) → b ≡ true → (a && b) ≡ false → a ≡ false
kept true true e f = cc
kept true false e f = cc
kept false b e f = refl

-- and so does a truncation
pub hollow-truncated : (file : File) (size : ℕ) → HolesAreEmpty file → HolesAreEmpty (after_truncate file size)
unfolding after_truncate
hollow-truncated file size holes o none =
    ⊎_elim
    (λ below. (bytes_are_cut file size).1 o below ∙ holes o (by (nat_le (size_of file) size) refl none below))
    (λ past. get_or_past (after_truncate file size).bytes o 0 (omega (arith, past, (bytes_are_cut file size).0)))
    (cases_lt o size)
  where
    by : (b : Bool) → nat_le (size_of file) size ≡ b → has (cond b file.allocated (filter (begins_below size) file.allocated)) (o / BLOCK_SIZE) ≡ false
        → o < size → has file.allocated (o / BLOCK_SIZE) ≡ false
    by true e none below = none
    by false e none below =
        let under : o / BLOCK_SIZE * BLOCK_SIZE ≤ o = div-mul-le_self o BLOCK_SIZE in
        let begins : begins_below size (o / BLOCK_SIZE) ≡ true = grind (arith, tests, under, below) in
        kept (has file.allocated (o / BLOCK_SIZE)) (begins_below size (o / BLOCK_SIZE)) begins
        (sym (has-filter (begins_below size) file.allocated (o / BLOCK_SIZE)) ∙ none)
