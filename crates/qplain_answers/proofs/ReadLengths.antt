-- How many bytes a read is told.
use Rattle.std.proofs.Common.{◌≡◌, ◌≤◌, ℕ, ◌-◌, List, [], ◌∷◌, drop, length, min, refl, sym, ap, subst, ◌∙◌, arith}
use Rattle.std.proofs.lemmas.List.{length-drop, length-take}
use Rattle.qblocks.specs.File.{File, read_at, size_of}
use Rattle.qplain_laws.proofs.Telling.{bytes_are_true}
use Rattle.qplain_answers.specs.Reads.{IsAsLong, ReadsAreAsLong}

-- no byte where none is counted
none-of_length : (xs : List ℕ) → length xs ≤ 0 → xs ≡ []
none-of_length [] l = refl
none-of_length (x ∷ xs) l = absurd (omega (arith, l))

-- a read gives so many bytes
length-read_at : (file : File) (off len : ℕ) → length (read_at file off len) ≡ min len (size_of file - off)
length-read_at file off len = length-take len (drop off file.bytes) ∙ ap (min len) (length-drop off file.bytes)

as_long-read_at : (file : File) (off len : ℕ) → IsAsLong file off len (read_at file off len)
as_long-read_at file off len =
    let n = length-read_at file off len in
    record {
      whole = λ l. omega (arith, n, l);
      cut = λ l m. omega (arith, n, l, m);
      none = λ l. none-of_length (read_at file off len) (omega (arith, n, l));
      most = omega (arith, n);
    }

pub reads_are_as_long_as_asked : ReadsAreAsLong
reads_are_as_long_as_asked S cred moment path off len bytes is =
    let told = bytes_are_true S cred moment path off len bytes is in
    let inode = told.1 in
    (told.0, inode, told.2, told.3, subst (IsAsLong inode.file off len) (sym told.5) (as_long-read_at inode.file off len))
