-- What is left of a list behind the place at which a loop stands.
use Rattle.std.proofs.Common.{◌≡◌, ℕ, ◌+◌, ◌<◌, ◌≤◌, cond, List, ◌∷◌, ◌++◌, drop, get_or, length, map, sum_by, Some, None, ap, ◌∙◌, sym, add-one, drop-cons}
use Rattle.std.proofs.lemmas.List.{drop_all}
use Rattle.std.proofs.lemmas.List.Sums.{sum_by-cons}
use Rattle.qrules.specs.declared.inode_row.InodeRow.{InodeRow}
use Rattle.qrules.specs.declared.kind.Kind.{Kind}
use Rattle.qplain.specs.State.{State}
use Rattle.qplain_image.specs.Parts.{HolderPart}
use Rattle.qstore_open.specs.declared.reach.Reach.{Reach}
use Rattle.qstore_open.specs.declared.records.ToldRecord.{ToldRecord}
use Rattle.qstore_open.specs.Counting.{rows_line}
use Rattle.qstore_open.specs.Ending.{is_told_right, records_line}
use Rattle.qstore_open.specs.Reaching.{has}
use Rattle.qstore_open.specs.Told.{part_of}

dropped : {A : Type 0} (xs : List A) (i : ℕ) (d : A) → i < length xs → drop i xs ≡ get_or xs i d ∷ drop (i + 1) xs
dropped xs i d within = drop-cons xs i d within ∙ ap (λ n. get_or xs i d ∷ drop n xs) (sym (add-one i))

-- the lines of the records behind: the next one is right, or wrong
pub records-behind : (S : State) (kind : Kind) (rest : List HolderPart) (line : ℕ) (ts : List ToldRecord) (i : ℕ) (d : ToldRecord) → i < length ts
    → records_line S line (map (part_of kind) (drop i ts) ++ rest)
    ≡ cond (is_told_right S (part_of kind (get_or ts i d))) (records_line S (line + 1) (map (part_of kind) (drop (i + 1) ts) ++ rest)) (Some line)
records-behind S kind rest line ts i d within = ap (λ l. records_line S line (map (part_of kind) l ++ rest)) (dropped ts i d within)

pub records-done : (S : State) (kind : Kind) (rest : List HolderPart) (line : ℕ) (ts : List ToldRecord) (i : ℕ) → length ts ≤ i
    → records_line S line (map (part_of kind) (drop i ts) ++ rest) ≡ records_line S line rest
records-done S kind rest line ts i past = ap (λ l. records_line S line (map (part_of kind) l ++ rest)) (drop_all i ts past)

-- and those of inodes
pub rows-behind : (reach : Reach) (line : ℕ) (rows : List InodeRow) (i : ℕ) (d : InodeRow) → i < length rows
    → rows_line reach line (drop i rows)
    ≡ cond (has reach (get_or rows i d).ino) (rows_line reach (line + 1 + (get_or rows i d).blocks) (drop (i + 1) rows)) (Some line)
rows-behind reach line rows i d within = ap (rows_line reach line) (dropped rows i d within)

pub rows-done : (reach : Reach) (line : ℕ) (rows : List InodeRow) (i : ℕ) → length rows ≤ i → rows_line reach line (drop i rows) ≡ None
rows-done reach line rows i past = ap (rows_line reach line) (drop_all i rows past)

-- with their blocks
pub blocks-behind : (rows : List InodeRow) (i : ℕ) (d : InodeRow) → i < length rows
    → sum_by (λ row. row.blocks) (drop i rows) ≡ (get_or rows i d).blocks + sum_by (λ row. row.blocks) (drop (i + 1) rows)
blocks-behind rows i d within = ap (sum_by (λ (row : InodeRow). row.blocks)) (dropped rows i d within)
    ∙ sum_by-cons (λ (row : InodeRow). row.blocks) (get_or rows i d) (drop (i + 1) rows)
