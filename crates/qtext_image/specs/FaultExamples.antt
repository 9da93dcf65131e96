-- Worked faults: what is told of the image of the worked example where some of its lines are others.
use Rattle.std.specs.Prelude.{◌≡◌, ℕ, ◌-◌, List, [], ◌∷◌, ◌++◌, codes, drop, take, Result, Err}
use Rattle.std.specs.List.{flat_map}
use Rattle.qtext.specs.declared.text_fault.TextKind.TheVariants.{BadHead, BadHex, BadNumber, BadVerb, Cut, TooMany}
use Rattle.qtext.specs.declared.text_fault.TextKind.TheVariants.{WordCount}
use Rattle.qtext_image.specs.Faults.{BadCount, BadName, BadOrder, BadOwner, ImageFault, ImageKind, InText, NoInode}
use Rattle.qtext_image.specs.Images.{Said, image_of}

-- the lines of the worked image
abbrev pub worked_lines : List (List ℕ)
worked_lines =
    codes "quotafs image 2 at 3"
    ∷ codes "store 10 6 3"
    ∷ codes "graces 100 100"
    ∷ codes "user 0 root 0 1 0 0 0 0 - -"
    ∷ codes "user 1000 ann 0 0 8 16 0 0 - -"
    ∷ codes "user 1001 bob 1 1 0 0 0 0 - -"
    ∷ codes "group 0 root 1 2 0 0 0 0 - -"
    ∷ codes "group 100 staff 0 0 0 0 0 0 - -"
    ∷ codes "dir 1 0 0 -"
    ∷ codes "file 2 1001 0 - 1"
    ∷ codes "block 0 78"
    ∷ codes "name 1 a 2"
    ∷ codes "end" ∷ []

-- what these lines say in the place of those from one to another
abbrev pub read_with : ℕ → ℕ → List (List ℕ) → Result Said ImageFault
read_with from to lines =
    image_of (flat_map (λ l. l ++ 10 ∷ []) (take (from - 1) worked_lines ++ (lines ++ drop to worked_lines)))

-- the fault of this line
abbrev pub at : ℕ → ImageKind → Result Said ImageFault
at line kind = Err (record { line = line; kind = kind })

-- what is wrong in a line's text: another head, no end, a line behind it, another verb, a word too few, bounds and
-- graces of 0, a number that is not below the next one, upper-case data and a byte too many
abbrev pub WorkedTextFaults : Type 0
WorkedTextFaults =
    (read_with 1 1 (codes "quotafs journal 2 workers 3" ∷ []) ≡ at 1 (InText BadHead))
    × (read_with 13 13 [] ≡ at 13 (InText Cut))
    × (read_with 13 13 (codes "end" ∷ codes "end" ∷ []) ≡ at 14 (InText TooMany))
    × (read_with 3 3 (codes "grace 100 100" ∷ []) ≡ at 3 (InText BadVerb))
    × (read_with 2 2 (codes "store 10 6" ∷ []) ≡ at 2 (InText WordCount))
    × (read_with 2 2 (codes "store 0 6 3" ∷ []) ≡ at 2 (InText BadNumber))
    × (read_with 3 3 (codes "graces 0 100" ∷ []) ≡ at 3 (InText BadNumber))
    × (read_with 10 10 (codes "file 3 1001 0 - 1" ∷ []) ≡ at 10 (InText BadNumber))
    × (read_with 11 11 (codes "block 0 7A" ∷ []) ≡ at 11 (InText BadHex))
    × (read_with 11 11 (codes "block 0 7878" ∷ []) ≡ at 11 (InText BadHex))

-- rows that may not stand there: none before the end, no bounds, an id twice, a user behind a group, a first user that
-- is not 0, a directory where no group is, a block behind a directory, one beyond the size, a name twice
abbrev pub WorkedOrderFaults : Type 0
WorkedOrderFaults =
    (read_with 2 12 [] ≡ at 2 BadOrder)
    × (read_with 2 2 [] ≡ at 2 BadOrder)
    × (read_with 6 6 (codes "user 1000 bob 1 1 0 0 0 0 - -" ∷ []) ≡ at 6 BadOrder)
    × (read_with 8 8 (codes "user 1002 eve 0 0 0 0 0 0 - -" ∷ []) ≡ at 8 BadOrder)
    × (read_with 4 4 [] ≡ at 4 BadOrder)
    × (read_with 7 8 [] ≡ at 7 BadOrder)
    × (read_with 10 10 [] ≡ at 10 BadOrder)
    × (read_with 11 11 (codes "block 1 78" ∷ []) ≡ at 11 BadOrder)
    × (read_with 12 12 (codes "name 1 a 2" ∷ codes "name 1 a 2" ∷ []) ≡ at 13 BadOrder)

-- owners that are not declared, where projects are not either; names that are none, or stand twice; and names that do
-- not lead from a directory to an inode, or are the root's
abbrev pub WorkedNameFaults : Type 0
WorkedNameFaults =
    (read_with 10 10 (codes "file 2 1002 0 - 1" ∷ []) ≡ at 10 BadOwner)
    × (read_with 10 10 (codes "file 2 1001 0 0 1" ∷ []) ≡ at 10 BadOwner)
    × (read_with 12 12 (codes "name 1 .. 2" ∷ []) ≡ at 12 BadName)
    × (read_with 12 12 (codes "name 1 a/b 2" ∷ []) ≡ at 12 BadName)
    × (read_with 6 6 (codes "user 1001 Bob 1 1 0 0 0 0 - -" ∷ []) ≡ at 6 BadName)
    × (read_with 6 6 (codes "user 1001 ann 1 1 0 0 0 0 - -" ∷ []) ≡ at 6 BadName)
    × (read_with 12 12 (codes "name 2 a 2" ∷ []) ≡ at 12 NoInode)
    × (read_with 12 12 (codes "name 1 a 0" ∷ []) ≡ at 12 NoInode)
    × (read_with 12 12 (codes "name 1 a 1" ∷ []) ≡ at 12 NoInode)

-- lines of two directories that lead to each other alone
abbrev pub cycle_lines : List (List ℕ)
cycle_lines =
    codes "user 0 root 0 3 0 0 0 0 - -" ∷ codes "group 0 root 0 3 0 0 0 0 - -"
    ∷ codes "dir 0 0 0 -" ∷ codes "dir 1 0 0 -" ∷ codes "dir 2 0 0 -"
    ∷ codes "name 0 a 2" ∷ codes "name 2 b 0" ∷ []

-- what all rows together show not to be so: uses past the bounds, another use, an end where none belongs, no root, an
-- inode with no name, and one that no walk from the root reaches
abbrev pub WorkedCountFaults : Type 0
WorkedCountFaults =
    (read_with 2 2 (codes "store 10 1 3" ∷ []) ≡ at 2 BadCount)
    × (read_with 6 6 (codes "user 1001 bob 2 1 0 0 0 0 - -" ∷ []) ≡ at 6 BadCount)
    × (read_with 5 5 (codes "user 1000 ann 0 0 8 16 0 0 100 -" ∷ []) ≡ at 5 BadCount)
    × (read_with 9 12 [] ≡ at 2 BadCount)
    × (read_with 12 12 [] ≡ at 10 BadCount)
    × (read_with 4 12 cycle_lines ≡ at 6 BadCount)
