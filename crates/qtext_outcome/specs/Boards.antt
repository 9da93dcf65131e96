-- What looks at the boards were given, as text (profile).
use Rattle.std.specs.Prelude.{ℕ, List, [], ◌∷◌, ◌++◌, codes, decimal, length, if◌then◌else◌, ◌==◌, Result, Ok, Err}
use Rattle.std.specs.List.{concat, flat_map}
use Rattle.qplain.specs.declared.board.Board.{Board}
use Rattle.qplain.specs.declared.look_fault.LookFault.{LookFault}
use Rattle.qplain.specs.declared.look_fault.LookFault.TheVariants.{NoBoard, ESRCH, OutOfMemory}

-- the word of a look that was shown no board
abbrev pub look_fault_text : LookFault → List ℕ
look_fault_text NoBoard = codes "NoBoard"
look_fault_text ESRCH = codes "ESRCH"
look_fault_text OutOfMemory = codes "OutOfMemory"

-- the line of a look: the board's version and its totals, or a dash and why none was shown
abbrev pub look_text : Result Board LookFault → List ℕ
look_text (Ok b) = concat (codes "board " ∷ decimal b.version ∷ codes " blocks " ∷ decimal b.blocks
    ∷ codes " inodes " ∷ decimal b.inodes ∷ codes "\n" ∷ [])
look_text (Err fault) = concat (codes "board - failed " ∷ look_fault_text fault ∷ codes "\n" ∷ [])

-- the line over the looks: how many there are, and no line where there are none
abbrev pub boards_head : ℕ → List ℕ
boards_head count = if count == 0 then [] else concat (codes "boards " ∷ decimal count ∷ codes "\n" ∷ [])

-- what the looks were given
abbrev pub boards_text : List (Result Board LookFault) → List ℕ
boards_text looks = boards_head (length looks) ++ flat_map look_text looks
