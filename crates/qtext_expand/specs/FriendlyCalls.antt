-- The calls that a friendly line asks for, as words with a space before each.
use Rattle.std.specs.Prelude.{ℕ, ◌+◌, ◌-◌, ◌*◌, ◌==◌, ◌&&◌, Bool, true, min, nat_lt, zero, suc, List, [], ◌∷◌, ◌++◌, length}
use Rattle.std.specs.Prelude.{map, take, slice_index, codes, decimal, Option, Some, None, Result, Ok, Err}
use Rattle.std.specs.Prelude.{if◌then◌else◌}
use Rattle.std.specs.Int.{div_ceil}
use Rattle.std.specs.List.{zip}
use Rattle.std.specs.Str.{bytes_eq}
use Rattle.qplain.specs.Setups.{Setting}
use Rattle.qplain.specs.declared.bounds.TheConstants.{MAX_LINES}
use Rattle.qtext.specs.declared.text_fault.TextKind.{TextKind}
use Rattle.qtext.specs.declared.text_fault.TextKind.TheVariants.{TooMany, WordCount}
use Rattle.qtext_read.specs.declared.row.Argument.{Argument}
use Rattle.qtext_read.specs.declared.row.Argument.TheVariants as argument
use Rattle.qtext_read.specs.declared.row.Verb.{Verb}
use Rattle.qtext_read.specs.Rows.{row, takes}
use Rattle.qtext_read.specs.Rows.{verb_of}
use Rattle.qtext_expand.specs.declared.fill.TheConstants.{PIECE}
use Rattle.qtext_expand.specs.declared.value.Measure.TheVariants.{Bytes, Kibibytes, Seconds}
use Rattle.qtext_expand.specs.FriendlyWords.{spaced}
use Rattle.qtext_expand.specs.Names.{named_text, principals_of}
use Rattle.qtext_expand.specs.Values.{fits, measured_text, value}

-- ---- `fill` in pieces

-- how many pieces so many bytes have: no bytes have one
abbrev pub pieces_in : ℕ → ℕ
pieces_in count = if count == 0 then 1 else div_ceil count PIECE

-- a piece by its number from 0 on
abbrev pub piece_call : List ℕ → List ℕ → ℕ → ℕ → ℕ → List ℕ
piece_call path byte off count i = spaced (codes "fill" ∷ path ∷ decimal (off + i * PIECE)
    ∷ decimal (min (count - i * PIECE) PIECE) ∷ byte ∷ [])

-- so many pieces
unfoldable pub piece_calls : List ℕ → List ℕ → ℕ → ℕ → ℕ → List (List ℕ)
piece_calls path byte off count zero = []
piece_calls path byte off count (suc n) =
    piece_calls path byte off count n ++ piece_call path byte off count n ∷ []

-- all pieces, unless they are more than a script may have lines
unfoldable pub pieces_of : List ℕ → List ℕ → ℕ → ℕ → Result (List (List ℕ)) TextKind
pieces_of path byte off count =
    if nat_lt MAX_LINES (pieces_in count) then Err TooMany
    else Ok (piece_calls path byte off count (pieces_in count))

-- a fill whose words are no numbers, or end past all numbers, as it stands
abbrev pub fill_as_told : List ℕ → List ℕ → List ℕ → List ℕ → List (List ℕ)
fill_as_told path off count byte =
    spaced (codes "fill" ∷ path ∷ measured_text Bytes off ∷ measured_text Bytes count ∷ byte ∷ []) ∷ []

-- pieces from an offset on, where there is an end
abbrev pub pieces_to : List ℕ → List ℕ → List (List ℕ) → ℕ → ℕ → Option ℕ → Result (List (List ℕ)) TextKind
pieces_to path byte as_told off count None = Ok as_told
pieces_to path byte as_told off count (Some end) = pieces_of path byte off count

-- pieces, where both words are numbers
abbrev pub pieces_by : List ℕ → List ℕ → List (List ℕ) → Option ℕ → Option ℕ → Result (List (List ℕ)) TextKind
pieces_by path byte as_told None count = Ok as_told
pieces_by path byte as_told (Some off) None = Ok as_told
pieces_by path byte as_told (Some off) (Some count) = pieces_to path byte as_told off count (fits (off + count))

-- fill PATH OFF COUNT BYTE, by pieces of 65,536 bytes
unfoldable pub fill_calls : List ℕ → List ℕ → List ℕ → List ℕ → Result (List (List ℕ)) TextKind
fill_calls path off count byte =
    pieces_by path byte (fill_as_told path off count byte) (value Bytes off) (value Bytes count)

-- ---- `mkdir -p` and `rm -r`

-- a path's name ends there: at its end, or before a slash
abbrev pub ends_name : List ℕ → ℕ → Bool
ends_name path end = if end == length path then true else slice_index path end == 47

-- the directory whose name ends there, if one does
abbrev pub way_call : List ℕ → ℕ → List (List ℕ)
way_call path end = if ends_name path end then spaced (codes "mkdir" ∷ take end path ∷ []) ∷ [] else []

-- the directories on a path's way, as far as so many bytes go, the upper ones first
unfoldable pub way_calls : List ℕ → ℕ → List (List ℕ)
way_calls path zero = []
way_calls path (suc n) = way_calls path n ++ way_call path (suc n)

-- mkdir -p PATH
unfoldable pub ways_of : List (List ℕ) → Result (List (List ℕ)) TextKind
ways_of (path ∷ []) = Ok (way_calls path (length path))
ways_of _ = Err WordCount

-- what is named with a slash behind it is a directory
abbrev pub removal_call : List ℕ → List ℕ
removal_call path =
    if length path == 0 then spaced (codes "unlink" ∷ path ∷ [])
    else if slice_index path (length path - 1) == 47
    then spaced (codes "rmdir" ∷ take (length path - 1) path ∷ [])
    else spaced (codes "unlink" ∷ path ∷ [])

-- rm -r PATH ..
unfoldable pub removals_of : List (List ℕ) → Result (List (List ℕ)) TextKind
removals_of [] = Err WordCount
removals_of (path ∷ paths) = Ok (map removal_call (path ∷ paths))

-- ---- all other calls

-- a word in the place of an argument: an id in place of a name, a number in place of one with a unit, any other as it
-- is; an id is of the kind that the first word names
abbrev pub worked : Setting → List ℕ → Argument → List ℕ → List ℕ
worked s kind argument.Offset word = measured_text Bytes word
worked s kind argument.Size word = measured_text Bytes word
worked s kind argument.Length word = measured_text Bytes word
worked s kind argument.BlockSoft word = measured_text Kibibytes word
worked s kind argument.BlockHard word = measured_text Kibibytes word
worked s kind argument.BlockGrace word = measured_text Seconds word
worked s kind argument.InodeGrace word = measured_text Seconds word
worked s kind argument.Uid word = named_text s.users word
worked s kind argument.Gid word = named_text s.groups word
worked s kind argument.Project word = named_text s.projects word
worked s kind argument.Id word = named_text (principals_of s kind) word
worked s kind other word = word

-- words in the places of arguments, worked out
abbrev pub all_worked : Setting → List ℕ → List Argument → List (List ℕ) → List (List ℕ)
all_worked s kind arguments words = map (λ p. worked s kind p.0 p.1) (zip arguments words)

-- the first of some words
abbrev pub first_of : List (List ℕ) → List ℕ
first_of [] = []
first_of (w ∷ ws) = w

-- the words behind one that is read so, worked out where it is a verb that takes so many
abbrev pub arguments_of : Setting → Result Verb TextKind → List (List ℕ) → List (List ℕ)
arguments_of s (Ok v) words = if takes v (length words) then all_worked s (first_of words) (row v) words else words
arguments_of s (Err kind) words = words

-- one call
abbrev pub one_call : Setting → List ℕ → List (List ℕ) → Result (List (List ℕ)) TextKind
one_call s v words = Ok (spaced (v ∷ arguments_of s (verb_of v) words) ∷ [])

-- the calls of a word and those behind it, where no flag asks for more
abbrev pub plain_calls : Setting → List ℕ → List (List ℕ) → Result (List (List ℕ)) TextKind
plain_calls s v (p ∷ o ∷ c ∷ b ∷ []) =
    if bytes_eq v (codes "fill") then fill_calls p o c b else one_call s v (p ∷ o ∷ c ∷ b ∷ [])
plain_calls s v words = one_call s v words

-- the calls of a word and those behind it
abbrev pub calls_by : Setting → List ℕ → List (List ℕ) → Result (List (List ℕ)) TextKind
calls_by s v [] = plain_calls s v []
calls_by s v (flag ∷ words) =
    if bytes_eq v (codes "mkdir") && bytes_eq flag (codes "-p") then ways_of words
    else if bytes_eq v (codes "rm") && bytes_eq flag (codes "-r") then removals_of words
    else plain_calls s v (flag ∷ words)

-- the calls that words ask for
unfoldable pub calls_of : Setting → List (List ℕ) → Result (List (List ℕ)) TextKind
calls_of s [] = Ok (spaced [] ∷ [])
calls_of s (v ∷ words) = calls_by s v words
