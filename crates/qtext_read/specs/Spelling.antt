-- How calls and their callers are spelled out: each number, caller, kind and call in its one spelling.
use Rattle.std.specs.Prelude.{ℕ, List, [], ◌∷◌, map, codes, decimal, Option, Some, None}
use Rattle.std.specs.List.{flat_map, join_with_byte}
use Rattle.qrules.specs.declared.limits.Limits.{Limits}
use Rattle.qplain.specs.Caller.{Caller}
use Rattle.qplain.specs.declared.call.Call.{Call}
use Rattle.qtext.specs.Pieces.{data_text}
use Rattle.qtext.specs.RuleWords.{kind_text}
use Rattle.qtext_read.specs.Rows.{Value, PathValue, DataValue, NumberValue, KindValue, OwnerValue, ProjectValue}
use Rattle.qtext_read.specs.Rows.{verb_text}
use Rattle.qtext_read.specs.Calls.{Parts, Of, parts_of}

-- UID:GID
abbrev pub own_ids_text : Caller → List ℕ
own_ids_text cred = join_with_byte 58 (decimal cred.uid ∷ decimal cred.gid ∷ [])

-- UID:GID, then a comma before each further group
abbrev pub caller_text : Caller → List ℕ
caller_text cred = join_with_byte 44 (own_ids_text cred ∷ map decimal cred.more)

-- an owner's id, or a dash for the present one
abbrev pub owner_text : Option ℕ → List ℕ
owner_text None = codes "-"
owner_text (Some id) = decimal id

-- a project's id, and no word where there is none
abbrev pub project_words : Option ℕ → List (List ℕ)
project_words None = []
project_words (Some id) = decimal id ∷ []

-- BSOFT BHARD ISOFT IHARD
abbrev pub limits_words : Limits → List (List ℕ)
limits_words l = decimal l.block_soft ∷ decimal l.block_hard ∷ decimal l.inode_soft ∷ decimal l.inode_hard ∷ []

-- a value as words: a project that is not named has none
abbrev pub value_words : Value → List (List ℕ)
value_words (PathValue path) = path ∷ []
value_words (DataValue bytes) = data_text bytes ∷ []
value_words (NumberValue n) = decimal n ∷ []
value_words (KindValue kind) = kind_text kind ∷ []
value_words (OwnerValue owner) = owner_text owner ∷ []
value_words (ProjectValue project) = project_words project

-- a verb and its arguments
abbrev pub parts_words : Parts → List (List ℕ)
parts_words (Of v values) = verb_text v ∷ flat_map value_words values

-- the words of a call
abbrev pub call_words : Call → List (List ℕ)
call_words call = parts_words (parts_of call)
