-- The one table of calls: the word of each verb, what it takes, and what a word is in the place of an argument.
use Rattle.std.specs.Prelude.{ℕ, ◌==◌, ◌||◌, Bool, List, [], ◌∷◌, codes, length, Option, Some, Result, Ok, Err}
use Rattle.std.specs.Prelude.{if◌then◌else◌}
use Rattle.std.specs.Str.{bytes_eq}
use Rattle.qrules.specs.declared.kind.Kind.{Kind}
use Rattle.qplain.specs.declared.edition.Edition.{Edition}
use Rattle.qtext.specs.declared.text_fault.TextKind.{TextKind}
use Rattle.qtext.specs.declared.text_fault.TextKind.TheVariants.{BadNumber, BadVerb}
use Rattle.qtext.specs.Reading.{◌>>=◌}
use Rattle.qtext.specs.Words.{number, number_of, id_of}
use Rattle.qtext.specs.Data.{data_of, byte_of}
use Rattle.qtext_read.specs.declared.row.Argument.{Argument}
use Rattle.qtext_read.specs.declared.row.Argument.TheVariants as argument
use Rattle.qtext_read.specs.declared.row.TheConstants.{MAX_FILL}
use Rattle.qtext_read.specs.declared.row.Verb.{Verb}
use Rattle.qtext_read.specs.declared.row.Verb.TheVariants as verb
use Rattle.qtext_read.specs.Arguments.{path_of, kind_of, owner_of}

-- the word of a verb
abbrev pub verb_text : Verb → List ℕ
verb_text verb.Create = codes "create"
verb_text verb.Mkdir = codes "mkdir"
verb_text verb.Write = codes "write"
verb_text verb.Fill = codes "fill"
verb_text verb.Truncate = codes "truncate"
verb_text verb.Read = codes "read"
verb_text verb.Stat = codes "stat"
verb_text verb.Link = codes "link"
verb_text verb.Unlink = codes "unlink"
verb_text verb.Rmdir = codes "rmdir"
verb_text verb.Rename = codes "rename"
verb_text verb.Chown = codes "chown"
verb_text verb.SetQuota = codes "setquota"
verb_text verb.SetGrace = codes "setgrace"
verb_text verb.Quota = codes "quota"

-- the verb that a word spells
unfoldable pub verb_of : List ℕ → Result Verb TextKind
verb_of word =
    if bytes_eq word (codes "write") then Ok verb.Write
    else if bytes_eq word (codes "stat") then Ok verb.Stat
    else if bytes_eq word (codes "read") then Ok verb.Read
    else if bytes_eq word (codes "create") then Ok verb.Create
    else if bytes_eq word (codes "mkdir") then Ok verb.Mkdir
    else if bytes_eq word (codes "fill") then Ok verb.Fill
    else if bytes_eq word (codes "truncate") then Ok verb.Truncate
    else if bytes_eq word (codes "link") then Ok verb.Link
    else if bytes_eq word (codes "unlink") then Ok verb.Unlink
    else if bytes_eq word (codes "rmdir") then Ok verb.Rmdir
    else if bytes_eq word (codes "rename") then Ok verb.Rename
    else if bytes_eq word (codes "chown") then Ok verb.Chown
    else if bytes_eq word (codes "setquota") then Ok verb.SetQuota
    else if bytes_eq word (codes "setgrace") then Ok verb.SetGrace
    else if bytes_eq word (codes "quota") then Ok verb.Quota
    else Err BadVerb

-- the name of an argument, as data for programs have it
abbrev pub name : Argument → List ℕ
name argument.Path = codes "path"
name argument.From = codes "from"
name argument.To = codes "to"
name argument.Offset = codes "offset"
name argument.Size = codes "size"
name argument.Length = codes "length"
name argument.Data = codes "data"
name argument.Count = codes "count"
name argument.Byte = codes "byte"
name argument.Uid = codes "uid"
name argument.Gid = codes "gid"
name argument.Project = codes "project"
name argument.Kind = codes "kind"
name argument.Id = codes "id"
name argument.BlockSoft = codes "block_soft"
name argument.BlockHard = codes "block_hard"
name argument.InodeSoft = codes "inode_soft"
name argument.InodeHard = codes "inode_hard"
name argument.BlockGrace = codes "block"
name argument.InodeGrace = codes "inode"

-- what a verb takes, in its order; a chown need not have its last
abbrev pub row : Verb → List Argument
row verb.Create = argument.Path ∷ []
row verb.Mkdir = argument.Path ∷ []
row verb.Write = argument.Path ∷ argument.Offset ∷ argument.Data ∷ []
row verb.Fill = argument.Path ∷ argument.Offset ∷ argument.Count ∷ argument.Byte ∷ []
row verb.Truncate = argument.Path ∷ argument.Size ∷ []
row verb.Read = argument.Path ∷ argument.Offset ∷ argument.Length ∷ []
row verb.Stat = argument.Path ∷ []
row verb.Link = argument.From ∷ argument.To ∷ []
row verb.Unlink = argument.Path ∷ []
row verb.Rmdir = argument.Path ∷ []
row verb.Rename = argument.From ∷ argument.To ∷ []
row verb.Chown = argument.Path ∷ argument.Uid ∷ argument.Gid ∷ argument.Project ∷ []
row verb.SetQuota = argument.Kind ∷ argument.Id ∷ argument.BlockSoft ∷ argument.BlockHard
    ∷ argument.InodeSoft ∷ argument.InodeHard ∷ []
row verb.SetGrace = argument.BlockGrace ∷ argument.InodeGrace ∷ []
row verb.Quota = argument.Kind ∷ argument.Id ∷ []

-- as many arguments as a verb takes, where a chown names no project
abbrev pub arity : Verb → ℕ
arity verb.Chown = 3
arity v = length (row v)

-- whether a verb takes so many arguments
abbrev pub takes : Verb → ℕ → Bool
takes v count = count == arity v || count == length (row v)

-- what stands in the place of an argument
pub data Value : Type 0 where
  PathValue : List ℕ → Value
  DataValue : List ℕ → Value
  NumberValue : ℕ → Value
  KindValue : Kind → Value
  OwnerValue : Option ℕ → Value
  ProjectValue : Option ℕ → Value

-- what a word stands for in the place of an argument, in texts of an edition, or the fault of one that is none
abbrev pub value_in : Edition → Argument → List ℕ → Result Value TextKind
value_in edition argument.Path word = path_of word >>= λ path. Ok (PathValue path)
value_in edition argument.From word = path_of word >>= λ path. Ok (PathValue path)
value_in edition argument.To word = path_of word >>= λ path. Ok (PathValue path)
value_in edition argument.Data word = data_of word >>= λ bytes. Ok (DataValue bytes)
value_in edition argument.Byte word = byte_of word >>= λ byte. Ok (DataValue (byte ∷ []))
value_in edition argument.Count word = number_of BadNumber MAX_FILL word >>= λ n. Ok (NumberValue n)
value_in edition argument.Uid word = owner_of word >>= λ owner. Ok (OwnerValue owner)
value_in edition argument.Gid word = owner_of word >>= λ owner. Ok (OwnerValue owner)
value_in edition argument.Project word = id_of BadNumber word >>= λ id. Ok (ProjectValue (Some id))
value_in edition argument.Kind word = kind_of edition word >>= λ kind. Ok (KindValue kind)
value_in edition argument.Id word = id_of BadNumber word >>= λ id. Ok (NumberValue id)
value_in edition other word = number word >>= λ n. Ok (NumberValue n)

-- what words stand for in the places of arguments, from left to right, as far as there are both
unfoldable pub values_in : Edition → List Argument → List (List ℕ) → Result (List Value) TextKind
values_in edition (a ∷ arguments) (w ∷ words) = do
  value ← value_in edition a w
  values ← values_in edition arguments words
  Ok (value ∷ values)
values_in edition _ _ = Ok []
