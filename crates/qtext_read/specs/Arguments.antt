-- Paths, kinds and owners as words.
use Rattle.std.specs.Prelude.{ℕ, ◌==◌, ◌&&◌, not, List, length, codes, Option, Some, None, Result, Ok, Err}
use Rattle.std.specs.Prelude.{if◌then◌else◌}
use Rattle.std.specs.List.{list_all}
use Rattle.std.specs.Str.{bytes_eq}
use Rattle.qrules.specs.declared.kind.Kind.{Kind}
use Rattle.qrules.specs.declared.kind.Kind.TheVariants.{User, Group, Project}
use Rattle.qplain.specs.Paths.{is_path_byte}
use Rattle.qplain.specs.declared.edition.Edition.{Edition}
use Rattle.qplain.specs.declared.edition.Edition.TheVariants.{One, Two}
use Rattle.qtext.specs.declared.text_fault.TextKind.{TextKind}
use Rattle.qtext.specs.declared.text_fault.TextKind.TheVariants.{BadNumber, BadWord}
use Rattle.qtext.specs.Reading.{◌>>=◌}
use Rattle.qtext.specs.Words.{id_of}

-- a path is any word that is not empty
unfoldable pub path_of : List ℕ → Result (List ℕ) TextKind
path_of word = if not (length word == 0) && list_all is_path_byte word then Ok word else Err BadWord

-- the word of projects spells a kind in edition 2 alone
unfoldable pub project_kind_of : Edition → Result Kind TextKind
project_kind_of One = Err BadWord
project_kind_of Two = Ok Project

-- the kind that a word spells in texts of this edition
unfoldable pub kind_of : Edition → List ℕ → Result Kind TextKind
kind_of edition word =
    if bytes_eq word (codes "user") then Ok User
    else if bytes_eq word (codes "group") then Ok Group
    else if bytes_eq word (codes "project") then project_kind_of edition
    else Err BadWord

-- the owner that a word names: a dash for the present one, else an id
unfoldable pub owner_of : List ℕ → Result (Option ℕ) TextKind
owner_of word = if bytes_eq word (codes "-") then Ok None else (do
  id ← id_of BadNumber word
  Ok (Some id))
