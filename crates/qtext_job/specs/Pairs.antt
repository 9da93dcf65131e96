-- The clients of a job that serves: pairs of names, each a word that is cut at its first colon, behind the caller that
-- the client is bound to, where one is named.
use Rattle.std.specs.Prelude.{◌≡◌, ◌<◌, List, [], ◌∷◌, ◌++◌, Contains, codes, length, string_bytes, unwrap_or}
use Rattle.std.specs.Prelude.{Option, None, Some, Ok}
use Rattle.std.specs.List.{AllZip}
use Rattle.clap.specs.Words.{Row, Text, all_of}
use Rattle.qplain.specs.Caller.{Caller}
use Rattle.qtext_read.specs.Callers.{caller_of}
use Rattle.qtext_job.specs.declared.pair.Pair.{Pair}

-- the word is these two names with a colon between them, its first; neither name is empty
pub record IsCutInto (word input output : Text) : Type 0 where
  pub whole : word ≡ input ++ 58 ∷ output
  pub first : Contains input 58 → ⊥
  pub has_input : 0 < length input
  pub has_output : 0 < length output

-- the word names this caller before its first equals sign, and these names behind it
pub record IsBoundBy (word : Text) (caller : Caller) (names : Text) : Type 0 where
  pub before : Text
  pub whole : word ≡ before ++ 61 ∷ names
  pub first : Contains before 61 → ⊥
  pub caller_is : caller_of before ≡ Ok caller

-- the word names no caller so
abbrev pub IsUnbound : Text → Type 0
IsUnbound word = (caller : Caller) (names : Text) → IsBoundBy word caller names → ⊥

-- the word names this caller, and is cut into these names behind that; or it names none, and is cut into them
abbrev pub IsClientOf : Text → Option Caller → Text → Text → Type 0
IsClientOf word None input output = IsUnbound word × IsCutInto word input output
IsClientOf word (Some caller) input output = (names : Text) × IsBoundBy word caller names × IsCutInto names input output

-- the word is that of the pair
abbrev pub IsPairOf : Text → Pair → Type 0
IsPairOf word pair = IsClientOf word pair.caller (string_bytes pair.input) (string_bytes pair.output)

-- each word is that of its pair
abbrev pub ArePairs : List Text → List Pair → Type 0
ArePairs words pairs = AllZip IsPairOf words pairs

-- the pairs are the clients that are named, none where no word names one
abbrev pub AreClientsIn : List Row → List Pair → Type 0
AreClientsIn rows pairs = ArePairs (unwrap_or (all_of (codes "clients") rows) []) pairs
