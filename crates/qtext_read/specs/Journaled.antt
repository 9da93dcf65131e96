-- Calls as journals have them: without `fill`, and with data in lower case. In edition 1 they name no project.
use Rattle.std.specs.Prelude.{ℕ, ◌+◌, Bool, true, false, not, List, [], ◌∷◌, codes, length, take, nat_lt, Result, Ok}
use Rattle.std.specs.Prelude.{Err, if◌then◌else◌}
use Rattle.std.specs.Char.{is_ascii_uppercase}
use Rattle.std.specs.List.{list_any}
use Rattle.std.specs.Str.{bytes_eq}
use Rattle.qplain.specs.declared.call.Call.{Call}
use Rattle.qplain.specs.declared.edition.Edition.{Edition}
use Rattle.qplain.specs.declared.edition.Edition.TheVariants.{One, Two}
use Rattle.qtext.specs.declared.text_fault.TextKind.{TextKind}
use Rattle.qtext.specs.declared.text_fault.TextKind.TheVariants.{BadHex, BadVerb, WordCount}
use Rattle.qtext.specs.Reading.{◌>>=◌}
use Rattle.qtext_read.specs.Calls.{call_of}
use Rattle.qtext_read.specs.Rows.{arity}
use Rattle.qtext_read.specs.Rows.{verb_of}
use Rattle.qtext_read.specs.declared.row.Verb.{Verb}
use Rattle.qtext_read.specs.declared.row.Verb.TheVariants as verb

-- the fourth word behind chown is a project in edition 2, unless it is the arrow before the reply
abbrev pub is_project_word : Edition → List ℕ → Bool
is_project_word One word = false
is_project_word Two word = not (bytes_eq word (codes "=>"))

-- a chown that names a project has these words behind it
abbrev pub has_project : Edition → Verb → List (List ℕ) → Bool
has_project edition verb.Chown (path ∷ uid ∷ gid ∷ fourth ∷ others) = is_project_word edition fourth
has_project edition _ _ = false

-- how many of the words behind a verb are its arguments
abbrev pub argument_count : Edition → Verb → List (List ℕ) → ℕ
argument_count edition verb behind = if has_project edition verb behind then 4 else arity verb

-- whether a verb is the one that stands for more than it says
abbrev pub is_fill : Verb → Bool
is_fill verb.Fill = true
is_fill _ = false

-- the verb that a word spells, where a journal may have it
unfoldable pub journaled_verb_of : List ℕ → Result Verb TextKind
journaled_verb_of word = do
  verb ← verb_of word
  if is_fill verb then Err BadVerb else Ok verb

-- the data among the arguments, if there are any, are in lower case
unfoldable pub in_one_case : Verb → List (List ℕ) → Bool
in_one_case verb.Write (path ∷ off ∷ digits ∷ []) = not (list_any is_ascii_uppercase digits)
in_one_case _ _ = true

-- as many arguments as the verb takes, each in its place, and data in lower case
unfoldable pub journaled_call_of : Edition → Verb → List (List ℕ) → Result Call TextKind
journaled_call_of edition verb arguments = do
  call ← call_of edition verb arguments
  if not (in_one_case verb arguments) then Err BadHex else Ok call

-- the call of a verb that so many of the words behind it belong to, and how many words it has
unfoldable pub counted_call_of : Edition → Verb → ℕ → List (List ℕ) → Result (Call × ℕ) TextKind
counted_call_of edition verb count behind =
    if nat_lt (length behind) count then Err WordCount else (do
      call ← journaled_call_of edition verb (take count behind)
      Ok (call, 1 + count))

-- the call that words begin with in a journal of this edition, the first of them its verb, and how many words it has
unfoldable pub journaled_call_in : Edition → List (List ℕ) → Result (Call × ℕ) TextKind
journaled_call_in edition [] = Err BadVerb
journaled_call_in edition (v ∷ behind) = do
  verb ← journaled_verb_of v
  counted_call_of edition verb (argument_count edition verb behind) behind
