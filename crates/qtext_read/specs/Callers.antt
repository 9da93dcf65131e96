-- Callers: UID:GID, then at most 16 times a comma and a further group.
use Rattle.std.specs.Prelude.{ℕ, List, [], ◌∷◌, length, Result, Ok, Err, nat_le, if◌then◌else◌}
use Rattle.qplain.specs.Caller.{Caller}
use Rattle.qplain.specs.declared.cred.TheConstants.{MAX_MORE_GROUPS}
use Rattle.qtext.specs.declared.text_fault.TextKind.{TextKind}
use Rattle.qtext.specs.declared.text_fault.TextKind.TheVariants.{BadCred}
use Rattle.qtext.specs.Reading.{◌>>=◌, each_of}
use Rattle.qtext.specs.Words.{parts, id_of}

-- a uid and a gid
unfoldable pub own_ids_in : List ℕ → List ℕ → Result (ℕ × ℕ) TextKind
own_ids_in u g = do
  uid ← id_of BadCred u
  gid ← id_of BadCred g
  Ok (uid, gid)

-- the uid and the gid whose words these are
unfoldable pub own_ids_of : List (List ℕ) → Result (ℕ × ℕ) TextKind
own_ids_of (u ∷ g ∷ []) = own_ids_in u g
own_ids_of _ = Err BadCred

-- the further groups
abbrev pub groups_of : List (List ℕ) → Result (List ℕ) TextKind
groups_of words = each_of (id_of BadCred) words

-- the further groups, where they are not too many
unfoldable pub few_groups_of : List (List ℕ) → Result (List ℕ) TextKind
few_groups_of words = do
  more ← groups_of words
  if nat_le (length more) MAX_MORE_GROUPS then Ok more else Err BadCred

-- the caller of these ids and the words of the further groups
unfoldable pub caller_by : ℕ × ℕ → List (List ℕ) → Result Caller TextKind
caller_by own groups = do
  more ← few_groups_of groups
  Ok (record { uid = own.0; gid = own.1; more = more })

-- the caller of the text of its own ids and the words of the further groups
unfoldable pub caller_from : List ℕ → List (List ℕ) → Result Caller TextKind
caller_from first groups = do
  own ← own_ids_of (parts 58 first)
  caller_by own groups

-- the caller whose parts between commas these are
unfoldable pub caller_in : List (List ℕ) → Result Caller TextKind
caller_in [] = Err BadCred
caller_in (first ∷ groups) = caller_from first groups

-- the caller that a word spells
abbrev pub caller_of : List ℕ → Result Caller TextKind
caller_of word = caller_in (parts 44 word)
