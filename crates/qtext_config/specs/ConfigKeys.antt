-- The keys that a configuration may have.
use Rattle.std.specs.Prelude.{ℕ, Bool, not, if◌then◌else◌, List, [], ◌∷◌, ◌++◌, Option, Some, None, Result, Ok, Err}
use Rattle.std.specs.Prelude.{codes, fold}
use Rattle.std.specs.List.{filter, flat_map, list_any}
use Rattle.std.specs.Ordering.{is_lt, nat_cmp}
use Rattle.std.specs.Cmp.Lexicographic.{slice_cmp}
use Rattle.std.specs.Str.{bytes_eq}
use Rattle.toml.specs.Data.{Members, no_members, member}
use Rattle.qtext.specs.Reading.{◌>>=◌}
use Rattle.qtext_config.specs.ConfigFaults.{Cause, Field}
use Rattle.qtext_config.specs.ConfigFields.{optional_tables_at, tables_at}

-- the keys of a document
abbrev pub document_keys : List (List ℕ)
document_keys =
    codes "size" ∷ codes "nr_inodes" ∷ codes "block_grace" ∷ codes "inode_grace" ∷ codes "user" ∷ codes "group"
    ∷ codes "project" ∷ codes "client" ∷ []

-- the keys of a user's, a group's or a project's table
abbrev pub principal_keys : List (List ℕ)
principal_keys =
    codes "id" ∷ codes "name" ∷ codes "block_soft" ∷ codes "block_hard" ∷ codes "inode_soft"
    ∷ codes "inode_hard" ∷ []

-- the keys that stand in a table
abbrev pub keys_of : Members → List (List ℕ)
keys_of no_members = []
keys_of (member key value others) = key ∷ keys_of others

-- the key is none of the known ones
abbrev pub is_unknown : List (List ℕ) → List ℕ → Bool
is_unknown known key = not (list_any (bytes_eq key) known)

-- the lesser by bytes: this key, or the least so far
abbrev pub lesser_of : Option (List ℕ) → List ℕ → Option (List ℕ)
lesser_of None key = Some key
lesser_of (Some least) key = if is_lt (slice_cmp nat_cmp key least) then Some key else Some least

-- the least by bytes of the keys that are unknown
abbrev pub least_unknown : List (List ℕ) → List (List ℕ) → Option (List ℕ)
least_unknown known keys = fold lesser_of None (filter (is_unknown known) keys)

-- no key is unknown, or the one that is at fault
abbrev pub no_unknown : Option (List ℕ) → Result (Unit {0}) Cause
no_unknown None = Ok tt
no_unknown (Some key) = Err (Field key)

-- every key is known: first those of the document, then those of all tables of its lists
unfoldable pub known_keys : Members → Result (Unit {0}) Cause
known_keys document = do
  _ ← no_unknown (least_unknown document_keys (keys_of document))
  users ← tables_at (codes "user") document
  groups ← tables_at (codes "group") document
  projects ← optional_tables_at (codes "project") document
  no_unknown (least_unknown principal_keys (flat_map keys_of (users ++ groups ++ projects)))
