-- Users, groups and projects as a configuration writes them.
use Rattle.std.specs.Prelude.{List, ℕ, Option, Some, None, Result, Ok, codes, if◌then◌else◌}
use Rattle.toml.specs.Data.{Data, Members, get_member}
use Rattle.qplain.specs.Principals.{is_principal_name}
use Rattle.qtext_config.specs.declared.config.principal.WrittenPrincipal.{WrittenPrincipal}
use Rattle.qtext.specs.Reading.{◌>>=◌, each_of}
use Rattle.qtext_config.specs.ConfigFaults.{Cause}
use Rattle.qtext_config.specs.ConfigFields.{found, integer_at, limit_at, tables_at, text_at}

-- the text, where it may be a principal's name
abbrev pub name_of : List ℕ → Option (List ℕ)
name_of text = if is_principal_name text then Some text else None

-- the principal's name that stands at the key
unfoldable pub name_at : List ℕ → Members → Result (List ℕ) Cause
name_at key table = do
  text ← text_at key table
  found key (name_of text)

-- the principal that a table writes
unfoldable pub principal_of : Members → Result WrittenPrincipal Cause
principal_of table = do
  id ← integer_at (codes "id") table
  name ← name_at (codes "name") table
  block_soft ← limit_at (codes "block_soft") table
  block_hard ← limit_at (codes "block_hard") table
  inode_soft ← limit_at (codes "inode_soft") table
  inode_hard ← limit_at (codes "inode_hard") table
  Ok (record {
    id = id;
    name = name;
    block_soft = block_soft;
    block_hard = block_hard;
    inode_soft = inode_soft;
    inode_hard = inode_hard;
  })

-- the principals that the tables of the list at the key write
unfoldable pub principals_at : List ℕ → Members → Result (List WrittenPrincipal) Cause
principals_at key document = do
  tables ← tables_at key document
  each_of principal_of tables

-- the principals of the list that stands at the key, if one does
abbrev pub principals_if_any : List ℕ → Members → Option Data → Result (Option (List WrittenPrincipal)) Cause
principals_if_any key document None = Ok None
principals_if_any key document (Some value) = do
  principals ← principals_at key document
  Ok (Some principals)

-- the principals of the list at a key that may be absent
unfoldable pub optional_principals_at : List ℕ → Members → Result (Option (List WrittenPrincipal)) Cause
optional_principals_at key document = principals_if_any key document (get_member key document)
