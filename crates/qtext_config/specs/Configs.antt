-- What a text writes as a configuration, and what is read of it.
use Rattle.std.specs.Prelude.{ℕ, ℤ, pos, negsuc, ◌^◌, nat_lt, ◌==◌, if◌then◌else◌, List, [], length, Option, Some, None}
use Rattle.std.specs.Prelude.{Result, Ok, Err, codes}
use Rattle.toml.specs.Data.{Members}
use Rattle.toml.specs.Parse.{parse_document}
use Rattle.qrules.specs.declared.limits.Limits.{Limits}
use Rattle.qplain.specs.declared.principal.Principal.{Principal}
use Rattle.qplain.specs.declared.setup.SetupFault.{SetupFault}
use Rattle.qplain.specs.Setups.{IsSetupOf, Setting, setting, setup_fault}
use Rattle.qtext_config.specs.declared.config.principal.WrittenPrincipal.{WrittenPrincipal}
use Rattle.qtext_config.specs.declared.config.written.WrittenConfig.{WrittenConfig}
use Rattle.qtext_config.specs.declared.config_fault.ConfigFault.{ConfigFault}
use Rattle.qtext.specs.Reading.{◌>>=◌, each_of}
use Rattle.qtext_config.specs.ConfigFaults.{Cause, EndsFor, Range, Text, cause_of_setup}
use Rattle.qtext_config.specs.ConfigFields.{found, integer_at, number_of, text_at}
use Rattle.qtext_config.specs.ConfigClients.{NamedClient, clients_of}
use Rattle.qtext_config.specs.ConfigKeys.{known_keys}
use Rattle.qtext_config.specs.ConfigPrincipals.{optional_principals_at, principals_at}
use Rattle.qtext_config.specs.ConfigSize.{blocks_of_size}

-- the size in blocks that stands at the key
unfoldable pub size_at : List ℕ → Members → Result ℕ Cause
size_at key document = do
  text ← text_at key document
  found key (blocks_of_size text)

-- the fields of a document, whose numbers may still be out of range
unfoldable pub fields_of : Members → Result WrittenConfig Cause
fields_of document = do
  blocks ← size_at (codes "size") document
  inodes ← integer_at (codes "nr_inodes") document
  block_grace ← integer_at (codes "block_grace") document
  inode_grace ← integer_at (codes "inode_grace") document
  users ← principals_at (codes "user") document
  groups ← principals_at (codes "group") document
  projects ← optional_principals_at (codes "project") document
  Ok (record {
    blocks = blocks;
    inodes = inodes;
    block_grace = block_grace;
    inode_grace = inode_grace;
    users = users;
    groups = groups;
    projects = projects;
  })

-- the id that an integer is: 0 to 2^32 - 1
abbrev pub id_of : ℤ → Result ℕ Cause
id_of (pos n) = if nat_lt n (2 ^ 32) then Ok n else Err Range
id_of (negsuc n) = Err Range

-- the limits of a principal, as numbers
unfoldable pub limits_of : WrittenPrincipal → Result Limits Cause
limits_of written = do
  block_soft ← number_of written.block_soft
  block_hard ← number_of written.block_hard
  inode_soft ← number_of written.inode_soft
  inode_hard ← number_of written.inode_hard
  Ok (record { block_soft = block_soft; block_hard = block_hard; inode_soft = inode_soft; inode_hard = inode_hard })

-- a principal, whose integers are numbers
unfoldable pub declared_of : WrittenPrincipal → Result Principal Cause
declared_of written = do
  id ← id_of written.id
  limits ← limits_of written
  Ok (record { id = id; name = written.name; limits = limits })

-- the projects that are declared: none where no list of them stands; a list without any is out of range
unfoldable pub projects_of : Option (List WrittenPrincipal) → Result (List Principal) Cause
projects_of None = Ok []
projects_of (Some projects) = if length projects == 0 then Err Range else each_of declared_of projects

-- the setting, or the cause of the fault that a setup of it has
abbrev pub unless_refused : Setting → Option SetupFault → Result Setting Cause
unless_refused given None = Ok given
unless_refused given (Some fault) = Err (cause_of_setup fault)

-- the setting, unless a setup of it is refused: for range, then for duplicate, then for no zero
abbrev pub accepted : Setting → Result Setting Cause
accepted given = unless_refused given (setup_fault given)

-- the setting of these fields: their integers are numbers, and a setup of it is not refused
unfoldable pub setting_of : WrittenConfig → Result Setting Cause
setting_of written = do
  inodes ← number_of written.inodes
  block_grace ← number_of written.block_grace
  inode_grace ← number_of written.inode_grace
  users ← each_of declared_of written.users
  groups ← each_of declared_of written.groups
  projects ← projects_of written.projects
  accepted (setting written.blocks inodes (record { block = block_grace; inode = inode_grace }) users groups projects)

-- the document, unless TOML refuses the text
abbrev pub document_of : Option Members → Result Members Cause
document_of None = Err Text
document_of (Some document) = Ok document

-- the setting that a text writes, or the first cause for which it writes none: in its TOML, fields, keys, setting or
-- clients
unfoldable pub setting_in : List ℕ → Result Setting Cause
setting_in text = do
  document ← document_of (parse_document text)
  written ← fields_of document
  _ ← known_keys document
  given ← setting_of written
  _ ← clients_of document
  Ok given

-- the clients that a text names, where it writes a setting
unfoldable pub clients_in : List ℕ → Result (List NamedClient) Cause
clients_in text = do
  document ← document_of (parse_document text)
  clients_of document

-- what is read has the setup of the setting that is written; a fault is the cause for which none is, or out of memory
abbrev pub ReadsSetup : {A : Type 0} → (A → Setting) → Result A ConfigFault → Result Setting Cause → Type 0
ReadsSetup setup_of (Ok read) (Ok given) = IsSetupOf given (setup_of read)
ReadsSetup setup_of (Ok read) (Err cause) = ⊥
ReadsSetup setup_of (Err fault) written = EndsFor fault written
