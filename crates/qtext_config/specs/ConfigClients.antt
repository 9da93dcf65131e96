-- The clients that a configuration names.
use Rattle.std.specs.Prelude.{◌&&◌, nat_le, ℕ, if◌then◌else◌, List, [], ◌∷◌, length, codes, string_bytes}
use Rattle.std.specs.Prelude.{Option, Some, None, Result, Ok, Err}
use Rattle.std.specs.List.{flat_map}
use Rattle.toml.specs.Data.{Data, Members, get_member}
use Rattle.qplain.specs.Caller.{Caller}
use Rattle.qplain.specs.declared.bounds.TheConstants.{MAX_WORKERS}
use Rattle.qtext.specs.Reading.{◌>>=◌, each_of}
use Rattle.qtext.specs.declared.text_fault.TextKind.{TextKind}
use Rattle.qtext_read.specs.Callers.{caller_of}
use Rattle.qtext_config.specs.declared.config.client.ConfigClient.{ConfigClient}
use Rattle.qtext_config.specs.declared.config.client.WrittenClient.{WrittenClient}
use Rattle.qtext_config.specs.declared.config.share.ClientShare.{ClientShare}
use Rattle.qtext_config.specs.declared.config.share.WrittenShare.{WrittenShare}
use Rattle.qtext_config.specs.ConfigFaults.{Cause, Field, Range}
use Rattle.qtext_config.specs.ConfigFields.{found, tables_at, text_at}
use Rattle.qtext_config.specs.ConfigKeys.{keys_of, least_unknown, no_unknown}
use Rattle.qtext_config.specs.ConfigShares.{is_written, share_at, share_of}

-- a client: to whom it is bound, where it is bound, the names of what its lines come from and its replies go to, and
-- what it may take
pub record NamedClient : Type 0 where
  pub caller : Option Caller
  pub lines : List ℕ
  pub replies : List ℕ
  pub share : ClientShare

-- the client that was read
abbrev pub named_client : ConfigClient → NamedClient
named_client client = record {
  caller = client.caller;
  lines = string_bytes client.lines;
  replies = string_bytes client.replies;
  share = client.share;
}

-- a client of which the numbers of its share may still be out of range
pub record ClientFields : Type 0 where
  pub caller : Option Caller
  pub lines : List ℕ
  pub replies : List ℕ
  pub share : WrittenShare

-- the fields of that client that were read
abbrev pub client_fields : WrittenClient → ClientFields
client_fields client = record {
  caller = client.caller;
  lines = string_bytes client.lines;
  replies = string_bytes client.replies;
  share = client.share;
}

-- the keys of a client's table
abbrev pub client_keys : List (List ℕ)
client_keys =
    codes "lines" ∷ codes "replies" ∷ codes "caller" ∷ codes "share_calls" ∷ codes "share_kib" ∷ codes "share_depth"
    ∷ codes "share_rate" ∷ []

-- the text, where it has a byte
abbrev pub some_text : List ℕ → Option (List ℕ)
some_text [] = None
some_text (byte ∷ others) = Some (byte ∷ others)

-- the name of a stream that stands at the key
unfoldable pub stream_at : List ℕ → Members → Result (List ℕ) Cause
stream_at key table = do
  text ← text_at key table
  found key (some_text text)

-- what a text spells, or else the key is at fault
abbrev pub spelt : {A : Type 0} → List ℕ → Result A TextKind → Result A Cause
spelt key (Ok value) = Ok value
spelt key (Err kind) = Err (Field key)

-- the caller that stands at the key, if anything does
abbrev pub caller_if_any : List ℕ → Members → Option Data → Result (Option Caller) Cause
caller_if_any key table None = Ok None
caller_if_any key table (Some value) = do
  text ← text_at key table
  caller ← spelt key (caller_of text)
  Ok (Some caller)

-- the caller at a key that may be absent
unfoldable pub caller_at : List ℕ → Members → Result (Option Caller) Cause
caller_at key table = caller_if_any key table (get_member key table)

-- a client of which a share is written is bound: else the key of its caller is at fault
abbrev pub bound_for : Option Caller → WrittenShare → Result (Unit {0}) Cause
bound_for (Some caller) share = Ok tt
bound_for None share = if is_written share then Err (Field (codes "caller")) else Ok tt

-- the client that a table writes
unfoldable pub client_of : Members → Result ClientFields Cause
client_of table = do
  lines ← stream_at (codes "lines") table
  replies ← stream_at (codes "replies") table
  caller ← caller_at (codes "caller") table
  share ← share_at table
  _ ← bound_for caller share
  Ok (record { caller = caller; lines = lines; replies = replies; share = share })

-- the client of these fields, whose numbers are in their ranges
unfoldable pub client_in_range : ClientFields → Result NamedClient Cause
client_in_range written = do
  share ← share_of written.share
  Ok (record { caller = written.caller; lines = written.lines; replies = written.replies; share = share })

-- the clients, where there are some and a service has a worker for each
abbrev pub served : List NamedClient → Result (List NamedClient) Cause
served clients = if nat_le 1 (length clients) && nat_le (length clients) MAX_WORKERS then Ok clients else Err Range

-- the clients that the tables of a list write: their fields, their keys, and then their numbers and how many there are
unfoldable pub clients_of_tables : List Members → Result (List NamedClient) Cause
clients_of_tables tables = do
  written ← each_of client_of tables
  _ ← no_unknown (least_unknown client_keys (flat_map keys_of tables))
  clients ← each_of client_in_range written
  served clients

-- the clients of the list of a document, if one stands there
abbrev pub clients_if_any : Members → Option Data → Result (List NamedClient) Cause
clients_if_any document None = Ok []
clients_if_any document (Some value) = do
  tables ← tables_at (codes "client") document
  clients_of_tables tables

-- the clients that a document names, none where it has no list of them
unfoldable pub clients_of : Members → Result (List NamedClient) Cause
clients_of document = clients_if_any document (get_member (codes "client") document)
