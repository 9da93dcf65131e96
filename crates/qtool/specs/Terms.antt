-- On which terms the clients of a service are served, and what its journal then has of each.
use Rattle.std.specs.Prelude.{◌≡◌, ◌+◌, ◌/◌, ◌<◌, ◌≤◌, ◌==◌, if◌then◌else◌, ℕ, List, [], ◌∷◌, length, map, slice_get}
use Rattle.std.specs.Prelude.{take, sum_by, unwrap_or, All, Option, Some, None, option_map, ⊤}
use Rattle.qplain.specs.Journal.{entries_of}
use Rattle.qplain.specs.declared.entry.Entry.{Entry}
use Rattle.qrun_replay.specs.Placed.{line_of_entry}
use Rattle.qtext_client.specs.Terms.{Binding, MayWrite, bytes_called, bytes_read}
use Rattle.qtext_client.specs.declared.terms.Allowance.{Allowance}
use Rattle.qtext_config.specs.ConfigClients.{NamedClient}
use Rattle.qtext_config.specs.declared.config.share.ClientShare.{ClientShare}
use Rattle.qtext_job.specs.declared.share_options.ShareOptions.{ShareOptions}

-- to whom a client is bound, and its share, where it is bound
pub record ClientTerms : Type 0 where
  pub bound : Option Binding
  pub share : Option Allowance

-- what was told, or where that is 0 an equal part for each of so many clients
abbrev pub or_part : ℕ → ℕ → ℕ → ℕ
or_part told all clients = if told == 0 then all / clients else told

-- what a bound client may take: as its own share says, and else as all are told
abbrev pub told_for : ShareOptions → ClientShare → ShareOptions
told_for told share = record {
  calls = unwrap_or share.calls told.calls;
  bytes = unwrap_or share.bytes told.bytes;
  depth = unwrap_or share.depth told.depth;
  rate = unwrap_or share.rate told.rate;
}

-- the share of each of so many clients: its part of 1,048,576 calls, and of 512 MiB
abbrev pub share_told : ShareOptions → ℕ → Allowance
share_told told clients = record {
  calls = or_part told.calls 1048576 clients;
  bytes = or_part told.bytes 536870912 clients;
}

-- the terms of this one of so many clients
abbrev pub terms_for : ShareOptions → ℕ → NamedClient → ClientTerms
terms_for told clients client = record {
  bound = option_map (λ caller. record { caller = caller; depth = (told_for told client.share).depth }) client.caller;
  share = option_map (λ caller. share_told (told_for told client.share) clients) client.caller;
}

-- the terms of these clients; where none is named there is one client, bound to nobody
abbrev pub terms_told : ShareOptions → List NamedClient → List ClientTerms
terms_told told [] = record { bound = None; share = None } ∷ []
terms_told told (client ∷ others) = map (terms_for told (length (client ∷ others))) (client ∷ others)

-- how many bytes an entry holds
abbrev pub bytes_held : Entry → ℕ
bytes_held e = bytes_called e.call + bytes_read e.reply

-- entries are no more than a share allows, and what stands before any of them holds less
abbrev pub AreWithin : Option Allowance → List (ℕ × Entry) → Type 0
AreWithin None entries = ⊤
AreWithin (Some share) entries = (length entries ≤ share.calls)
    × ((n : ℕ) → n < length entries → sum_by (λ x. bytes_held x.1) (take n entries) < share.bytes)

-- what the journal of a service has of the worker of a client that is served on these terms: lines that the client may
-- write, within its share
pub record KeepsTo (terms : ClientTerms) (worker : ℕ) (journal : List Entry) : Type 0 where
  pub may : All (λ e. e.worker ≡ worker → MayWrite terms.bound (line_of_entry e)) journal
  pub within : AreWithin terms.share (entries_of journal worker)

-- so it is with each client; clients count from 0 here, and their workers from 1
abbrev pub AreKept : List ClientTerms → List Entry → Type 0
AreKept terms journal = (client : ℕ) (t : ClientTerms) → slice_get terms client ≡ Some t
    → KeepsTo t (client + 1) journal
