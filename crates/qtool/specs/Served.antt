-- Which clients a service has, and whether standard output is one's.
use Rattle.std.specs.Prelude.{◌==◌, ◌||◌, Bool, List, [], ◌∷◌, None, codes, length, map, string_bytes}
use Rattle.std.specs.List.{list_any}
use Rattle.std.specs.Str.{bytes_eq}
use Rattle.qtext_config.specs.ConfigClients.{NamedClient}
use Rattle.qtext_job.specs.declared.job.ServeJob.{ServeJob}
use Rattle.qtext_job.specs.declared.pair.Pair.{Pair}

-- the client of a pair, of whose share nothing is said
abbrev pub client_of_pair : Pair → NamedClient
client_of_pair pair = record {
  caller = pair.caller;
  lines = string_bytes pair.input;
  replies = string_bytes pair.output;
  share = record { calls = None; bytes = None; depth = None; rate = None };
}

-- those of the command line, or where it names none those of the configuration
abbrev pub clients_served : List NamedClient → List NamedClient → List NamedClient
clients_served [] configured = configured
clients_served (client ∷ others) configured = client ∷ others

-- the clients of a job whose configuration names these
abbrev pub clients_of_job : ServeJob → List NamedClient → List NamedClient
clients_of_job job configured = clients_served (map client_of_pair job.pairs.items) configured

-- the client's replies go to standard output
abbrev pub is_to_standard : NamedClient → Bool
is_to_standard client = bytes_eq client.replies (codes "-")

-- standard output is a client's, as it is of the one client where none is named
abbrev pub is_taken : List NamedClient → Bool
is_taken clients = (length clients == 0) || list_any is_to_standard clients
