use Rattle.std.proofs.Common.{◌≡◌, drop, map}
use Rattle.toml.specs.View.{table_view}
use Rattle.qtext.specs.Reading.{each_of}
use Rattle.qtext_config.specs.ConfigClients.{client_of, client_fields}
use Rattle.qtext.proofs.Loops.{with_front}
use Rattle.qtext_config.proofs.config.client.each_client.Given as goal

abbrev pub invariant-loop-table : goal.invariant-loop-table
invariant-loop-table l =
    with_front (map client_fields l.clients.items) (each_of client_of (map (λ t. table_view t.now) (drop l.table-index l.tables)))
    ≡ each_of client_of (map (λ t. table_view t.now) l.tables)
