use Rattle.std.proofs.Common.{◌≡◌, map}
use Rattle.std.specs.Vec.Iter.{into_iter_items}
use Rattle.qtext.specs.Reading.{each_of}
use Rattle.qtext_config.specs.ConfigClients.{named_client, client_in_range, client_fields}
use Rattle.qtext.proofs.Loops.{with_front}
use Rattle.qtext_config.proofs.config.client.clients_in_range.Given as goal

abbrev pub invariant-loop-written : goal.invariant-loop-written
invariant-loop-written l =
    with_front (map named_client l.clients.items) (each_of client_in_range (map client_fields (into_iter_items l.written-iterator)))
    ≡ each_of client_in_range (map client_fields l.fn.all.items)
