use Rattle.std.proofs.Common.{◌≡◌, map, take}
use Rattle.qtext_config.specs.ConfigClients.{named_client}
use Rattle.qtool.specs.Served.{client_of_pair}
use Rattle.qtool.proofs.served.served.Given as goal

-- the clients so far are those of the pairs
abbrev pub invariant-loop-pair : goal.invariant-loop-pair
invariant-loop-pair l = map named_client l.clients.items ≡ map client_of_pair (take l.pair-index l.pairs)
