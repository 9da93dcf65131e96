use Rattle.std.proofs.Common.{◌≡◌, length, map, take}
use Rattle.qtext_config.specs.ConfigClients.{named_client}
use Rattle.qtool.specs.ClientNames.{terms_in}
use Rattle.qtool.specs.Terms.{terms_for}
use Rattle.qtool.proofs.client_names.named.Given as goal

-- on which terms the clients so far are served
abbrev pub invariant-loop-client : goal.invariant-loop-client
invariant-loop-client l =
    map terms_in l.names.items ≡ map (λ client. terms_for l.told (length l.clients) (named_client client)) (take l.client-index l.clients)
