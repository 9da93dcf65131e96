use Rattle.std.proofs.Common.{◌≡◌, All, length, map, take}
use Rattle.qrun_worker.specs.Work.{IsNewClient}
use Rattle.qtool.specs.ClientNames.{terms_in, terms_of_client}
use Rattle.qtool.proofs.services.clients_of.Given as goal

abbrev pub invariant-loop-names : goal.invariant-loop-names
invariant-loop-names g l = record {
  many : length l.clients.items ≡ l.names-index;
  new : All (λ c. IsNewClient c.owed c.stands) l.clients.items;
  terms : map terms_of_client l.clients.items ≡ map terms_in (take l.names-index l.names);
}
