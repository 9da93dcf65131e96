use Rattle.std.proofs.Common.{refl}
use Rattle.std.proofs.lemmas.List.{drop_all}
use Rattle.qtext.proofs.Fronts.{ends_refused, partly_done, partly_next}
use Rattle.qtext_metrics.proofs.Clients.{client_by_client}
use Rattle.qtext_metrics.proofs.service.put_clients.Goals as goal

pub loop-index-preserved : goal.loop-index-preserved
loop-index-preserved g c =
    partly_next _ _ _ _ _ _ _ c.loop-index.invariant c.in_ok-put_client.ensures
    (client_by_client c.args.calls.now _ _ _ refl c.loop-index-test.true)

pub returns-in_err-put_client : goal.returns-in_err-put_client
returns-in_err-put_client g c =
    ends_refused _ _ _ _ _ _ _ _ c.from_residual.ensures.0 c.loop-index.invariant c.in_err-put_client.ensures
    (client_by_client c.args.calls.now _ _ _ refl c.loop-index-test.true)

pub returns : goal.returns
returns g c = partly_done _ _ _ (rw (drop_all _ _ c.loop-index-test.false) at c.loop-index.invariant)
