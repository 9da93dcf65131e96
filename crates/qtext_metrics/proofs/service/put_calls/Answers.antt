use Rattle.qtext.proofs.Fronts.{refused_first, writes_then}
use Rattle.qtext_metrics.specs.declared.counter.Counter.TheVariants as counter
use Rattle.qtext_metrics.specs.Services.{client_rows, counter_head}
use Rattle.qtext_metrics.proofs.service.put_calls.Goals as goal

pub returns-in_err-put_head : goal.returns-in_err-put_head
returns-in_err-put_head g c =
    refused_first _ _ _ (counter_head counter.Calls) (client_rows 1 c.args.calls.now) c.from_residual.ensures.0
    c.in_err-put_head.ensures

pub returns : goal.returns
returns g c =
    writes_then _ _ _ _ (counter_head counter.Calls) (client_rows 1 c.args.calls.now) c.in_ok-put_head.ensures
    c.put_clients.ensures
