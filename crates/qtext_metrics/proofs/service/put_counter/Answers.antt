use Rattle.std.specs.List.{flat_map}
use Rattle.qtext.proofs.Fronts.{refused_first, writes_then}
use Rattle.qtext_metrics.specs.Services.{counter_head, mishap_row}
use Rattle.qtext_metrics.proofs.service.put_counter.Goals as goal

pub returns-in_err-put_head : goal.returns-in_err-put_head
returns-in_err-put_head g c =
    refused_first _ _ _ (counter_head c.args.counter) (flat_map (mishap_row c.args.counts.now) c.args.mishaps.now)
    c.from_residual.ensures.0 c.in_err-put_head.ensures

pub returns : goal.returns
returns g c =
    writes_then _ _ _ _ (counter_head c.args.counter) (flat_map (mishap_row c.args.counts.now) c.args.mishaps.now)
    c.in_ok-put_head.ensures c.put_mishaps.ensures
