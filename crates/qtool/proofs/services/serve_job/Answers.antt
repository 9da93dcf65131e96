use Rattle.std.proofs.Common.{◌≡◌, ◌∙◌, true, false, sym, ap, map, List}
use Rattle.qtext_config.specs.ConfigClients.{NamedClient, named_client}
use Rattle.qtool.specs.Served.{clients_of_job, is_taken}
use Rattle.qtool.proofs.Printing.{prints_service}
use Rattle.qtool.proofs.services.serve_job.Goals as goal

pub returns-then-is_output_taken : goal.returns-then-is_output_taken
returns-then-is_output_taken g c =
    let job = c.args.job.now in
    let config = c.service_config-setup.result in
    let configured : List NamedClient = map named_client config.clients.items in
    let same : map named_client c.in_ok-clients.clients.items ≡ clients_of_job job configured =
    rw c.as_slice.ensures.value at c.in_ok-clients.ensures in
    let taken : is_taken (clients_of_job job configured) ≡ true =
    ap is_taken (sym same) ∙ sym (rw c.deref-3.ensures.value at c.is_output_taken.ensures) ∙ c.if-is_output_taken.true in
    prints_service job config.setup configured c.in_ok-outcome.field-0.outcome c.end_of.result _ _
    (rw c.as_str.ensures.value at c.service_config-setup.ensures.config) c.in_ok-outcome.ensures.of c.in_ok-outcome.ensures.moments
    (rw (c.deref-2.ensures.value, c.in_ok-named.ensures.terms, c.deref.ensures.value, same) at c.in_ok-outcome.ensures.kept)
    (rw taken c.in_ok-finish_service.ensures)

pub returns : goal.returns
returns g c =
    let job = c.args.job.now in
    let config = c.service_config-setup.result in
    let configured : List NamedClient = map named_client config.clients.items in
    let same : map named_client c.in_ok-clients.clients.items ≡ clients_of_job job configured =
    rw c.as_slice.ensures.value at c.in_ok-clients.ensures in
    let taken : is_taken (clients_of_job job configured) ≡ false =
    ap is_taken (sym same) ∙ sym (rw c.deref-3.ensures.value at c.is_output_taken.ensures) ∙ c.if-is_output_taken.false in
    prints_service job config.setup configured c.in_ok-outcome.field-0.outcome c.end_of-2.result _ _
    (rw c.as_str.ensures.value at c.service_config-setup.ensures.config) c.in_ok-outcome.ensures.of c.in_ok-outcome.ensures.moments
    (rw (c.deref-2.ensures.value, c.in_ok-named.ensures.terms, c.deref.ensures.value, same) at c.in_ok-outcome.ensures.kept)
    (rw taken c.in_ok-finish_service-2.ensures)
