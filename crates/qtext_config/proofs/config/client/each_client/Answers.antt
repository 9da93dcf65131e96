use Rattle.std.proofs.Common.{map}
use Rattle.std.proofs.lemmas.List.{map_push}
use Rattle.std.proofs.lemmas.Result.{err_from_is_err_and}
use Rattle.toml.specs.View.{table_view}
use Rattle.qtext_config.specs.ConfigClients.{client_of, client_fields}
use Rattle.qtext.proofs.Loops.{goes_on, is_done, rest_at, rest_past}
use Rattle.qtext_config.proofs.ConfigLaws.{fails}
use Rattle.qtext_config.proofs.config.client.each_client.Goals as goal

pub returns-in_err-client_of : goal.returns-in_err-client_of
returns-in_err-client_of c =
    let p = err_from_is_err_and c.from_residual.result c.from_residual.ensures.1 in
    rw (p.1, p.2) (fails client_of (map client_fields c.loop-table.clients.items) _ _ _ _ _ c.in_err-client_of.ensures
    (rest_at (λ t. table_view t.now) c.args.tables.now c.loop-table.table-index c.table-item.result
    c.loop-table-test.true c.table-item.is) c.loop-table.invariant)

pub loop-table-preserved : goal.loop-table-preserved
loop-table-preserved c =
    rw (c.in_ok-push.ensures.items, map_push client_fields c.loop-table.clients.items c.in_ok-client_of.field-0)
    (goes_on client_of (map client_fields c.loop-table.clients.items) _ _ _ _ _ c.in_ok-client_of.ensures
    (rest_at (λ t. table_view t.now) c.args.tables.now c.loop-table.table-index c.table-item.result
    c.loop-table-test.true c.table-item.is) c.loop-table.invariant)

pub returns : goal.returns
returns c =
    is_done client_of (map client_fields c.loop-table.clients.items) _ _
    (rest_past (λ t. table_view t.now) c.args.tables.now c.loop-table.table-index c.loop-table-test.false)
    c.loop-table.invariant
