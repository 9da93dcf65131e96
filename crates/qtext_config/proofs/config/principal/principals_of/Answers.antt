use Rattle.std.proofs.lemmas.Result.{err_from_is_err_and}
use Rattle.toml.specs.View.{table_view}
use Rattle.qtext_config.specs.ConfigPrincipals.{principal_of}
use Rattle.qtext.proofs.Loops.{goes_on, is_done, rest_at, rest_past}
use Rattle.qtext_config.proofs.ConfigLaws.{fails}
use Rattle.qtext_config.proofs.config.principal.principals_of.Goals as goal

pub returns-in_err-principal_of : goal.returns-in_err-principal_of
returns-in_err-principal_of c =
    let p = err_from_is_err_and c.from_residual.result c.from_residual.ensures.1 in
    rw (p.1, p.2) (fails principal_of c.loop-table.principals.items _ _ _ _ _ c.in_err-principal_of.ensures
    (rest_at (λ t. table_view t.now) c.args.tables.now c.loop-table.table-index c.table-item.result
    c.loop-table-test.true c.table-item.is) c.loop-table.invariant)

pub loop-table-preserved : goal.loop-table-preserved
loop-table-preserved c =
    rw c.in_ok-push.ensures.items
    (goes_on principal_of c.loop-table.principals.items _ _ _ _ _ c.in_ok-principal_of.ensures
    (rest_at (λ t. table_view t.now) c.args.tables.now c.loop-table.table-index c.table-item.result
    c.loop-table-test.true c.table-item.is) c.loop-table.invariant)

pub returns : goal.returns
returns c =
    rw c.new.ensures (is_done principal_of c.loop-table.principals.items _ _
    (rest_past (λ t. table_view t.now) c.args.tables.now c.loop-table.table-index c.loop-table-test.false)
    c.loop-table.invariant)
