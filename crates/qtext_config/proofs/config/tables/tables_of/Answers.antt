use Rattle.std.proofs.Common.{map}
use Rattle.std.proofs.lemmas.List.{map_push}
use Rattle.std.proofs.lemmas.Result.{err_from_is_err_and}
use Rattle.toml.specs.View.{table_view, view}
use Rattle.qtext_config.specs.ConfigFields.{table_of}
use Rattle.qtext.proofs.Loops.{goes_on, is_done, rest_at, rest_past}
use Rattle.qtext_config.proofs.ConfigLaws.{fails, values_of-items_view}
use Rattle.qtext_config.proofs.config.tables.tables_of.Goals as goal

pub returns-in_err-table_of : goal.returns-in_err-table_of
returns-in_err-table_of c =
    let p = err_from_is_err_and c.from_residual.result c.from_residual.ensures.1 in
    rw (p.1, p.2, values_of-items_view c.args.list.now.items, ← c.deref-value-items.ensures.value)
    (fails (table_of c.args.key.now) (map (λ t. table_view t.now) c.loop-value.tables.items) _ _ _ _ _
    c.in_err-table_of.ensures
    (rest_at view c.deref-value-items.result.now c.loop-value.value-index c.value-item.result
    c.loop-value-test.true c.value-item.is) c.loop-value.invariant)

pub loop-value-preserved : goal.loop-value-preserved
loop-value-preserved c =
    rw (
      c.in_ok-push.ensures.items,
      map_push (λ t. table_view t.now) c.loop-value.tables.items c.in_ok-table_of.field-0,
    )
    (goes_on (table_of c.args.key.now) (map (λ t. table_view t.now) c.loop-value.tables.items) _ _ _ _ _
    c.in_ok-table_of.ensures (rest_at view c.deref-value-items.result.now c.loop-value.value-index
    c.value-item.result c.loop-value-test.true c.value-item.is) c.loop-value.invariant)

pub returns : goal.returns
returns c =
    rw (values_of-items_view c.args.list.now.items, ← c.deref-value-items.ensures.value)
    (is_done (table_of c.args.key.now) _ _ _
    (rest_past view c.deref-value-items.result.now c.loop-value.value-index c.loop-value-test.false)
    c.loop-value.invariant)
