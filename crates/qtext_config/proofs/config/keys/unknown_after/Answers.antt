use Rattle.std.proofs.Common.{◌≡◌, [], drop, map}
use Rattle.toml.specs.View.{table_view}
use Rattle.qtext_config.specs.ConfigKeys.{is_unknown}
use Rattle.qtext.proofs.Loops.{rest_at, rest_past}
use Rattle.qtext_config.proofs.ConfigKeyLaws.{least-tables}
use Rattle.qtext_config.proofs.config.keys.unknown_after.Goals as goal

pub loop-table-preserved : goal.loop-table-preserved
loop-table-preserved c =
    rw c.least_unknown-least.ensures
    (least-tables (is_unknown (map (λ key. key.now) c.args.known.now)) _ _ _ _ _
    (rest_at (λ t. table_view t.now) c.args.tables.now c.loop-table.table-index c.table-item.result
    c.loop-table-test.true c.table-item.is) c.loop-table.invariant)

pub returns : goal.returns
returns c =
    let none : map (λ t. table_view t.now) (drop c.loop-table.table-index c.args.tables.now) ≡ [] =
    rest_past (λ t. table_view t.now) c.args.tables.now c.loop-table.table-index
    c.loop-table-test.false in
    rw none at c.loop-table.invariant
