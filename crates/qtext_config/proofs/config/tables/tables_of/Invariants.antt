use Rattle.std.proofs.Common.{◌≡◌, drop, map}
use Rattle.toml.specs.View.{table_view, view}
use Rattle.qtext.specs.Reading.{each_of}
use Rattle.qtext_config.specs.ConfigFields.{table_of}
use Rattle.qtext.proofs.Loops.{with_front}
use Rattle.qtext_config.proofs.config.tables.tables_of.Given as goal

abbrev pub invariant-loop-value : goal.invariant-loop-value
invariant-loop-value l =
    with_front (map (λ t. table_view t.now) l.tables.items) (each_of (table_of l.key) (map view (drop l.value-index l.value-items)))
    ≡ each_of (table_of l.key) (map view l.value-items)
