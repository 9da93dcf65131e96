use Rattle.std.proofs.Common.{◌≡◌, drop, map}
use Rattle.toml.specs.View.{table_view}
use Rattle.qtext.specs.Reading.{each_of}
use Rattle.qtext_config.specs.ConfigPrincipals.{principal_of}
use Rattle.qtext.proofs.Loops.{with_front}
use Rattle.qtext_config.proofs.config.principal.principals_of.Given as goal

abbrev pub invariant-loop-table : goal.invariant-loop-table
invariant-loop-table l =
    with_front l.principals.items (each_of principal_of (map (λ t. table_view t.now) (drop l.table-index l.tables)))
    ≡ each_of principal_of (map (λ t. table_view t.now) l.tables)
