use Rattle.std.proofs.Common.{◌≡◌, drop, fold, map, option_map}
use Rattle.std.specs.List.{filter, flat_map}
use Rattle.toml.specs.View.{table_view}
use Rattle.qtext_config.specs.ConfigKeys.{is_unknown, keys_of, lesser_of}
use Rattle.qtext_config.proofs.config.keys.unknown_after.Given as goal

abbrev pub invariant-loop-table : goal.invariant-loop-table
invariant-loop-table l =
    fold lesser_of (option_map (λ key. key.now) l.least)
    (filter (is_unknown (map (λ key. key.now) l.known))
    (flat_map keys_of (map (λ t. table_view t.now) (drop l.table-index l.tables))))
    ≡ fold lesser_of (option_map (λ key. key.now) l.so_far)
    (filter (is_unknown (map (λ key. key.now) l.known)) (flat_map keys_of (map (λ t. table_view t.now) l.tables)))
