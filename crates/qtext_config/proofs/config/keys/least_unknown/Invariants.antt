use Rattle.std.proofs.Common.{◌≡◌, fold, map, option_map, string_bytes}
use Rattle.std.specs.BTreeMap.{keys}
use Rattle.std.specs.List.{filter}
use Rattle.qtext_config.specs.ConfigKeys.{is_unknown, lesser_of}
use Rattle.qtext_config.proofs.config.keys.least_unknown.Given as goal

abbrev pub invariant-loop-key : goal.invariant-loop-key
invariant-loop-key l =
    fold lesser_of (option_map (λ key. key.now) l.least) (filter (is_unknown (map (λ key. key.now) l.known)) (map string_bytes l.key-iterator))
    ≡ fold lesser_of (option_map (λ key. key.now) l.so_far) (filter (is_unknown (map (λ key. key.now) l.known)) (map string_bytes (keys l.table)))
