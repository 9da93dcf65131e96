use Rattle.std.proofs.Common.{◌≡◌, length, map, take}
use Rattle.std.specs.List.{AllZip}
use Rattle.std.specs.Prelude.{string_bytes}
use Rattle.qtool_files.specs.Held.{IsUnder}
use Rattle.qtool.proofs.reading.read_scripts.Given as goal

abbrev pub invariant-loop-name : goal.invariant-loop-name
invariant-loop-name g l =
    (length l.readers.items ≡ l.name-index) × (g.F.Files.held l.files ≡ g.F.Files.held l.fn.files)
    × AllZip (IsUnder (g.F.Files.held l.fn.files)) (map (λ n. string_bytes n) (take l.name-index l.names)) l.readers.items
