use Rattle.std.proofs.Common.{◌≡◌, true, map, take, All}
use Rattle.std.specs.Option.{option_map}
use Rattle.std.specs.Prelude.{string_bytes}
use Rattle.qtool.specs.Printed.{IsSoundUnder}
use Rattle.qtool.proofs.checking.are_sound_files.Given as goal

abbrev pub invariant-loop-name : goal.invariant-loop-name
invariant-loop-name g l =
    (g.F.Files.held l.files ≡ g.F.Files.held l.fn.files)
    × (l.sound ≡ true
    → All (IsSoundUnder (g.F.Files.held l.fn.files) (option_map (λ s. s.now) l.setup)) (map (λ n. string_bytes n) (take l.name-index l.names)))
