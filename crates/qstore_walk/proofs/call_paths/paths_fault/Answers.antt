use Rattle.std.proofs.Common.{ap, ◌∙◌}
use Rattle.qstore_walk.specs.Paths.{path_fault, paths_fault}
use Rattle.qstore_walk.proofs.Paths.{path_fault-one}
use Rattle.qstore_walk.proofs.call_paths.paths_fault.Goals as goal

pub returns-in-One : goal.returns-in-One
returns-in-One c =
    c.fault_of.ensures ∙ ap path_fault c.text.ensures ∙ path_fault-one c.in-One.path.now ∙ ap paths_fault c.in-One.ensures
