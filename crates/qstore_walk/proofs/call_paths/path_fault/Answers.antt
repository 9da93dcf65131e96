use Rattle.std.proofs.Common.{◌∙◌}
use Rattle.qstore_walk.proofs.Paths.{path_fault-one}
use Rattle.qstore_walk.proofs.call_paths.path_fault.Goals as goal

pub returns : goal.returns
returns c = c.fault_of.ensures ∙ path_fault-one c.args.path.now
