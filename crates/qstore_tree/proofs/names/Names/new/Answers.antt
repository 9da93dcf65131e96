use Rattle.qstore_tree.proofs.Bytes.{names_of-none}
use Rattle.qstore_tree.proofs.names.Names.new.Goals as goal

pub returns : goal.returns
returns c = names_of-none c.with_hasher.ensures.empty
