use Rattle.qstore_tree.specs.Nodes.{unfilled_file}
use Rattle.qstore_open.proofs.MoreInodes.{absent-in, kept-in, told-in}
use Rattle.qstore_open.proofs.opening.Opening.take_file.Goals as goal

pub open_file-requires-clause-absent : goal.open_file-requires-clause-absent
open_file-requires-clause-absent c = absent-in c.self.inside c.args.self.now c.self.view_is
    (c.args.number, unfilled_file c.args.owners c.args.size) c.in_default.ensures

pub invariant_of-self-2 : goal.invariant_of-self-2
invariant_of-self-2 c =
    let opened = c.in_ok-open_file.ensures in
    kept-in c.self.inside c.args.self.now c.self.view_is c.self.invariant c.args.number
    (unfilled_file c.args.owners c.args.size) c.in_default.ensures c.open_file.new.self
    opened.inodes opened.names opened.links

pub returns-clause-ok : goal.returns-clause-ok
returns-clause-ok c =
    let opened = c.in_ok-open_file.ensures in
    told-in c.self.inside c.args.self.now c.self.view_is c.args.number
    (unfilled_file c.args.owners c.args.size) c.in_default.ensures c.open_file.new.self opened.inodes opened.names
