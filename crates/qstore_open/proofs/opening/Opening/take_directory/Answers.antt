use Rattle.std.proofs.Common.{ap, ◌∙◌}
use Rattle.std.specs.BTreeMap.{is_at}
use Rattle.std.specs.Map.{set_value}
use Rattle.std.specs.Ordering.{nat_cmp}
use Rattle.qplain.specs.State.{new_directory}
use Rattle.qplain_laws.proofs.Tables.{at-itself}
use Rattle.qstore_open.proofs.MoreInodes.{absent-in, kept-in, set-inserted, told-in, unlinked-in}
use Rattle.qstore_open.proofs.opening.Opening.take_directory.Goals as goal

pub open_directory-requires : goal.open_directory-requires
open_directory-requires c = absent-in c.self.inside c.args.self.now c.self.view_is (c.args.number, new_directory c.args.owners) c.in_default.ensures

pub invariant_of-self-2 : goal.invariant_of-self-2
invariant_of-self-2 c =
    let opened = c.in_ok-open_directory.ensures in
    let none = unlinked-in c.self.inside c.args.self.now c.self.view_is c.self.invariant (c.args.number, new_directory c.args.owners) c.in_default.ensures in
    kept-in c.self.inside c.args.self.now c.self.view_is c.self.invariant c.args.number (new_directory c.args.owners) c.in_default.ensures c.set_links.new.self
    (c.set_links.ensures.inodes ∙ opened.inodes) (c.set_links.ensures.names ∙ opened.names)
    (c.set_links.ensures.links ∙ ap (λ links. set_value (is_at (nat_cmp c.args.number)) links 2) opened.links
    ∙ set-inserted nat_cmp c.args.number 0 2 (at-itself c.args.number) c.self.inside.tree.links none)

pub returns-clause-ok : goal.returns-clause-ok
returns-clause-ok c =
    let opened = c.in_ok-open_directory.ensures in
    told-in c.self.inside c.args.self.now c.self.view_is c.args.number (new_directory c.args.owners) c.in_default.ensures c.set_links.new.self
    (c.set_links.ensures.inodes ∙ opened.inodes) (c.set_links.ensures.names ∙ opened.names)
