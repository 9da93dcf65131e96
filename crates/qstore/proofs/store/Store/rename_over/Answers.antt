use Rattle.std.proofs.Common.{◌≡◌, ◌==◌, ◌&&◌, not, Some, sym, ap, ◌∙◌}
use Rattle.qplain.specs.Renames.{passes}
use Rattle.qplain.specs.State.{inode_at, is_directory, named}
use Rattle.qplain.specs.Use.{is_empty}
use Rattle.qplain.specs.Walk.{components}
use Rattle.qstore_tree.specs.Nodes.{inode_of}
use Rattle.qstore_walk.specs.Paths.{name_in}
use Rattle.qstore_walk.proofs.Renamed.{rename-becomes, rename-refused, tests-passed}
use Rattle.qstore.proofs.Deciding.{decision-along, refused-here}
use Rattle.qstore.proofs.store.Store.rename_over.Goals as goal

pub returns-in-Some-rename_fault : goal.returns-in-Some-rename_fault
returns-in-Some-rename_fault c inode there =
    let x = c.args in
    let s = x.self.now in
    let new = x.new.now in
    let r = c.requires.renaming in
    let found = inode_of c.in-Some.node.now in
    let found_there : inode_at s.state new.number ≡ Some found = sym (c.in-Some.ensures.there s.state c.tree-tree.ensures) in
    refused-here s c.refused.new.self x.request.now _ c.refused.result c.in-Some-rename_fault.refusal
    (rename-refused s.state c.requires.can.whole.sound.lawful x.request.now.cred.now (components x.to.now) new.dir (name_in x.from.now) new.number
    inode found new.to.dir new.to.name.now new.to.leads_to r.led there found_there r.directory r.leads_to r.other c.in-Some-rename_fault.refusal
    (sym (c.rename_fault.ensures s.state c.tree-tree.ensures found_there r.directory) ∙ c.in-Some-rename_fault.is))
    c.refused.ensures.plan c.refused.ensures.reply

pub grant_rename-requires-clause-asked : goal.grant_rename-requires-clause-asked
grant_rename-requires-clause-asked c = c.replaced-exchange.ensures (name_in c.args.from.now) c.requires.renaming

pub grant_rename-requires-clause-can : goal.grant_rename-requires-clause-can
grant_rename-requires-clause-can c room enough =
    let x = c.args in
    let S = x.self.now.state in
    let new = x.new.now in
    let r = c.requires.renaming in
    let found = inode_of c.in-Some.node.now in
    let found_there : inode_at S new.number ≡ Some found = sym (c.in-Some.ensures.there S c.tree-tree.ensures) in
    let to : named S new.to.dir new.to.name.now ≡ new.to.leads_to = sym r.leads_to in
    let passed = tests-passed S x.request.now.cred.now (components x.to.now) new.dir new.number found.dir new.to.dir new.to.leads_to
    (sym (c.rename_fault.ensures S c.tree-tree.ensures found_there r.directory) ∙ c.in-None.is) in
    record {
      led = r.led;
      inode = found;
      there = found_there;
      directory = r.directory;
      other = ap (passes (λ n. n == new.number)) to ∙ r.other;
      onto_directory = ap (λ o. found.dir && passes (λ n. not (is_directory S n)) o) to ∙ passed.0;
      onto_file = ap (λ o. not found.dir && passes (λ n. is_directory S n) o) to ∙ passed.1;
      empty = ap (passes (λ n. not (is_empty S n))) to ∙ passed.2;
      name_room = enough;
    }

pub returns : goal.returns
returns c inode there =
    let x = c.args in
    let S = x.self.now.state in
    let new = x.new.now in
    let r = c.requires.renaming in
    let found = inode_of c.in-Some.node.now in
    let found_there : inode_at S new.number ≡ Some found = sym (c.in-Some.ensures.there S c.tree-tree.ensures) in
    decision-along x.self.now c.grant_rename.new.self x.request.now _ _ c.grant_rename.result
    (rename-becomes S c.requires.can.whole.sound.lawful x.request.now.cred.now (components x.to.now) new.dir (name_in x.from.now) new.number inode found
    new.to.dir new.to.name.now new.to.leads_to r.led there found_there r.directory r.leads_to r.other
    (sym (c.rename_fault.ensures S c.tree-tree.ensures found_there r.directory) ∙ c.in-None.is))
    c.grant_rename.ensures

pub replaced-exchange-requires-clause-empty : goal.replaced-exchange-requires-clause-empty
replaced-exchange-requires-clause-empty c =
    let x = c.args in
    let S = x.self.now.state in
    let new = x.new.now in
    let found = inode_of c.in-Some.node.now in
    let found_there : inode_at S new.number ≡ Some found = sym (c.in-Some.ensures.there S c.tree-tree.ensures) in
    (tests-passed S x.request.now.cred.now (components x.to.now) new.dir new.number found.dir new.to.dir new.to.leads_to
    (sym (c.rename_fault.ensures S c.tree-tree.ensures found_there c.requires.renaming.directory) ∙ c.in-None.is)).2
