use Rattle.std.proofs.Common.{rules, ℕ, Option, sym, ap, ◌∙◌}
use Rattle.qplain.specs.Names.{link_as, link_to}
use Rattle.qstore_tree.specs.Nodes.{inode_of}
use Rattle.qstore_walk.specs.Faults.{link_fault}
use Rattle.qstore_walk.proofs.FurtherNames.{link-becomes, link-file, link-refused}
use Rattle.qstore_walk.proofs.Walks.{told-fault}
use Rattle.qstore_walk.proofs.links.further_name.Goals as goal

pub returns-in_err-number-clause-fault : goal.returns-in_err-number-clause-fault
returns-in_err-number-clause-fault c =
    told-fault _ c.from_residual.result c.in_err-number.field-0.0 (search rules) (λ S is lawful.
    c.in_err-number.ensures.fault S is (link_to S c.args.to.now))

pub returns-in_err-last-clause-fault : goal.returns-in_err-last-clause-fault
returns-in_err-last-clause-fault c =
    told-fault _ c.from_residual-in_err-last.result c.in_err-last.field-0.0 (search rules) (λ S is lawful.
    c.in_ok-number.ensures.found S is (link_to S c.args.to.now)
    ∙ c.in_err-last.ensures.fault S is (link_as S c.in_ok-number.field-0.number (inode_of c.in_ok-number.field-0.node.now)))

pub returns-in-Some-clause-fault : goal.returns-in-Some-clause-fault
returns-in-Some-clause-fault c = λ S is lawful.
    let x = c.args in
    let number = c.in_ok-number.field-0.number in
    let node = c.in_ok-number.field-0.node.now in
    let inode = inode_of node in
    let last = c.in_ok-last.last in
    c.in_ok-number.ensures.found S is (link_to S x.to.now)
    ∙ c.in_ok-last.ensures.found S is (link_as S number inode)
    ∙ link-refused S lawful number inode (c.in_ok-number.ensures.there S is) last.dir last.name.now (c.in_ok-last.ensures.directory S is)
    node.links (c.in_ok-number.ensures.links S is) c.in-Some.refusal
    (ap (λ (o : Option ℕ). link_fault inode.dir o node.links) (sym (c.in_ok-last.ensures.leads_to S is)) ∙ sym c.link_fault.ensures ∙ c.in-Some.is)

pub returns-in-None-clause-file : goal.returns-in-None-clause-file
returns-in-None-clause-file c = λ S is.
    let node = c.in_ok-number.field-0.node.now in
    record {
      inode = inode_of node;
      there = c.in_ok-number.ensures.there S is;
      is_file = link-file (inode_of node).dir c.in_ok-last.last.leads_to node.links (sym c.link_fault.ensures ∙ c.in-None.is);
    }

pub returns-in-None-clause-becomes : goal.returns-in-None-clause-becomes
returns-in-None-clause-becomes c = λ S is lawful.
    let x = c.args in
    let number = c.in_ok-number.field-0.number in
    let node = c.in_ok-number.field-0.node.now in
    let inode = inode_of node in
    let last = c.in_ok-last.last in
    let becomes = link-becomes S lawful number inode (c.in_ok-number.ensures.there S is) last.dir last.name.now (c.in_ok-last.ensures.directory S is)
    node.links (c.in_ok-number.ensures.links S is)
    (ap (λ (o : Option ℕ). link_fault inode.dir o node.links) (sym (c.in_ok-last.ensures.leads_to S is)) ∙ sym c.link_fault.ensures ∙ c.in-None.is) in
    c.in_ok-number.ensures.found S is (link_to S x.to.now) ∙ c.in_ok-last.ensures.found S is (link_as S number inode) ∙ becomes.2
