use Rattle.std.proofs.Common.{◌+◌, true, ap, ◌∙◌}
use Rattle.std.specs.BTreeMap.{insert_entry, is_at}
use Rattle.std.specs.Map.{lookup, set_value}
use Rattle.std.specs.Ordering.{nat_cmp}
use Rattle.qplain.specs.State.{name_key_cmp}
use Rattle.qplain.specs.Use.{links_of}
use Rattle.qstore_open.specs.Kept.{state_in}
use Rattle.qstore_open.proofs.Fine.{few-in, kept-directory, parent-links, text-of, told-named, unnamed}
use Rattle.qstore_open.proofs.opening.Opening.put_directory.Goals as goal

pub ready_name-requires-clause-text : goal.ready_name-requires-clause-text
ready_name-requires-clause-text c = text-of c.self.inside c.self.invariant c.args.self.now c.self.view_is c.args.dir c.args.number c.args.name.now
    c.requires.fine

pub put_name-requires-clause-unnamed : goal.put_name-requires-clause-unnamed
put_name-requires-clause-unnamed c =
    ap (λ n. lookup (is_at (name_key_cmp (c.args.dir, n))) c.ready_name.new.tree.names) c.in_ok-name.ensures.copies.0
    ∙ unnamed c.self.inside c.self.invariant c.args.self.now c.self.view_is c.args.dir c.args.number c.args.name.now c.requires.fine
    c.ready_name.new.tree c.ready_name.ensures.same.names

pub add_link-requires : goal.add_link-requires
add_link-requires c = (
  (links_of (state_in c.self.inside) c.args.dir true),
  ap (lookup (is_at (nat_cmp c.args.dir))) (c.put_name.ensures.links ∙ c.ready_name.ensures.same.links)
      ∙ parent-links c.self.inside c.self.invariant c.args.self.now c.self.view_is c.args.dir c.args.number c.args.name.now c.requires.fine,
  few-in c.self.inside c.self.invariant c.args.self.now c.self.view_is c.args.dir c.args.number c.args.name.now c.requires.fine c.requires.directory,
)

pub invariant_of-self-2 : goal.invariant_of-self-2
invariant_of-self-2 c =
    let same = c.ready_name.ensures.same in
    let copies = c.in_ok-name.ensures.copies in
    kept-directory c.self.inside c.self.invariant c.args.self.now c.self.view_is c.args.dir c.args.number c.args.name.now c.requires.fine
    c.requires.directory c.add_link.new.self c.add.new.self (record { dir = c.args.dir; text = c.in_ok-name.text })
    (c.add_link.ensures.inodes ∙ c.put_name.ensures.inodes ∙ same.inodes)
    (c.add_link.ensures.names ∙ c.put_name.ensures.names ∙ (λ i. insert_entry name_key_cmp (same.names i) (c.args.dir, copies.0 i) c.args.number))
    (λ i. (c.args.dir, copies.1 i))
    (c.add_link.ensures.links (links_of (state_in c.self.inside) c.args.dir true) (ap (lookup (is_at (nat_cmp c.args.dir))) (c.put_name.ensures.links
    ∙ same.links) ∙ parent-links c.self.inside c.self.invariant c.args.self.now c.self.view_is c.args.dir c.args.number c.args.name.now c.requires.fine)
    ∙ ap (λ ls. set_value (is_at (nat_cmp c.args.dir)) ls ((links_of (state_in c.self.inside) c.args.dir true) + 1)) (c.put_name.ensures.links ∙ same.links))
    c.in_ok-add.ensures.ok

pub returns : goal.returns
returns c =
    let same = c.ready_name.ensures.same in
    let copies = c.in_ok-name.ensures.copies in
    told-named c.self.inside c.self.invariant c.args.self.now c.self.view_is c.args.dir c.args.number c.args.name.now c.requires.fine
    c.add_link.new.self c.add.new.self (record { dir = c.args.dir; text = c.in_ok-name.text })
    (c.add_link.ensures.inodes ∙ c.put_name.ensures.inodes ∙ same.inodes)
    (c.add_link.ensures.names ∙ c.put_name.ensures.names ∙ (λ i. insert_entry name_key_cmp (same.names i) (c.args.dir, copies.0 i) c.args.number))
