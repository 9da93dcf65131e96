use Rattle.std.proofs.Common.{ap, sym, ◌∙◌}
use Rattle.qplain.specs.State.{inode_at}
use Rattle.qstore_tree.specs.Nodes.{file_in, inode_of, is_dir_content}
use Rattle.qstore_open.proofs.MoreBlocks.{open-found, open-none, open-there}
use Rattle.qstore_open.proofs.opening.Opening.open_file.Goals as goal

pub returns-in_err-number-clause-none : goal.returns-in_err-number-clause-none
returns-in_err-number-clause-none c =
    rw c.from_residual.ensures (open-none c.self.inside c.args.self.now c.self.view_is c.self.invariant (sym c.if-is_some.ensures) c.in_err-number.was)

pub returns-in_err-file-clause-none : goal.returns-in_err-file-clause-none
returns-in_err-file-clause-none c =
    let there = open-there c.self.inside c.args.self.now c.self.view_is c.self.invariant c.in_ok-number.number (sym c.if-is_some.ensures) c.in_ok-number.was in
    absurd (cc (c.in_err-file.ensures.inode ∙ there.1))

pub returns-in-File-clause-some : goal.returns-in-File-clause-some
returns-in-File-clause-some c =
    let node = c.in_ok-file.field-0.now in
    sym (open-found c.self.inside c.args.self.now c.self.view_is c.self.invariant c.in_ok-number.number (sym c.if-is_some.ensures) c.in_ok-number.was
    (inode_of node) c.in_ok-file.ensures.inode ∙ ap file_in c.in-File.is)

pub returns-in-File-clause-there : goal.returns-in-File-clause-there
returns-in-File-clause-there c =
    let node = c.in_ok-file.field-0.now in (
      inode_of node,
      ap (λ t. inode_at t.state c.in_ok-number.number) (sym c.self.view_is) ∙ sym c.in_ok-file.ensures.inode,
      ap is_dir_content c.in-File.is,
      ap file_in c.in-File.is,
    )

pub returns-in-Directory-clause-none : goal.returns-in-Directory-clause-none
returns-in-Directory-clause-none c =
    let node = c.in_ok-file.field-0.now in
    open-found c.self.inside c.args.self.now c.self.view_is c.self.invariant c.in_ok-number.number (sym c.if-is_some.ensures) c.in_ok-number.was
    (inode_of node) c.in_ok-file.ensures.inode ∙ ap file_in c.in-Directory.is
