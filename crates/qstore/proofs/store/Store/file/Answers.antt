use Rattle.std.proofs.Common.{◌≡◌, true, false, cond, rules, ap, ◌∙◌}
use Rattle.qblocks.specs.File.{read_at}
use Rattle.qplain.specs.declared.refusal.Refusal.TheVariants.{EISDIR}
use Rattle.qplain.specs.declared.reply.Reply.TheVariants.{Bytes}
use Rattle.qplain.specs.Attempt.{Answer, Refuse}
use Rattle.qplain.specs.Files.{read_from}
use Rattle.qstore_tree.specs.Nodes.{file_in, inode_of, is_dir_content}
use Rattle.qstore.proofs.Reading.{told-refused}
use Rattle.qstore.proofs.store.Store.file.Goals as goal

pub returns-in_err-file-clause-fault : goal.returns-in_err-file-clause-fault
returns-in_err-file-clause-fault c =
    told-refused c.args.self.now.state c.args.path.now c.in_err-file.field-0.0 c.from_residual.result (search rules)
    (λ off len. c.in_err-file.ensures.fault c.args.self.now.state c.tree.ensures (read_from off len))

pub returns-in-Directory-clause-fault : goal.returns-in-Directory-clause-fault
returns-in-Directory-clause-fault c off len =
    let inode = inode_of c.in_ok-file.field-0.node.now in
    let dir : inode.dir ≡ true = ap is_dir_content c.in-Directory.is in
    c.in_ok-file.ensures.found c.args.self.now.state c.tree.ensures (read_from off len)
    ∙ ap (λ b. cond b (Refuse EISDIR) (Answer (Bytes (read_at inode.file off len)))) dir

pub returns-in-File-clause-found : goal.returns-in-File-clause-found
returns-in-File-clause-found c off len =
    let inode = inode_of c.in_ok-file.field-0.node.now in
    let file : inode.dir ≡ false = ap is_dir_content c.in-File.is in
    c.in_ok-file.ensures.found c.args.self.now.state c.tree.ensures (read_from off len)
    ∙ ap (λ b. cond b (Refuse EISDIR) (Answer (Bytes (read_at inode.file off len)))) file
    ∙ ap (λ f. Answer (Bytes (read_at f off len))) (ap file_in c.in-File.is)
