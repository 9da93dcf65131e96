use Rattle.std.proofs.Common.{rules, ◌≡◌, ◌+◌, ◌==◌, true, false, nat_lt, length, sym, ap, ◌∙◌, tests, arith}
use Rattle.qblocks.specs.Input.{input_bytes}
use Rattle.qplain.specs.Files.{write_into}
use Rattle.qplain.specs.Rights.{may_write}
use Rattle.qplain.specs.Step.{settle}
use Rattle.qstore_tree.specs.Nodes.{inode_of, is_dir_content}
use Rattle.qstore.proofs.Calls.{write-becomes}
use Rattle.qstore.proofs.store.Store.target.Goals as goal

pub returns-in-Err-clause-refused : goal.returns-in-Err-clause-refused
returns-in-Err-clause-refused c moment =
    let x = c.args in
    let S = x.self.now.state in
    let cred = x.request.now.cred.now in
    ap (settle S cred moment) (c.in-Err.ensures.fault S c.tree.ensures (write_into S cred x.off (input_bytes x.bytes)))

pub returns-in_default-clause-refused : goal.returns-in_default-clause-refused
returns-in_default-clause-refused c moment =
    let x = c.args in
    let S = x.self.now.state in
    let cred = x.request.now.cred.now in
    let found = c.in-Ok.ensures.found S c.tree.ensures (write_into S cred x.off (input_bytes x.bytes)) in
    let dir : (inode_of c.in-Ok.found.node.now).dir ≡ true = ap is_dir_content c.in_default.is in
    ap (settle S cred moment) found ∙ (search (rules, dir))

pub returns-then-not-may_write-clause-refused : goal.returns-then-not-may_write-clause-refused
returns-then-not-may_write-clause-refused c moment =
    let x = c.args in
    let S = x.self.now.state in
    let cred = x.request.now.cred.now in
    let found = c.in-Ok.ensures.found S c.tree.ensures (write_into S cred x.off (input_bytes x.bytes)) in
    let file : (inode_of c.in-Ok.found.node.now).dir ≡ false = ap is_dir_content c.in-File.is in
    let may : may_write cred (inode_of c.in-Ok.found.node.now) ≡ false = search rules in
    ap (settle S cred moment) found ∙ (search (rules, file, may))

pub returns-then-is_empty-clause-refused : goal.returns-then-is_empty-clause-refused
returns-then-is_empty-clause-refused c moment =
    let x = c.args in
    let S = x.self.now.state in
    let cred = x.request.now.cred.now in
    let found = c.in-Ok.ensures.found S c.tree.ensures (write_into S cred x.off (input_bytes x.bytes)) in
    let file : (inode_of c.in-Ok.found.node.now).dir ≡ false = ap is_dir_content c.in-File.is in
    let may : may_write cred (inode_of c.in-Ok.found.node.now) ≡ true = search rules in
    let none : (length (input_bytes x.bytes) == 0) ≡ true = sym c.is_empty.ensures ∙ c.if-is_empty.true in
    ap (settle S cred moment) found ∙ (search (rules, file, may, none))

pub returns-then-is_past_limit-clause-refused : goal.returns-then-is_past_limit-clause-refused
returns-then-is_past_limit-clause-refused c moment =
    let x = c.args in
    let S = x.self.now.state in
    let cred = x.request.now.cred.now in
    let found = c.in-Ok.ensures.found S c.tree.ensures (write_into S cred x.off (input_bytes x.bytes)) in
    let file : (inode_of c.in-Ok.found.node.now).dir ≡ false = ap is_dir_content c.in-File.is in
    let may : may_write cred (inode_of c.in-Ok.found.node.now) ≡ true = search rules in
    let some : (length (input_bytes x.bytes) == 0) ≡ false = sym c.is_empty.ensures ∙ c.if-is_empty.false in
    let past : nat_lt S.file_limit (x.off + length (input_bytes x.bytes)) ≡ true = search rules in
    ap (settle S cred moment) found ∙ (search (rules, file, may, some, past))

pub returns-clause-granted : goal.returns-clause-granted
returns-clause-granted c =
    let x = c.args in
    let S = x.self.now.state in
    let cred = x.request.now.cred.now in
    let inode = inode_of c.in-Ok.found.node.now in
    let found = c.in-Ok.ensures.found S c.tree.ensures (write_into S cred x.off (input_bytes x.bytes)) in
    let file : inode.dir ≡ false = ap is_dir_content c.in-File.is in
    let may : may_write cred inode ≡ true = search rules in
    let some : (length (input_bytes x.bytes) == 0) ≡ false = sym c.is_empty.ensures ∙ c.if-is_empty.false in
    let low : nat_lt S.file_limit (x.off + length (input_bytes x.bytes)) ≡ false = search rules in
    record {
      inode = inode;
      there = (c.in-Ok.ensures.there S c.tree.ensures);
      is_file = file;
      none = c.stretched.ensures.none;
      some = c.stretched.ensures.some;
      missing = search rules;
      few_missing = c.missing-missing.ensures.bound;
      bound = grind (arith, tests, low);
      becomes = found ∙ write-becomes S cred x.off (input_bytes x.bytes) c.in-Ok.found.number inode file may some low;
    }

pub missing-missing-requires : goal.missing-missing-requires
missing-missing-requires c =
    let x = c.args in
    let S = x.self.now.state in
    let cred = x.request.now.cred.now in
    let low : nat_lt S.file_limit (x.off + length (input_bytes x.bytes)) ≡ false = search rules in
    let bound = c.requires.can.whole.sound.file_bound in
    let len = c.len-len.ensures in
    grind (arith, tests, low, bound, len)
