use Rattle.std.proofs.Common.{rules, ◌≡◌, ◌-◌, true, false, nat_lt, Some, sym, ap, subst, ◌∙◌, tests, arith}
use Rattle.qblocks.specs.File.{File, MoreBlocks, after_truncate, blocks_of}
use Rattle.qstore.specs.Decided.{IsAsked}
use Rattle.qplain.specs.Attempt.{Becomes}
use Rattle.qplain.specs.declared.refusal.Refusal.TheVariants.{EACCES, EFBIG, EISDIR}
use Rattle.qplain.specs.Files.{truncate_at}
use Rattle.qplain.specs.Rights.{may_write}
use Rattle.qstore_tree.specs.Nodes.{file_in, inode_of, is_dir_content}
use Rattle.qstore.specs.Stored.{Stored}
use Rattle.qstore.proofs.Calls.{altered-there, resized-asked, truncate-becomes}
use Rattle.qstore.proofs.Deciding.{decision-along, refused-here}
use Rattle.qstore.proofs.store.Store.decide_truncate.Goals as goal

pub returns-in-Err : goal.returns-in-Err
returns-in-Err c =
    let x = c.args in
    let s = x.self.now in
    let cred = x.request.now.cred.now in
    refused-here s c.refused.new.self x.request.now _ c.refused.result c.in-Err.refusal
    (c.in-Err.ensures.fault s.state c.tree.ensures (truncate_at s.state cred x.size))
    c.refused.ensures.plan c.refused.ensures.reply

pub returns-in_default : goal.returns-in_default
returns-in_default c =
    let x = c.args in
    let s = x.self.now in
    let cred = x.request.now.cred.now in
    let found = c.in-Ok.ensures.found s.state c.tree.ensures (truncate_at s.state cred x.size) in
    let dir : (inode_of c.in-Ok.found.node.now).dir ≡ true = ap is_dir_content c.in_default.is in
    refused-here s c.refused-in_default.new.self x.request.now _ c.refused-in_default.result EISDIR
    (found ∙ search (rules, dir))
    c.refused-in_default.ensures.plan c.refused-in_default.ensures.reply

pub returns-then-not-may_write : goal.returns-then-not-may_write
returns-then-not-may_write c =
    let x = c.args in
    let s = x.self.now in
    let cred = x.request.now.cred.now in
    let found = c.in-Ok.ensures.found s.state c.tree.ensures (truncate_at s.state cred x.size) in
    let file : (inode_of c.in-Ok.found.node.now).dir ≡ false = ap is_dir_content c.in-File.is in
    let may : may_write cred (inode_of c.in-Ok.found.node.now) ≡ false = search rules in
    refused-here s c.refused-then-not-may_write.new.self x.request.now _ c.refused-then-not-may_write.result EACCES
    (found ∙ search (rules, file, may))
    c.refused-then-not-may_write.ensures.plan c.refused-then-not-may_write.ensures.reply

pub returns-then-size-limit : goal.returns-then-size-limit
returns-then-size-limit c =
    let x = c.args in
    let s = x.self.now in
    let cred = x.request.now.cred.now in
    let S = s.state in
    let found = c.in-Ok.ensures.found S c.tree.ensures (truncate_at S cred x.size) in
    let file : (inode_of c.in-Ok.found.node.now).dir ≡ false = ap is_dir_content c.in-File.is in
    let may : may_write cred (inode_of c.in-Ok.found.node.now) ≡ true = search rules in
    let limit = ap (λ (v : Stored). v.state.file_limit) c.self.view_is in
    let long = c.if-size-limit.true in
    let past : nat_lt S.file_limit x.size ≡ true = grind (arith, tests, limit, long) in
    refused-here s c.refused-then-size-limit.new.self x.request.now _ c.refused-then-size-limit.result EFBIG
    (found ∙ search (rules, file, may, past))
    c.refused-then-size-limit.ensures.plan c.refused-then-size-limit.ensures.reply

pub grant-requires-clause-asked : goal.grant-requires-clause-asked
grant-requires-clause-asked c =
    let x = c.args in
    let s = x.self.now in
    let inode = inode_of c.in-Ok.found.node.now in
    let number = c.in-Ok.found.number in
    let there = (c.in-Ok.ensures.there x.self.now.state c.tree.ensures) in
    let after = after_truncate inode.file x.size in
    let freed : MoreBlocks after inode.file c.freed_by.result =
    subst (λ (f : File). MoreBlocks (after_truncate f x.size) f c.freed_by.result) (sym (ap file_in c.in-File.is)) c.freed_by.ensures.freed in
    let blocks = c.claim_of-from.ensures.blocks in
    let few = c.claim_of-from.ensures.few in
    let less : blocks_of after ≡ c.claim_of-from.result.weight.blocks - c.freed_by.result = omega (arith, freed, blocks) in
    subst (IsAsked s (record { from = Some c.claim_of-from.result; to = Some c.new-to.result }) 0)
    (sym (altered-there s.state number (λ i. record i { file = after_truncate i.file x.size }) inode there))
    (resized-asked s c.requires.whole number inode after there c.claim_of-from.result c.new-to.result
    (c.claim_of-from.result.weight.blocks - c.freed_by.result) c.claim_of-from.ensures.claimed c.new-to.ensures less (omega (arith, few)))

pub returns : goal.returns
returns c =
    let x = c.args in
    let s = x.self.now in
    let cred = x.request.now.cred.now in
    let S = s.state in
    let inode = inode_of c.in-Ok.found.node.now in
    let number = c.in-Ok.found.number in
    let found = c.in-Ok.ensures.found S c.tree.ensures (truncate_at S cred x.size) in
    let file : inode.dir ≡ false = ap is_dir_content c.in-File.is in
    let may : may_write cred inode ≡ true = search rules in
    let limit = ap (λ (v : Stored). v.state.file_limit) c.self.view_is in
    let long = c.if-size-limit.false in
    let low : nat_lt S.file_limit x.size ≡ false = grind (arith, tests, limit, long) in
    let made = altered-there S number (λ i. record i { file = after_truncate i.file x.size }) inode (c.in-Ok.ensures.there S c.tree.ensures) in
    decision-along x.self.now c.grant.new.self x.request.now _ _ _
    (found ∙ truncate-becomes S cred x.size number inode file may low ∙ ap (λ T. Becomes T number) (sym made)) c.grant.ensures

pub grant-requires-clause-can : goal.grant-requires-clause-can
grant-requires-clause-can c =
    let limit = ap (λ (v : Stored). v.state.file_limit) c.self.view_is in
    let bound = c.requires.whole.sound.file_bound in
    let long = c.if-size-limit.false in
    record {
      file = record {
        inode = inode_of c.in-Ok.found.node.now;
        there = c.in-Ok.ensures.there c.args.self.now.state c.tree.ensures;
        is_file = ap is_dir_content c.in-File.is;
      };
      bound = omega (arith, limit, bound, long);
    }
