use Rattle.std.proofs.Common.{◌==◌, List, ℕ, sym, ap, ◌∙◌}
use Rattle.qplain.specs.declared.refusal.Refusal.TheVariants.{EBUSY}
use Rattle.qplain.specs.declared.reply.Reply.TheVariants.{Done}
use Rattle.qplain.specs.Attempt.{in_parent, no_change}
use Rattle.qplain.specs.Renames.{passes, rename_as, rename_from}
use Rattle.qplain.specs.State.{inode_at, named}
use Rattle.qplain.specs.Step.{settle}
use Rattle.qplain.specs.Walk.{components}
use Rattle.qstore_walk.specs.Paths.{name_in}
use Rattle.qstore_walk.proofs.Renamed.{rename-own, some-inode}
use Rattle.qstore.proofs.Deciding.{answered-here, decision-along}
use Rattle.qstore.proofs.store.Store.decide_rename.Goals as goal

pub returns-then-is_its_own : goal.returns-then-is_its_own
returns-then-is_its_own c =
    let x = c.args in
    let s = x.self.now in
    let S = s.state in
    let q = x.request.now in
    let cred = q.cred.now in
    let new = c.in-Ok.new in
    let e = c.in-Ok.ensures in
    let is_tree = c.tree.ensures in
    let inode = some-inode (inode_at S new.number) (e.there S is_tree) in
    let own = ap (passes (λ n. n == new.number)) (sym (e.leads_to S is_tree)) ∙ sym c.is_its_own.ensures ∙ c.if-is_its_own.true in
    let is = ap (in_parent S EBUSY (rename_from S cred x.to.now)) (sym c.text.ensures)
    ∙ e.found S is_tree cred inode.0 inode.1
    ∙ rename-own S cred (components x.to.now) new.dir (name_in c.text.result.now) new.number inode.0 new.to.dir new.to.name.now own in
    answered-here s c.clear_plan.new.self q _ (Done new.number no_change) (ap (settle S cred q.moment) is) c.clear_plan.ensures

pub returns : goal.returns
returns c =
    let x = c.args in
    let S = x.self.now.state in
    let cred = x.request.now.cred.now in
    let new = c.in-Ok.new in
    let e = c.in-Ok.ensures in
    let is_tree = c.tree.ensures in
    let inode = some-inode (inode_at S new.number) (e.there S is_tree) in
    let is = ap (in_parent S EBUSY (rename_from S cred x.to.now)) (sym c.text.ensures)
    ∙ e.found S is_tree cred inode.0 inode.1
    ∙ ap (λ (n : List ℕ). rename_as S cred x.to.now new.dir n new.number inode.0 new.to.dir new.to.name.now) (ap name_in c.text.ensures) in
    decision-along x.self.now c.rename_over.new.self x.request.now _ _ c.rename_over.result is (c.rename_over.ensures inode.0 inode.1)

pub rename_over-requires-clause-renaming : goal.rename_over-requires-clause-renaming
rename_over-requires-clause-renaming c =
    let S = c.args.self.now.state in
    let new = c.in-Ok.new in
    let e = c.in-Ok.ensures in
    let is_tree = c.tree.ensures in
    record {
      led = ap (λ (n : List ℕ). named S new.dir n) (sym (ap name_in c.text.ensures)) ∙ e.led S is_tree;
      there = e.there S is_tree;
      directory = e.directory S is_tree;
      leads_to = e.leads_to S is_tree;
      other = sym c.is_its_own.ensures ∙ c.if-is_its_own.false;
    }
