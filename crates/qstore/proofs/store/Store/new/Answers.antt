use Rattle.std.proofs.Common.{◌≤◌, [], ◌∷◌, refl, ap, subst, ◌∙◌}
use Rattle.qblocks.specs.declared.file.TheConstants.{MAX_SIZE}
use Rattle.qplain.specs.declared.bounds.TheConstants.{ROOT}
use Rattle.qplain.specs.Setups.{IsLawfulSetup, Setting}
use Rattle.qplain.specs.State.{Inode}
use Rattle.qstore.specs.declared.plan.Plan.TheVariants.{Nothing}
use Rattle.qstore.specs.declared.store.Store.TheInside.{Inside}
use Rattle.qstore.proofs.Beginning.{counted-begun}
use Rattle.qstore.proofs.store.Store.new.Goals as goal

pub invariant_of-result : goal.invariant_of-result
invariant_of-result c =
    let accounts = c.in_ok-new.field-0 in
    let tree = c.in_ok-new-2.field-0 in
    let new : Inside = record {
      alloc = c.args.alloc;
      file_limit = c.file_limit.result;
      accounts = accounts;
      tree = tree;
      next = 2;
      bill = c.empty.result;
      plan = Nothing;
    } in
    let e = c.in_ok-new-2.ensures in
    let inodes = e.inodes ∙ ap (λ (i : Inode). (ROOT, i) ∷ []) c.root_owners.ensures in
    let bound = subst (λ n. n ≤ MAX_SIZE) c.file_limit.ensures.limit c.file_limit.ensures.range in
    let lawful = subst (λ (s : Setting). IsLawfulSetup s) c.setup.view_is c.setup.invariant in
    counted-begun c.args.setup new c.in_ok-new.ensures.books c.file_limit.ensures.limit bound refl inodes e.names e.links lawful c.in_ok-new.ensures.in_range
