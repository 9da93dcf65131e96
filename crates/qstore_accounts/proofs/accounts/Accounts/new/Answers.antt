use Rattle.std.proofs.Common.{◌≡◌, ◌≤◌, List, length, map, sym, ap, subst, ◌∙◌}
use Rattle.std.specs.List.Sorted.{IsStrictlyIncreasing}
use Rattle.qrules.specs.declared.kind.Kind.TheVariants.{User, Group, Project}
use Rattle.qplain.specs.declared.principal.Principal.{Principal}
use Rattle.qplain.specs.State.{start}
use Rattle.qstore_accounts.specs.Books.{AreBooksOf, Books}
use Rattle.qrules.specs.declared.graces.Graces.{Graces}
use Rattle.std.proofs.lemmas.List.{length-map}
use Rattle.qplain.specs.declared.principal.TheConstants.{MAX_PRINCIPALS}
use Rattle.qstore_accounts.specs.declared.kept_holder.KeptHolder.{KeptHolder}
use Rattle.qstore_accounts.specs.KeptHolders.{AreById}
use Rattle.qstore_accounts.proofs.ById.{by_id-new}
use Rattle.qstore_accounts.specs.Ledgers.{new_holder}
use Rattle.qstore_accounts.proofs.Begun.{books-begun}
use Rattle.qstore_accounts.proofs.Declared.{kind-few, kind-ids-rise}
use Rattle.qstore_accounts.proofs.accounts.Accounts.new.Goals as goal

pub new-requires-clause-by_id : goal.new-requires-clause-by_id
new-requires-clause-by_id c = subst (λ (ps : List Principal). IsStrictlyIncreasing (map (λ p. p.id) ps))
    (sym c.users.ensures.users) (kind-ids-rise c.args.setup.now c.users.ensures.lawful User)

pub new-requires-2-clause-by_id : goal.new-requires-2-clause-by_id
new-requires-2-clause-by_id c = subst (λ (ps : List Principal). IsStrictlyIncreasing (map (λ p. p.id) ps))
    (sym c.groups.ensures.groups) (kind-ids-rise c.args.setup.now c.groups.ensures.lawful Group)

pub new-requires-3-clause-by_id : goal.new-requires-3-clause-by_id
new-requires-3-clause-by_id c = subst (λ (ps : List Principal). IsStrictlyIncreasing (map (λ p. p.id) ps))
    (sym c.projects.ensures.projects) (kind-ids-rise c.args.setup.now c.projects.ensures.lawful Project)

pub returns-clause-books : goal.returns-clause-books
returns-clause-books c =
    let s = c.args.setup.now in
    let graces = c.graces-graces.ensures.graces in
    let users = c.in_ok-users.ensures ∙ (λ i. map (new_holder (graces i)) (c.users.ensures.users i)) in
    let groups = c.in_ok-groups.ensures ∙ (λ i. map (new_holder (graces i)) (c.groups.ensures.groups i)) in
    let projects = c.in_ok-projects.ensures ∙ (λ i. map (new_holder (graces i)) (c.projects.ensures.projects i)) in
    subst (λ (b : Books). AreBooksOf (start s) b)
    (λ i. record {
      size = sym c.blocks-2.ensures.blocks i;
      most_inodes = sym c.inodes.ensures.inodes i;
      graces = sym graces i;
      users = sym users i;
      groups = sym groups i;
      projects = sym projects i;
      blocks = 0;
      inodes = 1;
    })
    (books-begun s)

-- as many kept holders as principals, and no more than there may be
few-new : (graces : Graces) (ps : List Principal) (os : List KeptHolder) → os ≡ map (new_holder graces) ps → length ps ≤ MAX_PRINCIPALS
    → length os ≤ MAX_PRINCIPALS
few-new graces ps os made few = subst (λ n. n ≤ MAX_PRINCIPALS) (sym (ap length made ∙ length-map ps (new_holder graces))) few

-- in the order of their ids
by_id-made : (graces : Graces) (ps : List Principal) (os : List KeptHolder) → os ≡ map (new_holder graces) ps
    → IsStrictlyIncreasing (map (λ p. p.id) ps) → AreById os
by_id-made graces ps os made rises = subst AreById (sym made) (by_id-new graces ps rises)

pub invariant_of-result : goal.invariant_of-result
invariant_of-result c =
    let s = c.args.setup.now in
    let g = c.graces-graces.result in
    let lawful = c.users.ensures.lawful in
    let users = c.in_ok-users.ensures ∙ ap (map (new_holder g)) c.users.ensures.users in
    let groups = c.in_ok-groups.ensures ∙ ap (map (new_holder g)) c.groups.ensures.groups in
    let projects = c.in_ok-projects.ensures ∙ ap (map (new_holder g)) c.projects.ensures.projects in (
      record {
        size = c.blocks-2.ensures.range.1;
        most_inodes = c.inodes.ensures.range.1;
        graces = c.graces-graces.ensures.range;
        users = by_id-made g s.users _ users (kind-ids-rise s lawful User);
        groups = by_id-made g s.groups _ groups (kind-ids-rise s lawful Group);
        projects = by_id-made g s.projects _ projects (kind-ids-rise s lawful Project);
        few_users = few-new g s.users _ users (kind-few s lawful User);
        few_groups = few-new g s.groups _ groups (kind-few s lawful Group);
        few_projects = few-new g s.projects _ projects (kind-few s lawful Project);
      },
      c.in_ok-known.ensures _,
    )

pub returns-clause-in_range : goal.returns-clause-in_range
returns-clause-in_range c = (invariant_of-result c).0
