use Rattle.std.proofs.Common.{◌≤◌, List, length, sym, subst}
use Rattle.qplain.specs.declared.principal.TheConstants.{MAX_PRINCIPALS}
use Rattle.qstore_accounts.specs.declared.kept_holder.KeptHolder.{KeptHolder}
use Rattle.qstore_accounts.specs.Bills.{settled}
use Rattle.qstore_accounts.specs.Books.{Books}
use Rattle.qstore_accounts.specs.Callers.{AreKnown}
use Rattle.qstore_accounts.specs.Kept.{books_of}
use Rattle.qstore_accounts.specs.KeptHolders.{AreById}
use Rattle.qstore_accounts.proofs.Booked.{in_range-settled}
use Rattle.qstore_accounts.proofs.Known.{known-settled}
use Rattle.qstore_accounts.proofs.accounts.Accounts.settle.Goals as goal

pub invariant_of-self : goal.invariant_of-self
invariant_of-self c =
    let is = in_range-settled (books_of c.self.inside) c.args.bill.now c.self.invariant.0 in
    let users = sym c.settle.ensures in
    let groups = sym c.settle-2.ensures in
    let projects = sym c.settle-3.ensures in (
      record {
        size = is.size;
        most_inodes = is.most_inodes;
        graces = is.graces;
        users = subst AreById users is.users;
        groups = subst AreById groups is.groups;
        projects = subst AreById projects is.projects;
        few_users = subst (λ (os : List KeptHolder). length os ≤ MAX_PRINCIPALS) users is.few_users;
        few_groups = subst (λ (os : List KeptHolder). length os ≤ MAX_PRINCIPALS) groups is.few_groups;
        few_projects = subst (λ (os : List KeptHolder). length os ≤ MAX_PRINCIPALS) projects is.few_projects;
      },
      subst (λ (b : Books). AreKnown b c.self.inside.known)
          (λ i. record (settled c.args.bill.now (books_of c.self.inside)) { users = users i; groups = groups i; projects = projects i })
          (known-settled c.args.bill.now (books_of c.self.inside) c.self.inside.known c.self.invariant.1),
    )
