use Rattle.std.proofs.Common.{◌≡◌, ◌==◌, length, true, sym, subst}
use Rattle.qrules.specs.declared.kind.Kind.TheVariants.{Project}
use Rattle.qstore_accounts.specs.Books.{ledger_in}
use Rattle.qstore.specs.Stored.{Stored}
use Rattle.qstore.proofs.Calls.{no-project}
use Rattle.qstore.proofs.store.Store.project_of.Goals as goal

pub returns-then-has_no_projects : goal.returns-then-has_no_projects
returns-then-has_no_projects c =
    no-project c.args.self.now c.requires.whole c.args.dir c.requires.directory
    (subst (λ (s : Stored). (length (ledger_in Project s.books) == 0) ≡ true) c.self.view_is (sym c.if-has_no_projects.ensures))
