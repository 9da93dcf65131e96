use Rattle.std.proofs.Common.{◌≤◌, List, sym, subst}
use Rattle.qrules.specs.declared.graces.TheConstants.{MAX_MOMENT}
use Rattle.qstore_accounts.specs.declared.kept_holder.KeptHolder.{KeptHolder}
use Rattle.qstore_accounts.proofs.Relimited.{HasLimits, limits-settled, placed-limits, placed-only}
use Rattle.qstore_accounts.proofs.accounts.Accounts.bill_of_limits.Goals as goal

pub returns-clause-books : goal.returns-clause-books
returns-clause-books c S id there lawful books =
    let x = c.args in
    let q = c.relimited-posting.result in
    let written = c.write_only.ensures in
    limits-settled S x.self.now books lawful x.kind x.slot id x.limits x.moment q c.write_only.new.bill written.postings written.moment there
    (subst (λ (os : List KeptHolder). HasLimits os x.slot x.limits q) c.ledger.ensures c.relimited-posting.ensures) written.blocks written.inodes

pub returns-clause-placed : goal.returns-clause-placed
returns-clause-placed c =
    let x = c.args in
    let q = c.relimited-posting.result in
    let written = c.write_only.ensures in
    placed-only x.self.now x.kind q c.write_only.new.bill written.postings
    (placed-limits _ x.slot c.requires.slot.0 x.limits q c.requires.slot.1
    (subst (λ (os : List KeptHolder). HasLimits os x.slot x.limits q) c.ledger.ensures c.relimited-posting.ensures))
    (subst (λ n. n ≤ MAX_MOMENT) (sym written.moment) c.requires.moment)
