use Rattle.std.proofs.Common.{ℕ, ◌==◌, List, find, sym, ap, subst, ◌∙◌}
use Rattle.std.specs.Option.{IfSome}
use Rattle.std.specs.List.{list_any}
use Rattle.qplain.specs.Known.{is_holder}
use Rattle.qstore_accounts.specs.declared.kept_holder.KeptHolder.{KeptHolder}
use Rattle.qstore_accounts.specs.KeptHolders.{AreById}
use Rattle.qstore_accounts.specs.Books.{ledger_in}
use Rattle.qstore_accounts.specs.Ledgers.{IsHolderAt}
use Rattle.qstore_accounts.proofs.Holders.{found-counted, found-kept}
use Rattle.qstore_accounts.proofs.accounts.Accounts.find.Goals as goal

pub returns-clause-found : goal.returns-clause-found
returns-clause-found c S books =
    let x = c.args in
    let ledger = c.ledger.ensures in
    found-kept x.kind x.id (λ kind. ledger_in kind x.self.now) c.find.result
    (c.find.ensures.declared ∙ ap (list_any (λ o. x.id == o.id)) ledger)
    (subst (λ (os : List KeptHolder). IfSome c.find.result (λ o. (slot : ℕ) × IsHolderAt os slot x.id o.now)) ledger c.find.ensures.there)
    (subst (λ (os : List KeptHolder). IfSome c.find.result (λ o. AreById os)) ledger c.find.ensures.by_id)
    ∙ ap (find (is_holder x.kind x.id)) (sym books.holders)

pub returns-clause-counted : goal.returns-clause-counted
returns-clause-counted c S books =
    let x = c.args in
    found-counted S x.kind x.id c.ledger.result.now c.find.result
    (rw (c.ledger.ensures) (books.counted x.kind)) c.find.ensures.there
