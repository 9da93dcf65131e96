use Rattle.std.proofs.Common.{◌==◌, sym, ap, ◌∙◌}
use Rattle.std.specs.List.{list_any}
use Rattle.qplain.specs.Known.{is_holder}
use Rattle.qstore_accounts.specs.Books.{ledger_in}
use Rattle.qstore_accounts.proofs.Holders.{declared-kept}
use Rattle.qstore_accounts.proofs.accounts.Accounts.slot.Goals as goal

pub returns-clause-declared : goal.returns-clause-declared
returns-clause-declared c S books =
    let x = c.args in
    c.slot.ensures.declared ∙ ap (list_any (λ o. x.id == o.id)) c.ledger.ensures
    ∙ sym (declared-kept x.kind x.id (λ kind. ledger_in kind x.self.now)) ∙ ap (list_any (is_holder x.kind x.id)) (sym books.holders)
