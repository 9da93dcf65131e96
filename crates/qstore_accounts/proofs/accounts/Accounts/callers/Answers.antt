use Rattle.std.proofs.Common.{sym, subst, ◌∙◌}
use Rattle.qstore_accounts.specs.Books.{Books}
use Rattle.qstore_accounts.specs.Callers.{IsKnownAt}
use Rattle.qstore_accounts.specs.Kept.{books_of}
use Rattle.qstore_accounts.proofs.Known.{known-books}
use Rattle.qstore_accounts.proofs.accounts.Accounts.callers.Goals as goal

pub returns-in-Some-clause-known : goal.returns-in-Some-clause-known
returns-in-Some-clause-known c S books =
    let x = c.args in
    let kept = subst (λ (b : Books). IsKnownAt b x.cred.now c.in-Some.slots) c.self.view_is
    (c.in-Some.ensures (books_of c.self.inside) c.self.invariant.1) in
    sym kept.known ∙ known-books S x.self.now books x.cred.now

pub returns-in-Some-clause-slots : goal.returns-in-Some-clause-slots
returns-in-Some-clause-slots c =
    let x = c.args in
    let kept = subst (λ (b : Books). IsKnownAt b x.cred.now c.in-Some.slots) c.self.view_is
    (c.in-Some.ensures (books_of c.self.inside) c.self.invariant.1) in
    kept.own

pub returns-in-None-clause-known : goal.returns-in-None-clause-known
returns-in-None-clause-known c S books = c.learn.ensures.known ∙ known-books S c.args.self.now books c.args.cred.now
