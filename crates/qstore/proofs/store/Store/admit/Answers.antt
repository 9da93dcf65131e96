use Rattle.std.proofs.Common.{Ok, Err, Result, sym, ap, subst}
use Rattle.std.specs.Prelude.{IfErr, OnOk}
use Rattle.qstore_accounts.specs.Books.{Books}
use Rattle.qstore_accounts.specs.Replacements.{IsReplacement}
use Rattle.qstore.specs.Decided.{IsBilled, IsUnbilled}
use Rattle.qstore.specs.Kept.{state_of, stored_of}
use Rattle.qstore.specs.Stored.{Stored}
use Rattle.qstore.proofs.Listed.{err_weaker}
use Rattle.qstore.proofs.store.Store.admit.Goals as goal

pub bill-requires-clause-replacement : goal.bill-requires-clause-replacement
bill-requires-clause-replacement c =
    let x = c.args in
    let exchange = x.exchange.now in
    let asked = c.requires.asked in (
      x.self.now.state,
      asked.0,
      asked.1.before,
      asked.1.after,
      subst (λ (b : Books). IsReplacement b exchange.from exchange.to x.self.now.state asked.0 asked.1.before asked.1.after)
          (sym (ap (λ (v : Stored). v.books) c.self.view_is)) asked.1.replaced,
    )

-- both, where there is a value
both : {T E : Type 0} (result : Result T E) (P Q R : Type 0) → OnOk result P → OnOk result Q → (P → Q → R) → OnOk result R
both (Ok v) P Q R p q with_both = with_both p q
both (Err e) P Q R p q with_both = tt

pub returns-clause-granted : goal.returns-clause-granted
returns-clause-granted c =
    let x = c.args in
    let a = c.self.inside in
    subst (λ (v : Stored). OnOk c.bill.result (IsBilled v c.bill.new.bill x.request.now x.exchange.now x.given)) c.self.view_is
    (both c.bill.result _ _ (IsBilled (stored_of a) c.bill.new.bill x.request.now x.exchange.now x.given) c.bill.ensures.placed c.bill.ensures.granted
    (λ placed all. record { placed = placed; granted = λ S1 asked. all (state_of a) S1 asked.before asked.after asked.replaced asked.next }))

pub returns-clause-refused : goal.returns-clause-refused
returns-clause-refused c =
    let x = c.args in
    let a = c.self.inside in
    subst (λ (v : Stored). IfErr c.bill.result (IsUnbilled v x.request.now x.exchange.now x.given)) c.self.view_is
    (err_weaker c.bill.result _ (IsUnbilled (stored_of a) x.request.now x.exchange.now x.given) c.bill.ensures.refused
    (λ refusal all S1 asked. all (state_of a) S1 asked.before asked.after asked.replaced asked.next))
