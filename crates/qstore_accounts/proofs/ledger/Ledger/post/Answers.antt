use Rattle.std.proofs.Common.{List, Option, Some, refl, sym, subst}
use Rattle.qstore_accounts.specs.declared.bill.Posting.{Posting}
use Rattle.qstore_accounts.specs.declared.kept_holder.KeptHolder.{KeptHolder}
use Rattle.qstore_accounts.specs.Bills.{IsPlaced}
use Rattle.qstore_accounts.specs.KeptHolders.{IsSlotOf}
use Rattle.qstore_accounts.proofs.ById.{by_id-set, changed_by, post-none, set-changed}
use Rattle.qstore_accounts.proofs.ledger.Ledger.post.Goals as goal

-- the ids stay
pub invariant_of-self : goal.invariant_of-self
invariant_of-self c = by_id-set _ _ _ _ c.index_mut.ensures.value refl c.self.invariant

-- the write is the change of the kept holder of that id
pub returns-in-Some : goal.returns-in-Some
returns-in-Some c =
    let x = c.args in
    let p = c.in-Some.posting in
    let placed : IsPlaced x.self.now (Some p) = subst (λ (o : Option Posting). IsPlaced x.self.now o) c.in-Some.is c.requires.placed in
    rw (c.in-Some.is, ← c.self.view_is) (set-changed p.id (changed_by x.times.graces x.times.moment p) _ _ _ _ c.self.invariant
    (subst (λ (os : List KeptHolder). IsSlotOf os p.slot p.id) (sym c.self.view_is) placed.slot) c.index_mut.ensures.value
    (λ i. record c.index_mut.result.now { account = c.make.ensures i }))

pub returns-in-None : goal.returns-in-None
returns-in-None c = rw (c.in-None.is) (sym (post-none c.args.times.graces c.args.times.moment c.args.self.now))
