use Rattle.std.proofs.Common.{◌≡◌, ◌==◌, true, is_some, Ok, refl, subst, sym, ap, ◌∙◌, tests, arith}
use Rattle.qplain.specs.declared.reply.Reply.TheVariants.{Done}
use Rattle.qplain.specs.Known.{is_declared}
use Rattle.qplain.specs.Attempt.{no_change}
use Rattle.qplain.specs.Quotas.{set_quota}
use Rattle.qstore.specs.declared.plan.Plan.TheVariants.{Limits}
use Rattle.qstore.specs.Decided.{IsDecision}
use Rattle.qstore.specs.Kept.{state_of, stored_of}
use Rattle.qstore.specs.Stored.{IsSameStore, Stored}
use Rattle.qstore.proofs.Deciding.{decision-limits}
use Rattle.qstore.proofs.store.Store.decide_set_quota.Goals as goal

pub returns-in-Some : goal.returns-in-Some
returns-in-Some c =
    let x = c.args in
    let a = c.self.inside in
    let inv = c.self.invariant in
    let q = x.request.now in
    let cred = q.cred.now in
    let super : (cred.uid == 0) ≡ true = let uid = c.uid.ensures in let same = c.if-uid-ne0.false in grind (arith, tests, uid, same) in
    let declared : is_declared (state_of a) x.kind x.id ≡ true = sym (c.slot.ensures.declared (state_of a) inv.books) ∙ ap (λ o. is_some o) c.in-Some.is in
    let new = stored_of (record a { bill = c.bill_of_limits.new.bill; plan = Limits }) in
    let bill = c.bill_of_limits.ensures in
    let same : IsSameStore (stored_of a) new = record { state = refl; books = refl } in
    subst (λ (v : Stored). IsDecision v new q (set_quota v.state cred x.kind x.id x.limits)
    (Ok (Done 0 no_change))) c.self.view_is
    (decision-limits (stored_of a) new same q x.kind x.id x.limits inv.sound.lawful super declared
    (bill.books (state_of a) x.id c.in-Some.ensures.slot inv.sound.lawful inv.books) bill.placed)
