use Rattle.std.proofs.Common.{◌≡◌, ◌==◌, true, not, cond, Ok, refl, subst, ap, ◌∙◌, tests, arith}
use Rattle.qplain.specs.declared.call.Call.TheVariants.{SetGrace}
use Rattle.qplain.specs.declared.reply.Reply.TheVariants.{Done}
use Rattle.qplain.specs.declared.refusal.Refusal.TheVariants.{EPERM}
use Rattle.qplain.specs.Attempt.{Becomes, Refuse, no_change}
use Rattle.qplain.specs.Calls.{attempt_of}
use Rattle.qplain.specs.Step.{settle}
use Rattle.qplain_laws.proofs.Settling.{ends_after-graced, settle-graced}
use Rattle.qstore.specs.declared.plan.Plan.TheVariants.{SetGraces}
use Rattle.qstore.specs.Decided.{IsDecision}
use Rattle.qstore.specs.Kept.{state_of, stored_of}
use Rattle.qstore.specs.Stored.{IsSameStore, Stored}
use Rattle.qstore.proofs.Deciding.{decision-ready}
use Rattle.qstore.proofs.store.Store.decide_set_grace.Goals as goal

pub returns : goal.returns
returns c =
    let a = c.self.inside in
    let S = state_of a in
    let q = c.args.request.now in
    let cred = q.cred.now in
    let graces = c.args.graces in
    let lawful = c.self.invariant.sound.lawful in
    let new = stored_of (record a { plan = SetGraces graces }) in
    let same : IsSameStore (stored_of a) new = record { state = refl; books = refl } in
    let super : (cred.uid == 0) ≡ true = let uid = c.uid.ensures in let same = c.if-uid-ne0.false in grind (arith, tests, uid, same) in
    subst (λ (v : Stored). IsDecision v new q (attempt_of v.state cred (SetGrace graces)) (Ok (Done 0 no_change))) c.self.view_is
    (decision-ready (stored_of a) new same q (attempt_of S cred (SetGrace graces)) (SetGraces graces) (Done 0 no_change)
    (ap (λ b. settle S cred q.moment (cond (not b) (Refuse EPERM) (Becomes (record S { graces = graces }) 0))) super
    ∙ settle-graced S graces cred q.moment lawful.blocks_fit lawful.inodes_fit lawful.next_fits
    ∙ ap (λ T. (T, Done 0 no_change)) (ends_after-graced S graces q.moment lawful))
    c.requires.range)
