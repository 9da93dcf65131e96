use Rattle.std.proofs.Common.{◌≡◌, ℕ, IfOk, sym, ap, subst, ◌∙◌}
use Rattle.std.specs.Result.{IsOk}
use Rattle.qplain.specs.Attempt.{at_path}
use Rattle.qplain.specs.Caller.{Caller}
use Rattle.qplain.specs.Calls.{attempt_of}
use Rattle.qplain.specs.Files.{read_from, stat_at}
use Rattle.qplain.specs.Quotas.{ask_quota}
use Rattle.qplain.specs.State.{State}
use Rattle.qplain.specs.Step.{settle}
use Rattle.qstore.specs.Ready.{IsRefused}
use Rattle.qstore.specs.Stored.{Stored}
use Rattle.qstore.proofs.Deciding.{answered-here, decision-along, looked-up}
use Rattle.qstore.proofs.Listed.{ok_weaker}
use Rattle.qstore.proofs.store.Store.decide_lawful.Goals as goal

pub returns-in-Read-clause-decided : goal.returns-in-Read-clause-decided
returns-in-Read-clause-decided c =
    let s = c.args.self.now in
    let q = c.args.request.now in
    let cred = q.cred.now in
    let call = c.in-Read in
    let told = c.decide_read.ensures in
    let result = c.decide_read.result in
    let path = c.text-in-Read.result.now in
    let same = ap (λ (v : Stored). v.state) c.clear_plan.ensures in
    decision-along s c.clear_plan.new.self q _ (at_path s.state (read_from call.off call.len) path) result
    (ap (attempt_of s.state cred) call.is ∙ ap (at_path s.state (read_from call.off call.len)) (sym c.text-in-Read.ensures))
    (looked-up s c.clear_plan.new.self q _ result c.clear_plan.ensures
    (ok_weaker result _ _
    (subst (λ (S : State). IfOk result (λ reply. (cred : Caller) (moment : ℕ)
    → (S, reply) ≡ settle S cred moment (at_path S (read_from call.off call.len) path))) same told.step)
    (λ reply is. is cred q.moment))
    (subst (λ (S : State). (cred : Caller) (moment : ℕ)
    → IsRefused (settle S cred moment (at_path S (read_from call.off call.len) path)).1 → IsOk result) same told.refused_first cred q.moment))

pub returns-in-Stat-clause-decided : goal.returns-in-Stat-clause-decided
returns-in-Stat-clause-decided c =
    let s = c.args.self.now in
    let q = c.args.request.now in
    let cred = q.cred.now in
    let reply = c.decide_stat.result in
    let same = ap (λ (v : Stored). v.state) c.clear_plan-in-Stat.ensures in
    answered-here s c.clear_plan-in-Stat.new.self q _ reply
    (ap (λ k. settle s.state cred q.moment (attempt_of s.state cred k)) c.in-Stat.is
    ∙ ap (λ path. settle s.state cred q.moment (at_path s.state (stat_at s.state) path)) (sym c.text-in-Stat.ensures)
    ∙ sym (subst (λ (S : State). (S, reply) ≡ settle S cred q.moment (at_path S (stat_at S) c.text-in-Stat.result.now)) same
    (c.decide_stat.ensures cred q.moment)))
    c.clear_plan-in-Stat.ensures

pub returns-in-Quota-clause-decided : goal.returns-in-Quota-clause-decided
returns-in-Quota-clause-decided c =
    let s = c.args.self.now in
    let q = c.args.request.now in
    let cred = q.cred.now in
    let call = c.in-Quota in
    let reply = c.decide_quota.result in
    let same = ap (λ (v : Stored). v.state) c.clear_plan-in-Quota.ensures in
    answered-here s c.clear_plan-in-Quota.new.self q _ reply
    (ap (λ k. settle s.state cred q.moment (attempt_of s.state cred k)) call.is
    ∙ sym (subst (λ (S : State). (S, reply) ≡ settle S cred q.moment (ask_quota S cred call.kind call.id)) same (c.decide_quota.ensures q.moment)))
    c.clear_plan-in-Quota.ensures
