use Rattle.std.proofs.Common.{sym, subst, ◌∙◌}
use Rattle.qshare_history.specs.Shares.{IsLeastMissing}
use Rattle.qshare.proofs.shared.Shared.end.Goals as goal

pub returns-in-Some-clause-all : goal.returns-in-Some-clause-all
returns-in-Some-clause-all g c there =
    let worker = c.in-Some.worker in
    let items = c.args.shares.items in
    let named : IsLeastMissing items c.seats.result worker =
    subst (λ shares. IsLeastMissing shares c.seats.result worker) c.deref.ensures.value c.in-Some.ensures.least in
    let least : IsLeastMissing items g.S.StoreId.id.counters.parts worker = subst (λ seats. IsLeastMissing items seats worker) c.seats.ensures named in
    sym least.missing ∙ there worker least.positive least.seat
