use Rattle.std.proofs.Common.{◌≡◌, ap, rules, subst}
use mathlib.Core.List.{IsPrefix}
use Rattle.qshare.proofs.Growing.{seen_of}
use Rattle.qshare.proofs.held.Held.release.Goals as goal

pub returns-clause-seen : goal.returns-clause-seen
returns-clause-seen g c =
    let begins : IsPrefix c.args.seat.now.seen c.deref_mut-store.result.now.journal =
    seen_of c.prefix.ensures.prefix c.await_seen.ensures.published c.await_seen.ensures.journal in
    let all : c.deref_mut-store.result.now.journal ≡ c.catch_up.new.self.seen = search rules in
    record {
      worker = ap (λ s. s.worker) c.catch_up.ensures.seat;
      begins = subst (IsPrefix c.args.seat.now.seen) all begins;
      legal = search rules;
    }
