use Rattle.std.proofs.Common.{List, ◌++◌, ℕ}
use Rattle.qtext.proofs.Fronts.{appends_then, front_of_first, front_of_second, refused_first, writes_then}
use Rattle.qtext_metrics.specs.declared.counter.Counter.TheVariants as counter
use Rattle.qtext_metrics.specs.Mishaps.{failures, faults, refusals}
use Rattle.qtext_metrics.specs.Services.{mishaps_text}
use Rattle.qtext_metrics.proofs.service.put_all_mishaps.Goals as goal

pub returns-in_err-put_counter : goal.returns-in_err-put_counter
returns-in_err-put_counter g c =
    let first : List ℕ = mishaps_text c.args.counts.now counter.Refused refusals in
    let second : List ℕ = mishaps_text c.args.counts.now counter.Failed failures in
    refused_first _ _ _ (first ++ second) (mishaps_text c.args.counts.now counter.Faulty faults) c.from_residual.ensures.0
    (front_of_first _ _ first second (rw c.refusals.ensures at c.in_err-put_counter.ensures))

pub returns-in_err-put_counter-2 : goal.returns-in_err-put_counter-2
returns-in_err-put_counter-2 g c =
    let first : List ℕ = mishaps_text c.args.counts.now counter.Refused refusals in
    let second : List ℕ = mishaps_text c.args.counts.now counter.Failed failures in
    refused_first _ _ _ (first ++ second) (mishaps_text c.args.counts.now counter.Faulty faults)
    c.from_residual-in_err-put_counter-2.ensures.0
    (front_of_second _ _ _ first second (rw c.refusals.ensures at c.in_ok-put_counter.ensures)
    (rw c.failures.ensures at c.in_err-put_counter-2.ensures))

pub returns : goal.returns
returns g c =
    let first : List ℕ = mishaps_text c.args.counts.now counter.Refused refusals in
    let second : List ℕ = mishaps_text c.args.counts.now counter.Failed failures in
    writes_then _ _ _ _ (first ++ second) (mishaps_text c.args.counts.now counter.Faulty faults)
    (appends_then _ _ _ first second (rw c.refusals.ensures at c.in_ok-put_counter.ensures)
    (rw c.failures.ensures at c.in_ok-put_counter-2.ensures))
    (rw c.faults.ensures at c.put_counter-3.ensures)
