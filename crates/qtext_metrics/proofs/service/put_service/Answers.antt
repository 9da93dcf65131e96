use Rattle.std.proofs.Common.{List, ◌++◌, ℕ}
use Rattle.qtext.proofs.Fronts.{appends_then, front_of_first, front_of_second, refused_first, writes_then}
use Rattle.qtext_metrics.specs.Services.{all_mishaps_text, calls_text, last_call_text}
use Rattle.qtext_metrics.proofs.service.put_service.Goals as goal

pub returns-in_err-put_all_mishaps : goal.returns-in_err-put_all_mishaps
returns-in_err-put_all_mishaps g c =
    let first : List ℕ = all_mishaps_text c.args.counts.now in
    let second : List ℕ = calls_text c.args.counts.now.calls in
    refused_first _ _ _ (first ++ second) (last_call_text c.args.counts.now.last_call) c.from_residual.ensures.0
    (front_of_first _ _ first second c.in_err-put_all_mishaps.ensures)

pub returns-in_err-put_calls : goal.returns-in_err-put_calls
returns-in_err-put_calls g c =
    let first : List ℕ = all_mishaps_text c.args.counts.now in
    let second : List ℕ = calls_text c.args.counts.now.calls in
    refused_first _ _ _ (first ++ second) (last_call_text c.args.counts.now.last_call)
    c.from_residual-in_err-put_calls.ensures.0
    (front_of_second _ _ _ first second c.in_ok-put_all_mishaps.ensures c.in_err-put_calls.ensures)

pub returns : goal.returns
returns g c =
    let first : List ℕ = all_mishaps_text c.args.counts.now in
    let second : List ℕ = calls_text c.args.counts.now.calls in
    writes_then _ _ _ _ (first ++ second) (last_call_text c.args.counts.now.last_call)
    (appends_then _ _ _ first second c.in_ok-put_all_mishaps.ensures c.in_ok-put_calls.ensures)
    c.put_last_call.ensures
