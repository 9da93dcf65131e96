use Rattle.std.proofs.Common.{◌≡◌, [], ◌∷◌, ap, map, arith}
use Rattle.std.specs.Vec.Iter.{into_iter_items}
use Rattle.std.proofs.lemmas.Grind.{common_steps}
use Rattle.std.proofs.lemmas.List.{map_push}
use Rattle.std.proofs.lemmas.Result.{err_from_is_err_and}
use Rattle.qtext_config.specs.ConfigClients.{named_client, client_in_range, client_fields}
use Rattle.qtext.proofs.Loops.{goes_on, is_done}
use Rattle.qtext_config.proofs.ConfigLaws.{fails}
use Rattle.qtext_config.proofs.config.client.clients_in_range.Goals as goal

pub returns-in_err-client_in_range : goal.returns-in_err-client_in_range
returns-in_err-client_in_range c =
    let cut : into_iter_items c.loop-written.written-iterator ≡ c.in-Some.written ∷ into_iter_items c.next.new.self = grind (arith, common_steps) in
    let p = err_from_is_err_and c.from_residual.result c.from_residual.ensures.1 in
    rw (p.1, p.2) (fails client_in_range (map named_client c.loop-written.clients.items) _ _ _ _ _ c.in_err-client_in_range.ensures
    (ap (map client_fields) cut) c.loop-written.invariant)

pub loop-written-preserved : goal.loop-written-preserved
loop-written-preserved c =
    let cut : into_iter_items c.loop-written.written-iterator ≡ c.in-Some.written ∷ into_iter_items c.next.new.self = grind (arith, common_steps) in
    rw (c.in_ok-push.ensures.items, map_push named_client c.loop-written.clients.items c.in_ok-client_in_range.field-0)
    (goes_on client_in_range (map named_client c.loop-written.clients.items) _ _ _ _ _ c.in_ok-client_in_range.ensures
    (ap (map client_fields) cut) c.loop-written.invariant)

pub returns : goal.returns
returns c =
    let none : into_iter_items c.loop-written.written-iterator ≡ [] = grind (arith, common_steps) in
    is_done client_in_range (map named_client c.loop-written.clients.items) _ _ (ap (map client_fields) none) c.loop-written.invariant
