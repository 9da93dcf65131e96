use Rattle.std.proofs.Common.{◌≤◌, [], ◌∷◌, ◌++◌, length, ap, sym, ◌∙◌, append_assoc, arith}
use Rattle.std.proofs.lemmas.List.{map-append}
use Rattle.std.proofs.lemmas.List.Elements.{All-push}
use Rattle.std.specs.Vec.Iter.{into_iter_items}
use Rattle.qplain.specs.declared.bounds.TheConstants.{MAX_LINES}
use Rattle.qrun.specs.Crews.{new_client}
use Rattle.qrun.proofs.crew.clients_of.Goals as goal

pub loop-script-preserved : goal.loop-script-preserved
loop-script-preserved c =
    let so_far = c.loop-script.invariant.0 in
    let done = so_far.0 in
    let script = c.in-Some.script in
    let rest = into_iter_items c.next.new.self in
    let pushed = c.push_reserved.ensures in (
      (
        done ++ script ∷ [],
        append_assoc done (script ∷ []) rest ∙ ap (λ xs. done ++ xs) (sym c.in-Some.ensures.steps.0) ∙ so_far.1,
        pushed.items ∙ (λ i. so_far.2 i ++ c.in_ok-new.ensures.new i ∷ []) ∙ sym (map-append new_client done (script ∷ [])),
        All-push (λ lines. length lines ≤ MAX_LINES) done script so_far.3 c.in_ok-new.ensures.few,
      ),
      omega (arith, pushed.len, pushed.capacity, c.in-Some.ensures.steps.1, c.loop-script.invariant.1),
    )
