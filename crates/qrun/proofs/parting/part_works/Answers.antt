use Rattle.std.proofs.Common.{◌≡◌, [], ◌∷◌, ◌++◌, ap, sym, ◌∙◌, append_assoc, arith}
use Rattle.std.proofs.lemmas.List.{map-append}
use Rattle.std.specs.Vec.Iter.{into_iter_items}
use Rattle.qrun_worker.specs.Work.{Worked}
use Rattle.qrun.specs.Told.{answered_of}
use Rattle.qrun.proofs.parting.part_works.Goals as goal

pub loop-work-preserved : goal.loop-work-preserved
loop-work-preserved g c =
    let so_far = c.loop-work.invariant.0 in
    let done = so_far.0 in
    let rest = into_iter_items c.next.new.self in
    let one : Worked _ = record { share = c.work.inside.share; places = c.work.inside.places; left = c.work.inside.left } in
    let parts : into_iter_items c.loop-work.work-iterator ≡ one ∷ rest =
    c.in-Some.ensures.steps.0 ∙ ap (λ (d : Worked _). d ∷ rest) (sym c.work.view_is) in
    let shares = c.push_reserved.ensures in
    let placed = c.push_reserved-in-loop-work.ensures in
    let left = c.push_reserved-in-loop-work-2.ensures in (
      (
        done ++ one ∷ [],
        append_assoc done (one ∷ []) rest ∙ ap (λ xs. done ++ xs) (sym parts) ∙ so_far.1,
        shares.items ∙ ap (λ xs. xs ++ one.share ∷ []) so_far.2 ∙ sym (map-append (λ (w : Worked _). w.share) done (one ∷ [])),
        placed.items
            ∙ (λ i. so_far.3 i ++ record { worker = c.worker-worker.ensures i; places = one.places } ∷ [])
            ∙ sym (map-append answered_of done (one ∷ [])),
        left.items ∙ ap (λ xs. xs ++ one.left ∷ []) so_far.4 ∙ sym (map-append (λ (w : Worked _). w.left) done (one ∷ [])),
      ),
      omega (arith, shares.len, shares.capacity, c.in-Some.ensures.steps.1, c.loop-work.invariant.1),
      omega (arith, placed.len, placed.capacity, c.in-Some.ensures.steps.1, c.loop-work.invariant.2),
      omega (arith, left.len, left.capacity, c.in-Some.ensures.steps.1, c.loop-work.invariant.3),
    )
