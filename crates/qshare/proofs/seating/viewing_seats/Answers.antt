use Rattle.std.proofs.Common.{ap, arith, add-one, sym, ◌≡◌, ◌+◌, ◌++◌, ◌∷◌, [], ◌∙◌}
use Rattle.qshare.specs.Seats.{new_seat, seats_of}
use Rattle.qshare.proofs.seating.viewing_seats.Goals as goal

pub loop-before-preserved : goal.loop-before-preserved
loop-before-preserved g c =
    let so_far = c.loop-before.invariant in
    let unseen : c.again-in-loop-before.result.entries ≡ [] = ap (λ p. p.entries) (c.again-in-loop-before.ensures ∙ c.requires.prefix) in
    let seat : c.new-in-loop-before.result ≡ new_seat (c.loop-before.before + 1) =
    c.new-in-loop-before.ensures ∙ ap (λ seen. record (new_seat (c.loop-before.before + 1)) { seen = seen }) unseen in (
      c.new.ensures.publisher ∙ so_far.0,
      c.split_off.ensures.rest.0,
      omega (arith, c.split_off.ensures.rest.1, so_far.2),
      c.push_reserved.ensures.items ∙ (λ i. (c.reserve.ensures.items ∙ so_far.3) i ++ seat i ∷ [])
          ∙ sym (ap seats_of (add-one c.loop-before.before)),
    )
