use Rattle.std.proofs.Common.{ap, arith, add-one, sym, ◌≡◌, ◌+◌, ◌++◌, ◌∷◌, [], ◌∙◌}
use Rattle.qshare.specs.Seats.{new_seat, seats_of}
use Rattle.qshare.proofs.seating.blind_seats.Goals as goal

pub loop-before-preserved : goal.loop-before-preserved
loop-before-preserved g c =
    let so_far = c.loop-before.invariant in
    let unseen : c.again.result.entries ≡ [] = ap (λ p. p.entries) (c.again.ensures ∙ c.requires.prefix) in
    let seat : c.new.result ≡ new_seat (c.loop-before.before + 1) =
    c.new.ensures ∙ ap (λ seen. record (new_seat (c.loop-before.before + 1)) { seen = seen }) unseen in (
      c.split_off.ensures.rest.0,
      omega (arith, c.split_off.ensures.rest.1, so_far.1),
      c.push_reserved.ensures.items ∙ (λ i. (c.reserve.ensures.items ∙ so_far.2) i ++ seat i ∷ [])
          ∙ sym (ap seats_of (add-one c.loop-before.before)),
    )
