use Rattle.std.proofs.Common.{◌≡◌, ◌+◌, [], ◌∷◌, ◌++◌, length, sym, ap, subst, ◌∙◌, append_assoc, length-append, arith}
use Rattle.std.proofs.lemmas.List.{length-map}
use Rattle.std.specs.Vec.Iter.{into_iter_items}
use Rattle.qrun.specs.Crews.{AreNumbered}
use Rattle.qrun.proofs.Attending.{clients_all, clients_in, clients_more, numbered_more}
use Rattle.qrun.proofs.Seating.{seat_next, seats_ended}
use Rattle.qrun.proofs.crew.workers_of.Goals as goal

pub loop-client-preserved : goal.loop-client-preserved
loop-client-preserved g c =
    let seated = c.loop-client.invariant.0 in
    let all = c.loop-client.workers in
    let clients = c.args.crew in
    let left = into_iter_items c.next.new.self in
    let free = into_iter_items c.next-in-loop-client.new.self in
    let client = c.in-Some.client in
    let seat = c.in-Some-next.seat in
    let pushed = c.push_reserved.ensures in
    let worker = c.new-worker.result in
    let seats = ap (λ xs. seated.0 ++ xs) (sym c.in-Some-next.ensures.cases.0) ∙ seated.1 in
    let parts = ap (λ xs. clients_in all.items ++ xs) (sym c.in-Some.ensures.steps.0) ∙ c.loop-client.invariant.1 in
    let next = seat_next (length clients) seated.0 free seat seats in
    let many : length seated.0 ≡ length all.items = seated.2 ∙ all.ok.0 in (
      (
        seated.0 ++ seat ∷ [],
        append_assoc seated.0 (seat ∷ []) free ∙ seats,
        omega (arith, length-append seated.0 (seat ∷ []), pushed.len, seated.2),
      ),
      subst (λ xs. clients_in xs ++ left ≡ clients) (sym pushed.items)
          (clients_more all.items worker client left clients (ap (λ a. a.client) c.new-worker.ensures) parts),
      omega (arith, pushed.capacity, pushed.len, c.in-Some.ensures.steps.1, c.loop-client.invariant.2),
      subst AreNumbered (sym pushed.items)
          (numbered_more all.items worker c.loop-client.invariant.3
          (ap (λ a. a.worker) c.new-worker.ensures ∙ ap (λ s. s.worker) next.0 ∙ ap (λ n. n + 1) many)),
    )

pub unreachable-requires : goal.unreachable-requires
unreachable-requires g c =
    let seated = c.loop-client.invariant.0 in
    let all = c.loop-client.workers in
    let clients = c.args.crew in
    let left = into_iter_items c.next.new.self in
    let client = c.in-Some.client in
    let none : length (into_iter_items c.loop-client.free) ≡ 0 = sym c.loop-client.free.rest.ok.0 ∙ c.in_default.ensures.cases.0 in
    let ended = seats_ended (length clients) seated.0 (into_iter_items c.loop-client.free) seated.1 none in
    let parts = ap (λ xs. clients_in all.items ++ xs) (sym c.in-Some.ensures.steps.0) ∙ c.loop-client.invariant.1 in
    omega (
      arith,
      ap length parts,
      length-append (clients_in all.items) (client ∷ left),
      length-map all.items (λ a. a.client),
      ended,
      seated.2,
      all.ok.0,
    )

pub new-worker-requires-clause-seat : goal.new-worker-requires-clause-seat
new-worker-requires-clause-seat g c κs within =
    let seated = c.loop-client.invariant.0 in
    let seats = ap (λ xs. seated.0 ++ xs) (sym c.in-Some-next.ensures.cases.0) ∙ seated.1 in
    ap (λ s. s.tally)
    (seat_next (length c.args.crew) seated.0 (into_iter_items c.next-in-loop-client.new.self) c.in-Some-next.seat seats).0

pub returns : goal.returns
returns g c =
    let left = sym c.loop-client.client-iterator.rest.ok.0 ∙ c.in-None.ensures.steps.0 in
    record {
      numbered = c.loop-client.invariant.3;
      clients_are = clients_all c.loop-client.workers.items (into_iter_items c.loop-client.client-iterator) c.args.crew left
          c.loop-client.invariant.1;
    }
