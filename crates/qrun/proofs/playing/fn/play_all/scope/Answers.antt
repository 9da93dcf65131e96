use Rattle.std.proofs.Common.{◌≡◌, ℕ, ◌+◌, ◌<◌, [], ◌∷◌, ◌++◌, Some, None, length, slice_index_or, below_more, refl, sym, ap, subst, ◌∙◌, append_assoc, length-append, arith}
use Rattle.std.proofs.lemmas.List.{get_or_append_left, get_or_push}
use Rattle.std.specs.Vec.Iter.{into_iter_items}
use Rattle.qrun.proofs.Attending.{at_place, number_is, place_low}
use Rattle.qrun.specs.Observers.{IsObserved, IsObservedBy}
use Rattle.qrun_worker.specs.Work.{IsPlayed}
use Rattle.qrun.proofs.Naming.{names_seat}
use Rattle.qrun.proofs.playing.fn.play_all.scope.Goals as goal

pub loop-worker-init : goal.loop-worker-init
loop-worker-init g c =
    let room = c.in_ok-running.ensures in
    let all = c.into_iter-worker-iterator.ensures.into_iter_gives in (
      ([], refl, sym room.len),
      omega (arith, room.len, room.capacity, all.1, c.len.ensures, c.captures.workers.ok.0),
      λ k h a less. absurd (omega (arith, less, room.len)),
      refl,
    )

pub loop-worker-preserved : goal.loop-worker-preserved
loop-worker-preserved g c =
    let held = c.loop-worker.invariant.0 in
    let running = c.loop-worker.running in
    let handle = c.in-Ok.handle in
    let given = into_iter_items c.into_iter-worker-iterator.result in
    let left = into_iter_items c.next.new.self in
    let worker = c.in-Some.worker in
    let pushed = c.push_reserved.ensures in
    let parts = ap (λ xs. held.0 ++ xs) (sym c.in-Some.ensures.steps.0) ∙ held.1 in
    let many : length held.0 ≡ length running.items = held.2 ∙ running.ok.0 in (
      (
        held.0 ++ worker ∷ [],
        append_assoc held.0 (worker ∷ []) left ∙ parts,
        omega (arith, length-append held.0 (worker ∷ []), pushed.len, held.2),
      ),
      omega (arith, pushed.capacity, pushed.len, c.in-Some.ensures.steps.1, c.loop-worker.invariant.1),
      λ k h a less.
          let Promised : ℕ → _ → Type 0 = λ i x. (x.promise.worker ≡ (slice_index_or given i a).worker)
          × (x.promise.client.value ≡ (slice_index_or given i a).client) in
          let own : slice_index_or given (length running.items) a ≡ worker =
          subst (λ i. slice_index_or given i a ≡ worker) many (at_place given held.0 left worker a parts) in
          let here : Promised (length running.items) handle = (
            ap (λ p. p.worker) c.in-Ok.ensures.ok ∙ c.plays-plays.ensures.0 ∙ ap (λ x. x.worker) (sym own),
            ap (λ p. p.client.value) c.in-Ok.ensures.ok ∙ c.plays-plays.ensures.1 ∙ ap (λ x. x.client) (sym own),
          ) in
          subst (λ hs. Promised k (slice_index_or hs k h)) (sym pushed.items)
          (below_more (λ i. Promised i (slice_index_or (running.items ++ handle ∷ []) i h)) (length running.items)
          (λ i low. subst (Promised i) (sym (get_or_append_left running.items (handle ∷ []) h i low))
          (c.loop-worker.invariant.2 i h a (omega (arith, low, running.ok.0))))
          (subst (Promised (length running.items)) (sym (get_or_push running.items handle h (length running.items) refl)) here)
          k (omega (arith, less, pushed.len, running.ok.0))),
      c.loop-worker.invariant.3,
    )

pub returns-in-Err : goal.returns-in-Err
returns-in-Err g c = λ n few last.
    let held = c.loop-worker.invariant.0 in
    let left = into_iter_items c.next.new.self in
    let worker = c.in-Some.worker in
    let all = c.captures.workers.items in
    let parts = ap (λ xs. held.0 ++ xs) (sym c.in-Some.ensures.steps.0) ∙ held.1 ∙ c.into_iter-worker-iterator.ensures.into_iter_gives.0 in
    names_seat n (length all) (length held.0) c.plays-plays.result.worker
    (c.plays-plays.ensures.0 ∙ number_is all held.0 left worker parts c.requires.numbered) (place_low all held.0 left worker parts) few

pub returns-in-Ok-join_promised : goal.returns-in-Ok-join_promised
returns-in-Ok-join_promised g c =
    let held = c.loop-worker.invariant.0 in
    let workers = c.captures.workers.items in
    let given0 = c.into_iter-worker-iterator.ensures.into_iter_gives.0 in
    let works = c.in-Ok-join_promised.works in
    let rest = into_iter_items c.loop-worker.worker-iterator in
    let left : length rest ≡ 0 = sym c.loop-worker.worker-iterator.rest.ok.0 ∙ c.in-None.ensures.steps.0 in
    let all : c.loop-worker.running.len ≡ length workers =
    omega (arith, ap length held.1, length-append held.0 rest, left, held.2, ap length given0) in (
      record {
        many = omega (arith, works.ok.0, c.in-Ok-join_promised.ensures.len, all);
        each = λ k a s less.
            let low : k < c.loop-worker.running.len = omega (arith, less, all) in
            let at = c.in-Ok-join_promised.ensures.each k s low in
            let h = at.1.handle in
            let inv = c.loop-worker.invariant.2 k h a low in
            let worker : h.promise.worker ≡ k + 1 = ap (λ x. x.promise.worker) at.1.handle_is ∙ inv.0
            ∙ ap (λ xs. (slice_index_or xs k a).worker) given0 ∙ c.requires.numbered k a less in
            let client : h.promise.client.value ≡ (slice_index_or workers k a).client = ap (λ x. x.promise.client.value) at.1.handle_is
            ∙ inv.1 ∙ ap (λ xs. (slice_index_or xs k a).client) given0 in
            subst (λ x. IsPlayed (k + 1) (g.C.Client.talk x) (slice_index_or works.items k s)) client
            (subst (λ m. IsPlayed m (g.C.Client.talk h.promise.client.value) (slice_index_or works.items k s)) worker at.1.kept);
      },
      subst (λ o. IsObservedBy g.M.Monitor.sees g.S.StoreId.id.begun o None) (sym c.in_default.is ∙ c.loop-worker.invariant.3) refl,
    )

pub returns-in-Ok-joined : goal.returns-in-Ok-joined
returns-in-Ok-joined g c =
    let held = c.loop-worker.invariant.0 in
    let workers = c.captures.workers.items in
    let given0 = c.into_iter-worker-iterator.ensures.into_iter_gives.0 in
    let works = c.in-Ok-joined.works in
    let rest = into_iter_items c.loop-worker.worker-iterator in
    let left : length rest ≡ 0 = sym c.loop-worker.worker-iterator.rest.ok.0 ∙ c.in-None.ensures.steps.0 in
    let all : c.loop-worker.running.len ≡ length workers =
    omega (arith, ap length held.1, length-append held.0 rest, left, held.2, ap length given0) in (
      record {
        many = omega (arith, works.ok.0, c.in-Ok-joined.ensures.len, all);
        each = λ k a s less.
            let low : k < c.loop-worker.running.len = omega (arith, less, all) in
            let at = c.in-Ok-joined.ensures.each k s low in
            let h = at.1.handle in
            let inv = c.loop-worker.invariant.2 k h a low in
            let worker : h.promise.worker ≡ k + 1 = ap (λ x. x.promise.worker) at.1.handle_is ∙ inv.0
            ∙ ap (λ xs. (slice_index_or xs k a).worker) given0 ∙ c.requires.numbered k a less in
            let client : h.promise.client.value ≡ (slice_index_or workers k a).client = ap (λ x. x.promise.client.value) at.1.handle_is
            ∙ inv.1 ∙ ap (λ xs. (slice_index_or xs k a).client) given0 in
            subst (λ x. IsPlayed (k + 1) (g.C.Client.talk x) (slice_index_or works.items k s)) client
            (subst (λ m. IsPlayed m (g.C.Client.talk h.promise.client.value) (slice_index_or works.items k s)) worker at.1.kept);
      },
      let S = g.S.StoreId.id.begun in
          let sees = g.M.Monitor.sees in
          let h = c.in-Ok-spawn_scoped_with.handle in
          let o = c.join-observed.result in
          let observer = c.in-Some-observer.observer in
          let same : h.promise.observer.value ≡ observer = ap (λ p. p.observer.value) c.in-Ok-spawn_scoped_with.ensures.ok ∙ c.of.ensures in
          let seen : IsObserved sees S observer o = subst (λ x. IsObserved sees S x o) same c.join-observed.ensures in
          subst (λ x. IsObservedBy sees S x (Some o)) (sym c.in-Some-observer.is ∙ c.loop-worker.invariant.3) seen,
    )
