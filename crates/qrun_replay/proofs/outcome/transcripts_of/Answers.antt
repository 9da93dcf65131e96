use Rattle.std.proofs.Common.{[], ◌∷◌, ◌++◌, All, map, ap, refl, subst, sym, ◌∙◌, append_assoc, arith}
use Rattle.std.proofs.lemmas.List.{map_push}
use Rattle.std.proofs.lemmas.List.Elements.{All-head, All-tail}
use Rattle.std.specs.Vec.Iter.{into_iter_items}
use Rattle.qrun_replay.specs.Placed.{HoldsPlaces, transcript_from}
use Rattle.qrun_replay.proofs.outcome.transcripts_of.Goals as goal

pub new-requires : goal.new-requires
new-requires c =
    let journal = c.args.journal.now.entries in
    let left = subst (All (HoldsPlaces journal)) c.in-Some.ensures.steps.0 c.loop-one.invariant.1 in
    rw c.in_ok-shared.ensures (All-head (HoldsPlaces journal) c.in-Some.one (into_iter_items c.next.new.self) left)

pub loop-one-preserved : goal.loop-one-preserved
loop-one-preserved c =
    let journal = c.args.journal.now.entries in
    let one = c.in-Some.one in
    let rest = into_iter_items c.next.new.self in
    let so_far = c.loop-one.invariant.0 in
    let left = c.in-Some.ensures.steps.0 in
    let pushed = c.push_reserved.ensures in (
      (
        so_far.0 ++ one ∷ [],
        append_assoc so_far.0 (one ∷ []) rest ∙ ap (λ xs. so_far.0 ++ xs) (sym left) ∙ so_far.1,
        pushed.items ∙ ap (λ ts. ts ++ c.new.result ∷ []) so_far.2
            ∙ ap (λ t. map (transcript_from journal) so_far.0 ++ t ∷ []) (c.new.ensures ∙ rw c.in_ok-shared.ensures refl)
            ∙ sym (map_push (transcript_from journal) so_far.0 one),
      ),
      All-tail (HoldsPlaces journal) one rest (subst (All (HoldsPlaces journal)) left c.loop-one.invariant.1),
      omega (arith, pushed.len, pushed.capacity, c.in-Some.ensures.steps.1, c.loop-one.invariant.2),
    )
