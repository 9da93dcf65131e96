use Rattle.std.proofs.Common.{◌+◌, ◌++◌, ◌∷◌, [], map, ap, sym, ◌∙◌, arith}
use Rattle.std.specs.List.{range_with_len}
use Rattle.std.proofs.lemmas.List.FromFn.{map-range_with_len_more}
use Rattle.qrun_replay.specs.Replays.{answered_in}
use Rattle.qrun_replay.proofs.replays.all_answered.Goals as goal

pub loop-before-preserved : goal.loop-before-preserved
loop-before-preserved c =
    let each = answered_in c.entries-entries.result.now in
    c.in_ok-push.ensures.items ∙ ap (λ all. all ++ c.in_ok-answered_of.field-0 ∷ []) c.loop-before.invariant
    ∙ ap (λ a. map each (range_with_len 1 c.loop-before.before) ++ a ∷ []) c.in_ok-answered_of.ensures
    ∙ sym (map-range_with_len_more each 1 c.loop-before.before (c.loop-before.before + 1) (omega arith))
