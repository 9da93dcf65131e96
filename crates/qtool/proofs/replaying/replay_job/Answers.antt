use Rattle.std.proofs.Common.{◌∙◌, subst}
use Rattle.std.specs.Option.{option_map}
use Rattle.std.specs.Prelude.{string_bytes}
use Rattle.qtool.specs.Under.{IsReplayUnder}
use Rattle.qtool.proofs.Printing.{prints_replay}
use Rattle.qtool.proofs.Results.{was_ok}
use Rattle.qtool.proofs.replaying.replay_job.Goals as goal

pub returns-in-Ok-clause-printed : goal.returns-in-Ok-clause-printed
returns-in-Ok-clause-printed g c =
    let replay = c.args.replay.now in
    let config = string_bytes replay.config in
    let journal = string_bytes replay.journal in
    let outcome = c.in_ok-outcome.outcome in
    let played = rw (c.as_str-config.ensures.value, c.as_str-journal.ensures.value) at c.replay_of.ensures.played in
    let found = was_ok (IsReplayUnder _ config journal) c.replay_of.result c.map_err-3.result outcome _ _ c.in_ok-outcome.was
    c.map_err-3.ensures.cases c.map_err-3.ensures.variant played in
    prints_replay config journal replay.telling (option_map (λ n. string_bytes n) replay.save) outcome c.in-Ok.status _ _ _ _ _
    (subst (λ f. IsReplayUnder f config journal outcome) c.test_replayed.ensures found)
    (c.replay_of.ensures.same ∙ c.test_replayed.ensures) c.in-Ok.ensures.told
    (rw c.optional.ensures at c.in-Ok.ensures.saved) (rw c.optional.ensures at c.in-Ok.ensures.again)
