use Rattle.std.proofs.Common.{◌≡◌, Ok, subst}
use Rattle.qplain.specs.Setups.{in_edition}
use Rattle.qplain.specs.State.{start}
use Rattle.qrun_replay.specs.Replays.{IsReplayOf}
use Rattle.qrun_replay.specs.declared.outcome.Outcome.{Outcome}
use Rattle.qtext_files.specs.Journals.{journal_of}
use Rattle.qtool_files.specs.Held.{IsUnder}
use Rattle.qtool.specs.Under.{IsReplayUnder}
use Rattle.qtool.proofs.Results.{still_ok}
use Rattle.qtool.proofs.replaying.replay_of.Goals as goal

pub returns-clause-played : goal.returns-clause-played
returns-clause-played g c =
    let files = g.F.Files.held c.args.files.now in
    let journal = c.args.journal.now in
    let setting = c.in_ok-config.config.setup in
    let text = c.in_ok-text.text.items in
    let under : IsUnder files journal text = subst (λ f. IsUnder f journal text) c.in_ok-config.ensures.same c.in_ok-text.ensures.under in
    still_ok (λ (o : Outcome). (journal_of text ≡ Ok o.journal)
    × IsReplayOf (in_edition o.journal.edition setting) (start (in_edition o.journal.edition setting)) o.journal o)
    (IsReplayUnder files c.args.config.now journal) c.replay_text.result c.map_err.result _ _ c.map_err.ensures.cases c.map_err.ensures.variant
    (λ o is. record {
      setting = setting;
      config_is = c.in_ok-config.ensures.config;
      journal_is = record { text = text; under = under; says = is.0 };
      is = is.1;
    }) c.replay_text.ensures.outcome
