use Rattle.std.proofs.Common.{◌≡◌, length, map, string_bytes, subst}
use Rattle.qplain.specs.State.{start}
use Rattle.qrun_replay.specs.Runs.{IsOutcomeOf}
use Rattle.qrun_replay.specs.declared.outcome.Outcome.{Outcome}
use Rattle.qtool.specs.Under.{AreScriptsUnder, IsRunUnder}
use Rattle.qtool.proofs.Results.{both_ok, still_ok}
use Rattle.qtool.proofs.running.run_of.Goals as goal

pub returns-clause-ran : goal.returns-clause-ran
returns-clause-ran g c =
    let files = g.F.Files.held c.args.files.now in
    let names = map (λ n. string_bytes n) c.args.names.now in
    let boards = c.args.options.boards in
    let setting = c.in_ok-config.config.setup in
    let lines = c.in_ok-scripts.scripts.items in
    let found = c.run_with-outcome.result in
    let scripts : AreScriptsUnder files names lines =
    subst (λ f. AreScriptsUnder f names lines) c.in_ok-config.ensures.same c.in_ok-scripts.ensures.scripts in
    still_ok (λ (o : Outcome). IsOutcomeOf setting (start setting) lines o × (length o.boards ≡ boards))
    (IsRunUnder files c.args.config.now names boards) found c.map_err-2.result _ _ c.map_err-2.ensures.cases c.map_err-2.ensures.variant
    (λ o is. record {
      setting = setting;
      scripts = lines;
      config_is = c.in_ok-config.ensures.config;
      scripts_are = scripts;
      is = is.0;
      looks = is.1;
    }) (both_ok (λ o. IsOutcomeOf setting (start setting) lines o) (λ o. length o.boards ≡ boards) found
    c.run_with-outcome.ensures.outcome c.run_with-outcome.ensures.looks)
