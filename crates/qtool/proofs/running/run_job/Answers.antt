use Rattle.std.proofs.Common.{◌∙◌, map, subst}
use Rattle.std.specs.Option.{option_map}
use Rattle.std.specs.Prelude.{string_bytes}
use Rattle.qtool.specs.Under.{IsRunUnder}
use Rattle.qtool.proofs.Printing.{prints_run}
use Rattle.qtool.proofs.Results.{was_ok}
use Rattle.qtool.proofs.running.run_job.Goals as goal

pub returns-in-Ok-clause-printed : goal.returns-in-Ok-clause-printed
returns-in-Ok-clause-printed g c =
    let run = c.args.run.now in
    let config = string_bytes run.config in
    let outcome = c.in_ok-outcome.outcome in
    let scripts = map (λ n. string_bytes n) run.scripts.items in
    let ran = rw (c.as_str-config.ensures.value, c.as_slice-scripts.ensures.value) at c.run_of.ensures.ran in
    let found = was_ok (IsRunUnder _ config scripts run.boards) c.run_of.result c.map_err-2.result outcome _ _ c.in_ok-outcome.was
    c.map_err-2.ensures.cases c.map_err-2.ensures.variant ran in
    prints_run config scripts run.boards run.telling (option_map (λ n. string_bytes n) run.journal)
    (option_map (λ n. string_bytes n) run.save) outcome c.in-Ok.status _ _ _ _ _
    (subst (λ f. IsRunUnder f config scripts run.boards outcome) c.test_saved.ensures.same found)
    (c.run_of.ensures.same ∙ c.test_saved.ensures.same) c.in-Ok.ensures.told
    (rw (c.optional.ensures, c.optional-2.ensures) at c.in-Ok.ensures.saved)
    (rw (c.optional.ensures, c.optional-2.ensures) at c.in-Ok.ensures.again)
    (rw (c.optional.ensures, c.optional-2.ensures) at c.in_default.ensures.apart)
