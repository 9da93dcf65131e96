use Rattle.std.proofs.Common.{◌≡◌, ◌+◌, ◌<◌, ◌≤◌, ◌==◌, ℕ, Bool, true, false, cond, length, ap, refl, subst, sym, ◌∙◌, arith}
use Rattle.std.proofs.lemmas.Bool.{eqb-false}
use Rattle.std.proofs.lemmas.List.{length-map}
use Rattle.qshare.specs.declared.opening.TheConstants.{MAX_SEATS}
use Rattle.qrun.specs.declared.options.Options.{Options}
use Rattle.qrun.specs.Crews.{CanRun, new_client}
use Rattle.qrun.specs.Looking.{lookers_in}
use Rattle.qrun.specs.RunFaults.{IsFaultOf}
use Rattle.qrun.specs.Watching.{seats_for}
use Rattle.qrun.proofs.Ended.{all_new, run_ended}
use Rattle.qrun.proofs.Naming.{names_on}
use Rattle.qrun.proofs.runs.run_scripts.Goals as goal

-- there is a seat for each script, and one more beside boards
seats_fit : (scripts : ℕ) (options : Options) → CanRun scripts options → seats_for scripts options.boards ≤ MAX_SEATS
seats_fit scripts options can = by (options.boards == 0) refl
  where
    by : (none : Bool) → (options.boards == 0) ≡ none → cond none scripts (scripts + 1) ≤ MAX_SEATS
    by true is = can.few
    by false is =
        let some : 0 < options.boards = omega (arith, eqb-false options.boards 0 is) in
        omega (arith, can.watcher some)

pub new-crew-requires-clause-new : goal.new-crew-requires-clause-new
new-crew-requires-clause-new g c κs within = all_new c.args.scripts.items c.in_ok-clients_of.field-0.items c.in_ok-clients_of.ensures

pub returns-in_err-played-clause-fault : goal.returns-in_err-played-clause-fault
returns-in_err-played-clause-fault g c =
    let scripts = c.args.scripts.items in
    let fault = c.in_err-played.field-0.0 in
    let many : length c.new-crew.result ≡ length scripts =
    ap length (c.new-crew.ensures ∙ c.in_ok-clients_of.ensures.clients_are) ∙ length-map scripts new_client in
    names_on (seats_for (length scripts) c.args.options.boards) c.from_residual-in_err-played.result fault
    c.from_residual-in_err-played.ensures.1
    (subst (λ n. IsFaultOf n fault)
    (ap (λ m. seats_for m (lookers_in c.times-looking.result)) many ∙ c.times-looking.ensures.seats (length scripts))
    c.in_err-played.ensures.fault)

pub returns-clause-outcome : goal.returns-clause-outcome
returns-clause-outcome g c =
    run_ended c.args.beginning.store.setting _ c.args.scripts.items c.in_ok-clients_of.field-0.items _ _ _ c.in_ok-played.played.outcome
    c.in_ok-clients_of.ensures c.new-crew.ensures c.in_ok-played.ensures.played.ended

pub play_on-requires-clause-begun : goal.play_on-requires-clause-begun
play_on-requires-clause-begun g c κs within = rw c.times-looking.ensures.looks c.requires.begun

pub play_on-requires-clause-can : goal.play_on-requires-clause-can
play_on-requires-clause-can g c κs within =
    let scripts = c.args.scripts.items in
    let boards = c.args.options.boards in
    let many : length c.new-crew.result ≡ length scripts =
    ap length (c.new-crew.ensures ∙ c.in_ok-clients_of.ensures.clients_are) ∙ length-map scripts new_client in
    let seats : seats_for (length c.new-crew.result) (lookers_in c.times-looking.result) ≡ seats_for (length scripts) boards =
    c.times-looking.ensures.seats (length c.new-crew.result) ∙ ap (λ n. seats_for n boards) many in (
      record {
        edition = c.requires.edition;
        some = omega (arith, many, c.requires.can.some);
        few = subst (λ n. n ≤ MAX_SEATS) (sym seats) (seats_fit (length scripts) c.args.options c.requires.can);
      },
      λ e. e,
    )
