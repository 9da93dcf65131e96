use Rattle.std.proofs.Common.{◌≡◌, true, false, length, option_map, ap, subst, sym, ◌∙◌, arith}
use Rattle.std.proofs.lemmas.List.{length-map}
use Rattle.qaudit_checks.specs.LawfulBoards.{AreLawful, boards_in}
use Rattle.qshare_history.specs.Moments.{NeverFalls}
use Rattle.qrun_replay.specs.Runs.{IsServiceOf}
use Rattle.qrun.specs.Observers.{seat_in}
use Rattle.qrun.proofs.Ended.{all_shares_there, handed_in_by, has_ended, looks_lawful, staff_fits, works_placed}
use Rattle.qrun.proofs.Naming.{fault_of_any, names_on}
use Rattle.qrun.proofs.Observing.{monitor_shown}
use Rattle.qrun.proofs.ending.play_and_end.Goals as goal

pub returns-in_err-works-clause-fault : goal.returns-in_err-works-clause-fault
returns-in_err-works-clause-fault g c =
    let parts = g.S.StoreId.id.counters.parts in
    let workers = c.in_ok-workers.workers.items in
    let fits = staff_fits g.S.StoreId.id.setting (length c.args.crew) parts c.args.seats.items (option_map seat_in c.args.observer)
    c.requires.staff in
    names_on parts c.from_residual-in_err-works.result c.in_err-works.field-0.0 c.from_residual-in_err-works.ensures.1
    (c.in_err-works.ensures parts
    (omega (arith, fits.0, ap length c.in_ok-workers.ensures.clients_are, length-map workers (λ p. p.client))) fits.1)

pub make_outcome-requires-clause-again : goal.make_outcome-requires-clause-again
make_outcome-requires-clause-again g c =
    let at = handed_in_by g.C.Client.talk g.M.Monitor.sees _ _ _ _ _ _ _ _ _ _ _ _ c.requires.staff c.in_ok-workers.ensures.clients_are
    c.in_ok-works.ensures c.in_ok-own.ensures.shares c.part_observed-watch.ensures.watch c.in_ok-shares.ensures.shares in
    let kept = ap length c.in_ok-shares.ensures.looks ∙ at.kept in
    rw (c.in-Ok.ensures.begun, kept) c.requires.again

pub make_outcome-requires-clause-worked : goal.make_outcome-requires-clause-worked
make_outcome-requires-clause-worked g c =
    let looks = c.in_ok-shares.looks.items in
    let journal = c.in-Ok.store.journal in
    let at = handed_in_by g.C.Client.talk g.M.Monitor.sees _ _ _ _ _ _ _ _ _ _ _ _ c.requires.staff c.in_ok-workers.ensures.clients_are
    c.in_ok-works.ensures c.in_ok-own.ensures.shares c.part_observed-watch.ensures.watch c.in_ok-shares.ensures.shares in
    record {
      edition = ap (λ s. s.edition) c.in-Ok.ensures.setting ∙ c.requires.staff.can.edition;
      told = (works_placed _ _ _ _ _ _ _ _ _ _ at journal c.in-Ok.ensures.end.seen (ap (λ t. t.calls) c.in-Ok.ensures.end.tally)
          c.in-Ok.ensures.end.played.few c.in_ok-own.answered.items c.in_ok-own.ensures.answered).0;
      lawful = subst (λ S. AreLawful S journal (boards_in looks)) (sym c.in-Ok.ensures.begun)
          (looks_lawful _ _ _ _ _ _ _ _ _ _ at journal c.in-Ok.ensures.end.seen looks c.in_ok-shares.ensures.looks);
    }

pub returns-in_err-outcome-in-Ok-clause-fault : goal.returns-in_err-outcome-in-Ok-clause-fault
returns-in_err-outcome-in-Ok-clause-fault g c =
    let fault = c.in_err-outcome-in-Ok.field-0.0 in
    names_on g.S.StoreId.id.counters.parts c.from_residual-in_err-outcome-in-Ok.result fault c.from_residual-in_err-outcome-in-Ok.ensures.1
    (fault_of_any g.S.StoreId.id.counters.parts fault c.in_err-outcome-in-Ok.ensures.fault)

pub unreachable-requires : goal.unreachable-requires
unreachable-requires g c =
    let at = handed_in_by g.C.Client.talk g.M.Monitor.sees _ _ _ _ _ _ _ _ _ _ _ _ c.requires.staff c.in_ok-workers.ensures.clients_are
    c.in_ok-works.ensures c.in_ok-own.ensures.shares c.part_observed-watch.ensures.watch c.in_ok-shares.ensures.shares in
    let wrong : false ≡ true = c.in-Err.ensures.all (all_shares_there _ _ _ _ _ _ _ _ _ _ at) in
    absurd cc

pub returns-clause-played : goal.returns-clause-played
returns-clause-played g c =
    let at = handed_in_by g.C.Client.talk g.M.Monitor.sees _ _ _ _ _ _ _ _ _ _ _ _ c.requires.staff c.in_ok-workers.ensures.clients_are
    c.in_ok-works.ensures c.in_ok-own.ensures.shares c.part_observed-watch.ensures.watch c.in_ok-shares.ensures.shares in
    let journal = c.in-Ok.store.journal in
    let seen = c.in-Ok.ensures.end.seen in
    let counted = ap (λ t. t.calls) c.in-Ok.ensures.end.tally in
    let few = c.in-Ok.ensures.end.played.few in
    let outcome = c.in_ok-outcome-in-Ok.outcome in
    let told = c.in_ok-outcome-in-Ok.ensures.told in
    record {
      ended = has_ended _ _ _ _ _ _ _ _ _ _ at journal seen counted few c.in_ok-own.left.items c.in_ok-shares.looks.items outcome
          (subst (λ s. IsServiceOf s g.S.StoreId.id.begun outcome) c.in-Ok.ensures.setting
          (subst (λ S. IsServiceOf c.in-Ok.store.setting S outcome) c.in-Ok.ensures.begun c.in_ok-outcome-in-Ok.ensures.outcome))
          (told.0 ∙ (works_placed _ _ _ _ _ _ _ _ _ _ at journal seen counted few c.in_ok-own.answered.items c.in_ok-own.ensures.answered).1)
          c.in_ok-own.ensures.left c.in_ok-shares.ensures.looks told.1;
      shown = monitor_shown g.M.Monitor.sees g.S.StoreId.id.begun journal _ _ _ _ c.args.observer _ _ c.in_ok-works.ensures.1
          c.part_observed-watch.ensures.watch c.part_observed-watch.ensures.left c.in_ok-shares.ensures.shares seen told.2;
      moments = λ rules. subst NeverFalls (sym told.2) (c.in-Ok.ensures.end.moments rules);
    }
