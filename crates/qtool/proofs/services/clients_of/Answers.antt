use Rattle.std.proofs.Common.{[], ◌∷◌, ◌∙◌, All, length, map, ap, sym, subst, length-append, arith}
use Rattle.std.proofs.lemmas.List.{take_all}
use Rattle.std.proofs.lemmas.List.Elements.{All-push}
use Rattle.qrun_worker.specs.Work.{IsNewClient}
use Rattle.qtext_client.specs.Conversations.{Progress}
use Rattle.qtool.specs.ClientNames.{terms_in, terms_of_client}
use Rattle.qtool.proofs.Keeping.{served_more}
use Rattle.qtool.proofs.services.clients_of.Goals as goal

pub loop-names-preserved : goal.loop-names-preserved
loop-names-preserved g c =
    let pushed = c.in_ok-push.ensures.items in
    let before = c.loop-names.clients.items in
    let client = c.in_ok-client.client in
    let New : Progress → Type 0 = λ p. IsNewClient p.owed p.stands in record {
      many = omega (arith, ap length pushed, length-append before (client ∷ []), c.loop-names.invariant.many);
      new = subst (All New) (sym pushed) (All-push New before client c.loop-names.invariant.new c.in_ok-client.ensures.new);
      terms = ap (map terms_of_client) pushed
          ∙ served_more terms_in before c.args.names.now c.loop-names.names-index c.names-item.result client c.loop-names-test.true c.loop-names.invariant.terms
          (c.in_ok-client.ensures.terms ∙ ap terms_in c.names-item.is);
    }

pub returns-clause-terms : goal.returns-clause-terms
returns-clause-terms g c = rw (take_all _ _ c.loop-names-test.false) at c.loop-names.invariant.terms
