use Rattle.std.proofs.Common.{◌≡◌, ◌<◌, length, map, IfOk, subst, arith, tests}
use Rattle.qtool.specs.ClientNames.{terms_in}
use Rattle.qtool.proofs.Serving.{terms_of_all}
use Rattle.qtool.proofs.client_names.names_of.Goals as goal

pub returns-then-not-is_empty-clause-terms : goal.returns-then-not-is_empty-clause-terms
returns-then-not-is_empty-clause-terms c =
    let some : 0 < length c.args.clients.now = grind (arith, tests) in
    subst (λ terms. IfOk c.named.result (λ names. map terms_in names.items ≡ terms)) (terms_of_all c.args.told c.args.clients.now some)
    c.named.ensures
