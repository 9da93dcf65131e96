use Rattle.std.proofs.Common.{arith, ◌<◌, ◌^◌}
use Rattle.std.proofs.lemmas.List.Elements.{All-from_get_or, recursion_from_All}
use Rattle.qtext_write.proofs.caller_text.put_groups.Goals as goal

pub returns-clause-held : goal.returns-clause-held
returns-clause-held c =
    let groups = c.args.groups.now in
    recursion_from_All (λ g. g < 2 ^ 32) groups (All-from_get_or (λ g. g < 2 ^ 32) groups 0 (λ i _. let fits = c.type_inv.groups i in omega arith))
