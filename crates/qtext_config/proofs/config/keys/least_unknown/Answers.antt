use Rattle.std.proofs.Common.{◌≡◌, []}
use Rattle.std.proofs.lemmas.Grind.{common_steps}
use Rattle.std.proofs.Common.{arith}
use Rattle.qtext_config.proofs.ConfigKeyLaws.{keys_of-members_view}
use Rattle.qtext_config.proofs.config.keys.least_unknown.Goals as goal

pub returns : goal.returns
returns c =
    let none : c.loop-key.key-iterator ≡ [] = grind (arith, common_steps) in
    rw (keys_of-members_view c.args.table.now.entries) (rw none at c.loop-key.invariant)
