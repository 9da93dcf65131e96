use Rattle.qrun_client.specs.declared.client.ClientEnd.TheVariants.{Output}
use Rattle.qtext_client.proofs.Talked.{gone_after}
use Rattle.qtext_client.proofs.connection.Connection.stop.Goals as goal

pub returns-then-let_all_out : goal.returns-then-let_all_out
returns-then-let_all_out g c = gone_after c.args.end _ c.let_all_out.new.self _ c.requires c.let_all_out.ensures c.end.ensures

pub returns-else-let_all_out : goal.returns-else-let_all_out
returns-else-let_all_out g c = gone_after Output _ c.let_all_out.new.self _ (λ is. absurd cc) c.let_all_out.ensures c.end-else-let_all_out.ensures
