use Rattle.qtool_runs.proofs.Hosts.{are_alike, begin_alike}
use Rattle.qtool_runs.proofs.replicas.hosts_agree.Goals as goal

pub returns-clause-alike : goal.returns-clause-alike
returns-clause-alike c = are_alike

pub returns-clause-begin : goal.returns-clause-begin
returns-clause-begin c = begin_alike
