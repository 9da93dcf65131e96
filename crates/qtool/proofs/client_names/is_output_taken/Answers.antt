use Rattle.std.proofs.Common.{◌≡◌, ◌==◌, false, length}
use Rattle.qtool.proofs.Serving.{taken_of}
use Rattle.qtool.proofs.client_names.is_output_taken.Goals as goal

pub returns-else-is_empty : goal.returns-else-is_empty
returns-else-is_empty c =
    let some : (length c.args.clients.now == 0) ≡ false = cc in
    rw (taken_of c.args.clients.now, some) c.is_any_to_standard.ensures
