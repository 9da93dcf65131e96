use Rattle.std.proofs.Common.{[], ◌++◌, ap, sym, ◌∙◌}
use Rattle.qshare.proofs.opening.Opened.on_demand.Goals as goal

-- nothing is published of a new store
pub with_boards-requires : goal.with_boards-requires
with_boards-requires g c =
    ([], ap (λ es. es ++ []) c.in_ok-publisher.ensures.publisher ∙ sym c.locked-locked.ensures.store.1)
