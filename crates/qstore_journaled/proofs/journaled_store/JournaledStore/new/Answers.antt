use Rattle.std.proofs.Common.{ap, ◌∙◌}
use Rattle.qplain.specs.State.{start}
use Rattle.qstore_journaled.proofs.Journaling.{new_state}
use Rattle.qstore_journaled.proofs.journaled_store.JournaledStore.new.Goals as goal

pub over-requires : goal.over-requires
over-requires c =
    new_state c.args.setup c.in_ok-store.store.state c.always_lawful.ensures (c.in_ok-store.ensures ∙ ap start c.in_ok-copy.ensures)
