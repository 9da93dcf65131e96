use Rattle.std.proofs.Common.{subst}
use Rattle.std.specs.List.{AllPairs}
use Rattle.qstore.specs.Kept.{state_of}
use Rattle.qstore.specs.Rows.{StandsBefore}
use Rattle.qstore.specs.Stored.{Stored}
use Rattle.qstore.proofs.Listed.{on_ok}
use Rattle.qstore.proofs.store.Store.record_rows.Goals as goal

pub returns-clause-by_id : goal.returns-clause-by_id
returns-clause-by_id c =
    on_ok c.rows.result _ _ c.rows.ensures.by_id (λ all.
    subst (λ (s : Stored). AllPairs StandsBefore s.state.holders) c.self.view_is (all (state_of c.self.inside) c.self.invariant.books))
