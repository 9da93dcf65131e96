use Rattle.std.proofs.Common.{List, ◌++◌, append_assoc, map, sym, ap, subst, ◌∙◌}
use Rattle.std.specs.List.{AllPairs}
use Rattle.qrules.specs.declared.kind.Kind.TheVariants.{User, Group, Project}
use Rattle.qrules.proofs.Ranks.{each_kind}
use Rattle.qrules.specs.declared.record_row.RecordRow.{RecordRow}
use Rattle.qstore_accounts.specs.KeptHolders.{AreById}
use Rattle.qstore_accounts.specs.Books.{ledger_in}
use Rattle.qstore_accounts.specs.Kept.{books_of}
use Rattle.qstore_accounts.specs.Ledgers.{holder_row}
use Rattle.qstore_accounts.specs.Rows.{StandsBefore, record_row_of}
use Rattle.qstore_accounts.proofs.Counted.{all-rows}
use Rattle.qstore_accounts.proofs.RecordOrder.{in_order-holders}
use Rattle.qstore_accounts.proofs.accounts.Accounts.rows.Goals as goal

pub returns-clause-rows : goal.returns-clause-rows
returns-clause-rows c = rw (← c.self.view_is) (λ S books.
    let a = c.self.inside in
    let us : List RecordRow = map (holder_row User) a.users in
    let gs : List RecordRow = map (holder_row Group) a.groups in
    let ps : List RecordRow = map (holder_row Project) a.projects in
    c.in_ok-push_rows-3.ensures.rows
    ∙ ap (λ rows. rows ++ ps) (c.in_ok-push_rows-2.ensures.rows
    ∙ ap (λ rows. rows ++ gs) (c.in_ok-push_rows.ensures.rows
    ∙ ap (λ rows. rows ++ us) c.new-rows.ensures.items))
    ∙ append_assoc us gs ps
    ∙ all-rows S (λ kind. ledger_in kind (books_of a)) books.counted
    ∙ ap (map (record_row_of S)) (sym books.holders))

pub returns-clause-by_id : goal.returns-clause-by_id
returns-clause-by_id c = rw (← c.self.view_is) (λ S books.
    let b = books_of c.self.inside in
    subst (AllPairs StandsBefore) (sym books.holders)
    (in_order-holders (λ kind. ledger_in kind b) (each_kind (λ kind. AreById (ledger_in kind b))
    c.in_ok-push_rows.ensures.by_id c.in_ok-push_rows-2.ensures.by_id c.in_ok-push_rows-3.ensures.by_id)))
