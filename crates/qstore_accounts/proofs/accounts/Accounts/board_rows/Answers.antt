use Rattle.std.proofs.Common.{List, ◌++◌, append_assoc, map, ap, ◌∙◌}
use Rattle.qrules.specs.declared.board_row.BoardRow.{BoardRow}
use Rattle.qrules.specs.declared.kind.Kind.TheVariants.{User, Group, Project}
use Rattle.qstore_accounts.specs.Boards.{board_row_of}
use Rattle.qstore_accounts.proofs.Boards.{rows-of-books}
use Rattle.qstore_accounts.proofs.accounts.Accounts.board_rows.Goals as goal

pub returns : goal.returns
returns c = rw (← c.self.view_is) (λ S books.
    let a = c.self.inside in
    let us : List BoardRow = map (board_row_of User) a.users in
    let gs : List BoardRow = map (board_row_of Group) a.groups in
    let ps : List BoardRow = map (board_row_of Project) a.projects in
    c.in_ok-push_board_rows-3.ensures
    ∙ ap (λ rows. rows ++ ps) (c.in_ok-push_board_rows-2.ensures
    ∙ ap (λ rows. rows ++ gs) (c.in_ok-push_board_rows.ensures
    ∙ ap (λ rows. rows ++ us) c.new-rows.ensures.items))
    ∙ append_assoc us gs ps
    ∙ rows-of-books S _ books)
