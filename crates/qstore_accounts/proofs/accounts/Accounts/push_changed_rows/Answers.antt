use Rattle.std.proofs.Common.{◌≡◌, ◌+◌, List, ◌++◌, append_assoc, length, ap, subst, ◌∙◌}
use Rattle.qrules.specs.declared.kind.Kind.TheVariants.{Group, Project}
use Rattle.qplain.specs.declared.placed_row.PlacedRow.{PlacedRow}
use Rattle.qstore_accounts.specs.Boards.{ArePut}
use Rattle.qstore_accounts.specs.Kept.{books_of}
use Rattle.qstore_accounts.proofs.Boards.{changed-billed}
use Rattle.qstore_accounts.proofs.accounts.Accounts.push_changed_rows.Goals as goal

-- one more list after others
after : (rows longer most a b : List PlacedRow) → longer ≡ rows ++ a → most ≡ longer ++ b → most ≡ rows ++ (a ++ b)
after rows longer most a b first second = second ∙ ap (λ l. l ++ b) first ∙ append_assoc rows a b

pub returns : goal.returns
returns c =
    let x = c.args in
    let b = books_of c.self.inside in
    let us = c.push_changes.ensures.rows in
    let gs = c.push_changes-2.ensures.rows in
    let ps = c.push_changes-3.ensures.rows in
    let users = c.len-users.ensures in
    let groups : c.len-users.result + c.len.result ≡ length b.users + length b.groups = λ i. users i + c.len.ensures i in
    rw (← c.self.view_is) (λ S S1 old new. record {
      placed = us.0 ++ (gs.0 ++ ps.0);
      behind = after _ _ _ us.0 (gs.0 ++ ps.0) us.1 (after _ _ _ gs.0 ps.0 gs.1 ps.1);
      are = changed-billed b x.bill.now (rw c.self.view_is c.requires.placed) us.0 gs.0 ps.0 us.2
          (subst (λ n. ArePut b.groups Group n b.graces x.bill.now.moment x.bill.now.groups gs.0) users gs.2)
          (subst (λ n. ArePut b.projects Project n b.graces x.bill.now.moment x.bill.now.projects ps.0) groups ps.2) S S1 c.self.invariant.0 old new;
    })
