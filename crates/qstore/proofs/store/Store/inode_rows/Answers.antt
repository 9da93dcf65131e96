use Rattle.std.proofs.Common.{map, ap, ◌∙◌}
use Rattle.qstore.specs.Rows.{inode_row_of}
use Rattle.qstore.specs.Stored.{Stored}
use Rattle.qstore.proofs.Listed.{few-blocks, inode-rows-counted, rows-where}
use Rattle.qstore.proofs.store.Store.inode_rows.Goals as goal

pub inode_rows-requires : goal.inode_rows-requires
inode_rows-requires c = few-blocks c.self.invariant

pub returns-clause-rows : goal.returns-clause-rows
returns-clause-rows c =
    let seen = λ (s : Stored). map (inode_row_of s.state) s.state.inodes in
    rows-where (λ rows. rows.items) c.inode_rows.result _ _ (seen c.args.self.now) c.inode_rows.ensures.rows c.inode_rows.ensures.by_number
    (λ sorted. inode-rows-counted c.self.invariant sorted ∙ ap seen c.self.view_is)
