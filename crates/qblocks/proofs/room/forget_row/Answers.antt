use Rattle.qblocks.proofs.Freed.{same_without, unused_is_out}
use Rattle.qblocks.proofs.room.forget_row.Goals as goal

pub returns-then-is_vacant-clause-same : goal.returns-then-is_vacant-clause-same
returns-then-is_vacant-clause-same c =
    same_without c.args.rows.now c.remove-row.new.self c.args.r (c.is_vacant.ensures.vacant c.if-is_vacant.true) c.remove-row.ensures.updates

pub returns-then-is_vacant-clause-used : goal.returns-then-is_vacant-clause-used
returns-then-is_vacant-clause-used c =
    unused_is_out c.args.rows.now c.remove-row.new.self c.args.r (c.is_vacant.ensures.vacant c.if-is_vacant.true) c.remove-row.ensures.updates
