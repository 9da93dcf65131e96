use Rattle.qtext.proofs.Fronts.{appends_then, refused_last}
use Rattle.qtool_files.proofs.Flushes.{refused_at_the_flush}
use Rattle.qtool_files.proofs.counted_board.finish_board.Goals as goal

pub returns-in_err-put_service : goal.returns-in_err-put_service
returns-in_err-put_service g c =
    refused_last _ _ _ _ _ _ c.from_residual-in_err-put_service.ensures.0 c.in_ok-put.ensures c.in_err-put_service.ensures

pub returns-then-is_err : goal.returns-then-is_err
returns-then-is_err g c =
    refused_at_the_flush _ _ _ _ (appends_then _ _ _ _ _ c.in_ok-put.ensures c.in_ok-put_service.ensures) c.flush.ensures.bytes
