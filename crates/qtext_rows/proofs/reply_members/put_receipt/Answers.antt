use Rattle.std.proofs.Common.{codes, decimal}
use Rattle.qtext_rows.specs.Values.{member}
use Rattle.qtext_rows.specs.Replies.{reply_members}
use Rattle.qtext.proofs.Fronts.{refused_first}
use Rattle.qtext_rows.proofs.reply_members.put_receipt.Goals as goal

pub returns-in_err-put_place : goal.returns-in_err-put_place
returns-in_err-put_place g c = refused_first _ _ _ (member (codes "place") (decimal c.args.place))
    (reply_members c.args.reply.now) c.from_residual.ensures.0 c.in_err-put_place.ensures
