use Rattle.std.proofs.Common.{◌∷◌, codes, decimal}
use Rattle.qtext_write.proofs.Regrouped.{ten_parts}
use Rattle.qtext_write.proofs.reply_text.put_done.Goals as goal

pub returns-clause-text : goal.returns-clause-text
returns-clause-text c =
    let change = c.args.change.now in
    rw (
      c.number-4.ensures.text,
      c.text-5.ensures.text,
      c.number-3.ensures.text,
      c.text-4.ensures.text,
      c.number-2.ensures.text,
      c.text-3.ensures.text,
      c.number.ensures.text,
      c.text-2.ensures.text,
      c.field.ensures.text,
      c.text.ensures.text,
    )
    (ten_parts c.args.line.now (codes "done") (32 ∷ decimal c.args.number) (codes " blocks +")
    (decimal change.blocks_charged) (codes " -") (decimal change.blocks_released) (codes " inodes +")
    (decimal change.inodes_charged) (codes " -") (decimal change.inodes_released))
