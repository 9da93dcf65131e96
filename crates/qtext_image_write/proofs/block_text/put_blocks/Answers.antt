use Rattle.std.proofs.Common.{sym, ◌∙◌}
use Rattle.std.proofs.lemmas.List.Elements.{All-nil}
use Rattle.qtext.proofs.Fronts.{ends_refused, partly_at_first, partly_done, partly_next}
use Rattle.qtext_image_write.proofs.BlocksLeft.{all_left, fewer_left, held_left, lines_left, none_left}
use Rattle.qtext_image_write.proofs.block_text.put_blocks.Goals as goal

pub loop-index-init : goal.loop-index-init
loop-index-init g c = record {
  written = rw (all_left c.args.file.now.file.allocated) (partly_at_first _ _);
  held = λ all. rw (all_left c.args.file.now.file.allocated) at all;
}

pub returns-in_err-put_block-clause-writes : goal.returns-in_err-put_block-clause-writes
returns-in_err-put_block-clause-writes g c =
    let found = c.next_allocated.ensures in
    ends_refused _ _ _ _ _ _ _ _ c.from_residual.ensures.0 c.loop-index.invariant.written
    c.in_err-put_block.ensures.writes (lines_left _ _ _ c.in-Some.is c.args.file.now.file found.in_order found.next)

pub loop-index-smaller : goal.loop-index-smaller
loop-index-smaller g c =
    let found = c.next_allocated.ensures in
    fewer_left _ _ _ c.in-Some.is c.args.file.now.file.allocated found.in_order found.next

pub loop-index-preserved : goal.loop-index-preserved
loop-index-preserved g c =
    let found = c.next_allocated.ensures in
    let file = c.args.file.now.file in
    record {
      written = partly_next _ _ _ _ _ _ _ c.loop-index.invariant.written c.in_ok-put_block.ensures.writes
          (lines_left _ _ _ c.in-Some.is file found.in_order found.next);
      held = λ rest. c.loop-index.invariant.held
          (held_left _ _ _ c.in-Some.is file found.in_order found.next c.in_ok-put_block.ensures.held rest);
    }

pub returns-clause-writes : goal.returns-clause-writes
returns-clause-writes g c =
    let none = sym c.next_allocated.ensures.next ∙ c.in_default.is in
    partly_done _ _ _
    (rw (none_left c.loop-index.from c.args.file.now.file.allocated none) at c.loop-index.invariant.written)

pub returns-clause-held : goal.returns-clause-held
returns-clause-held g c =
    let none = sym c.next_allocated.ensures.next ∙ c.in_default.is in
    c.loop-index.invariant.held
    (rw (none_left c.loop-index.from c.args.file.now.file.allocated none) (All-nil _))
