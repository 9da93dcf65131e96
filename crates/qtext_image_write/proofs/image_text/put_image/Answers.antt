use Rattle.std.proofs.lemmas.Result.{IfOk-weaker}
use Rattle.qtext.proofs.Fronts.{front_of_first, refused_first, refused_last, writes_then}
use Rattle.qtext_image_write.proofs.Joined.{image_parts}
use Rattle.qtext_image_write.proofs.Typing.{state_typed}
use Rattle.qtext_image_write.proofs.image_text.put_image.Goals as goal

pub returns-in_err-put_head-clause-writes : goal.returns-in_err-put_head-clause-writes
returns-in_err-put_head-clause-writes g c = rw (image_parts c.args.edition c.args.place c.args.store.now.state)
    (refused_first _ _ _ _ _ c.from_residual.ensures.0 c.in_err-put_head.ensures)

pub returns-in_err-put_settings-clause-writes : goal.returns-in_err-put_settings-clause-writes
returns-in_err-put_settings-clause-writes g c = rw (image_parts c.args.edition c.args.place c.args.store.now.state)
    (refused_last _ _ _ _ _ _ c.from_residual-in_err-put_settings.ensures.0 c.in_ok-put_head.ensures
    (front_of_first _ _ _ _ c.in_err-put_settings.ensures.writes))

pub returns-clause-writes : goal.returns-clause-writes
returns-clause-writes g c = rw (image_parts c.args.edition c.args.place c.args.store.now.state)
    (writes_then _ _ _ _ _ _ c.in_ok-put_head.ensures
    (writes_then _ _ _ _ _ _ c.in_ok-put_settings.ensures.writes c.put_tree.ensures.writes))

pub returns-clause-again : goal.returns-clause-again
returns-clause-again g c = IfOk-weaker c.put_tree.result _ _
    (λ _ blocks.
    state_typed c.args.store.now.state c.always_lawful.ensures.lawful c.in_ok-put_settings.ensures.held blocks)
    c.put_tree.ensures.held
