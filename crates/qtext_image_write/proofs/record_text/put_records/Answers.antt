use Rattle.std.proofs.Common.{◌<◌, ◌^◌}
use Rattle.std.proofs.lemmas.List.Folds.{flat_map-map}
use Rattle.std.proofs.lemmas.Result.{IfOk-weaker}
use Rattle.qstore.specs.Rows.{record_row_of}
use Rattle.qtext_image_write.specs.Lines.{record_text}
use Rattle.qtext_image_write.proofs.Typing.{known_before}
use Rattle.qtext_image_write.proofs.record_text.put_records.Goals as goal

pub returns-in-Ok-clause-writes : goal.returns-in-Ok-clause-writes
returns-in-Ok-clause-writes g c =
    rw (
      c.deref.ensures.value,
      c.in-Ok.ensures.rows,
      flat_map-map record_text (record_row_of c.args.store.now.state) c.args.store.now.state.holders,
    ) at c.put_rows.ensures.writes

pub returns-in-Ok-clause-held : goal.returns-in-Ok-clause-held
returns-in-Ok-clause-held g c = IfOk-weaker c.put_rows.result _ _
    (λ _ all. known_before (record_row_of c.args.store.now.state) (λ r. r.id < 2 ^ 32) c.args.store.now.state.holders
    (rw (c.deref.ensures.value, c.in-Ok.ensures.rows) at all)) c.put_rows.ensures.held
