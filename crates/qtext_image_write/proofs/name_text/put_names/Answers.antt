use Rattle.std.proofs.Common.{sym}
use Rattle.std.proofs.lemmas.List.Folds.{flat_map-map}
use Rattle.qstore_tree.specs.Listed.{name_entry}
use Rattle.qtext_image_write.specs.Lines.{name_text}
use Rattle.qtext_image_write.proofs.name_text.put_names.Goals as goal

pub returns-in-Ok : goal.returns-in-Ok
returns-in-Ok g c =
    rw (c.deref.ensures.value, sym (flat_map-map name_text name_entry c.in-Ok.names.items), c.in-Ok.ensures.names)
    at c.put_rows.ensures
