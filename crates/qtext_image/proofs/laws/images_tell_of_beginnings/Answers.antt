use Rattle.qtext_image.proofs.TextsFound.{images_tell_of_beginnings, images_tell_of_other_beginnings}
use Rattle.qtext_image.proofs.laws.images_tell_of_beginnings.Goals as goal

pub returns : goal.returns
returns c = record { own = images_tell_of_beginnings; others = images_tell_of_other_beginnings }
