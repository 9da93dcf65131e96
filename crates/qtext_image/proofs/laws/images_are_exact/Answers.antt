use Rattle.qtext_image.proofs.TextsFound.{images_are_exact}
use Rattle.qtext_image.proofs.laws.images_are_exact.Goals as goal

pub returns : goal.returns
returns c = images_are_exact
