use Rattle.std.proofs.Common.{refl}
use Rattle.qtext_config.specs.ConfigShares.{share_at}
use Rattle.qtext_config.proofs.config.share.share_at.Goals as goal

pub returns : goal.returns
unfolding share_at
returns c = rw (c.in_ok-calls.ensures, c.in_ok-kib.ensures, c.in_ok-depth.ensures, c.in_ok-rate.ensures) refl
