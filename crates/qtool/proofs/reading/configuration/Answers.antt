use Rattle.std.proofs.Common.{refl}
use Rattle.qtool.proofs.Serving.{config_names}
use Rattle.qtool.proofs.reading.configuration.Goals as goal

pub returns-in-Ok-clause-config : goal.returns-in-Ok-clause-config
returns-in-Ok-clause-config g c =
    (config_names c.in-Ok.config (g.F.Files.held c.args.files.now) c.args.name.now c.in_ok-bytes.bytes.items _ _ c.in_ok-bytes.ensures.under
    refl (rw (c.in_ok-text_of.ensures, c.deref.ensures.value) at c.in-Ok.ensures.exact)
    (rw (c.in_ok-text_of.ensures, c.deref.ensures.value) at c.in-Ok.ensures.clients)).config_is

pub returns-in-Ok-clause-clients : goal.returns-in-Ok-clause-clients
returns-in-Ok-clause-clients g c =
    config_names c.in-Ok.config (g.F.Files.held c.args.files.now) c.args.name.now c.in_ok-bytes.bytes.items _ _ c.in_ok-bytes.ensures.under
    refl (rw (c.in_ok-text_of.ensures, c.deref.ensures.value) at c.in-Ok.ensures.exact)
    (rw (c.in_ok-text_of.ensures, c.deref.ensures.value) at c.in-Ok.ensures.clients)
