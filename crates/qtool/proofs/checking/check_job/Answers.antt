use Rattle.std.proofs.Common.{◌∙◌, Ok, Some, All, map, ap, subst}
use Rattle.std.specs.Prelude.{string_bytes}
use Rattle.qtool.specs.Printed.{IsSoundUnder}
use Rattle.qtool.proofs.checking.check_job.Goals as goal

pub returns-then-branch : goal.returns-then-branch
returns-then-branch g c =
    let config = c.in-Some.config in
    let found = c.or_told.ensures config (c.in_ok-config.was ∙ ap Ok c.in-Some.is) in record {
      setting = config.setup;
      config_is = rw (found, c.as_str-config.ensures.value) at c.sound_config-read.ensures.config;
      scripts_are = subst (λ f. All (IsSoundUnder f (Some config.setup)) (map (λ n. string_bytes n) c.args.job.now.scripts.items))
          c.sound_config-read.ensures.same (rw c.as_slice-names.ensures.value at (c.in_ok-are_sound_files-2.ensures c.if-branch.true));
    }
