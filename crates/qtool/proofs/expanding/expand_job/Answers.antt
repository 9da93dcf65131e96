use Rattle.std.proofs.Common.{◌≡◌, ◌∙◌, ℕ, List, Option, Some, None, Ok, codes, refl, ap, subst}
use Rattle.std.specs.Borrow.{Bor}
use Rattle.std.specs.Option.{option_map}
use Rattle.std.specs.Prelude.{string_bytes, unwrap_or}
use Rattle.std.specs.Io.KnownBytes.{Appends}
use Rattle.qtext_expand.specs.Expansions.{expansion}
use Rattle.qtool_files.specs.Held.{IsUnder}
use Rattle.qtool.specs.Printed.{PrintsExpansion, friendly_file}
use Rattle.qtool.specs.Under.{IsConfigUnder}
use Rattle.qtool.proofs.Results.{still_ok, was_ok}
use Rattle.qtool.proofs.expanding.expand_job.Goals as goal

-- what a name that was left out stands for
named : (script : Option (Bor (List ℕ))) (standard : Bor (List ℕ))
    → (unwrap_or script standard).now ≡ unwrap_or (option_map (λ n. n.now) script) standard.now
named None standard = refl
named (Some name) standard = refl

pub returns-in-Ok-clause-printed : goal.returns-in-Ok-clause-printed
returns-in-Ok-clause-printed g c =
    let files = g.F.Files.held c.args.files.now in
    let job = c.args.job.now in
    let name = string_bytes job.config in
    let config = c.in_ok-config.config in
    let friendly = c.in_ok-friendly.friendly.items in
    let script = unwrap_or (option_map (λ s. string_bytes s) job.script) (codes "-") in
    let found = rw c.as_str.ensures.value at c.configuration.ensures.config in
    let config_is : IsConfigUnder files name config.setup =
    was_ok (λ k. IsConfigUnder files name k.setup) c.configuration.result c.map_err.result config _ _ c.in_ok-config.was
    c.map_err.ensures.cases c.map_err.ensures.variant found in
    let read : IsUnder (g.F.Files.held c.configuration.new.files) c.file_of.result.now friendly =
    was_ok (λ b. IsUnder (g.F.Files.held c.configuration.new.files) c.file_of.result.now b.items) c.load.result c.map_err-2.result
    c.in_ok-friendly.friendly _ _ c.in_ok-friendly.was c.map_err-2.ensures.cases c.map_err-2.ensures.variant c.load.ensures.under in
    let given = named c.optional.result _ ∙ ap (λ o. unwrap_or o (codes "-")) c.optional.ensures in
    let file : c.file_of.result.now ≡ friendly_file script =
    c.file_of.ensures ∙ ap friendly_file (ap (λ n. n.now) c.unwrap_or-name.ensures ∙ given) in
    let under : IsUnder files (friendly_file script) friendly =
    subst (λ n. IsUnder files n friendly) file
    (subst (λ f. IsUnder f c.file_of.result.now friendly) c.configuration.ensures.same read) in
    let says : expansion config.setup friendly ≡ Ok c.in-Ok.text.items = rw c.deref.ensures.value at c.in-Ok.ensures.exact in
    still_ok (λ _. Appends (g.O.Write.contents c.args.out.now) _ c.in-Ok.text.items) (λ _. PrintsExpansion name script files _ _)
    c.finish_text.result c.map_err-in-Ok.result _ _ c.map_err-in-Ok.ensures.cases c.map_err-in-Ok.ensures.variant
    (λ _ prints. record {
      setting = config.setup;
      text = friendly;
      plain = c.in-Ok.text.items;
      config_is = config_is;
      under = under;
      says = says;
      prints = prints;
    }) (rw c.deref-in-Ok.ensures.value at c.finish_text.ensures)
