use Rattle.std.proofs.Common.{◌≡◌, ◌∙◌, [], ◌∷◌, ap, sym, subst, length, map, length-append, arith}
use Rattle.std.specs.List.{AllZip}
use Rattle.std.specs.Prelude.{string_bytes}
use Rattle.std.proofs.lemmas.List.{take_all}
use Rattle.qtool_files.specs.Held.{IsUnder}
use Rattle.qtool.specs.Under.{AreScriptsUnder}
use Rattle.qtool.proofs.Results.{still_ok}
use Rattle.qtool.proofs.Under.{scripts_under, texts_more}
use Rattle.qtool.proofs.reading.read_scripts.Goals.{then-len-names, else-len-names}
use Rattle.qtool.proofs.reading.read_scripts.Goals as goal

pub loop-name-preserved : goal.loop-name-preserved
loop-name-preserved g c =
    let files = g.F.Files.held c.args.files.now in
    let name = c.name-item.result in
    let before = c.loop-name.readers.items in
    let reader = c.if-len-names.reader in
    let pushed = c.in-Ok-push.ensures.items in
    let read : reader ≡ c.in-Ok.text.items =
    elim c.if-len-names.branch [
      | then-len-names w ↦ w.reader-is ∙ w.beside-reader.ensures
      | else-len-names w ↦ w.reader-is ∙ w.here-reader.ensures
    ] in
    let named : IsUnder (g.F.Files.held c.loop-name.files) (string_bytes name) c.in-Ok.text.items = rw c.as_str.ensures.value at c.in-Ok.ensures.under in
    let under : IsUnder files (string_bytes name) reader =
    subst (λ t. IsUnder files (string_bytes name) t) (sym read)
    (subst (λ f. IsUnder f (string_bytes name) c.in-Ok.text.items) c.loop-name.invariant.1 named) in (
      omega (arith, ap length pushed, length-append before (reader ∷ []), c.loop-name.invariant.0),
      c.load.ensures.same ∙ c.loop-name.invariant.1,
      rw pushed (texts_more files (λ n. string_bytes n) c.args.names.now c.loop-name.name-index name before reader c.loop-name-test.true
          c.name-item.is c.loop-name.invariant.2 under),
    )

pub returns-clause-scripts : goal.returns-clause-scripts
returns-clause-scripts g c =
    let files = g.F.Files.held c.args.files.now in
    let names = map (λ n. string_bytes n) c.args.names.now in
    let texts : AllZip (IsUnder files) names c.loop-name.readers.items = rw (take_all _ _ c.loop-name-test.false) at c.loop-name.invariant.2 in
    still_ok _ (λ scripts. AreScriptsUnder files names scripts.items) c.finish_all-2.result c.map_err-2.result _ _
    c.map_err-2.ensures.cases c.map_err-2.ensures.variant
    (λ scripts same. scripts_under files names c.loop-name.readers.items scripts.items texts same) c.finish_all-2.ensures.ok
