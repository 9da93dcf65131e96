use Rattle.std.proofs.Common.{◌≡◌, ◌∙◌, true, subst}
use Rattle.std.specs.Option.{option_map}
use Rattle.std.specs.Prelude.{string_bytes}
use Rattle.std.proofs.lemmas.List.{take_all}
use Rattle.qtool.specs.Printed.{IsSoundUnder}
use Rattle.qtool.proofs.Under.{both, sound_more}
use Rattle.qtool.proofs.checking.are_sound_files.Goals as goal

pub loop-name-preserved : goal.loop-name-preserved
loop-name-preserved g c =
    let files = g.F.Files.held c.args.files.now in
    let setting = option_map (λ s. s.now) c.args.setup in
    let name = c.name-item.result in
    let next : c.in_ok-next.next ≡ true → IsSoundUnder files setting (string_bytes name) =
    λ sound. subst (λ f. IsSoundUnder f setting (string_bytes name)) c.loop-name.invariant.0
    (rw c.as_str.ensures.value at (c.in_ok-next.ensures.sound sound)) in (
      c.is_sound_file.ensures.same ∙ c.loop-name.invariant.0,
      λ all.
          let sound = both c.loop-name.sound c.in_ok-next.next all in
          sound_more files setting (λ n. string_bytes n) c.args.names.now c.loop-name.name-index name c.loop-name-test.true c.name-item.is
          (c.loop-name.invariant.1 sound.0) (next sound.1),
    )

pub returns : goal.returns
returns g c = λ sound. rw (take_all _ _ c.loop-name-test.false) at (c.loop-name.invariant.1 sound)
