use Rattle.std.proofs.Common.{◌≡◌, ◌∷◌, ◌<◌, ℕ, true, take, sym, ◌∙◌, tests, arith}
use Rattle.std.specs.List.{slice_split}
use Rattle.std.proofs.lemmas.List.Quantifiers.{position-Some}
use Rattle.std.proofs.lemmas.Str.{IsCharBoundary-after_ascii, IsCharBoundary-before_ascii}
use Rattle.qplain.specs.Walk.{is_slash}
use Rattle.qstore_walk.proofs.Paths.{slice_split-no_position, slice_split-position}
use Rattle.qstore_walk.proofs.path.cut.Goals as goal

low : (byte : ℕ) → is_slash byte ≡ true → byte < 128
low byte is = grind (arith, tests, is)

pub range-requires-clause-end_boundary : goal.range-requires-clause-end_boundary
range-requires-clause-end_boundary c =
    let text = c.args.text.now in
    let at = position-Some is_slash text c.in-Some.slash 0 (sym c.slash_in.ensures ∙ c.in-Some.is) in
    IsCharBoundary-before_ascii text c.in-Some.slash at.0 (low _ at.1)

pub range_from-requires : goal.range_from-requires
range_from-requires c =
    let text = c.args.text.now in
    let at = position-Some is_slash text c.in-Some.slash 0 (sym c.slash_in.ensures ∙ c.in-Some.is) in
    λ _. IsCharBoundary-after_ascii text c.in-Some.slash c.utf8.text at.0 (low _ at.1)

pub returns-in-Some-clause-parts : goal.returns-in-Some-clause-parts
returns-in-Some-clause-parts c =
    let text = c.args.text.now in
    let slash = c.in-Some.slash in
    let before : take slash text ≡ c.range.result.now = grind (arith, c.range.ensures.value) in
    slice_split-position is_slash text slash (sym c.slash_in.ensures ∙ c.in-Some.is)
    ∙ (λ i. before i ∷ slice_split is_slash (sym c.range_from.ensures.value i))

pub returns-in-None-clause-parts : goal.returns-in-None-clause-parts
returns-in-None-clause-parts c = slice_split-no_position is_slash c.args.text.now (sym c.slash_in.ensures ∙ c.in-None.is)
