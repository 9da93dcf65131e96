use Rattle.std.proofs.Common.{◌≡◌, ◌∷◌, [], ◌+◌, length, arith, ◌∙◌, ap, sym, refl}
use Rattle.qtext.specs.Words.{words}
use Rattle.qtext_check.specs.Places.{start_of}
use Rattle.qtext_check.proofs.Placed.{start_behind}
use Rattle.qtext_check.proofs.place.+start_of.Goals as goal

pub returns-in_default-None-clause-start : goal.returns-in_default-None-clause-start
returns-in_default-None-clause-start t c = λ fits.
    let whole = c.first_part.ensures.whole (rw c.in_default-None.is-1 refl) in
    let cut : words c.args.bytes.now ≡ c.first_part.result.0.now ∷ [] = rw c.in_default-None.is-1 at c.first_part.ensures.parts in
    let exact : c.saturating_add-in_default-None.result ≡ length c.args.bytes.now + 1 =
    grind (arith, c.saturating_add-in_default-None.ensures, fits) in
    exact ∙ sym (ap (start_of c.args.number) cut ∙ start_behind c.args.number c.first_part.result.0.now (search) ∙ ap (λ l. length l + 1) whole)
