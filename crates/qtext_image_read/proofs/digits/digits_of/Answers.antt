use Rattle.std.proofs.Common.{◌≡◌, true, false, ap, sym, ◌∙◌}
use Rattle.std.specs.Prelude.{codes}
use Rattle.std.specs.Str.{bytes_eq}
use Rattle.qtext_image_read.proofs.DigitsFound.{dash_read, none_decoded, others_refused, pairs_decoded, pairs_read}
use Rattle.qtext_image_read.proofs.digits.digits_of.Goals as goal

pub returns-then-eq-clause-gives : goal.returns-then-eq-clause-gives
returns-then-eq-clause-gives c =
    let dash : bytes_eq c.args.word.now (codes "-") ≡ true =
    ap (λ other. bytes_eq c.args.word.now other) (sym c.as_slice.ensures) ∙ sym c.eq.ensures ∙ c.if-eq.true in
    dash_read c.args.word.now dash

pub returns-then-eq-clause-digits : goal.returns-then-eq-clause-digits
returns-then-eq-clause-digits c = none_decoded

pub returns-then-are_pairs-clause-gives : goal.returns-then-are_pairs-clause-gives
returns-then-are_pairs-clause-gives c =
    let other : bytes_eq c.args.word.now (codes "-") ≡ false =
    ap (λ other. bytes_eq c.args.word.now other) (sym c.as_slice.ensures) ∙ sym c.eq.ensures ∙ c.if-eq.false in
    pairs_read c.args.word.now other (sym c.are_pairs.ensures ∙ c.if-are_pairs.true)

pub returns-then-are_pairs-clause-digits : goal.returns-then-are_pairs-clause-digits
returns-then-are_pairs-clause-digits c =
    pairs_decoded c.args.word.now (sym c.are_pairs.ensures ∙ c.if-are_pairs.true)

pub returns-clause-gives : goal.returns-clause-gives
returns-clause-gives c =
    let other : bytes_eq c.args.word.now (codes "-") ≡ false =
    ap (λ other. bytes_eq c.args.word.now other) (sym c.as_slice.ensures) ∙ sym c.eq.ensures ∙ c.if-eq.false in
    others_refused c.args.word.now other (sym c.are_pairs.ensures ∙ c.if-are_pairs.false)
