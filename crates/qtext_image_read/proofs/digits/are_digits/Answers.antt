use Rattle.std.proofs.Common.{◌&&◌, ◌+◌, drop, ap, arith, sym, ◌∙◌}
use Rattle.std.specs.List.{list_all}
use Rattle.qtext_image_read.specs.Digits.{is_lower_digit}
use Rattle.qtext_image_read.proofs.DigitLanes.{digits_on}
use Rattle.qtext_image_read.proofs.digits.are_digits.Goals as goal

pub returns-then-not-are_digits_at : goal.returns-then-not-are_digits_at
returns-then-not-are_digits_at c =
    let word = c.args.word.now in
    let at = c.loop-at.at in
    let other = sym c.are_digits_at.ensures ∙ c.if-not-are_digits_at.true in
    sym (sym c.loop-at.invariant.1 ∙ digits_on word at
    ∙ ap (λ b. b && list_all is_lower_digit (drop (at + 16) word)) other)

pub loop-at-preserved : goal.loop-at-preserved
loop-at-preserved c =
    let word = c.args.word.now in
    let at = c.loop-at.at in
    let all = sym c.are_digits_at.ensures ∙ c.if-not-are_digits_at.false in (
      omega arith,
      sym (digits_on word at ∙ ap (λ b. b && list_all is_lower_digit (drop (at + 16) word)) all)
          ∙ c.loop-at.invariant.1,
    )
