use Rattle.std.proofs.Common.{◌||◌, ◌+◌, drop, ap, arith, sym, ◌∙◌}
use Rattle.std.specs.Char.{is_ascii_uppercase}
use Rattle.std.specs.List.{list_any}
use Rattle.qtext_read.proofs.UpperLanes.{upper_on}
use Rattle.qtext_read.proofs.upper_case.has_upper_case.Goals as goal

pub returns-then-has_upper_at : goal.returns-then-has_upper_at
returns-then-has_upper_at c =
    let digits = c.args.digits.now in
    let at = c.loop-at.at in
    let found = sym c.has_upper_at.ensures ∙ c.if-has_upper_at.true in
    sym (sym c.loop-at.invariant.1 ∙ upper_on digits at ∙ ap (λ b. b || list_any is_ascii_uppercase (drop (at + 16) digits)) found)

pub loop-at-preserved : goal.loop-at-preserved
loop-at-preserved c =
    let digits = c.args.digits.now in
    let at = c.loop-at.at in
    let none = sym c.has_upper_at.ensures ∙ c.if-has_upper_at.false in (
      omega arith,
      sym (upper_on digits at ∙ ap (λ b. b || list_any is_ascii_uppercase (drop (at + 16) digits)) none) ∙ c.loop-at.invariant.1,
    )

pub returns : goal.returns
returns c =
    c.has_upper_in.ensures ∙ ap (list_any is_ascii_uppercase) c.split_at.ensures.back ∙ c.loop-at.invariant.1
