use Rattle.std.proofs.Common.{eqb, rules, tests}
use Rattle.std.proofs.lemmas.Iterator.{YieldsList-from_slice}
use Rattle.std.proofs.lemmas.Iterator.Search.{position_from_yields_List}
use Rattle.qtext.proofs.Splitting.{found_at, none_at, parts_at, parts_none}
use Rattle.qtext.proofs.word.first_part.Goals as goal

pub returns-in-Some-clause-parts : goal.returns-in-Some-clause-parts
returns-in-Some-clause-parts c =
    let found = position_from_yields_List (λ b. eqb b c.args.separator) _ _ c.position.result
    c.position.ensures.ran (YieldsList-from_slice c.args.text.now (search rules))
    (λ x b q k. search (rules, tests)) in
    let at = found_at _ _ c.in-Some.at c.position.result found c.in-Some.is in
    rw (c.split_at.ensures.front, c.split_at-in-Some.ensures.back) (parts_at c.args.separator c.args.text.now c.in-Some.at at.0 at.1)

pub returns-in-None-clause-parts : goal.returns-in-None-clause-parts
returns-in-None-clause-parts c =
    let found = position_from_yields_List (λ b. eqb b c.args.separator) _ _ c.position.result
    c.position.ensures.ran (YieldsList-from_slice c.args.text.now (search rules))
    (λ x b q k. search (rules, tests)) in
    parts_none c.args.separator c.args.text.now (none_at _ _ c.position.result found c.in-None.is)
