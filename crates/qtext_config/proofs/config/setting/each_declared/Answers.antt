use Rattle.std.proofs.Common.{◌≡◌, [], ◌∷◌, arith}
use Rattle.std.specs.Vec.Iter.{into_iter_items}
use Rattle.std.proofs.lemmas.Grind.{common_steps}
use Rattle.std.proofs.lemmas.Result.{err_from_is_err_and}
use Rattle.qtext_config.specs.Configs.{declared_of}
use Rattle.qtext.proofs.Loops.{goes_on, is_done}
use Rattle.qtext_config.proofs.ConfigLaws.{fails}
use Rattle.qtext_config.proofs.config.setting.each_declared.Goals as goal

pub returns-in_err-declared_of : goal.returns-in_err-declared_of
returns-in_err-declared_of c =
    let cut : into_iter_items c.loop-written.written-iterator ≡ c.in-Some.written ∷ into_iter_items c.next.new.self = grind (arith, common_steps) in
    let p = err_from_is_err_and c.from_residual.result c.from_residual.ensures.1 in
    rw (p.1, p.2) (fails declared_of c.loop-written.declared.items _ _ _ _ _ c.in_err-declared_of.ensures cut c.loop-written.invariant)

pub loop-written-preserved : goal.loop-written-preserved
loop-written-preserved c =
    let cut : into_iter_items c.loop-written.written-iterator ≡ c.in-Some.written ∷ into_iter_items c.next.new.self = grind (arith, common_steps) in
    rw c.in_ok-push.ensures.items (goes_on declared_of c.loop-written.declared.items _ _ _ _ _ c.in_ok-declared_of.ensures cut c.loop-written.invariant)

pub returns : goal.returns
returns c =
    let none : into_iter_items c.loop-written.written-iterator ≡ [] = grind (arith, common_steps) in
    is_done declared_of c.loop-written.declared.items _ _ none c.loop-written.invariant
