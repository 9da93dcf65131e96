use Rattle.std.proofs.Common.{rules, ◌≡◌, ℕ, List, Option, Some, sym, ap, ◌∙◌}
use Rattle.qplain.specs.Attempt.{at_inode, at_reached}
use Rattle.qplain.specs.Renames.{rename_as, rename_from, rename_to}
use Rattle.qplain.specs.State.{named}
use Rattle.qplain.specs.Walk.{led_to}
use Rattle.qstore_walk.proofs.renames.find_renaming.Goals as goal

pub returns-clause-found : goal.returns-clause-found
returns-clause-found c = λ S is cred inode there.
    let x = c.args in
    let last = c.in_ok-last.last in
    let number = c.in-Some.number in
    let new = c.in_ok-to.to in
    let leads_to = c.in_ok-last.ensures.leads_to S is in
    let led : named S last.dir last.name.now ≡ Some number = search (rules, leads_to) in
    c.in_ok-last.ensures.found S is (rename_from S cred x.to.now)
    ∙ ap (λ (o : Option ℕ). at_reached S (rename_to S cred x.to.now last.dir last.name.now) (led_to o)) led
    ∙ ap (at_inode (rename_to S cred x.to.now last.dir last.name.now) number) there
    ∙ c.in_ok-to.ensures.found S is (rename_as S cred x.to.now last.dir last.name.now number inode)
    ∙ ap (λ (n : List ℕ). rename_as S cred x.to.now last.dir n number inode new.dir new.name.now) (sym c.in_ok-last.ensures.name)
