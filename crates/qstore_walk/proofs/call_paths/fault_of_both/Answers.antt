use Rattle.std.proofs.Common.{rules, ◌≡◌, Some, ◌∙◌}
use Rattle.qplain.specs.declared.refusal.Refusal.TheVariants.{EINVAL}
use Rattle.qstore_walk.proofs.Paths.{faults-bad, faults-first, faults-second}
use Rattle.qstore_walk.specs.Paths.{path_fault}
use Rattle.qstore_walk.proofs.call_paths.fault_of_both.Goals as goal

pub returns-then-eq : goal.returns-then-eq
returns-then-eq c =
    let bad : path_fault c.args.from.now ≡ Some EINVAL = search rules in
    c.fault_of-first.ensures ∙ faults-bad c.args.from.now c.args.to.now bad

pub returns-in-None : goal.returns-in-None
returns-in-None c =
    c.fault_of-first.ensures ∙ faults-first c.args.from.now c.args.to.now (search rules)

pub returns-in-Some : goal.returns-in-Some
returns-in-Some c =
    faults-second c.args.from.now c.args.to.now c.in-Some.second (λ bad. search (rules, bad)) (search rules)
