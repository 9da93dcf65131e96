use Rattle.std.proofs.Common.{rules, ◌≡◌, false}
use Rattle.qplain.specs.Walk.{is_too_long}
use Rattle.qstore_walk.proofs.Lengths.{short-fits}
use Rattle.qstore_walk.proofs.path.fault_of.Goals as goal

pub returns-then-is_well_formed : goal.returns-then-is_well_formed
returns-then-is_well_formed c =
    let fits : is_too_long c.args.path.now ≡ false = short-fits c.args.path.now c.if-path-gt-MAX_NAME.false in
    search (rules, fits)
