use Rattle.std.proofs.Common.{rules, subst, sym}
use Rattle.qrun_client.specs.declared.client.ClientEnd.TheVariants.{Input, Output, Served}
use Rattle.qtext_client.specs.Wires.{HasEndedBy, HearsSome}
use Rattle.qtext_client.proofs.connection.Connection.next_line.Goals as goal

pub returns-in_default-clause-hears : goal.returns-in_default-clause-hears
returns-in_default-clause-hears g c =
    let ended : HasEndedBy Input c.args.self.now c.end_of_lines.new.self = search rules in
    subst (HearsSome _ _ _) (sym c.end_of_lines.ensures.got) (Input, ended)

pub returns-in-Ok-End-clause-hears : goal.returns-in-Ok-End-clause-hears
returns-in-Ok-End-clause-hears g c =
    let ended : HasEndedBy Served c.args.self.now c.end_of_lines-in-Ok-End.new.self = search rules in
    subst (HearsSome _ _ _) (sym c.end_of_lines-in-Ok-End.ensures.got) (Served, ended)

pub returns-in-Ok-Refused-clause-hears : goal.returns-in-Ok-Refused-clause-hears
returns-in-Ok-Refused-clause-hears g c =
    let ended : HasEndedBy Input c.args.self.now c.end_of_lines-in-Ok-Refused.new.self = search rules in
    subst (HearsSome _ _ _) (sym c.end_of_lines-in-Ok-Refused.ensures.got) (Input, ended)

pub returns-in-Err-clause-hears : goal.returns-in-Err-clause-hears
returns-in-Err-clause-hears g c =
    let ended : HasEndedBy Output c.args.self.now c.end_of_lines-in-Err.new.self = search rules in
    subst (HearsSome _ _ _) (sym c.end_of_lines-in-Err.ensures.got) (Output, ended)
