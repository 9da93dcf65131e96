use Rattle.std.proofs.Common.{◌≡◌, IfOk, subst}
use Rattle.qstore_open.specs.Ending.{end_line}
use Rattle.qstore_open.specs.Kept.{state_in}
use Rattle.qstore_open.specs.Told.{Told}
use Rattle.qstore_open.proofs.Ended.{ended-in, opened-in}
use Rattle.qstore_open.proofs.opening.Opening.wrong_line.Goals as goal

pub end_line-requires-clause-size : goal.end_line-requires-clause-size
end_line-requires-clause-size c = (ended-in c.self.inside c.self.invariant c.args.self.now c.self.view_is c.requires.0 c.requires.1 c.requires.2
    c.requires.3).size

pub end_line-requires-clause-most : goal.end_line-requires-clause-most
end_line-requires-clause-most c = (ended-in c.self.inside c.self.invariant c.args.self.now c.self.view_is c.requires.0 c.requires.1 c.requires.2
    c.requires.3).most

pub end_line-requires-clause-blocks : goal.end_line-requires-clause-blocks
end_line-requires-clause-blocks c = (ended-in c.self.inside c.self.invariant c.args.self.now c.self.view_is c.requires.0 c.requires.1 c.requires.2
    c.requires.3).blocks

pub returns : goal.returns
returns c =
    subst (λ (t : Told). IfOk c.end_line.result (λ line. line ≡ end_line t.state t.records)) c.self.view_is
    (c.end_line.ensures (state_in c.self.inside)
    (opened-in c.self.inside c.self.invariant c.args.self.now c.self.view_is c.requires.0 c.requires.1 c.requires.2 c.requires.3))
