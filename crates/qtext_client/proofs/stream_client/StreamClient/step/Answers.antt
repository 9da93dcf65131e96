use Rattle.std.proofs.Common.{Some, inr, refl, ◌∙◌}
use Rattle.qtext_client.specs.declared.response.Response.TheVariants.{NoMemory}
use Rattle.qtext_client.specs.Terms.{behind_all}
use Rattle.qtext_client.proofs.Talked.{begun, handed_one, told_one}
use Rattle.qtext_client.proofs.stream_client.StreamClient.step.Goals as goal

pub returns-in-Ok-clause-talk : goal.returns-in-Ok-clause-talk
unfolding behind_all
returns-in-Ok-clause-talk g c =
    let heard = c.in-Line.ensures in
    let (text, hears, says, some) = heard.heard in
    handed_one g.M.Moments.clocked g.S.Streams.took c.args.self.now c.keep.new.self c.hear.new.self.wire text c.in-Line.line c.requires.answered
    (c.in-Ok.ensures.ok ∙ (λ i. record (heard.stays i) { owed = Some c.in-Line.line })) hears says some

pub returns-in-Err-clause-talk : goal.returns-in-Err-clause-talk
returns-in-Err-clause-talk g c =
    let heard = c.in-Line.ensures in
    let (text, hears, says, some) = heard.heard in
    told_one g.M.Moments.clocked g.S.Streams.took c.args.self.now c.tell_of.new.self c.keep.new.self c.hear.new.self.wire text NoMemory c.requires.answered
    (c.in-Err.ensures.err ∙ heard.stays) c.tell_of.ensures.stays hears c.tell_of.ensures.wire (record { is = tt; nothing = refl; none = refl })

pub returns-in-None-clause-talk : goal.returns-in-None-clause-talk
returns-in-None-clause-talk g c =
    let heard = c.in-None.ensures in
    let (text, hears, alone) = heard.heard in
    let tells = c.tell_of-in-None.ensures in
    told_one g.M.Moments.clocked g.S.Streams.took c.args.self.now c.tell_of-in-None.new.self c.hear.new.self c.hear.new.self.wire text c.in-None.response
    c.requires.answered heard.stays tells.stays hears tells.wire alone

pub returns-in-End-clause-talk : goal.returns-in-End-clause-talk
returns-in-End-clause-talk g c =
    begun g.M.Moments.clocked g.S.Streams.took c.args.self.now c.hear.new.self c.hear.new.self.wire c.requires.answered
    c.in-End.ensures.stays (inr c.in-End.ensures.heard)
