use Rattle.qsession.proofs.Committing.{made_journaled, made_plain}
use Rattle.qsession.proofs.kept.Kept.commit.Goals as goal

pub returns-in-Plain : goal.returns-in-Plain
returns-in-Plain c = made_plain c.args.self.now c.in-Plain.store c.commit.new.self c.in-Plain.is c.commit.ensures

pub returns-in-Journaled : goal.returns-in-Journaled
returns-in-Journaled c =
    let done = c.commit-in-Journaled in
    made_journaled c.args.self.now c.in-Journaled.store done.new.self c.in-Journaled.is c.requires done.ensures.setting done.ensures.begun done.ensures.journal
    done.ensures.played
