use Rattle.std.proofs.Common.{[], ◌∷◌, ◌++◌, ap, subst, sym, ◌∙◌}
use Rattle.qrun_client.specs.Clients.{IsAnswered, IsTold, place_of}
use Rattle.qrun_replay.specs.Places.{stand_at}
use Rattle.qtext_client.specs.Conversations.{comes_to}
use Rattle.qtext_client.proofs.Said.{answered_stand}
use Rattle.qtext_client.proofs.Talked.{answered_one, in_own_form}
use Rattle.qtext_client.proofs.stream_client.StreamClientClient.tell.Goals as goal

pub returns-clause-told : goal.returns-clause-told
returns-clause-told g c = λ asked line answer owed so is.
    let took = g.S.Streams.took in
    let clocked = g.M.Moments.clocked in
    let p = c.args.self.now in
    let mid = c.keep_place.new.self in
    let q = c.tell_of.new.self in
    let kept = c.keep_place.ensures in
    let told = c.tell_of.ensures in
    let given = subst (IsAnswered clocked asked line) (sym (is ∙ in_own_form answer)) so in
    let place = stand_at asked (place_of c.args.answer) in
    let after = kept.kept asked owed in
    subst (λ a. IsTold line a p.stands q.stands (comes_to clocked took p) (comes_to clocked took q)) (is ∙ in_own_form answer) (record {
      stands = ap (λ x. x.stands) told.stays ∙ ap (λ x. x.stands) after
          ∙ ap (λ s. p.stands ++ s ∷ []) (answered_stand _ asked line c.args.answer given);
      goes_on = answered_one clocked took p q mid asked line c.args.answer place owed given kept.open after told.stays told.wire;
    })
