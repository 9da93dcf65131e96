use Rattle.std.proofs.Common.{◌++◌, ◌∷◌, [], Option, ap, subst, sym, ◌∙◌}
use Rattle.std.specs.Option.{unwrap_or}
use Rattle.qplain.specs.declared.entry.Entry.{Entry}
use Rattle.qplain.specs.Journal.{counted, tally_of}
use Rattle.qplain_laws.proofs.Tallying.{tally-one_more}
use Rattle.qshare_history.proofs.Prefixes.{prefix_trans}
use Rattle.qshare.proofs.Moments.{rises_on}
use Rattle.qshare.proofs.locked_store.LockedStore.apply.Goals as goal

pub count_call-requires-clause-totals : goal.count_call-requires-clause-totals
count_call-requires-clause-totals g c =
    let e = c.next.result.now in
    let before = ap tally_of c.in_ok-ready.ensures.same.journal ∙ sym c.self.invariant.0.tally_is in
    c.tallies.ensures ∙ ap tally_of (c.commit-place.ensures.journal e c.next.ensures) ∙ tally-one_more c.ready.new.self.journal e
    ∙ (λ i. counted (before i) (sym c.change-change.ensures i))

pub invariant_of-self-2 : goal.invariant_of-self-2
invariant_of-self-2 g c =
    let e = c.next.result.now in
    let was = c.self.invariant.0 in
    let same = c.in_ok-ready.ensures.same in
    let left = c.commit-place.ensures in
    let after = left.journal e c.next.ensures in
    let journal = after ∙ ap (λ xs. xs ++ e ∷ []) same.journal in
    let given = ap (λ (o : Option Entry). (unwrap_or o e).moment) (sym c.next.ensures ∙ c.in_ok-ready.ensures.next.1.is) in
    let waited = subst (g.B.Boards.waits c.self.inside.boards c.self.inside.history.entries) (sym same.journal) c.self.invariant.1 in (
      record {
        of = record {
          setting_is = left.setting ∙ same.setting ∙ was.of.setting_is;
          begun_is = left.begun ∙ same.begun ∙ was.of.begun_is;
          played = left.played;
        };
        published_of = was.published_of;
        begins = prefix_trans _ _ _ was.begins (e ∷ [], sym journal);
        tally_is = c.count_call.ensures.total ∙ sym (count_call-requires-clause-totals g c.before) ∙ c.tallies.ensures;
        rest_is = was.rest_is;
        seats_are = was.seats_are;
        clocked_is = was.clocked_is;
        moments = λ clock. rises_on c.self.inside.store.journal _ e c.given_moment-given.result journal given (was.moments clock)
            (c.given_moment-given.ensures.latest (was.clocked_is ∙ clock));
      },
      subst (g.B.Boards.waits c.note.new.self c.self.inside.history.entries) (sym after)
          (c.in-Ok-note.ensures.ok c.self.inside.history.entries e c.next.ensures waited),
    )
