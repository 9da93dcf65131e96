use Rattle.std.proofs.Common.{ap, append-nil, sym, ◌∙◌, []}
use Rattle.qplain.specs.Journal.{tally_of}
use Rattle.qshare.proofs.Moments.{none_falls}
use Rattle.qshare.proofs.locked_store.LockedStore+S+NoBoards.new.Goals as goal

pub invariant_of-result : goal.invariant_of-result
invariant_of-result g c =
    let empty = c.requires.store.1 in
    let unpublished = ap (λ r. r.entries) c.requires.history in (
      record {
        of = c.requires.store.0;
        published_of = ap (λ r. r.history) c.requires.history;
        begins = ([], append-nil _ ∙ unpublished ∙ sym empty);
        tally_is = c.requires.tally.0 ∙ ap tally_of (sym empty);
        rest_is = c.requires.tally.1;
        seats_are = c.requires.seats;
        clocked_is = c.requires.clocked;
        moments = λ clocked. none_falls _ empty;
      },
      tt,
    )
