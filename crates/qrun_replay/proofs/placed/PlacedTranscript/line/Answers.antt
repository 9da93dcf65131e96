use Rattle.std.proofs.Common.{get_or, Ok, Err, ap, sym, ◌∙◌}
use Rattle.qrun_replay.specs.KeptPlaces.{stand_seen}
use Rattle.qrun_replay.proofs.Placing.{holds_there, line_of_place, line_there, low_line}
use Rattle.qrun_replay.proofs.placed.PlacedTranscript.line.Goals as goal

pub entry-requires : goal.entry-requires
entry-requires c =
    let low = low_line c.self.inside.journal.entries c.self.inside.answered c.args.self.now c.args.index c.self.view_is c.requires in
    holds_there c.self.inside.journal.entries c.self.inside.answered.places.stands c.args.index (Ok c.in-Journaled.place) low
    c.self.invariant (ap stand_seen (sym c.in-Journaled.is) ∙ c.get.ensures (Ok c.in-Journaled.place))

pub returns-in-Journaled : goal.returns-in-Journaled
returns-in-Journaled c default =
    let low = low_line c.self.inside.journal.entries c.self.inside.answered c.args.self.now c.args.index c.self.view_is c.requires in
    let journal = c.self.inside.journal.entries in
    let place = c.in-Journaled.place in
    let e = c.entry.result.now in
    let stand = ap stand_seen (sym c.in-Journaled.is) ∙ c.get.ensures (Ok place) in
    let there = holds_there journal c.self.inside.answered.places.stands c.args.index (Ok place) low c.self.invariant stand in
    c.of_entry.ensures
    ∙ sym (line_of_place journal place e e there (c.entry.ensures e))
    ∙ sym (line_there journal c.self.inside.answered.places.stands c.args.index (Ok place) default low stand)
    ∙ ap (λ t. get_or t.lines c.args.index default) c.self.view_is

pub returns-in-Failed : goal.returns-in-Failed
returns-in-Failed c default =
    let low = low_line c.self.inside.journal.entries c.self.inside.answered c.args.self.now c.args.index c.self.view_is c.requires in
    let stand = ap stand_seen (sym c.in-Failed.is) ∙ c.get.ensures (Err c.in-Failed.failed.now) in
    c.of_line.ensures
    ∙ sym (line_there c.self.inside.journal.entries c.self.inside.answered.places.stands c.args.index (Err c.in-Failed.failed.now) default
    low stand)
    ∙ ap (λ t. get_or t.lines c.args.index default) c.self.view_is
