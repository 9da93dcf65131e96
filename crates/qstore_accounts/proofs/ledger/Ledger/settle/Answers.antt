use Rattle.std.proofs.Common.{map, sym, ap, ◌∙◌}
use Rattle.qstore_accounts.specs.Bills.{post}
use Rattle.qstore_accounts.proofs.ById.{posted-both}
use Rattle.qstore_accounts.proofs.ledger.Ledger.settle.Goals as goal

pub returns : goal.returns
returns c =
    let x = c.args in
    c.post-2.ensures ∙ ap (map (post x.times.graces x.times.moment x.postings.now.to)) c.post.ensures
    ∙ sym (posted-both x.times.graces x.times.moment x.postings.now x.self.now)
