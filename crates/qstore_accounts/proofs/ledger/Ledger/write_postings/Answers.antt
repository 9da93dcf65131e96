use Rattle.std.proofs.Common.{◌<◌, length, Option, IfSome, option_map, sym, ap, subst, ◌∙◌}
use Rattle.qstore_accounts.specs.declared.claim.OwnerClaim.{OwnerClaim}
use Rattle.qstore_accounts.proofs.Shares.{apart-below, share-below}
use Rattle.qstore_accounts.proofs.ledger.Ledger.write_postings.Goals as goal

pub write_posting-requires-clause-slot : goal.write_posting-requires-clause-slot
write_posting-requires-clause-slot c =
    let x = c.args in
    let r = c.requires in
    subst (λ (o : Option OwnerClaim). IfSome o (λ s. s.slot < length x.self.now)) (sym c.apart-lost.ensures)
    (apart-below x.self.now x.from x.to (share-below x.self.now r.0 x.from r.3 r.5.lost))

pub write_posting-requires-2-clause-slot : goal.write_posting-requires-2-clause-slot
write_posting-requires-2-clause-slot c =
    let r = c.requires in share-below c.args.self.now r.0 c.args.to r.4 r.5.gained

pub returns : goal.returns
returns c kind S S1 f t r = record {
  from_there = c.write_posting.ensures.slot ∙ ap (option_map (λ s. s.slot)) c.apart-lost.ensures;
  to_there = c.write_posting-2.ensures.slot;
  from_final = c.write_posting.ensures.posting kind S S1 f t r;
  to_final = c.write_posting-2.ensures.posting kind S S1 f t r;
}
