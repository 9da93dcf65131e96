use Rattle.std.proofs.Common.{◌≡◌, None}
use Rattle.qrun_client.specs.Clients.{ComesOf}
use Rattle.qtext_client.specs.Conversations.{comes_to}
use Rattle.qtext_client.proofs.stream_client.StreamClientClient.next.Given as goal

-- of lines that are none nothing is kept, and what comes of the client is what came of it before
abbrev pub invariant-loop : goal.invariant-loop
invariant-loop g l = record {
  owed : l.self.owed ≡ None;
  stands : l.self.stands ≡ l.fn.self.stands;
  talk : ComesOf (comes_to g.M.Moments.clocked g.S.Streams.took l.fn.self)
      (comes_to g.M.Moments.clocked g.S.Streams.took l.self);
}
