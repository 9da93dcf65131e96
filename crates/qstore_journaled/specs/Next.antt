-- A call that is ready to be the next entry of a journal.
use Rattle.std.specs.Prelude.{◌≡◌, ℕ, ◌<◌, Some, length}
use Rattle.qplain.specs.declared.bounds.TheConstants.{MAX_ENTRIES}
use Rattle.qplain.specs.declared.entry.Entry.{Entry}
use Rattle.qplain.specs.declared.line.Line.{Line}
use Rattle.qplain.specs.declared.reply.Reply.{Reply}
use Rattle.qplain.specs.Journal.{entry_of, played}
use Rattle.qstore.specs.Ready.{IsReady, committed}
use Rattle.qstore_journaled.specs.Journaled.{Journaled}

-- the entry is ready, and the journal may have it; its reply is the plain machine's, and the store is as it was left
-- ready for it, and will be what that machine leaves
pub record IsNext (j : Journaled) (e : Entry) : Type 0 where
  pub is : j.next ≡ Some e
  pub few : length j.journal < MAX_ENTRIES
  pub ready : IsReady j.stored
  pub step : (committed j.stored, e.reply) ≡ played j.stored.state e

-- an entry is ready
abbrev pub HasNext : Journaled → Type 0
HasNext j = (e : Entry) × IsNext j e

-- the entry of this worker's line is ready, with the reply to it
abbrev pub HasNextOf : ℕ → Line → Journaled → Type 0
HasNextOf worker line j = (reply : Reply) × IsNext j (entry_of worker line reply)
