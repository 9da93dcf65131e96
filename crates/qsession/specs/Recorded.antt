-- A journal of one session, and when the call that is ready may be recorded in it.
use Rattle.std.specs.Prelude.{◌≡◌, All}
use Rattle.qplain.specs.declared.edition.Edition.TheVariants.{Two}
use Rattle.qplain.specs.declared.entry.Entry.{Entry}
use Rattle.qstore_journaled.specs.Journaled.{IsPlayed, Journaled}
use Rattle.qstore_journaled.specs.Next.{IsNext}
use Rattle.qsession.specs.declared.recorder.TheConstants.{WORKER}

-- the setup is of edition 2, and every entry is the session's one worker's
pub record IsOfSession (j : Journaled) : Type 0 where
  pub newest : j.setting.edition ≡ Two
  pub own : All (λ e. e.worker ≡ WORKER) j.journal

-- the store is what its journal leaves, and the entry that is ready is the session's
pub record CanRecord (j : Journaled) : Type 0 where
  pub played : IsPlayed j
  pub entry : Entry
  pub next : IsNext j entry
  pub own : entry.worker ≡ WORKER
