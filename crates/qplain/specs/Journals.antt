-- What always holds of a journal: its workers, and the entries that each of them may have.
use Rattle.std.specs.Prelude.{◌≡◌, ℕ, ◌<◌, ◌≤◌, true, List, length, All}
use Rattle.qplain.specs.declared.bounds.TheConstants.{MAX_WORKERS}
use Rattle.qplain.specs.declared.edition.Edition.{Edition}
use Rattle.qplain.specs.declared.entry.Entry.{Entry}
use Rattle.qplain.specs.Editions.{max_entries_of}
use Rattle.qplain.specs.Held.{HasLawfulStat}
use Rattle.qplain.specs.Projects.{is_of_edition}

-- the edition, how many workers there were, and their entries in the order of the journal
pub record Written : Type 0 where
  pub edition : Edition
  pub workers : ℕ
  pub entries : List Entry

-- as many workers as there may be
abbrev pub IsWorkers : ℕ → Type 0
IsWorkers workers = (0 < workers) × (workers ≤ MAX_WORKERS)

-- an entry of one of N workers, which is of the edition and whose reply tells of no directory with bytes or blocks
abbrev pub IsEntryOf : Edition → ℕ → Entry → Type 0
IsEntryOf edition workers e =
    (0 < e.worker) × (e.worker ≤ workers) × HasLawfulStat e.reply × (is_of_edition edition e ≡ true)

-- such entries, no more than a journal of its edition may have, of 1 to 16 workers
pub record IsJournal (j : Written) : Type 0 where
  pub workers : IsWorkers j.workers
  pub few : length j.entries ≤ max_entries_of j.edition
  pub each : All (IsEntryOf j.edition j.workers) j.entries
