-- What was printed of a run, of a replay, or of a service, from what was read and what was told.
use Rattle.std.proofs.Common.{◌≡◌, ◌≤◌, ℕ, List, Option, None, Result, Ok, Err, IfOk, arith, length, subst, sym}
use Rattle.std.specs.Prelude.{IsOkAnd, string_bytes}
use Rattle.std.specs.Io.KnownBytes.{Appends}
use Rattle.qplain.specs.declared.edition.Edition.{Edition}
use Rattle.qplain.specs.declared.edition.Edition.TheVariants.{One, Two}
use Rattle.qplain.specs.Editions.{max_entries_of}
use Rattle.qplain.specs.Setups.{Setting, in_edition}
use Rattle.qplain.specs.State.{start}
use Rattle.qplain_laws.specs.Beginnings.{IsStateOf}
use Rattle.qrun_replay.specs.Runs.{IsServiceOf}
use Rattle.qrun_replay.specs.declared.outcome.Outcome.{Outcome}
use Rattle.qrun.specs.Serving.{KeepsTime}
use Rattle.qtext.specs.declared.telling.Telling.{Telling}
use Rattle.qtext_config.specs.ConfigClients.{NamedClient}
use Rattle.qtext_job.specs.declared.job.ServeJob.{ServeJob}
use Rattle.qtext_image.proofs.ImagesAgain.{images_are_read_again}
use Rattle.qtext_image.specs.Images.{MAX_PLACE, image_of}
use Rattle.qtext_image.specs.Spelling.{image_text}
use Rattle.qtool_files.specs.Held.{Held}
use Rattle.qtool_files.specs.Saved.{IsReadable, IsSaved}
use Rattle.qtext_outcome.specs.Outcomes.{outcome_end}
use Rattle.qtool.specs.Apart.{AreApart}
use Rattle.qtool.specs.Printed.{IsKept, IsTold, PrintsReplay, PrintsRun, PrintsService, Scene, told_at}
use Rattle.qtool.specs.Served.{clients_of_job, is_taken}
use Rattle.qtool.specs.Terms.{AreKept, terms_told}
use Rattle.qtool.specs.Under.{IsConfigNaming, IsReplayUnder, IsRunUnder}
use Rattle.qtool.specs.declared.ending.Ending.{Ending}

-- what was saved of an outcome that a store of the setup left is read again
kept_of : (setting : Setting) (o : Outcome) (files kept : Held) (journal image : Option (List ℕ)) → o.setup ≡ setting
    → IsStateOf setting o.store.state → length o.journal.entries ≤ MAX_PLACE → IsSaved files kept journal image o
    → IsReadable journal image o → AreApart journal image → IsKept files kept journal image o
kept_of setting o files kept journal image setup stands few saved readable apart = record {
  apart = apart;
  saved = saved;
  journal_again = readable.journal_is;
  image_again = λ some. subst (λ (s : Setting). image_of (image_text s.edition (length o.journal.entries) o.store.state)
      ≡ Ok (record { edition = s.edition; place = length o.journal.entries; state = o.store.state })) (sym setup)
      (images_are_read_again setting (length o.journal.entries) o.store.state stands (readable.image_is some) few);
}

few_places : (edition : Edition) (entries : ℕ) → entries ≤ max_entries_of edition → entries ≤ MAX_PLACE
few_places One entries few = omega (arith, few)
few_places Two entries few = omega (arith, few)

-- an outcome of the run was told, and what files are named for was saved
pub prints_run : (config : List ℕ) (scripts : List (List ℕ)) (boards : ℕ) (telling : Telling) (journal image : Option (List ℕ)) (outcome : Outcome)
    (status : ℕ) (files left kept : Held) (old new : Option (List ℕ)) → IsRunUnder files config scripts boards outcome → left ≡ files
    → IsTold telling outcome status old new → IsSaved left kept journal image outcome → IsReadable journal image outcome
    → AreApart journal image → PrintsRun config scripts boards telling journal image status files kept old new
prints_run config scripts boards telling journal image outcome status files left kept old new is same told saved readable apart = record {
  outcome = outcome;
  is = is;
  told = told;
  kept_is = kept_of is.setting outcome files kept journal image is.is.left.setup is.is.left.stands
      (few_places Two (length outcome.journal.entries) is.is.left.few)
      (subst (λ f. IsSaved f kept journal image outcome) same saved) readable apart;
}

-- that of the replay was told, and its image saved where a file is named for it
pub prints_replay : (config journal : List ℕ) (telling : Telling) (image : Option (List ℕ)) (outcome : Outcome) (status : ℕ)
    (files left kept : Held) (old new : Option (List ℕ)) → IsReplayUnder files config journal outcome → left ≡ files
    → IsTold telling outcome status old new → IsSaved left kept None image outcome → IsReadable None image outcome
    → PrintsReplay config journal telling image status files kept old new
prints_replay config journal telling image outcome status files left kept old new is same told saved readable =
    let setting = in_edition outcome.journal.edition is.setting in
    record {
      outcome = outcome;
      is = is;
      told = told;
      kept_is = kept_of setting outcome files kept None image is.is.setup is.is.stands
          (few_places setting.edition (length outcome.journal.entries) is.is.few)
          (subst (λ f. IsSaved f kept None image outcome) same saved) readable tt;
    }

-- what a service left was told, and its clients kept to their terms
pub prints_service : {T : Type 0} (job : ServeJob) (setup : Result Setting Ending) (configured : List NamedClient) (outcome : Outcome)
    (result : Result T Ending) (old new : Scene) → IfOk setup (λ s. IsConfigNaming old.files (string_bytes job.config) s configured)
    → IsOkAnd setup (λ s. IsServiceOf s (start s) outcome) → KeepsTime job.clock outcome
    → AreKept (terms_told job.shares (clients_of_job job configured)) outcome.journal.entries
    → Appends (told_at (is_taken (clients_of_job job configured)) old) (told_at (is_taken (clients_of_job job configured)) new)
    (outcome_end outcome job.at) → IfOk result (λ _. PrintsService job old new)
prints_service job (Ok s) configured outcome (Ok x) old new named is moments kept prints = record {
  configured = configured;
  outcome = outcome;
  is = record { setting = s; config_is = named; is = is };
  moments = moments;
  kept = kept;
  prints = prints;
}
prints_service job (Ok s) configured outcome (Err ending) old new named is moments kept prints = tt
prints_service job (Err e) configured outcome result old new named is moments kept prints = absurd is
