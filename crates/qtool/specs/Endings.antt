-- With which statuses the program ends, and what each leaves of its output.
use Rattle.std.specs.Prelude.{◌≡◌, ◌⊎◌, ℕ, List, Option, ⊤}
use Rattle.qtext_job.specs.Jobs.{IsAskedBy}
use Rattle.qtext_job.specs.declared.job.Job.{Job}
use Rattle.qtool.specs.Jobs.{IsService}
use Rattle.qtool.specs.declared.ending.Ending.{Ending}
use Rattle.qtool.specs.declared.ending.Ending.TheVariants.{Output, Unwritten}

-- done, or help was asked for; done, but not all lines were; asked wrongly; the machine; the output; a line failed at
-- which the service was to stop
abbrev pub IsStatus : ℕ → Type 0
IsStatus status = (status ≡ 0) ⊎ (status ≡ 1) ⊎ (status ≡ 2) ⊎ (status ≡ 3) ⊎ (status ≡ 4) ⊎ (status ≡ 5)

-- the work was not done: asked wrongly; the machine; the output; or only in part: a line failed
abbrev pub IsFaultStatus : ℕ → Type 0
IsFaultStatus status = (status ≡ 2) ⊎ (status ≡ 3) ⊎ (status ≡ 4) ⊎ (status ≡ 5)

-- the output has refused, or, after it, the file for the journal or for the image
abbrev pub IsRefusal : Ending → Type 0
IsRefusal Output = ⊤
IsRefusal (Unwritten name) = ⊤
IsRefusal ending = ⊥

-- a job that has come to nothing leaves the output as it was, unless what was written was refused
abbrev pub IsLeftUnlessRefused : Option (List ℕ) → Option (List ℕ) → Ending → Type 0
IsLeftUnlessRefused old new ending = IsRefusal ending ⊎ (new ≡ old)

-- asked wrongly, or the machine: the output is as it was
abbrev pub IsUntouchedAt : ℕ → Option (List ℕ) → Option (List ℕ) → Type 0
IsUntouchedAt status old new = (status ≡ 2) ⊎ (status ≡ 3) → new ≡ old

-- the words ask for a service
abbrev pub AskForService : List (List ℕ) → Type 0
AskForService words = (job : Job) × IsAskedBy words job × IsService job

-- the output is as it was at such a status, unless the words ask for a service
abbrev pub IsUntouchedBy : List (List ℕ) → ℕ → Option (List ℕ) → Option (List ℕ) → Type 0
IsUntouchedBy words status old new = IsUntouchedAt status old new ⊎ AskForService words
