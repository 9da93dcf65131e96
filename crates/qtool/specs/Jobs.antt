-- What the program owes a job.
use Rattle.std.specs.Prelude.{ℕ, ◌<◌, ◌≤◌}
use Rattle.qplain.specs.declared.bounds.TheConstants.{MAX_WORKERS}
use Rattle.qtext_job.specs.declared.job.Job.{Job}
use Rattle.qtext_job.specs.declared.job.Job.TheVariants.{Run, Replay, Serve, Expand, Check}

-- a run makes 1 to 64 lines under one lock
abbrev pub HasBatch : Job → Type 0
HasBatch (Run run) = (1 ≤ run.batch) × (run.batch ≤ 64)
HasBatch (Replay replay) = Unit {0}
HasBatch (Serve serve) = Unit {0}
HasBatch (Expand expand) = Unit {0}
HasBatch (Check check) = Unit {0}

-- there is a seat for each script, and one more where boards are taken
abbrev pub HasSeats : ℕ → ℕ → Type 0
HasSeats scripts boards = (scripts ≤ MAX_WORKERS) × (0 < boards → scripts < MAX_WORKERS)

-- clients are to be served
abbrev pub IsService : Job → Type 0
IsService (Run run) = ⊥
IsService (Replay replay) = ⊥
IsService (Serve serve) = Unit {0}
IsService (Expand expand) = ⊥
IsService (Check check) = ⊥
