-- Transcripts and outcomes as text (profile).
use Rattle.std.specs.Prelude.{ℕ, List, [], ◌∷◌, ◌++◌, codes, decimal}
use Rattle.std.specs.List.{concat, flat_map}
use Rattle.qrules.specs.Sort.{Inodes, Blocks}
use Rattle.qplain.specs.Use.{total_of}
use Rattle.qaudit.specs.Audits.{audit_text}
use Rattle.qaudit.specs.Reports.{report_text}
use Rattle.qplain.specs.declared.tallies.Tallies.{Tallies}
use Rattle.qplain.specs.declared.transcript.Transcript.{Transcript}
use Rattle.qrun_replay.specs.declared.outcome.Outcome.{Outcome}
use Rattle.qtext_write.specs.Answers.{answer_text}
use Rattle.qtext_outcome.specs.Boards.{boards_text}

-- the line over a transcript
abbrev pub worker_text : ℕ → List ℕ
worker_text worker = concat (codes "worker " ∷ decimal worker ∷ codes "\n" ∷ [])

-- a worker's number, and the lines of its transcript
abbrev pub transcript_text : Transcript → List ℕ
transcript_text t = worker_text t.worker ++ flat_map answer_text t.answers

-- the totals, each beside its bound
abbrev pub totals_text : Outcome → List ℕ
totals_text o = concat (codes "totals blocks " ∷ decimal (total_of o.store.state Blocks) ∷ codes " of "
    ∷ decimal o.setup.blocks
    ∷ codes " inodes " ∷ decimal (total_of o.store.state Inodes) ∷ codes " of " ∷ decimal o.setup.inodes
    ∷ codes "\n" ∷ [])

-- the line over a report
abbrev pub moment_text : ℕ → List ℕ
moment_text moment = concat (codes "quota at " ∷ decimal moment ∷ codes "\n" ∷ [])

-- what the workers were answered, and then what the looks at the boards were given
abbrev pub told_text : Outcome → List ℕ
told_text o = flat_map transcript_text o.transcripts ++ boards_text o.boards

-- the tallies: by how much the totals rose and fell over the whole journal, and how many calls it has
abbrev pub tally_text : Tallies → List ℕ
tally_text t = concat (codes "tally blocks +" ∷ decimal t.blocks_charged ∷ codes " -" ∷ decimal t.blocks_released
    ∷ codes " inodes +" ∷ decimal t.inodes_charged ∷ codes " -" ∷ decimal t.inodes_released
    ∷ codes " calls " ∷ decimal t.calls ∷ codes "\n" ∷ [])

-- what stands below a report: the totals, the tallies of the journal, and what an audit of the store found
abbrev pub rest_text : Outcome → List ℕ
rest_text o = totals_text o ++ tally_text o.tallies ++ audit_text o.differences

-- what is left at the end: the quota report as of a moment, and that
abbrev pub outcome_end : Outcome → ℕ → List ℕ
outcome_end o moment = moment_text moment ++ report_text o.records moment ++ rest_text o

-- the outcome of a run: what was told while it ran, and what is left
abbrev pub outcome_text : Outcome → ℕ → List ℕ
outcome_text o moment = told_text o ++ outcome_end o moment
