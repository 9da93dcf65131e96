-- What is answered for a journal's text that is read and played again.
use Rattle.std.proofs.Common.{◌≡◌, ◌⊎◌, ℕ, List, Ok, Err, inl, inr, sym, ap, ◌∙◌}
use Rattle.qplain.specs.Journals.{Written}
use Rattle.qplain.specs.Setups.{Setting, in_edition}
use Rattle.qplain.specs.State.{start}
use Rattle.qrun_replay.specs.declared.replay_fault.ReplayFault.{ReplayFault}
use Rattle.qrun_replay.specs.declared.replay_fault.ReplayFault.TheVariants.{Memory as WantsMemory, Mismatch as TellsMismatch}
use Rattle.qrun_replay.specs.Replays.{IsFirstMismatch}
use Rattle.qtext.specs.TextFaults.{want_of_memory}
use Rattle.qtext_files.specs.Journals.{journal_of}
use Rattle.qtext_files.specs.Spelling.{CanBeRead, journal_spelling}
use Rattle.qtool_runs.specs.declared.text_replay.TextReplayFault.TheVariants.{Mismatch}
use Rattle.qtool_runs.specs.TextReplays.{IsMismatchIn, replay_fault_of}

-- a mismatch that is reported is the replay's
pub mismatch_told : (fault : ReplayFault) (place : ℕ) → replay_fault_of fault ≡ Mismatch place → fault ≡ TellsMismatch place
mismatch_told WantsMemory place e = absurd (cc e)
mismatch_told (TellsMismatch other) place e = cc e

-- what was read is what the text says
pub read_says : (text : List ℕ) (j : Written) → (Ok j ≡ journal_of text) ⊎ (Ok j ≡ Err want_of_memory) → journal_of text ≡ Ok j
read_says text j (inl e) = sym e
read_says text j (inr e) = absurd (cc e)

-- the first mismatch of the journal that was read is that of the text
pub mismatch_in : (setting : Setting) (text : List ℕ) (j : Written) (place : ℕ)
    → (Ok j ≡ journal_of text) ⊎ (Ok j ≡ Err want_of_memory) → IsFirstMismatch (start (in_edition j.edition setting)) j.entries place
    → IsMismatchIn setting text place
mismatch_in setting text j place read first = record { journal = j; says = read_says text j read; first = first }

-- what was read of a journal's own spelling is that journal
pub same_journal : (text : List ℕ) (j k : Written) → (Ok j ≡ journal_of text) ⊎ (Ok j ≡ Err want_of_memory) → CanBeRead k
    → text ≡ journal_spelling k → j ≡ k
same_journal text j k read can spelled =
    let both : Ok j ≡ Ok k = sym (read_says text j read) ∙ ap journal_of spelled ∙ can in
    cc both
