-- What stands under the names that a job has, in files that tell what they hold; in others, as the machine's, the same
-- is said of some texts.
use Rattle.std.specs.Prelude.{◌≡◌, ℕ, List, Ok, length}
use Rattle.std.specs.List.{AllZip}
use Rattle.qplain.specs.Journals.{Written}
use Rattle.qplain.specs.Setups.{IsSetupOf, Setting, in_edition}
use Rattle.qplain.specs.declared.line.Line.{Line}
use Rattle.qplain.specs.State.{start}
use Rattle.qtext_config.specs.ConfigClients.{NamedClient}
use Rattle.qtext_config.specs.Configs.{clients_in, setting_in}
use Rattle.qtext_files.specs.Journals.{journal_of}
use Rattle.qtext_files.specs.Scripts.{script_of}
use Rattle.qrun_replay.specs.Replays.{IsReplayOf}
use Rattle.qrun_replay.specs.Runs.{IsOutcomeOf, IsServiceOf}
use Rattle.qrun_replay.specs.declared.outcome.Outcome.{Outcome}
use Rattle.qtool_files.specs.Held.{Held, IsUnder}

-- under the name stands a configuration of this setting
pub record IsConfigUnder (files : Held) (name : List ℕ) (setting : Setting) : Type 0 where
  pub text : List ℕ
  pub given : Setting
  pub under : IsUnder files name text
  pub says : setting_in text ≡ Ok given
  pub is : IsSetupOf given setting

-- under the name stands a configuration of this setting, which names these clients
pub record IsConfigNaming (files : Held) (name : List ℕ) (setting : Setting) (clients : List NamedClient) : Type 0 where
  pub config_is : IsConfigUnder files name setting
  pub names : clients_in config_is.text ≡ Ok clients

-- under the name stands a script of these lines
pub record IsScriptUnder (files : Held) (name : List ℕ) (lines : List Line) : Type 0 where
  pub text : List ℕ
  pub under : IsUnder files name text
  pub says : script_of text ≡ Ok lines

-- under each name stands its script
abbrev pub AreScriptsUnder : Held → List (List ℕ) → List (List Line) → Type 0
AreScriptsUnder files names scripts = AllZip (IsScriptUnder files) names scripts

-- under the name stands a text that says this journal
pub record IsJournalUnder (files : Held) (name : List ℕ) (journal : Written) : Type 0 where
  pub text : List ℕ
  pub under : IsUnder files name text
  pub says : journal_of text ≡ Ok journal

-- the outcome is one of a run of the scripts under these names, under the configuration of this name, beside which so
-- many looks were taken at the boards
pub record IsRunUnder (files : Held) (config : List ℕ) (names : List (List ℕ)) (boards : ℕ) (outcome : Outcome)
    : Type 0 where
  pub setting : Setting
  pub scripts : List (List Line)
  pub config_is : IsConfigUnder files config setting
  pub scripts_are : AreScriptsUnder files names scripts
  pub is : IsOutcomeOf setting (start setting) scripts outcome
  pub looks : length outcome.boards ≡ boards

-- the outcome is the replay of the journal under this name, under the configuration of this name
pub record IsReplayUnder (files : Held) (config journal : List ℕ) (outcome : Outcome) : Type 0 where
  pub setting : Setting
  pub config_is : IsConfigUnder files config setting
  pub journal_is : IsJournalUnder files journal outcome.journal
  pub is : IsReplayOf (in_edition outcome.journal.edition setting) (start (in_edition outcome.journal.edition setting))
      outcome.journal outcome

-- the outcome is what a service left under the configuration of this name, which names these clients
pub record IsServiceUnder (files : Held) (config : List ℕ) (clients : List NamedClient) (outcome : Outcome)
    : Type 0 where
  pub setting : Setting
  pub config_is : IsConfigNaming files config setting clients
  pub is : IsServiceOf setting (start setting) outcome
