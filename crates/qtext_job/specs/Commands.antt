-- The command line, as `clap` sees it.
use Rattle.std.specs.Prelude.{ℕ, ◌-◌, ◌^◌, List, [], ◌∷◌, Some, true, codes}
use Rattle.clap.specs.Words.{App, Rule, new_app as app_of_name, new_rule, with_rule, with_subcommand}
use Rattle.clap.specs.declared.builder.ArgAction.TheVariants.{Set, SetTrue, Append}
use Rattle.clap.specs.declared.builder.value_parser.ValueParser.TheVariants.{Unsigned}

-- a command of this name, with nothing to it
abbrev pub new_app : List ℕ → App
new_app name = app_of_name name

-- one word
abbrev pub word : List ℕ → Rule
word id = record (new_rule id) { value_names = 1; action = Some Set }

-- any number of words
abbrev pub words : List ℕ → Rule
words id = record (new_rule id) {
  value_names = 1;
  range = Some (record { start_inclusive = 1; end_inclusive = 2 ^ 64 - 1 });
  action = Some Append;
}

-- an option of this name and id, which takes a word
abbrev pub option : List ℕ → Rule
option id = record (word id) { long = Some id }

-- a flag of this name and id
abbrev pub flag : List ℕ → Rule
flag id = record (new_rule id) { long = Some id; action = Some SetTrue }

-- `--config FILE`, or `-c`
abbrev pub config : Rule
config = record (option (codes "config")) { short = Some 99; required = true }

-- `--at MOMENT`, or `-a`, from 0 to 2^40, and 0 where it is not given
abbrev pub at : Rule
at = record (option (codes "at")) {
  short = Some 97;
  parser = Some (Unsigned 0 1099511627776);
  defaults = codes "0" ∷ [];
}

-- `--at MOMENT`, or `-a`, a word that has to be a moment, and 0 where it is not given
abbrev pub report_at : Rule
report_at = record (option (codes "at")) { short = Some 97; defaults = codes "0" ∷ [] }

-- `--format FORMAT`, a word that has to be a format, and `text` where it is not given
abbrev pub format : Rule
format = record (option (codes "format")) { defaults = codes "text" ∷ [] }

-- `--quiet`, or `-q`
abbrev pub quiet : Rule
quiet = record (flag (codes "quiet")) { short = Some 113 }

-- `--human-readable`, or `-s`
abbrev pub human_readable : Rule
human_readable = record (flag (codes "human-readable")) { short = Some 115 }

-- `--verbose`, or `-v`
abbrev pub verbose : Rule
verbose = record (flag (codes "verbose")) { short = Some 118 }

-- `--journal FILE`, or `-j`
abbrev pub journal : Rule
journal = record (option (codes "journal")) { short = Some 106 }

-- `--save FILE`
abbrev pub save : Rule
save = option (codes "save")

-- `--boards N`, from 0 to 1000, and 0 where it is not given
abbrev pub boards : Rule
boards = record (option (codes "boards")) { parser = Some (Unsigned 0 1000); defaults = codes "0" ∷ [] }

-- `--batch N`, from 1 to 64, and 1 where it is not given
abbrev pub batch : Rule
batch = record (option (codes "batch")) { parser = Some (Unsigned 1 64); defaults = codes "1" ∷ [] }

-- `--share-calls N`, from 0 to 1048576, and 0 where it is not given
abbrev pub share_calls : Rule
share_calls = record (option (codes "share-calls")) { parser = Some (Unsigned 0 1048576); defaults = codes "0" ∷ [] }

-- `--share-kib N`, from 0 to 1048576, and 0 where it is not given
abbrev pub share_kib : Rule
share_kib = record (option (codes "share-kib")) { parser = Some (Unsigned 0 1048576); defaults = codes "0" ∷ [] }

-- `--share-depth N`, from 1 to 2048, and 64 where it is not given
abbrev pub share_depth : Rule
share_depth = record (option (codes "share-depth")) { parser = Some (Unsigned 1 2048); defaults = codes "64" ∷ [] }

-- `--share-rate N`, from 1 to 1048576, and 4000 where it is not given
abbrev pub share_rate : Rule
share_rate = record (option (codes "share-rate")) { parser = Some (Unsigned 1 1048576); defaults = codes "4000" ∷ [] }

-- one or more scripts
abbrev pub scripts : Rule
scripts = record (words (codes "scripts")) { required = true }

-- the journal that is played
abbrev pub played : Rule
played = record (word (codes "journal")) { required = true }

-- a command of this name that has a configuration
abbrev pub configured : List ℕ → App
configured name = with_rule (new_app name) config

-- a command that may save its store
abbrev pub with_saving : App → App
with_saving a = with_rule a save

-- a command with the options of how its store is shared
abbrev pub with_sharing : App → App
with_sharing a = with_rule (with_rule a boards) batch

-- a command with the options of what a report shows
abbrev pub with_rows : App → App
with_rows a = with_rule (with_rule (with_rule a (flag (codes "heads"))) human_readable) (flag (codes "over"))

-- a command with the options of what is shown
abbrev pub with_view : App → App
with_view a = with_rule (with_rule (with_rule (with_rows (with_rule a quiet)) (flag (codes "calls")))
    (flag (codes "strict"))) verbose

-- a command of this name that makes a report, of a configuration, as of this moment and in this format
abbrev pub reporting : List ℕ → App
reporting name = with_view (with_rule (with_rule (configured name) report_at) format)

-- `run`
abbrev pub run : App
run = with_rule (with_sharing (with_saving (with_rule (reporting (codes "run")) journal))) scripts

-- a command with the files that are written of what was served
abbrev pub with_files : App → App
with_files a = with_rule (with_saving (with_rule a journal)) (option (codes "board"))

-- a command with the moments of a service, and what it does at its end
abbrev pub with_end : App → App
with_end a = with_files (with_rule (with_rule (with_rule a at) (flag (codes "clock"))) (flag (codes "stop-at-failure")))

-- a command with the options of what a bound client may take
abbrev pub with_shares : App → App
with_shares a = with_rule (with_rule (with_rule (with_rule a share_calls) share_kib) share_depth) share_rate

-- `serve`, of any number of clients, each a word that has to be a pair
abbrev pub serve : App
serve = with_rule (with_shares (with_end (configured (codes "serve")))) (words (codes "clients"))

-- `replay`
abbrev pub replay : App
replay = with_rule (with_saving (reporting (codes "replay"))) played

-- `expand`, of the friendly script that is written out; standard input where none is named
abbrev pub expand : App
expand = with_rule (configured (codes "expand")) (word (codes "script"))

-- `check`, of any number of scripts that are looked at
abbrev pub check : App
check = with_rule (configured (codes "check")) (words (codes "scripts"))

-- a command that does nothing of its own
abbrev pub with_need : App → App
with_need a = record a { top = record a.top { subcommand_required = true } }

-- a command that has a version to tell, at `--version` and `-V`
abbrev pub with_version : App → App
with_version a = record a { top = record a.top { has_version = true } }

-- the command line, but for what it may be asked to do
abbrev pub bare : App
bare = with_need (with_version (new_app (codes "quotafs")))

-- the commands that play calls on a store
abbrev pub with_stores : App → App
with_stores a = with_subcommand (with_subcommand (with_subcommand a run.top) serve.top) replay.top

-- the command line
abbrev pub quotafs : App
quotafs = with_subcommand (with_subcommand (with_stores bare) expand.top) check.top
