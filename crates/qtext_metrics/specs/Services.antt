-- What a service has counted as text for a monitor, in the text format of Prometheus: counters, and a gauge at the end.
use Rattle.std.specs.Prelude.{ℕ, ◌+◌, List, [], ◌∷◌, ◌++◌, Option, Some, None, codes, decimal, slice_index}
use Rattle.std.specs.List.{concat, flat_map}
use Rattle.qrules.specs.declared.kind.Kind.{Kind}
use Rattle.qrules.specs.declared.over.Over.{Over}
use Rattle.qplain.specs.declared.call_fault.CallFault.{CallFault}
use Rattle.qplain.specs.declared.call_fault.CallFault.TheVariants.{JournalFull, OutOfMemory}
use Rattle.qplain.specs.declared.refusal.Refusal.{Refusal}
use Rattle.qplain.specs.declared.refusal.Refusal.TheVariants.{EDQUOT}
use Rattle.qtext.specs.RuleWords.{kind_text, over_text}
use Rattle.qtext_read.specs.Replies.{refusal_name}
use Rattle.qtext_metrics.specs.declared.counter.Counter.{Counter}
use Rattle.qtext_metrics.specs.declared.counter.Counter.TheVariants as counter
use Rattle.qtext_metrics.specs.declared.mishap.LineFault.{LineFault}
use Rattle.qtext_metrics.specs.declared.mishap.LineFault.TheVariants.{Text, Length, OtherCaller, Depth, Share}
use Rattle.qtext_metrics.specs.declared.mishap.Mishap.{Mishap}
use Rattle.qtext_metrics.specs.declared.mishap.Mishap.TheVariants.{Refused, Failed, Faulty}
use Rattle.qtext_metrics.specs.declared.service_counts.ServiceCounts.{ServiceCounts}
use Rattle.qtext_metrics.specs.Mishaps.{failures, faults, place_of, refusals}

-- the name of a counter's samples
abbrev pub counter_name : Counter → List ℕ
counter_name counter.Refused = codes "quotafs_refused_total"
counter_name counter.Failed = codes "quotafs_failed_lines_total"
counter_name counter.Faulty = codes "quotafs_faulty_lines_total"
counter_name counter.Calls = codes "quotafs_client_calls_total"

-- what a counter's samples are, in a sentence
abbrev pub counter_help : Counter → List ℕ
counter_help counter.Refused = codes "Calls that were refused, by error, and for a quota by kind and limit."
counter_help counter.Failed = codes "Lines that have failed, which are in no journal."
counter_help counter.Faulty = codes "What was no line, or none that its client may write."
counter_help counter.Calls = codes "Calls that each client has made."

-- the two lines over a counter's samples: what they are, and that it is one
abbrev pub counter_head : Counter → List ℕ
counter_head k = concat (codes "# HELP " ∷ counter_name k ∷ codes " " ∷ counter_help k
    ∷ codes "\n# TYPE " ∷ counter_name k ∷ codes " counter\n" ∷ [])

-- a sample with one label
abbrev pub sample : Counter → List ℕ → List ℕ → ℕ → List ℕ
sample k label word n = concat (counter_name k ∷ codes "{" ∷ label ∷ codes "=\"" ∷ word ∷ codes "\"} " ∷ decimal n
    ∷ codes "\n" ∷ [])

-- the sample of refusals for a quota: whose it is, and which of its limits
abbrev pub quota_sample : Kind → Over → ℕ → List ℕ
quota_sample kind over n = concat (counter_name counter.Refused ∷ codes "{error=\"EDQUOT\",kind=\"" ∷ kind_text kind
    ∷ codes "\",limit=\"" ∷ over_text over ∷ codes "\"} " ∷ decimal n ∷ codes "\n" ∷ [])

-- the sample of a refusal
abbrev pub refusal_sample : Refusal → ℕ → List ℕ
refusal_sample (EDQUOT kind over) n = quota_sample kind over n
refusal_sample refusal n = sample counter.Refused (codes "error") (refusal_name refusal) n

-- what a line has failed for
abbrev pub failure_word : CallFault → List ℕ
failure_word JournalFull = codes "JournalFull"
failure_word OutOfMemory = codes "OutOfMemory"

-- what is wrong with a line
abbrev pub fault_word : LineFault → List ℕ
fault_word Text = codes "text"
fault_word Length = codes "line length"
fault_word OtherCaller = codes "caller"
fault_word Depth = codes "path depth"
fault_word Share = codes "share"

-- the sample of a mishap that was met so often
abbrev pub mishap_sample : Mishap → ℕ → List ℕ
mishap_sample (Refused refusal) n = refusal_sample refusal n
mishap_sample (Failed fault) n = sample counter.Failed (codes "error") (failure_word fault) n
mishap_sample (Faulty fault) n = sample counter.Faulty (codes "fault") (fault_word fault) n

-- how often a mishap was met
abbrev pub count_of : ServiceCounts → Mishap → ℕ
count_of c m = slice_index c.mishaps (place_of m)

-- the sample of a mishap, also where it was never met
abbrev pub mishap_row : ServiceCounts → Mishap → List ℕ
mishap_row c m = mishap_sample m (count_of c m)

-- a counter of mishaps: its head, and a sample of each
abbrev pub mishaps_text : ServiceCounts → Counter → List Mishap → List ℕ
mishaps_text c k ms = counter_head k ++ flat_map (mishap_row c) ms

-- the sample of the client of this number, where there is one
abbrev pub client_row : ℕ → Option ℕ → List ℕ
client_row number None = []
client_row number (Some calls) = sample counter.Calls (codes "client") (decimal number) calls

-- the samples of the clients, which are numbered on from this one
abbrev pub client_rows : ℕ → List (Option ℕ) → List ℕ
client_rows number [] = []
client_rows number (calls ∷ more) = client_row number calls ++ client_rows (number + 1) more

-- a counter of the calls of each client: its head, and the samples from client 1 on
abbrev pub calls_text : List (Option ℕ) → List ℕ
calls_text calls = counter_head counter.Calls ++ client_rows 1 calls

-- a gauge: when the last call was made
abbrev pub last_call_text : ℕ → List ℕ
last_call_text moment = concat
    (codes "# HELP quotafs_last_call_timestamp_seconds When the last call was made, since 1970; 0 before the first.\n"
    ∷ codes "# TYPE quotafs_last_call_timestamp_seconds gauge\nquotafs_last_call_timestamp_seconds " ∷ decimal moment
    ∷ codes "\n" ∷ [])

-- all mishaps, counter by counter
abbrev pub all_mishaps_text : ServiceCounts → List ℕ
all_mishaps_text c = mishaps_text c counter.Refused refusals ++ mishaps_text c counter.Failed failures
    ++ mishaps_text c counter.Faulty faults

-- all that a service has counted
abbrev pub service_text : ServiceCounts → List ℕ
service_text c = all_mishaps_text c ++ calls_text c.calls ++ last_call_text c.last_call
