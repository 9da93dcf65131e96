-- Every inode stays reached from the root, whatever is called.
use Rattle.std.proofs.Common.{[], refl}
use Rattle.std.proofs.lemmas.List.Elements.{All-cons, All-nil}
use Rattle.qplain.specs.declared.bounds.TheConstants.{ROOT}
use Rattle.qplain.specs.Caller.{Caller}
use Rattle.qplain.specs.State.{State, root, start}
use Rattle.qplain.specs.Decision.{ends_after}
use Rattle.qplain.specs.Quotas.{with_limits_of}
use Rattle.qplain_laws.specs.Laws.{AllReached, AllStayReached, FitsTogether, IsReached, StartIsReached}
use Rattle.qplain_laws.proofs.Becoming.{HoldsOfResults, step-becomes}
use Rattle.qplain_laws.proofs.Leaving.{removed_reached, walks-same}
use Rattle.qplain_laws.proofs.Reaching.{changed_reached, created_reached, linked_reached}
use Rattle.qplain_laws.proofs.Moving.{renamed_reached}

results_reach : (S : State) (cred : Caller) → FitsTogether S → AllReached S → HoldsOfResults AllReached S cred
results_reach S cred fits all = record {
  created = λ inode dir name own known sound stands absent few. created_reached S inode dir name fits stands absent all;
  changed = λ number inode after there follows may. changed_reached S number inode after there follows.dir all;
  removed = λ dir name number inode led there empty may. removed_reached S dir name number inode fits led there empty all;
  linked = λ number inode dir name there file stands absent few. linked_reached S dir name number absent all;
  renamed = λ to dir name number inode to_dir to_name placed outside led there stands other empty may may_too few.
      renamed_reached S to dir name number inode to_dir to_name fits placed outside led there stands other empty all;
  limited = λ kind id limits may. walks-same S (with_limits_of S kind id limits).holders S.graces all;
  graced = λ graces may. walks-same S S.holders graces all;
}

pub all_stay_reached : AllStayReached
all_stay_reached S cred moment call lawful all =
    step-becomes AllReached S cred (results_reach S cred lawful.parts all) AllReached moment call all
    (λ new reached granted. walks-same new (ends_after new moment).holders new.graces reached)

pub start_is_reached : StartIsReached
start_is_reached s = All-cons (λ e. IsReached (start s) e.0) (ROOT, root s) [] ([], refl) (All-nil (λ e. IsReached (start s) e.0))
