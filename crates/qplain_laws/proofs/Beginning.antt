-- Every step of a state that a store can be in leaves such a state.
use Rattle.std.proofs.Common.{[], ◌∷◌, refl, ◌∙◌}
use Rattle.std.proofs.lemmas.List.Elements.{All-nil}
use Rattle.qplain.specs.Journal.{played}
use Rattle.qplain.specs.Step.{step}
use Rattle.qplain_laws.specs.Laws.{KeepsSetup}
use Rattle.qplain_laws.specs.Beginnings.{JournalsStayStates, StartIsStateOf, StepsStayStates}
use Rattle.qplain_laws.specs.PathNames.{IsPathName}
use Rattle.qplain_laws.proofs.Kept.{setups_stay}
use Rattle.qplain_laws.proofs.Lawful.{steps_stay_lawful}
use Rattle.qplain_laws.proofs.PathNaming.{names_stay_names}
use Rattle.qplain_laws.proofs.Ranging.{settings_stay_in_range, start_is_in_range}
use Rattle.qplain_laws.proofs.Reached.{all_stay_reached, start_is_reached}
use Rattle.qplain_laws.proofs.Sizing.{files_stay_right_sized, start_is_right_sized}
use Rattle.qplain_laws.proofs.Start.{start_is_lawful}

pub start_is_state_of : StartIsStateOf
start_is_state_of setting setup = record {
  setup = setup;
  keeps = record { size = refl; most_inodes = refl; file_limit = refl; holders = refl };
  lawful = start_is_lawful setting setup;
  ranges = start_is_in_range setting setup;
  sized = start_is_right_sized setting;
  reached = start_is_reached setting;
  named = All-nil (λ e. IsPathName e.0.1);
}

pub steps_stay_states : StepsStayStates
steps_stay_states setting S cred moment call asked is =
    let kept : KeepsSetup S (step S cred moment call).0 = setups_stay S cred moment call in
    record {
      setup = is.setup;
      keeps = record {
        size = kept.size ∙ is.keeps.size;
        most_inodes = kept.most_inodes ∙ is.keeps.most_inodes;
        file_limit = kept.file_limit ∙ is.keeps.file_limit;
        holders = kept.holders ∙ is.keeps.holders;
      };
      lawful = steps_stay_lawful S cred moment call is.lawful;
      ranges = settings_stay_in_range S cred moment call is.ranges;
      sized = files_stay_right_sized S cred moment call is.sized;
      reached = all_stay_reached S cred moment call is.lawful is.reached;
      named = names_stay_names S cred moment call is.lawful asked is.named;
    }

pub journals_stay_states : JournalsStayStates
journals_stay_states setting S [] asked is = is
journals_stay_states setting S (e ∷ rest) asked is =
    journals_stay_states setting (played S e).0 rest asked.1 (steps_stay_states setting S e.cred e.moment e.call asked.0 is)
