-- What a client keeps. No public clause cites this module.
use Rattle.std.specs.Prelude.{◌≡◌, ◌≤◌, ◌+◌, length, Option, Some, None, IsSome, Result}
use Rattle.std.specs.Option.{option_to_list}
use Rattle.qplain.specs.declared.call_fault.CallFault.{CallFault}
use Rattle.qplain.specs.declared.line.Line.{Line}
use Rattle.qplain.specs.declared.receipt.Receipt.{Receipt}
use Rattle.qrun_client.specs.declared.client.ClientEnd.{ClientEnd}
use Rattle.qrun_client.specs.declared.client.TheConstants.{MAX_GIVEN}
use Rattle.qrun_replay.specs.Places.{Standing}
use Rattle.qtext_client.specs.Terms.{behind}
use Rattle.qtext_client.specs.declared.terms.Allowance.{Allowance}

-- there is room for the place of the answer that a client is owed, and for no other; it has handed out no more lines
-- than it may; and one that has ended is owed no answer
pub record IsKept (owed : Option Line) (places : Standing) (end : Option ClientEnd) : Type 0 where
  pub room : places.room ≡ length (option_to_list owed)
  pub few : length places.stands + places.room ≤ MAX_GIVEN
  pub answered : IsSome end → owed ≡ None

-- what is left of a share behind the line that is owed an answer, where one is, and that answer
abbrev pub behind_owed : Option Allowance → Option Line → Result Receipt CallFault → Option Allowance
behind_owed share None answer = share
behind_owed share (Some line) answer = behind share line answer
