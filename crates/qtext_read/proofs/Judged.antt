-- Whether a word is one in the place of an argument.
use Rattle.std.proofs.Common.{◌≡◌, Bool}
use Rattle.std.specs.Prelude.{Result, Ok, Err, is_ok}
use Rattle.qtext.specs.declared.text_fault.TextKind.{TextKind}
use Rattle.qtext.specs.declared.read_fault.ReadFault.{ReadFault}
use Rattle.qtext.specs.declared.read_fault.ReadFault.TheVariants as faults
use Rattle.qtext.specs.Gives.{Gives}
use Rattle.qtext.specs.Reading.{◌>>=◌}
use Rattle.qtext_read.specs.Judged.{IsJudged}

-- what was read is a value
pub judged : {X Y : Type 0} (is : Bool) (read : Result X ReadFault) (said : Result X TextKind) (value : X → Y) → IsJudged is read
    → Gives read said → is ≡ is_ok (said >>= λ x. Ok (value x))
judged is (Ok x) said value so given = rw given so
judged is (Err (faults.Fault kind)) said value so given = rw given so
judged is (Err faults.Memory) said value so given = absurd so
