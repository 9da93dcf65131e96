-- A list of one transcript.
use Rattle.std.proofs.Common.{◌≡◌, List, [], ◌∷◌, ◌==◌, subst, sym}
use Rattle.std.specs.List.{IsDistinct}
use Rattle.qplain.specs.declared.transcript.Transcript.{Transcript}

-- no two of one transcript have the same worker
pub one_apart : (ts : List Transcript) (t : Transcript) → ts ≡ t ∷ []
    → IsDistinct (λ one other. one.worker == other.worker) ts
unfolding IsDistinct
one_apart ts t is = subst (IsDistinct (λ one other. one.worker == other.worker)) (sym is) (tt, tt)
