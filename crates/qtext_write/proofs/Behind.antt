-- Parts of a line that are put after others.
use Rattle.std.proofs.Common.{ℕ, List, ◌++◌, Option, Result, sym, append_assoc}
use Rattle.std.specs.Prelude.{IsErr}
use Rattle.qtext.specs.Written.{AppendsFront, Partly, Passes, Writes}
use Rattle.qtext.proofs.Fronts.{partly_on, passes_front, refused_first}

-- a part was put after the line, and more will be
pub behind : (a b : Option (List ℕ)) (line part more rest : List ℕ) → Partly a b (line ++ part) rest
    → Partly a b (line ++ (part ++ more)) (rest ++ more)
behind a b line part more rest p = rw (sym (append_assoc line part more)) (partly_on a b (line ++ part) rest more p)

-- a refusal in a part ends what was to come after it, too
pub refused : {T E : Type 0} (a b : Option (List ℕ)) (r : Result T E) (line part more left : List ℕ)
    → IsErr r → AppendsFront a b (line ++ part) → Passes a b r (line ++ (part ++ more)) left
refused a b r line part more left h f = passes_front a b r (line ++ (part ++ more)) (line ++ part) more left h f (sym (append_assoc line part more))

-- a refusal in a part ends the text
pub refused_whole : {T E : Type 0} (a b : Option (List ℕ)) (r : Result T E) (line part more : List ℕ)
    → IsErr r → AppendsFront a b (line ++ part) → Writes a b r (line ++ (part ++ more))
refused_whole a b r line part more h f = rw (sym (append_assoc line part more)) (refused_first a b r (line ++ part) more h f)
