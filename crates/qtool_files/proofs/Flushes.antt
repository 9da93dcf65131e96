-- A text that was written whole to a writer which then refuses to be flushed.
use Rattle.std.proofs.Common.{ℕ, List, [], Option, sym}
use Rattle.std.specs.Io.KnownBytes.{Appends, Keeps}
use Rattle.std.proofs.lemmas.List.{append-nil}
use Rattle.qtext.specs.Written.{AppendsFront}
use Rattle.qtext.proofs.Fronts.{keeps_appends}

pub refused_at_the_flush : (a b c : Option (List ℕ)) (text : List ℕ) → Appends a b text → Keeps b c → AppendsFront a c text
refused_at_the_flush a b c text p q =
    record { front = text; rest = []; parts = sym (append-nil text); appends = keeps_appends a b c text p q }
